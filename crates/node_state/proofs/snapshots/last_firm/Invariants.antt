use Rattle.std.specs.Option.{option_copied}
use Rattle.node_state.proofs.Newest.{Newer}
use Rattle.node_state.proofs.snapshots.last_firm.Given as goal

-- the last firm one of those left, else the one found, is the last firm one of all
abbrev pub invariant-loop-own : goal.invariant-loop-own
invariant-loop-own l = Newer l.firm l.taken l.own-index (option_copied l.found)
