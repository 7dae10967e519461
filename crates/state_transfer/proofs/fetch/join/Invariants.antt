use Rattle.std.proofs.Common.{◌≡◌}
use Rattle.state_transfer.specs.Fetches.{joined}
use Rattle.state_transfer.proofs.fetch.join.Given as goal

-- the parts so far are joined
abbrev pub invariant-loop-index : goal.invariant-loop-index
invariant-loop-index l = l.out.items ≡ joined l.parts l.index
