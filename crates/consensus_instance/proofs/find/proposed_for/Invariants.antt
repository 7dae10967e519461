use Rattle.std.proofs.Common.{◌≡◌, drop}
use Rattle.node_rules.specs.Votes.{proposed_for}
use Rattle.consensus_instance.proofs.find.proposed_for.Given as goal

-- the first of those left is the first of all
abbrev pub invariant-loop-message : goal.invariant-loop-message
invariant-loop-message l = proposed_for (drop l.message-index l.arrivals) l.slot ≡ proposed_for l.arrivals l.slot
