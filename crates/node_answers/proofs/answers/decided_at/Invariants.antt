use Rattle.std.proofs.Common.{◌≡◌, drop}
use Rattle.node_rules.specs.Transfers.{decided_at}
use Rattle.node_answers.proofs.answers.decided_at.Given as goal

-- the first of those left is the first of all
abbrev pub invariant-loop-entry : goal.invariant-loop-entry
invariant-loop-entry l = decided_at l.place (drop l.entry-index l.entries) ≡ decided_at l.place l.entries
