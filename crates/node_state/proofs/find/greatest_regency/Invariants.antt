use Rattle.std.proofs.Common.{◌≡◌, drop, max}
use Rattle.node_rules.specs.Nodes.{greatest_regency}
use Rattle.node_state.proofs.find.greatest_regency.Given as goal

-- the greatest so far and that of the entries left are that of all
abbrev pub invariant-loop-entry : goal.invariant-loop-entry
invariant-loop-entry l = max l.greatest (greatest_regency l.view (drop l.entry-index l.entries)) ≡ greatest_regency l.view l.entries
