use Rattle.std.proofs.Common.{◌≡◌, ◌++◌, drop}
use Rattle.node_rules.specs.Transfers.{marks_past}
use Rattle.node_answers.proofs.answers.last_marks.Given as goal

-- the marks so far and those of the entries left are all
abbrev pub invariant-loop-entry : goal.invariant-loop-entry
invariant-loop-entry l = l.found ++ drop l.left (marks_past l.place (drop l.entry-index l.entries)) ≡ drop l.skipped (marks_past l.place l.entries)
