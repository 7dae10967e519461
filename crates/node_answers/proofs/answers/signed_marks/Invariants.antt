use Rattle.std.proofs.Common.{◌≡◌, ◌+◌, ◌++◌, length, map}
use Rattle.smart_statements.specs.Reports.{marks}
use Rattle.smart_statements.specs.declared.report.Mark.{Mark}
use Rattle.node_rules.specs.Nodes.{signs}
use Rattle.node_answers.proofs.answers.signed_marks.Given as goal

-- the signed marks and those left are all
abbrev pub invariant-loop-mark : goal.invariant-loop-mark
invariant-loop-mark g l = record {
  all : l.list ++ map (λ (m : Mark). signs l.node marks m) l.mark-iterator.rest.items ≡ map (λ (m : Mark). signs l.node marks m) l.fn.own;
  few : length l.list + length l.mark-iterator.rest.items ≡ length l.fn.own;
}
