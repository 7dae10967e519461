use Rattle.node_rules.specs.declared.node.Target.TheVariants as targets
use Rattle.node_answers.proofs.Answering.{Showed}
use Rattle.node_answers.proofs.answers.show_after.Given as goal

-- the decisions of the places so far were shown
abbrev pub invariant-loop-count : goal.invariant-loop-count
invariant-loop-count g l = Showed l.fn.node (targets.Node l.member) l.asked l.count l.node
