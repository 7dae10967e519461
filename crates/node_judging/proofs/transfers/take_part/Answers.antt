use Rattle.std.proofs.Common.{sym, ◌∙◌}
use Rattle.node_judging.proofs.Parts.{part_where}
use Rattle.node_judging.proofs.transfers.take_part.Goals as goal

pub returns-clause-node : goal.returns-clause-node
returns-clause-node g c =
    part_where c.args.node.now _ c.args.part c.in-Some.fetch c.accept_part.new.self c.why_part-dropped.result c.node.view_is c.in-Some.is c.why_part-dropped.ensures
    (sym c.is_some.ensures ∙ c.if-is_some.false) c.in_ok-accept_part.ensures.parts
