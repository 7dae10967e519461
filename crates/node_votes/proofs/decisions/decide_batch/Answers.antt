use Rattle.std.proofs.Common.{ap, sym, ◌∙◌}
use Rattle.node_rules.specs.Nodes.{Node, next_place, is_free}
use Rattle.node_state.proofs.Following.{decided_after}
use Rattle.node_votes.proofs.decisions.decide_batch.Goals as goal

pub invariant_of-node-2 : goal.invariant_of-node-2
invariant_of-node-2 g c =
    decided_after _ _ _ c.node.inside.waiting c.node.inside.book c.push.new.self c.node.inside.instance c.decided.new.self c.node.inside.synchronizer c.args.decision c.in_ok-batch.batch c.node.invariant
    (ap (λ (n : Node g.row.S.Denot). is_free n) c.node.view_is ∙ c.requires.free) (c.requires.place ∙ ap (λ (n : Node g.row.S.Denot). next_place n) (sym c.node.view_is))
    c.in_ok-push.ensures.ok c.decided.ensures
