use Rattle.std.proofs.Common.{refl, ap, sym, ◌∙◌}
use Rattle.node_rules.specs.Nodes.{Node, view_of}
use Rattle.node_state.proofs.Following.{regency_after, begun_after, begun_where}
use Rattle.node_turns.proofs.starts.begin_at.Goals as goal

pub invariant_of-node-2 : goal.invariant_of-node-2
invariant_of-node-2 g c =
    begun_after _ _ _ _ c.node.inside.book c.push.new.self c.node.inside.instance c.synced.new.self c.node.inside.synchronizer c.adopted.new.self c.args.start c.node.invariant
    (c.requires.view ∙ ap (λ (n : Node g.row.S.Denot). (view_of n).number) (sym c.node.view_is))
    (sym (regency_after c.args.node.now _ c.node.inside.instance c.node.view_is c.node.invariant.instance ∙ c.requires.regency))
    c.in_ok-push.ensures.ok c.synced.ensures c.adopted.ensures

pub returns-clause-node : goal.returns-clause-node
returns-clause-node g c =
    begun_where c.args.node.now _ c.node.inside.instance c.synced.new.self c.node.inside.synchronizer c.adopted.new.self c.node.inside.book c.push.new.self c.args.start c.node.view_is
    (sym (c.node.invariant.regency ∙ (regency_after c.args.node.now _ c.node.inside.instance c.node.view_is c.node.invariant.instance ∙ c.requires.regency)))
    refl refl refl refl refl refl refl refl c.in_ok-push.ensures.ok c.synced.ensures c.adopted.ensures
