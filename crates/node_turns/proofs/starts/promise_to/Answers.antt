use Rattle.std.proofs.Common.{ap, sym, subst, ◌∙◌, ℕ, ◌<◌}
use Rattle.node_rules.specs.Nodes.{Node, view_of}
use Rattle.node_state.proofs.Following.{regency_after, promised_after, promised_regency, start_where, votes_where}
use Rattle.node_turns.proofs.starts.promise_to.Goals as goal

pub promised-requires : goal.promised-requires
promised-requires g c =
    subst (λ (r : ℕ). r < c.args.promise.regency) (sym (regency_after c.args.node.now _ c.node.inside.instance c.node.view_is c.node.invariant.instance)) c.requires.later

pub invariant_of-node-2 : goal.invariant_of-node-2
invariant_of-node-2 g c =
    promised_after _ _ _ _ c.node.inside.book c.push.new.self c.node.inside.instance c.promised.new.self c.node.inside.synchronizer c.promised_to.new.self c.args.promise c.present_start-start.result c.is_some.result c.votes_at-votes.result
    c.node.invariant
    (c.requires.view ∙ ap (λ (n : Node g.row.S.Denot). (view_of n).number) (sym c.node.view_is))
    (subst (λ (r : ℕ). r < c.args.promise.regency) (sym (regency_after c.args.node.now _ c.node.inside.instance c.node.view_is c.node.invariant.instance)) c.requires.later)
    (start_where c.args.node.now _ c.present_start-start.result c.args.promise.regency c.node.view_is c.present_start-start.ensures)
    c.is_some.ensures
    (votes_where c.args.node.now _ c.votes_at-votes.result c.get.result c.args.promise.regency c.node.view_is (c.get.ensures.value ∙ c.place.ensures) c.votes_at-votes.ensures)
    c.in_ok-push.ensures.ok c.promised.ensures c.promised_to.ensures

pub returns-clause-regency : goal.returns-clause-regency
returns-clause-regency g c =
    promised_regency _ c.promised.new.self c.node.inside.instance c.args.promise.regency c.present_start-start.result c.votes_at-votes.result (invariant_of-node-2 g c).instance c.promised.ensures
