use Rattle.std.proofs.Common.{refl, ap, ◌∙◌, List}
use Rattle.smart_base.specs.Views.{View, present}
use Rattle.node_state.proofs.Following.{delivered_after, votes_next}
use Rattle.node_replica.proofs.Delivering.{present_stays}
use Rattle.node_replica.proofs.delivers.execute_waiting.Goals as goal

pub invariant_of-node-in_err-given-in-Some : goal.invariant_of-node-in_err-given-in-Some
invariant_of-node-in_err-given-in-Some g c =
    delivered_after _ _ _ c.node.inside.replica.replica.place _ c.node.inside.waiting _ _ c.node.inside.instance c.delivered.new.self c.node.inside.synchronizer c.in-Some.batch c.votes_at-votes.result c.node.invariant
    (votes_next c.args.node.now _ c.node.inside.instance c.votes_at-votes.result c.get.result _ c.regency.result c.node.view_is c.node.invariant.instance (c.get.ensures.value ∙ c.place.ensures) refl c.regency.ensures c.votes_at-votes.ensures)
    c.in-Some.ensures.value c.take.ensures.after c.deliver.ensures.place (ap (λ (vs : List View). present vs) c.in_err-given-in-Some.ensures.views) c.delivered.ensures

pub invariant_of-node-in-None-begun : goal.invariant_of-node-in-None-begun
invariant_of-node-in-None-begun g c =
    delivered_after _ _ _ c.node.inside.replica.replica.place _ c.node.inside.waiting _ _ c.node.inside.instance c.delivered.new.self c.node.inside.synchronizer c.in-Some.batch c.votes_at-votes.result c.node.invariant
    (votes_next c.args.node.now _ c.node.inside.instance c.votes_at-votes.result c.get.result _ c.regency.result c.node.view_is c.node.invariant.instance (c.get.ensures.value ∙ c.place.ensures) refl c.regency.ensures c.votes_at-votes.ensures)
    c.in-Some.ensures.value c.take.ensures.after c.deliver.ensures.place (present_stays c.node.inside.replica.replica.views c.deliver.new.replica.replica.views c.in_ok-given-in-Some.given.begun c.in_ok-given-in-Some.ensures.begun c.in-None-begun.is) c.delivered.ensures
