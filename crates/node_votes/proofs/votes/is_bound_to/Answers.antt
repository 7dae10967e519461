use Rattle.std.proofs.Common.{◌∙◌}
use Rattle.node_state.proofs.Following.{bound_after}
use Rattle.node_votes.proofs.votes.is_bound_to.Goals as goal

pub returns : goal.returns
returns g c = c.is_bound_to.ensures ∙ bound_after c.args.node.now _ c.node.inside.instance c.args.place c.node.view_is c.node.invariant.instance
