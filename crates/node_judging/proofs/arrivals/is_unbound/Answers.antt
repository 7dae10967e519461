use Rattle.std.proofs.Common.{◌∙◌}
use Rattle.node_state.proofs.Following.{unbound_after}
use Rattle.node_judging.proofs.arrivals.is_unbound.Goals as goal

pub returns : goal.returns
returns g c = c.is_unbound.ensures ∙ unbound_after c.args.node.now _ c.node.inside.instance c.args.proposed.now c.node.view_is c.node.invariant.instance
