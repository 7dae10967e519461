use Rattle.std.proofs.Common.{◌∙◌}
use Rattle.node_state.proofs.Following.{place_after}
use Rattle.node_state.proofs.state.NodeState.decided_place.Goals as goal

pub returns : goal.returns
returns g c = c.decided_place.ensures ∙ place_after c.args.self.now _ c.self.inside.instance c.self.view_is c.self.invariant.instance
