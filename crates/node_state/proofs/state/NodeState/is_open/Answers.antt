use Rattle.std.proofs.Common.{◌∙◌}
use Rattle.node_state.proofs.Following.{open_after}
use Rattle.node_state.proofs.state.NodeState.is_open.Goals as goal

pub returns : goal.returns
returns g c = c.is_open.ensures ∙ open_after c.args.self.now _ c.self.inside.instance c.self.view_is c.self.invariant.instance
