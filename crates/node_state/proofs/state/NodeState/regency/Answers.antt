use Rattle.std.proofs.Common.{◌∙◌}
use Rattle.node_state.proofs.Following.{regency_after}
use Rattle.node_state.proofs.state.NodeState.regency.Goals as goal

pub returns : goal.returns
returns g c = c.regency.ensures ∙ regency_after c.args.self.now _ c.self.inside.instance c.self.view_is c.self.invariant.instance
