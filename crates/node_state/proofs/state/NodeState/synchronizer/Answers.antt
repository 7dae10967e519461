use Rattle.std.proofs.Common.{refl}
use Rattle.node_state.proofs.Following.{synchronizer_after}
use Rattle.node_state.proofs.state.NodeState.synchronizer.Goals as goal

pub returns : goal.returns
returns g c =
    synchronizer_after c.args.self.now _ c.self.inside.instance c.self.inside.synchronizer c.self.view_is c.self.invariant refl refl refl refl refl
