use Rattle.std.proofs.Common.{◌∙◌}
use Rattle.node_state.proofs.Following.{certificate_after}
use Rattle.node_state.proofs.state.NodeState.certificate.Goals as goal

pub returns : goal.returns
returns g c =
    c.in_ok-votes.ensures
    ∙ certificate_after c.args.self.now _ c.self.inside.instance c.args.kind c.args.slot.now c.args.digest.now c.self.view_is c.self.invariant.instance
