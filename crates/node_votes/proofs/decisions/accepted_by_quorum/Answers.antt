use Rattle.node_state.proofs.Following.{view_after}
use Rattle.node_votes.proofs.Accepts.{quorum_after}
use Rattle.node_votes.proofs.decisions.accepted_by_quorum.Goals as goal

pub returns : goal.returns
returns g c =
    quorum_after c.args.node.now _ c.node.inside.instance.view c.args.slot.now _ c.node.view_is
    (view_after c.args.node.now _ c.node.inside.instance c.node.view_is c.node.invariant.instance) c.accept_by_quorum.ensures
