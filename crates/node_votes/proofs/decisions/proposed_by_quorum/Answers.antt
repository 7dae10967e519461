use Rattle.std.proofs.Common.{◌∙◌}
use Rattle.node_state.proofs.Following.{named_after}
use Rattle.node_votes.proofs.decisions.proposed_by_quorum.Goals as goal

pub returns : goal.returns
returns g c =
    c.accepted_proposal.ensures ∙ named_after c.args.node.now _ c.node.inside.instance c.args.slot.now c.node.view_is c.node.invariant.instance
