use Rattle.smart_messages.specs.declared.message.Message.TheVariants.{Propose}
use Rattle.consensus_instance.specs.Instances.{keeps_proposal}
use Rattle.node_state.proofs.Following.{arrived_after}
use Rattle.node_judging.proofs.Keeping.{proposal_where}
use Rattle.node_judging.proofs.arrivals.keep_proposal.Goals as goal

pub invariant_of-node : goal.invariant_of-node
invariant_of-node g c =
    arrived_after _ _ _ _ _ c.node.inside.instance c.on_propose.new.self c.node.inside.synchronizer (keeps_proposal c.args.proposed c.node.inside.instance) (Propose c.args.proposed) c.on_propose.result c.on_propose.ensures.ok c.on_propose.ensures.err c.node.invariant

pub invariant_of-node-2 : goal.invariant_of-node-2
invariant_of-node-2 g c =
    arrived_after _ _ _ _ _ c.node.inside.instance c.on_propose.new.self c.node.inside.synchronizer (keeps_proposal c.args.proposed c.node.inside.instance) (Propose c.args.proposed) c.on_propose.result c.on_propose.ensures.ok c.on_propose.ensures.err c.node.invariant

pub returns-clause-node : goal.returns-clause-node
returns-clause-node g c = proposal_where c.args.node.now _ c.node.inside.instance c.on_propose.new.self c.args.proposed c.node.view_is c.node.invariant.instance c.requires c.in_ok-on_propose.ensures.ok
