use Rattle.smart_messages.specs.declared.message.Message.TheVariants.{Vote}
use Rattle.consensus_instance.specs.Instances.{keeps_vote}
use Rattle.node_state.proofs.Following.{arrived_after}
use Rattle.node_judging.proofs.Keeping.{vote_where}
use Rattle.node_judging.proofs.arrivals.keep_vote.Goals as goal

pub invariant_of-node : goal.invariant_of-node
invariant_of-node g c =
    arrived_after _ _ _ _ _ c.node.inside.instance c.on_vote.new.self c.node.inside.synchronizer (keeps_vote c.args.ballot c.node.inside.instance) (Vote c.args.ballot) c.on_vote.result c.on_vote.ensures.ok c.on_vote.ensures.err c.node.invariant

pub invariant_of-node-2 : goal.invariant_of-node-2
invariant_of-node-2 g c =
    arrived_after _ _ _ _ _ c.node.inside.instance c.on_vote.new.self c.node.inside.synchronizer (keeps_vote c.args.ballot c.node.inside.instance) (Vote c.args.ballot) c.on_vote.result c.on_vote.ensures.ok c.on_vote.ensures.err c.node.invariant

pub returns-clause-node : goal.returns-clause-node
returns-clause-node g c = vote_where c.args.node.now _ c.node.inside.instance c.on_vote.new.self c.args.ballot c.node.view_is c.node.invariant.instance c.requires c.in_ok-on_vote.ensures.ok
