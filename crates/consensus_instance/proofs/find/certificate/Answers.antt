use Rattle.node_rules.specs.Votes.{has_vote}
use Rattle.consensus_instance.proofs.Lists.{taken_few}
use Rattle.consensus_instance.proofs.find.certificate.Goals as goal

pub returns-clause-few : goal.returns-clause-few
returns-clause-few c =
    taken_few c.args.view.now (has_vote c.args.arrivals.now c.args.kind c.args.slot.now c.args.digest.now) c.quorum.result c.members-all.result.now c.in_ok-members.members c.truncate.new.self c.members-all.ensures.view c.members-all.ensures.value
    c.in_ok-members.ensures c.truncate.ensures
