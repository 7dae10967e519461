use Rattle.node_rules.specs.Rules.{has_signed}
use Rattle.consensus_instance.proofs.Lists.{taken_few}
use Rattle.node_votes.proofs.decisions.first_signers.Goals as goal

pub returns-clause-few : goal.returns-clause-few
returns-clause-few c =
    taken_few c.args.view.now (has_signed c.args.votes.now) c.quorum.result c.members-all.result.now c.in_ok-members.members c.truncate.new.self c.members-all.ensures.view c.members-all.ensures.value
    c.in_ok-members.ensures c.truncate.ensures
