use Rattle.consensus_instance.proofs.Keeping.{vote_kept, proposal_kept}
use Rattle.consensus_instance.proofs.laws.what_a_node_keeps_its_instance_keeps.Goals as goal

pub returns-clause-vote : goal.returns-clause-vote
returns-clause-vote g c = λ n i b has none. vote_kept n i b has none

pub returns-clause-proposal : goal.returns-clause-proposal
returns-clause-proposal g c = λ n i p has none. proposal_kept n i p has none
