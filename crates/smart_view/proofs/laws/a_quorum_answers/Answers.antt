use Rattle.smart_base.proofs.ViewFacts.{quorum-reached}
use Rattle.smart_view.proofs.laws.a_quorum_answers.Goals as goal

pub returns : goal.returns
returns c = quorum-reached
