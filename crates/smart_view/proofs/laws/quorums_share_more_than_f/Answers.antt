use Rattle.smart_base.proofs.ViewFacts.{quorums-meet}
use Rattle.smart_view.proofs.laws.quorums_share_more_than_f.Goals as goal

pub returns : goal.returns
returns c = quorums-meet
