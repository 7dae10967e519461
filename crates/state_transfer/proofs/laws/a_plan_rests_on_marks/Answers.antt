use Rattle.state_transfer.proofs.Certificates.{rests_on_marks}
use Rattle.state_transfer.proofs.laws.a_plan_rests_on_marks.Goals as goal

pub returns : goal.returns
returns c = rests_on_marks
