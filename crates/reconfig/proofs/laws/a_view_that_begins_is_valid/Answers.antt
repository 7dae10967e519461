use Rattle.reconfig.proofs.Outcomes.{begun_valid}
use Rattle.reconfig.proofs.laws.a_view_that_begins_is_valid.Goals as goal

pub returns : goal.returns
returns c = begun_valid
