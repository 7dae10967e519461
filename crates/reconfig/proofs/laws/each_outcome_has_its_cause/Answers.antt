use Rattle.reconfig.proofs.Outcomes.{outcome_for}
use Rattle.reconfig.proofs.laws.each_outcome_has_its_cause.Goals as goal

pub returns : goal.returns
returns c = outcome_for
