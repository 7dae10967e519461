use Rattle.agreement_laws.proofs.Regencies.{later_writes}
use Rattle.agreement_laws.proofs.agreement.a_decision_binds_later_regencies.Goals as goal

pub returns : goal.returns
returns c = later_writes
