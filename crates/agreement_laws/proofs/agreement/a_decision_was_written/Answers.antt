use Rattle.agreement_laws.proofs.Regencies.{decided_is_written}
use Rattle.agreement_laws.proofs.agreement.a_decision_was_written.Goals as goal

pub returns : goal.returns
returns c = decided_is_written
