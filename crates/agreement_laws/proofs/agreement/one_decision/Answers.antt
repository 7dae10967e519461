use Rattle.agreement_laws.proofs.Regencies.{decided_once}
use Rattle.agreement_laws.proofs.agreement.one_decision.Goals as goal

pub returns : goal.returns
returns c = decided_once
