use Rattle.audit_laws.proofs.Complete.{of-trails}
use Rattle.audit_laws.proofs.laws.trails_that_can_be_read_are_audited.Goals as goal

pub returns : goal.returns
returns c = of-trails
