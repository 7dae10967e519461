use Rattle.agreement_laws.proofs.Closed.{closed}
use Rattle.agreement_laws.proofs.statements.what_messages_state_is_closed.Goals as goal

pub returns : goal.returns
returns c = closed
