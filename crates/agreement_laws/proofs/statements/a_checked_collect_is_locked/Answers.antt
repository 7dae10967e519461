use Rattle.agreement_laws.proofs.Collects.{locked_collect}
use Rattle.agreement_laws.proofs.statements.a_checked_collect_is_locked.Goals as goal

pub returns : goal.returns
returns c = locked_collect
