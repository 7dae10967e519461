use Rattle.member_store.proofs.Told.{may_leave, none_told}
use Rattle.member_store.proofs.laws.no_byte_is_wrong.Goals as goal

pub returns-clause-may : goal.returns-clause-may
returns-clause-may c = may_leave

pub returns-clause-none : goal.returns-clause-none
returns-clause-none c = none_told
