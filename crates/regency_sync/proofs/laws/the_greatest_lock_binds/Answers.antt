use Rattle.regency_sync.proofs.Choices.{base_is, bound_from, bound_to, free_from, free_to}
use Rattle.regency_sync.proofs.laws.the_greatest_lock_binds.Goals as goal

pub returns-clause-base : goal.returns-clause-base
returns-clause-base c = λ reports. base_is reports

pub returns-clause-some : goal.returns-clause-some
returns-clause-some c = λ reports digest. (bound_from reports digest, bound_to reports digest)

pub returns-clause-none : goal.returns-clause-none
returns-clause-none c = λ reports. (free_from reports, free_to reports)
