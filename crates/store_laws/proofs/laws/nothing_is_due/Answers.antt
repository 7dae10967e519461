use Rattle.store_laws.proofs.Given.{idle_now, nothing_at_stake}
use Rattle.store_laws.proofs.laws.nothing_is_due.Goals as goal

pub returns-clause-idle : goal.returns-clause-idle
returns-clause-idle c = idle_now

pub returns-clause-kept : goal.returns-clause-kept
returns-clause-kept c = nothing_at_stake
