use Rattle.std.proofs.Common.{refl}
use Rattle.store_laws.proofs.Logged.{log_opened, log_begins, log_goes, log_called, log_given, next_given}
use Rattle.store_laws.proofs.laws.a_log_goes_on.Goals as goal

pub returns-clause-opened : goal.returns-clause-opened
returns-clause-opened c = log_opened

pub returns-clause-begins : goal.returns-clause-begins
returns-clause-begins c = log_begins

pub returns-clause-goes : goal.returns-clause-goes
returns-clause-goes c = log_goes

pub returns-clause-called : goal.returns-clause-called
returns-clause-called c = log_called

pub returns-clause-given : goal.returns-clause-given
returns-clause-given c = log_given

pub returns-clause-next_given : goal.returns-clause-next_given
returns-clause-next_given c = next_given

pub returns-clause-asked : goal.returns-clause-asked
returns-clause-asked c = λ written s a snapshot logs. (logs, refl)
