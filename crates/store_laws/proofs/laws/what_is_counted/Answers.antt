use Rattle.store_laws.proofs.Counted.{counts_opened, counts_begins, counts_goes, counts_given, counts_asked, counts_crash}
use Rattle.store_laws.proofs.laws.what_is_counted.Goals as goal

pub returns-clause-opened : goal.returns-clause-opened
returns-clause-opened c = counts_opened

pub returns-clause-begins : goal.returns-clause-begins
returns-clause-begins c = counts_begins

pub returns-clause-goes : goal.returns-clause-goes
returns-clause-goes c = counts_goes

pub returns-clause-given : goal.returns-clause-given
returns-clause-given c = counts_given

pub returns-clause-asked : goal.returns-clause-asked
returns-clause-asked c = counts_asked

pub returns-clause-crash : goal.returns-clause-crash
returns-clause-crash c = counts_crash
