use Rattle.store_laws.proofs.Stakes.{stakes_begins, stakes_goes, stakes_ends, stakes_called, stakes_given, stakes_asked}
use Rattle.store_laws.proofs.laws.a_job_leaves_nothing_new_at_stake.Goals as goal

pub returns-clause-opened : goal.returns-clause-opened
returns-clause-opened c = λ images a. tt

pub returns-clause-begins : goal.returns-clause-begins
returns-clause-begins c = stakes_begins

pub returns-clause-goes : goal.returns-clause-goes
returns-clause-goes c = stakes_goes

pub returns-clause-ends : goal.returns-clause-ends
returns-clause-ends c = stakes_ends

pub returns-clause-called : goal.returns-clause-called
returns-clause-called c = stakes_called

pub returns-clause-given : goal.returns-clause-given
returns-clause-given c = stakes_given

pub returns-clause-asked : goal.returns-clause-asked
returns-clause-asked c = stakes_asked
