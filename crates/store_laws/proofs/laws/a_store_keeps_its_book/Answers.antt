use Rattle.store_laws.proofs.Booked.{books_opened, books_begins, books_goes, books_given, books_crash, books_stake}
use Rattle.store_laws.proofs.laws.a_store_keeps_its_book.Goals as goal

pub returns-clause-opened : goal.returns-clause-opened
returns-clause-opened c = books_opened

pub returns-clause-begins : goal.returns-clause-begins
returns-clause-begins c = books_begins

pub returns-clause-goes : goal.returns-clause-goes
returns-clause-goes c = books_goes

pub returns-clause-given : goal.returns-clause-given
returns-clause-given c = books_given

pub returns-clause-crash : goal.returns-clause-crash
returns-clause-crash c = books_crash

pub returns-clause-stake : goal.returns-clause-stake
returns-clause-stake c = books_stake
