use Rattle.vote_book.proofs.Growth.{none_lawful, pushing, ending}
use Rattle.vote_book.proofs.laws.a_book_is_lawful_where_it_admitted_all.Goals as goal

pub returns-clause-begun : goal.returns-clause-begun
returns-clause-begun c = λ place. none_lawful place 0

pub returns-clause-pushed : goal.returns-clause-pushed
returns-clause-pushed c = pushing

pub returns-clause-ended : goal.returns-clause-ended
returns-clause-ended c = ending
