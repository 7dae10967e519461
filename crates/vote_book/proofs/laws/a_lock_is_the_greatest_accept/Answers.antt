use Rattle.vote_book.proofs.Locks.{lock_is, no_lock}
use Rattle.vote_book.proofs.laws.a_lock_is_the_greatest_accept.Goals as goal

pub returns-clause-some : goal.returns-clause-some
returns-clause-some c = lock_is

pub returns-clause-none : goal.returns-clause-none
returns-clause-none c = no_lock
