use Rattle.vote_book.proofs.Locks.{made_most, maker_is, no_maker}
use Rattle.vote_book.proofs.laws.the_last_place_is_the_greatest_made.Goals as goal

pub returns-clause-most : goal.returns-clause-most
returns-clause-most c = made_most

pub returns-clause-made : goal.returns-clause-made
returns-clause-made c = maker_is

pub returns-clause-none : goal.returns-clause-none
returns-clause-none c = no_maker
