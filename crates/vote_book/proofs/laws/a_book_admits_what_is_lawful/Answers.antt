use Rattle.vote_book.proofs.Tested.{admitted, admitting}
use Rattle.vote_book.proofs.laws.a_book_admits_what_is_lawful.Goals as goal

pub returns : goal.returns
returns c = λ opening restored before entry. (admitted opening restored before entry, admitting opening restored before entry)
