use Rattle.book_laws.proofs.CutTidy.{cut_tidy}
use Rattle.book_laws.proofs.laws.a_cut_is_a_tidy_book.Goals as goal

pub returns : goal.returns
returns c = cut_tidy
