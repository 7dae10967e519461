use Rattle.book_laws.proofs.CutLawful.{cut_lawful}
use Rattle.book_laws.proofs.laws.a_cut_is_a_lawful_book.Goals as goal

pub returns : goal.returns
returns c = cut_lawful
