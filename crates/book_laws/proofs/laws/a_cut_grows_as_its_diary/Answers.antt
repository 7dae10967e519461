use Rattle.book_laws.proofs.CutAgain.{cut_more}
use Rattle.book_laws.proofs.laws.a_cut_grows_as_its_diary.Goals as goal

pub returns : goal.returns
returns c = cut_more
