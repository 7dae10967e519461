use Rattle.book_laws.proofs.CutAgain.{cut_cut}
use Rattle.book_laws.proofs.laws.a_cut_is_cut_as_its_diary.Goals as goal

pub returns : goal.returns
returns c = cut_cut
