use Rattle.book_laws.proofs.CutGrown.{diary_grows}
use Rattle.book_laws.proofs.laws.a_diary_grows_as_its_cut.Goals as goal

pub returns : goal.returns
returns c = diary_grows
