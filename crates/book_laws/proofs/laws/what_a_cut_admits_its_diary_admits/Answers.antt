use Rattle.book_laws.proofs.Cut.{cut_admits}
use Rattle.book_laws.proofs.laws.what_a_cut_admits_its_diary_admits.Goals as goal

pub returns : goal.returns
returns c = cut_admits
