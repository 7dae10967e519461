use Rattle.book_laws.proofs.CutEntries.{cut_among, cut_short, cut_begun}
use Rattle.book_laws.proofs.laws.a_cut_is_of_its_diary.Goals as goal

pub returns-clause-entries : goal.returns-clause-entries
returns-clause-entries c = cut_among

pub returns-clause-short : goal.returns-clause-short
returns-clause-short c = cut_short

pub returns-clause-begun : goal.returns-clause-begun
returns-clause-begun c = cut_begun
