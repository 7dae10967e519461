use Rattle.book_laws.proofs.CutTidy.{tidy_by_cut, no_vote_by_cut}
use Rattle.book_laws.proofs.laws.what_is_tidy_after_a_cut_is_tidy_after_its_diary.Goals as goal

pub returns-clause-tidy : goal.returns-clause-tidy
returns-clause-tidy c = tidy_by_cut

pub returns-clause-vote : goal.returns-clause-vote
returns-clause-vote c = no_vote_by_cut
