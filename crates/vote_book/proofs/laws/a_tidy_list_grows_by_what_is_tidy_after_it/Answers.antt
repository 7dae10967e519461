use Rattle.std.proofs.Common.{[], ◌∷◌}
use Rattle.vote_book.proofs.Tidy.{none_tidy, front_tidy, last_tidy, grows_tidy}
use Rattle.vote_book.proofs.laws.a_tidy_list_grows_by_what_is_tidy_after_it.Goals as goal

pub returns-clause-begun : goal.returns-clause-begun
returns-clause-begun c = none_tidy

pub returns-clause-grown : goal.returns-clause-grown
returns-clause-grown c = λ entries entry. (
  λ tidy. (front_tidy entries (entry ∷ []) tidy, last_tidy entries entry tidy),
  λ both. grows_tidy entries entry both.0 both.1,
)
