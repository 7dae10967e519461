use Rattle.vote_book.proofs.Growth.{grows, shrinks, last_admitted}
use Rattle.vote_book.proofs.laws.a_lawful_list_grows_by_what_it_admits.Goals as goal

pub returns : goal.returns
returns c = λ opening restored entries entry. (
  λ lawful. (shrinks opening restored entries entry lawful, last_admitted opening restored entries entry lawful),
  λ both. grows opening restored entries entry both.0 both.1,
)
