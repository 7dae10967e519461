use Rattle.vote_book.proofs.Tidy.{front_lawful, front_tidy}
use Rattle.vote_book.proofs.laws.fronts_stay_lawful_and_tidy.Goals as goal

pub returns-clause-lawful : goal.returns-clause-lawful
returns-clause-lawful c = front_lawful

pub returns-clause-tidy : goal.returns-clause-tidy
returns-clause-tidy c = front_tidy
