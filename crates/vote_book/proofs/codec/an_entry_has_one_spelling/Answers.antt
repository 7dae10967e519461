use Rattle.vote_book.proofs.Entries.{spelling_is, decoded_is}
use Rattle.vote_book.proofs.codec.an_entry_has_one_spelling.Goals as goal

pub returns-clause-read : goal.returns-clause-read
returns-clause-read c = spelling_is

pub returns-clause-alone : goal.returns-clause-alone
returns-clause-alone c = decoded_is
