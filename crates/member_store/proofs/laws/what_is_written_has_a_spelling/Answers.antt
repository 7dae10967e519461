use Rattle.member_store.proofs.BookFits.{call_spells}
use Rattle.member_store.proofs.laws.what_is_written_has_a_spelling.Goals as goal

pub returns : goal.returns
returns c = call_spells
