use Rattle.member_store.proofs.BookCrashed.{crash_leaves_front}
use Rattle.member_store.proofs.laws.a_crash_leaves_a_front.Goals as goal

pub returns : goal.returns
returns c = λ all s past top place book aside left h may. crash_leaves_front all s past top place book aside h left may
