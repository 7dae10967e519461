use Rattle.member_store.proofs.BookFits.{nothing_is_wrong}
use Rattle.member_store.proofs.laws.a_crash_always_leaves_something.Goals as goal

pub returns : goal.returns
returns c = λ all s past top place book aside image h. nothing_is_wrong all s past top place book aside h image
