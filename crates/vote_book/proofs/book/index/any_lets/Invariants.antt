use Rattle.std.proofs.Common.{◌≡◌, length}
use Rattle.std.specs.List.{list_any}
use Rattle.vote_book.specs.Admission.{lets}
use Rattle.vote_book.proofs.book.index.any_lets.Given as goal

abbrev pub invariant-loop-start : goal.invariant-loop-start
invariant-loop-start l = list_any (lets l.slot l.digest) l.starts ≡ list_any (lets l.slot l.digest) l.fn.starts

abbrev pub decreases-loop-start : goal.decreases-loop-start
decreases-loop-start l = length l.starts
