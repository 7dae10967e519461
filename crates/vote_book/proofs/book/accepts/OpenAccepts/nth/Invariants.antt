use Rattle.std.proofs.Common.{◌≡◌, drop}
use Rattle.std.specs.Prelude.{filter, slice_get}
use Rattle.vote_book.specs.BookIndex.{is_open_for}
use Rattle.vote_book.proofs.book.accepts.OpenAccepts.nth.Given as goal

-- what is wanted of all is the one of those left that is so many behind
abbrev pub invariant-loop-accept : goal.invariant-loop-accept
invariant-loop-accept l = slice_get (filter (is_open_for l.view l.place) (drop l.accept-index l.self)) l.left ≡ slice_get (filter (is_open_for l.view l.place) l.self) l.index
