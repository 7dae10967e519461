use Rattle.std.proofs.Common.{◌≡◌, drop}
use Rattle.vote_book.specs.BookIndex.{greater_open, greatest_open}
use Rattle.vote_book.proofs.book.accepts.OpenAccepts.greatest.Given as goal

abbrev pub invariant-loop-accept : goal.invariant-loop-accept
invariant-loop-accept l = greater_open l.greatest (greatest_open l.view l.place (drop l.accept-index l.self)) ≡ greatest_open l.view l.place l.self
