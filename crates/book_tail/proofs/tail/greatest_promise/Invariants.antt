use Rattle.std.proofs.Common.{◌≡◌, drop}
use Rattle.book_laws.specs.BookCuts.{greater_promise, greatest_promise}
use Rattle.book_tail.proofs.tail.greatest_promise.Given as goal

-- the greatest so far and that of the entries left make that of all
abbrev pub invariant-loop-entry : goal.invariant-loop-entry
invariant-loop-entry l = greater_promise l.greatest (greatest_promise (drop l.entry-index l.entries)) ≡ greatest_promise l.entries
