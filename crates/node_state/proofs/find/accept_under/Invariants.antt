use Rattle.std.proofs.Common.{◌≡◌, drop, find, filter_map}
use Rattle.smart_base.specs.Lists.{same_bytes}
use Rattle.vote_book.specs.BookReports.{accept_for}
use Rattle.vote_book.specs.declared.entry.Accept.{Accept}
use Rattle.node_state.proofs.find.accept_under.Given as goal

-- none of those so far has the digest
abbrev pub invariant-loop-index : goal.invariant-loop-index
invariant-loop-index l =
    find (λ (a : Accept). same_bytes a.digest l.digest) (drop l.index (filter_map (accept_for l.view l.place) l.book.entries))
    ≡ find (λ (a : Accept). same_bytes a.digest l.digest) (filter_map (accept_for l.view l.place) l.book.entries)
