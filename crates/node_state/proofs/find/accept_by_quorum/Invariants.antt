use Rattle.std.proofs.Common.{◌≡◌, drop, find, filter_map}
use Rattle.smart_statements.specs.declared.statement.VoteKind.TheVariants as kinds
use Rattle.vote_book.specs.BookReports.{accept_for}
use Rattle.vote_book.specs.declared.entry.Accept.{Accept}
use Rattle.node_rules.specs.Votes.{has_quorum}
use Rattle.node_state.proofs.find.accept_by_quorum.Given as goal

-- a quorum accepted none of those so far in the slot
abbrev pub invariant-loop-index : goal.invariant-loop-index
invariant-loop-index l =
    find (λ (a : Accept). has_quorum l.instance.arrivals l.instance.view kinds.Accept l.slot a.digest) (drop l.index (filter_map (accept_for l.slot.view l.slot.place) l.book.entries))
    ≡ find (λ (a : Accept). has_quorum l.instance.arrivals l.instance.view kinds.Accept l.slot a.digest) (filter_map (accept_for l.slot.view l.slot.place) l.book.entries)
