use Rattle.std.proofs.Common.{filter_map, ap, sym, ◌∙◌}
use Rattle.std.specs.Option.{option_copied}
use Rattle.smart_statements.specs.declared.statement.VoteKind.TheVariants as kinds
use Rattle.node_rules.specs.Votes.{has_quorum}
use Rattle.vote_book.specs.BookReports.{accept_for}
use Rattle.vote_book.specs.declared.entry.Accept.{Accept}
use Rattle.node_state.proofs.Walks.{none_there, walk_ends, walk_finds, walk_passes, walk_past}
use Rattle.node_state.proofs.find.accept_by_quorum.Goals as goal

pub returns-in_err-accept : goal.returns-in_err-accept
returns-in_err-accept c =
    ap (λ o. option_copied o) c.from_residual.ensures
    ∙ walk_ends (λ (a : Accept). has_quorum c.args.instance.now.arrivals c.args.instance.now.view kinds.Accept c.args.slot.now a.digest) (filter_map (accept_for c.args.slot.now.view c.args.slot.now.place) c.args.book.now.entries) c.loop-index.index c.loop-index.invariant
    (none_there (filter_map (accept_for c.args.slot.now.view c.args.slot.now.place) c.args.book.now.entries) c.loop-index.index (sym c.in_err-accept.ensures))

pub returns-then-is_accepted : goal.returns-then-is_accepted
returns-then-is_accepted c =
    walk_finds (λ (a : Accept). has_quorum c.args.instance.now.arrivals c.args.instance.now.view kinds.Accept c.args.slot.now a.digest) (filter_map (accept_for c.args.slot.now.view c.args.slot.now.place) c.args.book.now.entries) c.loop-index.index c.in_ok-accept.accept.now c.loop-index.invariant
    (sym c.in_ok-accept.ensures) (sym c.if-is_accepted.ensures)

pub loop-index-preserved : goal.loop-index-preserved
loop-index-preserved c =
    walk_passes (λ (a : Accept). has_quorum c.args.instance.now.arrivals c.args.instance.now.view kinds.Accept c.args.slot.now a.digest) (filter_map (accept_for c.args.slot.now.view c.args.slot.now.place) c.args.book.now.entries) c.loop-index.index c.in_ok-accept.accept.now c.loop-index.invariant
    (sym c.in_ok-accept.ensures) (sym c.if-is_accepted.ensures)

pub returns : goal.returns
returns c =
    walk_past (λ (a : Accept). has_quorum c.args.instance.now.arrivals c.args.instance.now.view kinds.Accept c.args.slot.now a.digest) (accept_for c.args.slot.now.view c.args.slot.now.place) c.args.book.now.entries c.pushed-index-end.result.now c.loop-index.index c.loop-index.invariant
    c.pushed-index-end.ensures c.loop-index-test.false
