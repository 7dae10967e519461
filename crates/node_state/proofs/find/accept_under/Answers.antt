use Rattle.std.proofs.Common.{◌≡◌, true, false, filter_map, ap, sym, ◌∙◌}
use Rattle.std.specs.Option.{option_copied}
use Rattle.smart_base.specs.Lists.{same_bytes}
use Rattle.vote_book.specs.BookReports.{accept_for}
use Rattle.vote_book.specs.declared.entry.Accept.{Accept}
use Rattle.node_state.proofs.Walks.{none_there, walk_ends, walk_finds, walk_passes, walk_past}
use Rattle.node_state.proofs.find.accept_under.Goals as goal

pub returns-in_err-accept : goal.returns-in_err-accept
returns-in_err-accept c =
    ap (λ o. option_copied o) c.from_residual.ensures
    ∙ walk_ends (λ (a : Accept). same_bytes a.digest c.args.digest.now) (filter_map (accept_for c.args.view c.args.place) c.args.book.now.entries) c.loop-index.index c.loop-index.invariant
    (none_there (filter_map (accept_for c.args.view c.args.place) c.args.book.now.entries) c.loop-index.index (sym c.in_err-accept.ensures))

pub returns-then-same_bytes : goal.returns-then-same_bytes
returns-then-same_bytes c =
    let is : same_bytes c.in_ok-accept.accept.now.digest c.args.digest.now ≡ true = rw (← c.as_slice.ensures.value, ← c.as_slice-in-loop-index.ensures.value) (sym c.if-same_bytes.ensures) in
    walk_finds (λ (a : Accept). same_bytes a.digest c.args.digest.now) (filter_map (accept_for c.args.view c.args.place) c.args.book.now.entries) c.loop-index.index c.in_ok-accept.accept.now c.loop-index.invariant
    (sym c.in_ok-accept.ensures) is

pub loop-index-preserved : goal.loop-index-preserved
loop-index-preserved c =
    let is : same_bytes c.in_ok-accept.accept.now.digest c.args.digest.now ≡ false = rw (← c.as_slice.ensures.value, ← c.as_slice-in-loop-index.ensures.value) (sym c.if-same_bytes.ensures) in
    walk_passes (λ (a : Accept). same_bytes a.digest c.args.digest.now) (filter_map (accept_for c.args.view c.args.place) c.args.book.now.entries) c.loop-index.index c.in_ok-accept.accept.now c.loop-index.invariant
    (sym c.in_ok-accept.ensures) is

pub returns : goal.returns
returns c =
    walk_past (λ (a : Accept). same_bytes a.digest c.args.digest.now) (accept_for c.args.view c.args.place) c.args.book.now.entries c.pushed-index-end.result.now c.loop-index.index c.loop-index.invariant
    c.pushed-index-end.ensures c.loop-index-test.false
