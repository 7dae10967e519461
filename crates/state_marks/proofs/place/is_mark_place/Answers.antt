use Rattle.std.proofs.Common.{◌≡◌, ◌<◌, ◌∙◌, length, sym, ap, subst, ℕ, List}
use Rattle.state_marks.proofs.Turns.{first_at, first_more}
use Rattle.state_marks.proofs.place.is_mark_place.Goals as goal

pub returns-then-checkpoint_place : goal.returns-then-checkpoint_place
returns-then-checkpoint_place c =
    let within = subst (λ (members : List ℕ). c.loop-index.index < length members) c.members-index-end.ensures.value c.loop-index-test.true in
    sym (first_at c.args.view.now c.args.period c.args.place (length c.args.view.now.members) c.loop-index.index within
    (sym c.checkpoint_place.ensures ∙ c.if-checkpoint_place.true))

pub loop-index-preserved : goal.loop-index-preserved
loop-index-preserved c =
    first_more c.args.view.now c.args.period c.args.place c.loop-index.index c.loop-index.invariant
    (sym c.checkpoint_place.ensures ∙ c.if-checkpoint_place.false)
