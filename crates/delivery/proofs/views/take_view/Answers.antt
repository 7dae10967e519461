use Rattle.std.proofs.Common.{◌++◌, [], ◌∷◌, ap, ◌∙◌}
use Rattle.smart_base.specs.Views.{View}
use Rattle.delivery.proofs.Moves.{moved_end}
use Rattle.delivery.proofs.views.take_view.Goals as goal

pub returns-clause-moved : goal.returns-clause-moved
returns-clause-moved c =
    moved_end c.args.views.now c.replace-former.new.dest c.args.view.now (record { former = c.replace-former.result; begun = record { own = c.in_ok-own.own; other = c.in_ok-other.other } })
    (c.replace-former.ensures.after ∙ (c.in_ok-more.ensures ∙ ap (λ (v : View). c.args.views.now ++ v ∷ []) c.in_ok-duplicate.ensures)) c.replace-former.ensures.value c.in_ok-own.ensures c.in_ok-other.ensures c.requires.later
