use Rattle.std.proofs.Common.{ℕ, ◌+◌, ap, ◌∙◌}
use Rattle.smart_base.specs.Views.{View}
use Rattle.node_votes.proofs.Accepts.{under_after}
use Rattle.node_votes.proofs.votes.accepted_under.Goals as goal

pub returns : goal.returns
returns g c =
    under_after c.args.node.now _ c.number-view.result c.next-place.result c.args.digest.now _ c.node.view_is (c.number-view.ensures ∙ ap (λ (v : View). v.number) c.view.ensures)
    (c.next-place.ensures ∙ ap (λ (p : ℕ). p + 1) c.place.ensures) c.accept_under.ensures
