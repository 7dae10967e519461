use Rattle.std.proofs.Common.{◌∙◌, arith, ap}
use Rattle.std.proofs.lemmas.Grind.{common_steps}
use Rattle.smart_base.specs.Views.{present}
use Rattle.smart_base.proofs.PresentViews.{present-last}
use Rattle.smart_base.proofs.view.Views.present.Goals as goal

pub returns : goal.returns
returns c =
    c.index.ensures ∙ (present-last c.self.inside.list.items _ _ (grind (arith, common_steps, c.len.ensures, c.self.invariant)) ∙ ap present c.self.view_is)
