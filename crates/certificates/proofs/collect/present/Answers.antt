use Rattle.std.proofs.Common.{◌∙◌, arith}
use Rattle.std.proofs.lemmas.Grind.{common_steps}
use Rattle.smart_base.proofs.PresentViews.{present-last}
use Rattle.certificates.proofs.collect.present.Goals as goal

pub returns : goal.returns
returns c = c.index-views-views.is ∙ present-last c.args.views.now _ _ (grind (arith, common_steps, c.requires))
