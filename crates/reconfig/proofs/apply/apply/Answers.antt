use Rattle.std.proofs.Common.{ap, ◌∙◌}
use Rattle.smart_base.specs.Views.{present}
use Rattle.reconfig.specs.Applied.{applied}
use Rattle.reconfig.proofs.Faults.{caused}
use Rattle.reconfig.proofs.apply.apply.Goals as goal

pub returns-clause-cause : goal.returns-clause-cause
returns-clause-cause c =
    caused (present c.args.views.now) c.args.start c.args.change c.applied.result
    (c.applied.ensures.value ∙ ap (λ v. applied v c.args.start c.args.change) c.present.ensures)
