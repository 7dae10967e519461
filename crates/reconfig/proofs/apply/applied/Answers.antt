use Rattle.reconfig.proofs.Faults.{caused}
use Rattle.reconfig.proofs.apply.applied.Goals as goal

pub returns-clause-cause : goal.returns-clause-cause
returns-clause-cause c = caused c.args.view.now c.args.start c.args.change c.next_view.result c.next_view.ensures
