use Rattle.reconfig.proofs.Changes.{brief_is}
use Rattle.reconfig.proofs.change.Change.is_brief.Goals as goal

pub returns : goal.returns
returns c = brief_is c.len.result c.args.self.now c.len.ensures.value
