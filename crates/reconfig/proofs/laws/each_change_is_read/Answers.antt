use Rattle.reconfig.proofs.Outcomes.{change_read}
use Rattle.reconfig.proofs.laws.each_change_is_read.Goals as goal

pub returns : goal.returns
returns c = change_read
