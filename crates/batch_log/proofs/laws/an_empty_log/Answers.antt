use Rattle.batch_log.proofs.Lives.{empty_wire}
use Rattle.batch_log.proofs.laws.an_empty_log.Goals as goal

pub returns : goal.returns
returns c = empty_wire
