use Rattle.batch_log.proofs.Lives.{lives}
use Rattle.batch_log.proofs.laws.a_crash_leaves_a_log.Goals as goal

pub returns : goal.returns
returns c = lives
