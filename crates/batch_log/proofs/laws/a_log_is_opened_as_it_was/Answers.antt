use Rattle.batch_log.proofs.Lives.{opened_as}
use Rattle.batch_log.proofs.laws.a_log_is_opened_as_it_was.Goals as goal

pub returns : goal.returns
returns c = opened_as
