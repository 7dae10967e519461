use Rattle.batch_log.proofs.Lives.{wire_restores}
use Rattle.batch_log.proofs.laws.a_log_restores.Goals as goal

pub returns : goal.returns
returns c = wire_restores
