use Rattle.batch_log.proofs.Phases.{leaves}
use Rattle.batch_log.proofs.laws.a_crash_leaves_either.Goals as goal

pub returns : goal.returns
returns c = leaves
