use Rattle.audit_rules.proofs.Cores.{leaves_if}
use Rattle.audit_rules.proofs.laws.what_is_released_leaves.Goals as goal

pub returns : goal.returns
returns g c = leaves_if
