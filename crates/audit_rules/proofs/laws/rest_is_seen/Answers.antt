use Rattle.audit_rules.proofs.Resting.{seen_at_rest}
use Rattle.audit_rules.proofs.laws.rest_is_seen.Goals as goal

pub returns : goal.returns
returns g c = seen_at_rest g.S.Service.meaning
