use Rattle.audit_rules.proofs.Differences.{coherent_if, if_coherent}
use Rattle.audit_rules.proofs.laws.coherent_runs_have_no_difference.Goals as goal

pub returns-clause-none : goal.returns-clause-none
returns-clause-none c = coherent_if

pub returns-clause-back : goal.returns-clause-back
returns-clause-back c = if_coherent
