use Rattle.replica_laws.proofs.Beginning.{begins-step, begins-opened, begins-reopened}
use Rattle.replica_laws.proofs.laws.a_regency_begins_once.Goals as goal

pub returns : goal.returns
returns g c = record {
  step = λ n event view regency. begins-step g.S.Service.meaning n event view regency;
  opened = λ o events number regency. begins-opened g.S.Service.meaning o events number regency;
  reopened = λ o entries events number regency. begins-reopened g.S.Service.meaning o entries events number regency;
}
