use Rattle.replica_laws.proofs.Leaving.{leaves_firm}
use Rattle.replica_laws.proofs.laws.votes_leave_when_firm.Goals as goal

pub returns : goal.returns
returns g c = λ secret id view period events. leaves_firm g.S.Service.meaning secret id view period events
