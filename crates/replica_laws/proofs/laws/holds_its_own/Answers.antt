use Rattle.replica_laws.proofs.Leaving.{holds_own}
use Rattle.replica_laws.proofs.laws.holds_its_own.Goals as goal

pub returns : goal.returns
returns g c = λ secret id view period events. holds_own g.S.Service.meaning secret id view period events
