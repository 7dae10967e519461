use Rattle.replica_laws.proofs.Alone.{alone_opened, alone_reopened}
use Rattle.replica_laws.proofs.Resumed.{tells_opened, tells_reopened}
use Rattle.replica_laws.proofs.laws.replies_tell_executions.Goals as goal

pub returns : goal.returns
returns g c = record {
  opened = λ o events. tells_opened g.S.Service.meaning o events;
  reopened = λ o entries events. tells_reopened g.S.Service.meaning o entries events;
  alone_opened = λ secret id view period events none. alone_opened g.S.Service.meaning secret id view period events none;
  alone_reopened = λ secret id view period entries events none. alone_reopened g.S.Service.meaning secret id view period entries events none;
}
