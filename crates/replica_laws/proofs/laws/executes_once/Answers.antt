use Rattle.replica_laws.proofs.OnePlace.{once-executions, order-executions}
use Rattle.replica_laws.proofs.laws.executes_once.Goals as goal

pub returns : goal.returns
returns g c = record {
  one = λ view list a b ha hb client seq. once-executions g.S.Service.meaning view list a b ha hb client seq;
  ordered = λ view list. order-executions g.S.Service.meaning view list;
}
