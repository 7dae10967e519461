use Rattle.std.proofs.Common.{refl}
use Rattle.delivery.proofs.Deliveries.{executions-end}
use Rattle.delivery.proofs.laws.lines_are_the_executions.Goals as goal

pub returns : goal.returns
returns g c = record {
  first = λ view. refl;
  next = λ view list batch. executions-end g.S.Service.meaning view list batch;
}
