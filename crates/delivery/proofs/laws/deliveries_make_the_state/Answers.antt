use Rattle.std.proofs.Common.{refl}
use Rattle.delivery.proofs.Deliveries.{state-end}
use Rattle.delivery.proofs.laws.deliveries_make_the_state.Goals as goal
use Rattle.replica_rules.proofs.Places.{state_place}

pub returns : goal.returns
returns g c = record {
  first = λ view. refl;
  next = λ view list batch. state-end g.S.Service.meaning view list batch;
  place = λ view list. state_place g.S.Service.meaning view list;
}
