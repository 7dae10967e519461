use Rattle.smart_service.proofs.Coming.{comes_valid}
use Rattle.replica_rules.proofs.Coming.{valid_delivered, valid_state}
use Rattle.delivery.proofs.laws.states_are_valid.Goals as goal

pub returns : goal.returns
returns g c = record {
  delivered = λ r batch is. valid_delivered g.S.Service.meaning g.S.Service.valid g.met.S.Service.valid_next r batch is;
  state = λ view list. valid_state g.S.Service.meaning g.S.Service.valid g.met.S.Service.valid_next view list g.met.S.Service.valid_first;
  comes = λ s is. comes_valid g.S.Service.meaning g.S.Service.valid g.met.S.Service.valid_first g.met.S.Service.valid_next g.met.S.Service.valid_restored s is;
}
