use Rattle.snapshot_form.proofs.Spelled.{read_again, read_is, is_apart}
use Rattle.snapshot_form.proofs.laws.a_replica_has_one_spelling.Goals as goal

pub returns : goal.returns
returns g c = record {
  read = read_again g.S.Service.meaning g.S.Service.valid g.met.S.Service.restores g.met.S.Service.small g.met.S.Service.valid_restored g.met.S.Service.spelled;
  alone = read_is g.S.Service.meaning g.S.Service.valid g.met.S.Service.restores g.met.S.Service.small g.met.S.Service.valid_restored g.met.S.Service.spelled;
  apart = is_apart g.S.Service.meaning g.S.Service.valid g.met.S.Service.restores g.met.S.Service.small g.met.S.Service.valid_restored g.met.S.Service.spelled;
}
