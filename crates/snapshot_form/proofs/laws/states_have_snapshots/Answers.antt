use Rattle.std.proofs.Common.{arith}
use Rattle.replica_rules.specs.Replicas.{empty}
use Rattle.snapshot_form.proofs.Executed.{fits_empty, fits_delivered, fits_after}
use Rattle.snapshot_form.proofs.laws.states_have_snapshots.Goals as goal

pub returns : goal.returns
returns g c = record {
  first = λ view is begins. fits_empty g.S.Service.meaning g.S.Service.valid view g.met.S.Service.valid_first is begins;
  delivered = fits_delivered g.S.Service.meaning g.S.Service.valid g.met.S.Service.valid_next g.met.S.Service.brief;
  state = λ view list is begins few of.
      fits_after g.S.Service.meaning g.S.Service.valid g.met.S.Service.valid_next g.met.S.Service.brief (empty g.S.Service.meaning view) list
      (fits_empty g.S.Service.meaning g.S.Service.valid view g.met.S.Service.valid_first is begins) (omega (arith, few)) of;
}
