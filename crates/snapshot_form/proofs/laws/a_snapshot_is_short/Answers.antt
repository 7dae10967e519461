use Rattle.snapshot_form.proofs.Lengths.{short_snapshot}
use Rattle.snapshot_form.proofs.laws.a_snapshot_is_short.Goals as goal

pub returns : goal.returns
returns g c = short_snapshot g.S.Service.meaning g.S.Service.valid g.met.S.Service.small
