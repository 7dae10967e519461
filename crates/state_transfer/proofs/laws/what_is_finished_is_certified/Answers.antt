use Rattle.snapshot_form.proofs.Spelled.{read_is}
use Rattle.state_transfer.proofs.Joined.{is_finished}
use Rattle.state_transfer.proofs.laws.what_is_finished_is_certified.Goals as goal

pub returns : goal.returns
returns g c =
    is_finished g.S.Service.valid g.S.Service.meaning
    (read_is g.S.Service.meaning g.S.Service.valid g.met.S.Service.restores g.met.S.Service.small g.met.S.Service.valid_restored g.met.S.Service.spelled)
