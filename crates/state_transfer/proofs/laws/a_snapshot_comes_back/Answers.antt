use Rattle.snapshot_form.proofs.Spelled.{read_again}
use Rattle.state_transfer.proofs.Joined.{comes_back}
use Rattle.state_transfer.proofs.laws.a_snapshot_comes_back.Goals as goal

pub returns : goal.returns
returns g c =
    comes_back g.S.Service.valid g.S.Service.meaning
    (read_again g.S.Service.meaning g.S.Service.valid g.met.S.Service.restores g.met.S.Service.small g.met.S.Service.valid_restored g.met.S.Service.spelled)
