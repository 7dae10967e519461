use Rattle.replica_laws.proofs.FitNodes.{holds_genuine}
use Rattle.replica_laws.proofs.Small.{brief_where}
use Rattle.replica_laws.proofs.laws.what_is_held_is_read.Goals as goal

pub returns : goal.returns
returns g c =
    let brief = brief_where g.S.Service.meaning g.S.Service.valid g.met.S.Service.valid_first g.met.S.Service.valid_next g.met.S.Service.valid_restored g.met.S.Service.brief g.met.S.Service.small g.met.S.Service.restores g.met.S.Service.spelled in
    λ secret id view period events named viewed each. holds_genuine g.S.Service.meaning brief secret id view period events named viewed each
