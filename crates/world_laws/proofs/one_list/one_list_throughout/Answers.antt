use Rattle.replica_laws.proofs.Small.{brief_where}
use Rattle.world_laws.proofs.Snapshots.{restorable_where}
use Rattle.world_laws.proofs.OneListLaw.{one_list-throughout}
use Rattle.world_laws.proofs.one_list.one_list_throughout.Goals as goal

pub returns : goal.returns
returns g c =
    let brief = brief_where g.S.Service.meaning g.S.Service.valid g.met.S.Service.valid_first g.met.S.Service.valid_next g.met.S.Service.valid_restored g.met.S.Service.brief g.met.S.Service.small g.met.S.Service.restores g.met.S.Service.spelled in
    let service = restorable_where g.S.Service.meaning g.S.Service.valid g.met.S.Service.valid_first g.met.S.Service.valid_next g.met.S.Service.brief g.met.S.Service.restores g.met.S.Service.small g.met.S.Service.valid_restored g.met.S.Service.spelled in
    λ header ls is. one_list-throughout g.S.Service.meaning brief service header is ls
