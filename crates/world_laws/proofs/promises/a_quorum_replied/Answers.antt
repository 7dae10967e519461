use Rattle.replica_laws.proofs.Small.{brief_where}
use Rattle.world_laws.proofs.Snapshots.{restorable_where}
use Rattle.world_laws.proofs.Given.{quorum_given}
use Rattle.world_laws.proofs.Replied.{quorums_replied}
use Rattle.world_laws.proofs.promises.a_quorum_replied.Goals as goal

pub returns : goal.returns
returns g c =
    let brief = brief_where g.S.Service.meaning g.S.Service.valid g.met.S.Service.valid_first g.met.S.Service.valid_next g.met.S.Service.valid_restored g.met.S.Service.brief g.met.S.Service.small g.met.S.Service.restores g.met.S.Service.spelled in
    let service = restorable_where g.S.Service.meaning g.S.Service.valid g.met.S.Service.valid_first g.met.S.Service.valid_next g.met.S.Service.brief g.met.S.Service.restores g.met.S.Service.small g.met.S.Service.valid_restored g.met.S.Service.spelled in
    record {
      client = λ c q ws a accepted is. quorum_given c q ws a accepted is;
      world = λ header ls is_view. quorums_replied g.S.Service.meaning brief service header ls is_view;
    }
