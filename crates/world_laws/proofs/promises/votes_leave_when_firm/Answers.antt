use Rattle.replica_laws.proofs.Small.{brief_where}
use Rattle.world_laws.proofs.Snapshots.{restorable_where}
use Rattle.replica_laws.proofs.Leaving.{leaves_firm}
use Rattle.world_laws.proofs.Borne.{firm-first, firm-given}
use Rattle.world_laws.proofs.promises.votes_leave_when_firm.Goals as goal

pub returns : goal.returns
returns g c =
    let brief = brief_where g.S.Service.meaning g.S.Service.valid g.met.S.Service.valid_first g.met.S.Service.valid_next g.met.S.Service.valid_restored g.met.S.Service.brief g.met.S.Service.small g.met.S.Service.restores g.met.S.Service.spelled in
    let service = restorable_where g.S.Service.meaning g.S.Service.valid g.met.S.Service.valid_first g.met.S.Service.valid_next g.met.S.Service.brief g.met.S.Service.restores g.met.S.Service.small g.met.S.Service.valid_restored g.met.S.Service.spelled in
    record {
      node = λ secret id view period events. leaves_firm g.S.Service.meaning secret id view period events;
      first = λ header ls members nodes i k is. firm-first g.S.Service.meaning brief service header is ls members nodes i k;
      given = λ header ls members turn bytes tos i k is. firm-given g.S.Service.meaning brief service header is ls members turn bytes tos i k;
    }
