use Rattle.replica_laws.proofs.Small.{brief_where}
use Rattle.replica_laws.proofs.FitBooks.{all_spelled}
use Rattle.replica_laws.proofs.laws.what_is_recorded_has_a_spelling.Goals as goal

pub returns : goal.returns
returns g c =
    let brief = brief_where g.S.Service.meaning g.S.Service.valid g.met.S.Service.valid_first g.met.S.Service.valid_next g.met.S.Service.valid_restored g.met.S.Service.brief g.met.S.Service.small g.met.S.Service.restores g.met.S.Service.spelled in
    λ secret id view period events named viewed low each. all_spelled g.S.Service.meaning brief secret id view period events named viewed low each
