use Rattle.store_laws.proofs.Aims.{firm_rises}
use Rattle.store_laws.proofs.laws.what_is_firm_stays_firm.Goals as goal

pub returns-clause-rises : goal.returns-clause-rises
returns-clause-rises c = λ stops tail s few. (firm_rises stops tail s few).0

pub returns-clause-few : goal.returns-clause-few
returns-clause-few c = λ stops tail s few. (firm_rises stops tail s few).1
