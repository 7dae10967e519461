use Rattle.agreement_laws.proofs.Growing.{Witnessed-begun, Witnessed-stated, Witnessed-diary, Witnessed-faulty}
use Rattle.agreement_laws.proofs.growth.what_is_witnessed_stays_so.Goals as goal

pub returns-clause-begun : goal.returns-clause-begun
returns-clause-begun c = Witnessed-begun

pub returns-clause-stated : goal.returns-clause-stated
returns-clause-stated c = Witnessed-stated

pub returns-clause-grown : goal.returns-clause-grown
returns-clause-grown c = Witnessed-diary

pub returns-clause-faulty : goal.returns-clause-faulty
returns-clause-faulty c = λ secret digest_of view faulty more diary stated. Witnessed-faulty secret digest_of view faulty diary more stated
