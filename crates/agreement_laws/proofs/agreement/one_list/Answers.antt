use Rattle.agreement_laws.proofs.OneList.{one_list}
use Rattle.agreement_laws.proofs.agreement.one_list.Goals as goal

pub returns : goal.returns
returns c = one_list
