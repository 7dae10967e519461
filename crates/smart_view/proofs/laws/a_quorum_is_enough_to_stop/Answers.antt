use Rattle.std.proofs.Common.{arith}
use Rattle.smart_base.proofs.ViewFacts.{quorum-honest}
use Rattle.smart_view.proofs.laws.a_quorum_is_enough_to_stop.Goals as goal

pub returns-clause-many : goal.returns-clause-many
returns-clause-many c = quorum-honest

pub returns-clause-honest : goal.returns-clause-honest
returns-clause-honest c = λ v is. omega arith
