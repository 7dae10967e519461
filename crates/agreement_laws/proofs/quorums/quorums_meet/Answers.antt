use Rattle.agreement_laws.proofs.Groups.{quorums_share, collect_share}
use Rattle.agreement_laws.proofs.quorums.quorums_meet.Goals as goal

pub returns-clause-quorums : goal.returns-clause-quorums
returns-clause-quorums c = λ p q faulty view few left right. let met = quorums_share p q faulty view few left right in (met.member, met.is, met.left, met.right)

pub returns-clause-collect : goal.returns-clause-collect
returns-clause-collect c = λ p q faulty view few left right. let met = collect_share p q faulty view few left right in (met.member, met.is, met.left, met.right)
