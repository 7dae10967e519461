use Rattle.agreement_laws.proofs.Groups.{quorums_share}
use Rattle.agreement_laws.proofs.quorums.a_quorum_has_a_correct_member.Goals as goal

pub returns : goal.returns
returns c = λ p faulty view few enough. let met = quorums_share p p faulty view few enough enough in (met.member, met.is, met.left)
