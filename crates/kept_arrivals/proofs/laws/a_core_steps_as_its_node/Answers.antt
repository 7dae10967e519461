use Rattle.kept_arrivals.proofs.Steps.{core_step_stands}
use Rattle.kept_arrivals.proofs.laws.a_core_steps_as_its_node.Goals as goal

pub returns : goal.returns
returns g c = λ core n event stands. core_step_stands g.S.Service.meaning core n event stands
