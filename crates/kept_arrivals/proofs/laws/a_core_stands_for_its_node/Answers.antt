use Rattle.node_rules.specs.Steps.{opened}
use Rattle.kept_arrivals.proofs.Steps.{after_stands, opened_stands}
use Rattle.kept_arrivals.proofs.laws.a_core_stands_for_its_node.Goals as goal

pub returns : goal.returns
returns g c = λ o events. after_stands g.S.Service.meaning (opened o) (opened o) events (opened_stands o)
