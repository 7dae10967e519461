use Rattle.node_rules.specs.Steps.{opened}
use Rattle.replica_laws.proofs.Ordered.{ordered_after, ordered-opened}
use Rattle.replica_laws.proofs.laws.delivers_in_order.Goals as goal

pub returns : goal.returns
returns g c = λ o events. (ordered_after g.S.Service.meaning o.replica (opened o) events (ordered-opened g.S.Service.meaning o)).order
