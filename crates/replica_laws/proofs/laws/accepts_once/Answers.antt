use Rattle.std.proofs.Common.{arith}
use Rattle.node_rules.specs.Steps.{opened}
use Rattle.replica_laws.proofs.Once.{once_after}
use Rattle.replica_laws.proofs.laws.accepts_once.Goals as goal

pub returns : goal.returns
returns g c = λ o events. once_after g.S.Service.meaning (opened o) events (λ slot. omega arith)
