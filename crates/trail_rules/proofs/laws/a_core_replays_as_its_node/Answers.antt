use Rattle.trail_rules.proofs.Grows.{replay-stands, released-stands, released-back}
use Rattle.trail_rules.proofs.laws.a_core_replays_as_its_node.Goals as goal

pub returns-clause-replay : goal.returns-clause-replay
returns-clause-replay g c = replay-stands g.S.Service.meaning

pub returns-clause-released : goal.returns-clause-released
returns-clause-released g c = released-stands g.S.Service.meaning

pub returns-clause-back : goal.returns-clause-back
returns-clause-back g c = released-back g.S.Service.meaning
