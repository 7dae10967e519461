use Rattle.std.proofs.Common.{ap}
use Rattle.smart_service.specs.declared.replica.Replica.{Replica}
use Rattle.node_restart.proofs.Turns.{begun_replayed}
use Rattle.node_restart.proofs.restart.Restart.begin.Goals as goal

pub invariant_of-result : goal.invariant_of-result
invariant_of-result g c =
    begun_replayed c.replica.result.now.place c.args.replica.replica c.args.replica.spent c.begin.result
    (ap (λ (r : Replica g.row.S.Denot). r.place) c.replica.ensures) c.requires c.begin.ensures
