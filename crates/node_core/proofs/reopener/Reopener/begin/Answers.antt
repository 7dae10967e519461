use Rattle.std.proofs.Common.{refl, ap, None, Some}
use Rattle.smart_service.specs.declared.replica.Replica.{Replica}
use Rattle.node_core.proofs.Reopeners.{after_none, at_place, none_sound}
use Rattle.node_core.proofs.reopener.Reopener.begin.Goals as goal

pub returns-clause-begun : goal.returns-clause-begun
returns-clause-begun g c =
    after_none g.S.Service.meaning c.args.ring c.args.id c.args.view c.args.period _ c.in_ok-replica.replica.replica c.in_ok-checkpoint.checkpoint
    (record { member = c.args.id; secret = c.in_ok-ring.ring; period = c.args.period; checkpoint = c.in_ok-checkpoint.checkpoint; restart = Some c.begin.result; damage = None }) c.in_ok-replica.ensures.replica
    (at_place _ c.in_ok-replica.replica.replica.place _ c.in_ok-checkpoint.checkpoint c.in_ok-checkpoint.ensures (ap (λ (r : Replica g.row.S.Denot). r.place) c.replica-2.ensures))
    (rw (c.begin.ensures, c.in_ok-ring.ensures) refl)

pub invariant_of-result : goal.invariant_of-result
invariant_of-result g c = none_sound _ c.in_ok-replica.replica.replica c.begin.result c.begin.ensures
