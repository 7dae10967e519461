use Rattle.std.proofs.Common.{sym, subst}
use Rattle.node_restart.specs.Restarts.{Restart, IsInTurn}
use Rattle.node_restart.proofs.Turns.{replayed_after}
use Rattle.node_restart.proofs.restart.Restart.push.Goals as goal

pub invariant_of-result : goal.invariant_of-result
invariant_of-result g c =
    replayed_after c.self.inside.past c.self.inside.replica.replica c.replay.new.replica.replica c.self.inside.replica.spent c.replay.new.replica.spent c.self.inside.book c.push.new.self c.args.entry c.self.invariant
    c.in_ok-replay.ensures.spent c.replay.ensures.place c.in_ok-push.ensures.ok
    (subst (λ (r : Restart g.row.S.Denot). IsInTurn r.past r.replica.place c.args.entry) (sym c.self.view_is) c.requires)
