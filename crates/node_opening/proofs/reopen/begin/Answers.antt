use Rattle.std.proofs.Common.{refl}
use Rattle.node_opening.proofs.Resuming.{new_follows}
use Rattle.node_opening.proofs.reopen.begin.Goals as goal

pub invariant_of-result : goal.invariant_of-result
invariant_of-result g c =
    new_follows g.S.Service.meaning c.args.id c.new.result.member c.args.view c.in_ok-duplicate.field-0 c.in_ok-duplicate-2.field-0 (record { member = c.args.id; period = c.args.period; view = c.in_ok-duplicate-3.field-0 }) c.in_ok-replica.replica.replica c.push.new.self.entries c.begin-instance.result c.begin-synchronizer.result
    (rw (c.new.ensures) refl)
    c.in_ok-duplicate.ensures
    c.in_ok-duplicate-2.ensures
    (rw (c.in_ok-replica.ensures) refl)
    (rw (c.in_ok-push.ensures.ok, c.end_restored.ensures, c.begin-book.ensures) refl)
    c.begin-instance.ensures
    c.begin-synchronizer.ensures
