use Rattle.std.proofs.Common.{refl}
use Rattle.node_state.proofs.Broken.{on_err}
use Rattle.node_replica.proofs.Marking.{mark_none, mark_made}
use Rattle.node_replica.proofs.marks.mark_now.Goals as goal

pub returns-in_err-snapshot-clause-err : goal.returns-in_err-snapshot-clause-err
returns-in_err-snapshot-clause-err g c = on_err _ (mark_none g.S.Service.meaning c.args.node.now c.args.node.now.entries refl)

pub returns-in_err-push-clause-err : goal.returns-in_err-push-clause-err
returns-in_err-push-clause-err g c = on_err _ (mark_made g.S.Service.meaning c.args.node.now c.mark_place.new.node c.in_ok-mark_place.ensures.node)
