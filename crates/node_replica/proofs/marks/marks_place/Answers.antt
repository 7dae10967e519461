use Rattle.std.proofs.Common.{sym, ◌∙◌}
use Rattle.node_state.proofs.Broken.{on_err}
use Rattle.node_replica.proofs.Marking.{due_part}
use Rattle.node_replica.proofs.marks.marks_place.Goals as goal

pub returns-in_err-mark_now-clause-err : goal.returns-in_err-mark_now-clause-err
returns-in_err-mark_now-clause-err g c =
    on_err _ (due_part g.S.Service.meaning c.args.node.now c.mark_now.new.node.entries c.args.delivered (sym c.marking.ensures ∙ c.if-marking.true) c.in_err-mark_now.ensures.err)
