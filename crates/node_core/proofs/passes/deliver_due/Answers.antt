use Rattle.node_state.proofs.Broken.{on_err, partly_none}
use Rattle.node_state.proofs.Stopped.{deliver_grows}
use Rattle.node_replica.proofs.Marking.{row_part, row_marked}
use Rattle.node_core.proofs.passes.deliver_due.Goals as goal

pub returns-in_ok-marks_place-in-Delivering-clause-row : goal.returns-in_ok-marks_place-in-Delivering-clause-row
returns-in_ok-marks_place-in-Delivering-clause-row g c =
    row_marked g.S.Service.meaning c.args.node.now c.delivers.new.node c.marks_place.new.node c.args.cause.now c.args.fired.now c.delivers.new.fired c.marks_place.new.fired c.batch_waits-delivered.result
    c.in-Delivering.is c.batch_waits-delivered.ensures c.in_ok-delivers-in-Delivering.ensures.node c.in_ok-delivers-in-Delivering.ensures.fired c.in_ok-marks_place-in-Delivering.ensures.node
    c.in_ok-marks_place-in-Delivering.ensures.fired

pub returns-in_err-delivers-in-Delivering-clause-err : goal.returns-in_err-delivers-in-Delivering-clause-err
returns-in_err-delivers-in-Delivering-clause-err g c =
    on_err _ (partly_none c.args.node.now.entries c.delivers.new.node.entries _ c.in_err-delivers-in-Delivering.ensures.err
    (deliver_grows g.S.Service.meaning c.args.node.now c.args.cause.now c.args.fired.now))

pub returns-in_err-marks_place-in-Delivering-clause-err : goal.returns-in_err-marks_place-in-Delivering-clause-err
returns-in_err-marks_place-in-Delivering-clause-err g c =
    on_err _ (row_part g.S.Service.meaning c.args.node.now c.delivers.new.node c.marks_place.new.node.entries c.args.cause.now c.args.fired.now c.batch_waits-delivered.result c.in-Delivering.is
    c.in_ok-delivers-in-Delivering.ensures.node c.batch_waits-delivered.ensures c.in_err-marks_place-in-Delivering.ensures.err)
