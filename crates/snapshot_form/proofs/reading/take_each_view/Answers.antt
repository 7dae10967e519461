use Rattle.std.proofs.lemmas.Result.{err_from_is_err_and}
use Rattle.smart_base.specs.Cuts.{times_at}
use Rattle.smart_base.specs.Laws.{goes_on, ends, is_done}
use Rattle.smart_base.specs.ViewBytes.{view_at}
use Rattle.snapshot_form.proofs.reading.take_each_view.Goals as goal

pub returns-in_err-view : goal.returns-in_err-view
returns-in_err-view c =
    let p = err_from_is_err_and c.from_residual.result c.from_residual.ensures.1 in
    rw (p.1, p.2)
    (ends c.in_err-view.field-0.0 view_at c.loop-turn.list c.args.count c.loop-turn.turn c.loop-turn.cut (times_at view_at c.args.count c.args.cut.now)
    c.loop-turn-test.true c.in_err-view.ensures.exact c.loop-turn.invariant)

pub loop-turn-preserved : goal.loop-turn-preserved
loop-turn-preserved c =
    rw c.in_ok-push.ensures.ok
    (goes_on view_at c.loop-turn.list c.args.count c.loop-turn.turn c.loop-turn.cut c.in_ok-view.view c.read_view.new.cut (times_at view_at c.args.count c.args.cut.now)
    c.loop-turn-test.true c.in_ok-view.ensures.exact c.loop-turn.invariant)

pub returns : goal.returns
returns c =
    is_done view_at c.loop-turn.list c.args.count c.loop-turn.turn c.loop-turn.cut (times_at view_at c.args.count c.args.cut.now) c.loop-turn-test.false
    c.loop-turn.invariant
