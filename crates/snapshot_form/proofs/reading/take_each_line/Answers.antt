use Rattle.std.proofs.lemmas.Result.{err_from_is_err_and}
use Rattle.smart_base.specs.Cuts.{times_at}
use Rattle.smart_base.specs.Laws.{goes_on, ends, is_done}
use Rattle.snapshot_form.specs.Snapshots.{line_at}
use Rattle.snapshot_form.proofs.reading.take_each_line.Goals as goal

pub returns-in_err-line : goal.returns-in_err-line
returns-in_err-line c =
    let p = err_from_is_err_and c.from_residual.result c.from_residual.ensures.1 in
    rw (p.1, p.2)
    (ends c.in_err-line.field-0.0 line_at c.loop-turn.list c.args.count c.loop-turn.turn c.loop-turn.cut (times_at line_at c.args.count c.args.cut.now)
    c.loop-turn-test.true c.in_err-line.ensures c.loop-turn.invariant)

pub loop-turn-preserved : goal.loop-turn-preserved
loop-turn-preserved c =
    rw c.in_ok-push.ensures.ok
    (goes_on line_at c.loop-turn.list c.args.count c.loop-turn.turn c.loop-turn.cut c.in_ok-line.line c.take_line.new.cut (times_at line_at c.args.count c.args.cut.now)
    c.loop-turn-test.true c.in_ok-line.ensures c.loop-turn.invariant)

pub returns : goal.returns
returns c =
    is_done line_at c.loop-turn.list c.args.count c.loop-turn.turn c.loop-turn.cut (times_at line_at c.args.count c.args.cut.now) c.loop-turn-test.false
    c.loop-turn.invariant
