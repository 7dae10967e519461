use Rattle.std.proofs.lemmas.Result.{err_from_is_err_and}
use Rattle.smart_base.specs.Cuts.{times_at}
use Rattle.smart_base.specs.Laws.{goes_on, ends, is_done}
use Rattle.store_form.specs.Reading.{entry_at}
use Rattle.store_form.proofs.group.take_entries.Goals as goal

pub returns-in_err-entry : goal.returns-in_err-entry
returns-in_err-entry c =
    let p = err_from_is_err_and c.from_residual.result c.from_residual.ensures.1 in
    rw (p.1, p.2)
    (ends c.in_err-entry.field-0.0 entry_at c.loop-turn.list c.args.count c.loop-turn.turn c.loop-turn.cut (times_at entry_at c.args.count c.args.cut.now)
    c.loop-turn-test.true c.in_err-entry.ensures.exact c.loop-turn.invariant)

pub loop-turn-preserved : goal.loop-turn-preserved
loop-turn-preserved c =
    rw c.in_ok-push.ensures.ok
    (goes_on entry_at c.loop-turn.list c.args.count c.loop-turn.turn c.loop-turn.cut c.in_ok-entry.entry c.take_entry.new.cut (times_at entry_at c.args.count c.args.cut.now)
    c.loop-turn-test.true c.in_ok-entry.ensures.exact c.loop-turn.invariant)

pub returns : goal.returns
returns c =
    is_done entry_at c.loop-turn.list c.args.count c.loop-turn.turn c.loop-turn.cut (times_at entry_at c.args.count c.args.cut.now) c.loop-turn-test.false
    c.loop-turn.invariant
