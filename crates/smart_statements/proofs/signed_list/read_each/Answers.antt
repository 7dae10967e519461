use Rattle.std.proofs.Common.{[], ◌∷◌, length, ap, length-append, arith}
use Rattle.std.proofs.lemmas.Result.{err_from_is_err_and}
use Rattle.smart_base.specs.Cuts.{times_at}
use Rattle.smart_base.specs.Laws.{goes_on, ends, is_done}
use Rattle.smart_statements.specs.Reading.{signed_at}
use Rattle.smart_statements.proofs.signed_list.read_each.Goals as goal

pub returns-in_err-item-clause-list : goal.returns-in_err-item-clause-list
returns-in_err-item-clause-list g c =
    let p = err_from_is_err_and c.from_residual.result c.from_residual.ensures.1 in
    rw (p.1, p.2)
    (ends c.in_err-item.field-0.0 (signed_at (g.W.Selection.form c.args.which.now)) c.loop-turn.list c.args.count c.loop-turn.turn c.loop-turn.cut
    (times_at (signed_at (g.W.Selection.form c.args.which.now)) c.args.count c.args.cut.now) c.loop-turn-test.true c.in_err-item.ensures.exact c.loop-turn.invariant.0)

pub loop-turn-preserved : goal.loop-turn-preserved
loop-turn-preserved g c = (
  rw c.in_ok-push.ensures.ok
      (goes_on (signed_at (g.W.Selection.form c.args.which.now)) c.loop-turn.list c.args.count c.loop-turn.turn c.loop-turn.cut c.in_ok-item.item c.read_selected.new.cut
      (times_at (signed_at (g.W.Selection.form c.args.which.now)) c.args.count c.args.cut.now) c.loop-turn-test.true c.in_ok-item.ensures.exact c.loop-turn.invariant.0),
  omega (arith, ap length c.in_ok-push.ensures.ok, length-append c.loop-turn.list (c.in_ok-item.item ∷ []), c.loop-turn.invariant.1),
)

pub returns-clause-list : goal.returns-clause-list
returns-clause-list g c =
    is_done (signed_at (g.W.Selection.form c.args.which.now)) c.loop-turn.list c.args.count c.loop-turn.turn c.loop-turn.cut
    (times_at (signed_at (g.W.Selection.form c.args.which.now)) c.args.count c.args.cut.now) c.loop-turn-test.false c.loop-turn.invariant.0
