use Rattle.std.proofs.Common.{rules}
use Rattle.delivery.proofs.Moves.{lines_step, state_step}
use Rattle.delivery.proofs.execute.execute_each.Goals as goal

pub returns-in_err-note-clause-moved : goal.returns-in_err-note-clause-moved
returns-in_err-note-clause-moved g c = c.note.ensures.moved c.args.replica.now.views c.loop-i.replica.views c.execute.new.replica.views c.loop-i.invariant.moved c.in_ok-done.ensures.moved

pub loop-i-preserved : goal.loop-i-preserved
loop-i-preserved g c = record {
  state =
      state_step g.S.Service.meaning c.loop-i.replica c.execute.new.replica c.as_slice-request-items.result.now c.args.batch.now c.loop-i.i c.request-item.result c.statement.result.now _ c.as_slice-request-items.ensures.value c.loop-i-test.true c.request-item.is c.statement.ensures c.in_ok-done.ensures.state
      c.loop-i.invariant.state;
  place = search rules;
  valid = search rules;
  lines =
      lines_step g.S.Service.meaning c.loop-i.replica c.execute.new.replica c.as_slice-request-items.result.now c.args.batch.now c.loop-i.i c.request-item.result c.statement.result.now c.in_ok-done.done c.loop-i.lines c.note.new.lines _ c.as_slice-request-items.ensures.value c.loop-i-test.true c.request-item.is
      c.statement.ensures c.in_ok-done.ensures.state c.in_ok-note.ensures.lines c.in_ok-done.ensures.line c.loop-i.invariant.lines;
  moved = c.note.ensures.moved c.args.replica.now.views c.loop-i.replica.views c.execute.new.replica.views c.loop-i.invariant.moved c.in_ok-done.ensures.moved;
}
