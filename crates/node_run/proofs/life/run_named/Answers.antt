use Rattle.std.proofs.Common.{◌∙◌, refl, sym, subst, arith}
use Rattle.node_run.specs.Lives.{Life}
use Rattle.node_run.specs.Rounds.{LifeFrom}
use Rattle.node_run.proofs.Beginning.{headless, seatless}
use Rattle.node_run.proofs.Refused.{none-fell, trail-failed}
use Rattle.node_run.proofs.life.run_named.Goals as goal

-- ---- the head of the trail was not written

pub returns-in-Err-clause-ended : goal.returns-in-Err-clause-ended
returns-in-Err-clause-ended g c =
    let life : Life g.row.S.Denot =
    record {
      meaning = g.S.Service.meaning;
      opening = c.args.core.node;
      head = c.args.head.now;
      entries = c.args.entries.now;
      left_before = g.I.Source.left c.args.input.now;
      left_after = g.I.Source.left c.args.input.now;
      written_before = g.W.Sink.written c.args.output.now;
      written_after = g.W.Sink.written c.args.output.now;
      told_before = g.O.Sink.written c.args.sink;
      told_after = g.O.Sink.written c.write_head.new.sink;
      firm = c.args.store.plan.firm;
    } in
    subst (LifeFrom g.D.Disk.told g.D.Disk.remembers g.D.Disk.cells g.D.Disk.moment g.D.Disk.left_since life c.args.store.plan.restored c.args.store c.args.store) (sym c.trail_status.ensures)
    (headless g.D.Disk.told g.D.Disk.remembers g.D.Disk.cells g.D.Disk.moment g.D.Disk.left_since life c.args.store.plan.restored c.args.store (omega (arith, c.requires.opened.firm)) refl refl (omega (arith, c.requires.core.1.firm, c.requires.opened.firm)) c.in-Err.fault c.in-Err.ensures.err)

pub returns-in-Err-clause-trail : goal.returns-in-Err-clause-trail
returns-in-Err-clause-trail g c e = trail-failed _ _ c.in-Err.fault c.in-Err.ensures.cause (sym c.trail_status.ensures ∙ e)

pub returns-in-Err-clause-later : goal.returns-in-Err-clause-later
returns-in-Err-clause-later g c = none-fell g.D.Disk.faults c.args.store.disks c.args.store.disks refl

-- ---- the seat

pub seated-requires-clause-core : goal.seated-requires-clause-core
seated-requires-clause-core g c = (sym c.requires.opening.0, c.requires.core.0)

pub seated-requires-clause-counts : goal.seated-requires-clause-counts
seated-requires-clause-counts g c = rw c.requires.lane.1 c.requires.core.1

pub seated-requires-clause-lane : goal.seated-requires-clause-lane
seated-requires-clause-lane g c = (sym c.requires.lane.0, (c.requires.fresh.none_put, c.requires.fresh.room))

pub seated-requires-clause-links : goal.seated-requires-clause-links
seated-requires-clause-links g c =
    ((sym c.requires.fresh.arriving ∙ sym c.requires.links.0, c.requires.fresh.none_heard), (sym c.requires.links.1, c.requires.fresh.none_left))

pub seated-requires-clause-sink : goal.seated-requires-clause-sink
seated-requires-clause-sink g c = rw (c.requires.begun.0, c.requires.opening.1.0, c.requires.opening.1.1) c.in_default.ensures.ok

pub seated-requires-clause-later : goal.seated-requires-clause-later
seated-requires-clause-later g c = omega (arith, c.requires.begun.1, c.in_default.ensures.cause.later)

-- ---- the worker

pub new-worker-requires-clause-lane : goal.new-worker-requires-clause-lane
new-worker-requires-clause-lane g c = (sym c.requires.fresh.lane ∙ sym c.requires.lane.0, (c.requires.fresh.none_taken, c.requires.fresh.none_raised))

pub new-worker-requires-clause-restored : goal.new-worker-requires-clause-restored
new-worker-requires-clause-restored g c = (sym c.requires.lane.1, (c.requires.opened.few, omega (arith, c.requires.opened.firm)))

pub new-worker-requires-clause-rests : goal.new-worker-requires-clause-rests
new-worker-requires-clause-rests g c = (c.requires.opened.idle, (c.requires.opened.unasked, c.requires.opened.is_open))

pub new-worker-requires-clause-none : goal.new-worker-requires-clause-none
new-worker-requires-clause-none g c = c.requires.opened.none

-- ---- the life

pub run_seated-requires-clause-arriving : goal.run_seated-requires-clause-arriving
run_seated-requires-clause-arriving g c = λ _ _. (sym c.requires.links.0, c.requires.fresh.none_came)

pub run_seated-requires-clause-leaving : goal.run_seated-requires-clause-leaving
run_seated-requires-clause-leaving g c = λ _ _. (sym c.requires.fresh.leaving ∙ sym c.requires.links.1, c.requires.fresh.none_wrote)

pub run_seated-requires-clause-taken : goal.run_seated-requires-clause-taken
run_seated-requires-clause-taken g c = λ _ _. rw c.new-worker.ensures.lane c.requires.fresh.none_taken

pub run_seated-requires-clause-sound : goal.run_seated-requires-clause-sound
run_seated-requires-clause-sound g c = λ _ _. c.new-worker.ensures.stands c.requires.opened.stands

pub returns-in-Ok-clause-ended : goal.returns-in-Ok-clause-ended
returns-in-Ok-clause-ended g c =
    let ended = rw (c.requires.opening.0, c.requires.opening.1.0, c.requires.opening.1.1, c.requires.begun.0, c.requires.lane.1) at c.run_seated.ensures.ended in
    let worker = c.new-worker.ensures in
    record {
      end = ended.0;
      begun = c.new-worker.result.store;
      as_opened = record {
        disks = worker.disks;
        firm = worker.store.0;
        generation = worker.store.1;
        waiting = worker.waiting.0;
        state = worker.waiting.1;
        plan = worker.told;
      };
      left_by = ended.1;
    }

pub returns-in-Ok-clause-trail : goal.returns-in-Ok-clause-trail
returns-in-Ok-clause-trail g c = rw c.requires.begun.1 at c.run_seated.ensures.trail

pub returns-in-Ok-clause-disk : goal.returns-in-Ok-clause-disk
returns-in-Ok-clause-disk g c = rw c.new-worker.ensures.disks at c.run_seated.ensures.disk

pub returns-in-Ok-clause-later : goal.returns-in-Ok-clause-later
returns-in-Ok-clause-later g c = rw c.new-worker.ensures.disks at c.run_seated.ensures.later

-- ---- no memory for the seat

pub returns-in-Err-seated-clause-ended : goal.returns-in-Err-seated-clause-ended
returns-in-Err-seated-clause-ended g c =
    let life : Life g.row.S.Denot =
    record {
      meaning = g.S.Service.meaning;
      opening = c.args.core.node;
      head = c.args.head.now;
      entries = c.args.entries.now;
      left_before = g.I.Source.left c.args.input.now;
      left_after = g.I.Source.left c.args.input.now;
      written_before = g.W.Sink.written c.args.output.now;
      written_after = g.W.Sink.written c.args.output.now;
      told_before = g.O.Sink.written c.args.sink;
      told_after = g.O.Sink.written c.in-Err-seated.sink;
      firm = c.args.store.plan.firm;
    } in
    seatless g.D.Disk.told g.D.Disk.remembers g.D.Disk.cells g.D.Disk.moment g.D.Disk.left_since life c.args.store.plan.restored c.args.store (omega (arith, c.requires.opened.firm)) refl refl (omega (arith, c.requires.core.1.firm, c.requires.opened.firm)) (rw (← c.in-Err-seated.ensures.back) at c.in_default.ensures.ok)

pub returns-in-Err-seated-clause-later : goal.returns-in-Err-seated-clause-later
returns-in-Err-seated-clause-later g c = none-fell g.D.Disk.faults c.args.store.disks c.args.store.disks refl
