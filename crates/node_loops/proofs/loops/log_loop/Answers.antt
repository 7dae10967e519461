use Rattle.std.proofs.Common.{Ok, Err, ap}
use Rattle.log_lane.specs.Lane.{lane_heard_put}
use Rattle.durable_store.proofs.Faults.{fell_none, fell_after, disk_failed}
use Rattle.node_endings.proofs.Ends.{at_least, done_failed, not_done, over_done, over_failed, up_more}
use Rattle.node_endings.proofs.Chained.{no_rounds, more_rounds}
use Rattle.node_loops.proofs.loops.log_loop.Goals as goal

pub loop-init : goal.loop-init
loop-init g c =
    let d = g.D.Disk in record {
      whole = c.requires.whole;
      sound = c.requires.sound;
      rose = at_least _;
      later = fell_none d.faults _;
      rounds = no_rounds d.told d.remembers d.cells d.moment d.left_since g.E.Stops.stops g.S.Service.meaning g.P.Life.opening g.H.Home.restored _ _ _ c.requires.whole;
    }

pub loop-preserved : goal.loop-preserved
loop-preserved g c =
    let d = g.D.Disk in
    let i = c.loop.invariant in
    let e = c.in_default.ensures in record {
      whole = e.whole;
      sound = e.stands;
      rose = up_more _ _ _ i.rose e.rose;
      later = fell_after d.faults _ _ _ i.later e.later;
      rounds = more_rounds d.told d.remembers d.cells d.moment d.left_since g.E.Stops.stops g.S.Service.meaning g.P.Life.opening g.H.Home.restored _ _ _ _ _ _ _ _ _ (Ok c.in_default.field-0) i.whole i.rounds e.done e.failed e.whole e.fails;
    }

pub round-requires-clause-whole : goal.round-requires-clause-whole
round-requires-clause-whole g c = c.loop.invariant.whole

pub round-requires-clause-sound : goal.round-requires-clause-sound
round-requires-clause-sound g c = c.loop.invariant.sound

-- ---- nothing more happens to the node

pub returns-then-is_over-clause-rose : goal.returns-then-is_over-clause-rose
returns-then-is_over-clause-rose g c = c.loop.invariant.rose

pub returns-then-is_over-clause-raised : goal.returns-then-is_over-clause-raised
returns-then-is_over-clause-raised g c = λ is. absurd (over_done is)

pub returns-then-is_over-clause-well : goal.returns-then-is_over-clause-well
returns-then-is_over-clause-well g c = λ is. absurd (over_done is)

pub returns-then-is_over-clause-cause : goal.returns-then-is_over-clause-cause
returns-then-is_over-clause-cause g c = record { rose = λ is. absurd (over_failed is) }

pub returns-then-is_over-clause-later : goal.returns-then-is_over-clause-later
returns-then-is_over-clause-later g c = c.loop.invariant.later

pub returns-then-is_over-clause-rounds : goal.returns-then-is_over-clause-rounds
returns-then-is_over-clause-rounds g c = c.loop.invariant.rounds

-- ---- a round failed

pub returns-in-Err-clause-rose : goal.returns-in-Err-clause-rose
returns-in-Err-clause-rose g c = up_more _ _ _ c.loop.invariant.rose c.in-Err.ensures.rose

pub returns-in-Err-clause-raised : goal.returns-in-Err-clause-raised
returns-in-Err-clause-raised g c = λ is. absurd (not_done _ c.end_of_work.ensures.gave_up is)

pub returns-in-Err-clause-well : goal.returns-in-Err-clause-well
returns-in-Err-clause-well g c = λ is. absurd (not_done _ c.end_of_work.ensures.gave_up is)

pub returns-in-Err-clause-cause : goal.returns-in-Err-clause-cause
returns-in-Err-clause-cause g c = record {
  rose = λ is.
      disk_failed g.D.Disk.faults _ _ _ c.in-Err.fault c.loop.invariant.later (λ e. c.in-Err.ensures.cause (ap Err e)) (λ e. c.in-Err.ensures.not_closed (ap Err e)) (c.end_of_work.ensures.failed is);
}

pub returns-in-Err-clause-later : goal.returns-in-Err-clause-later
returns-in-Err-clause-later g c = fell_after g.D.Disk.faults _ _ _ c.loop.invariant.later c.in-Err.ensures.later

pub returns-in-Err-clause-rounds : goal.returns-in-Err-clause-rounds
returns-in-Err-clause-rounds g c =
    let d = g.D.Disk in
    let i = c.loop.invariant in
    let e = c.in-Err.ensures in
    more_rounds d.told d.remembers d.cells d.moment d.left_since g.E.Stops.stops g.S.Service.meaning g.P.Life.opening g.H.Home.restored _ _ _ (lane_heard_put c.loop.worker.lane) _ _ _ _ _ (Err c.in-Err.fault) i.whole i.rounds e.done e.failed e.whole e.fails

-- ---- the last round

pub returns-then-is_last_round-clause-rose : goal.returns-then-is_last_round-clause-rose
returns-then-is_last_round-clause-rose g c = up_more _ _ _ c.loop.invariant.rose c.in_default.ensures.rose

pub returns-then-is_last_round-clause-raised : goal.returns-then-is_last_round-clause-raised
returns-then-is_last_round-clause-raised g c = λ is. c.in_default.ensures.raised

pub returns-then-is_last_round-clause-well : goal.returns-then-is_last_round-clause-well
returns-then-is_last_round-clause-well g c = λ is. c.in_default.ensures.whole

pub returns-then-is_last_round-clause-cause : goal.returns-then-is_last_round-clause-cause
returns-then-is_last_round-clause-cause g c = record { rose = λ is. absurd (done_failed is) }

pub returns-then-is_last_round-clause-later : goal.returns-then-is_last_round-clause-later
returns-then-is_last_round-clause-later g c = fell_after g.D.Disk.faults _ _ _ c.loop.invariant.later c.in_default.ensures.later

pub returns-then-is_last_round-clause-rounds : goal.returns-then-is_last_round-clause-rounds
returns-then-is_last_round-clause-rounds g c =
    let d = g.D.Disk in
    let i = c.loop.invariant in
    let e = c.in_default.ensures in
    more_rounds d.told d.remembers d.cells d.moment d.left_since g.E.Stops.stops g.S.Service.meaning g.P.Life.opening g.H.Home.restored _ _ _ _ _ _ _ _ _ (Ok c.in_default.field-0) i.whole i.rounds e.done e.failed e.whole e.fails
