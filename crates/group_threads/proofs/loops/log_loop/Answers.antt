use Rattle.std.proofs.Common.{Ok, Err, ap, sym, true≢false, ◌∙◌}
use Rattle.log_lane.specs.Lane.{lane_heard_put}
use Rattle.durable_store.proofs.Faults.{fell_none, fell_after, disk_failed}
use Rattle.node_endings.proofs.Chained.{no_rounds, more_rounds}
use Rattle.node_endings.proofs.Ends.{at_least, over_failed, up_more}
use Rattle.group_threads.proofs.loops.log_loop.Goals as goal

pub loop-init : goal.loop-init
loop-init g c =
    let d = g.D.Disk in record {
      work = c.requires.work;
      rose = at_least _;
      later = fell_none d.faults _;
      rounds = no_rounds d.told d.remembers d.cells d.moment d.left_since g.E.Stops.stops g.S.Service.meaning (g.P.GroupLife.opening g.M.Numbered.number) g.H.Home.restored _ _ _ c.requires.work.whole;
    }

pub loop-preserved : goal.loop-preserved
loop-preserved g c =
    let d = g.D.Disk in
    let i = c.loop.invariant in
    let e = c.in_default.ensures in record {
      work = record { whole = e.whole; sound = e.stands };
      rose = up_more _ _ _ i.rose e.rose;
      later = fell_after d.faults _ _ _ i.later e.later;
      rounds = more_rounds d.told d.remembers d.cells d.moment d.left_since g.E.Stops.stops g.S.Service.meaning (g.P.GroupLife.opening g.M.Numbered.number) g.H.Home.restored _ _ _ _ _ _ _ _ _ (Ok c.in_default.field-0) i.work.whole i.rounds e.done e.failed e.whole e.fails;
    }

pub round-requires-clause-whole : goal.round-requires-clause-whole
round-requires-clause-whole g c = c.loop.invariant.work.whole

pub round-requires-clause-sound : goal.round-requires-clause-sound
round-requires-clause-sound g c = c.loop.invariant.work.sound

pub returns-then-is_over : goal.returns-then-is_over
returns-then-is_over g c =
    let i = c.loop.invariant in
    record { made = record { rose = i.rose; rounds = i.rounds; whole = λ _. i.work.whole; sound = λ tells _. i.work.sound tells; cause = record { rose = λ is. absurd (over_failed is) }; later = i.later } }

pub returns-in-Err : goal.returns-in-Err
returns-in-Err g c =
    let d = g.D.Disk in
    let i = c.loop.invariant in
    let e = c.in-Err.ensures in record {
      made = record {
        rose = up_more _ _ _ i.rose e.rose;
        rounds = more_rounds d.told d.remembers d.cells d.moment d.left_since g.E.Stops.stops g.S.Service.meaning (g.P.GroupLife.opening g.M.Numbered.number) g.H.Home.restored _ _ _ (lane_heard_put c.loop.worker.lane) _ _ _ _ _ (Err c.in-Err.fault) i.work.whole i.rounds e.done e.failed e.whole e.fails;
        whole = λ no. absurd (true≢false (sym c.end_of_work.ensures.gave_up ∙ no));
        sound = λ tells fine. absurd (true≢false (sym e.fails ∙ fine));
        cause = record { rose = λ is. disk_failed d.faults _ _ _ c.in-Err.fault i.later (λ x. e.cause (ap Err x)) (λ x. e.not_closed (ap Err x)) (c.end_of_work.ensures.failed is) };
        later = fell_after d.faults _ _ _ i.later e.later;
      };
    }
