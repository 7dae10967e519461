use Rattle.std.proofs.Common.{◌≡◌, ◌∙◌, ◌&&◌, true, List, sym, ap, subst}
use Rattle.log_lane.specs.Lane.{lane_taken}
use Rattle.group_links.specs.Link.{link_taken}
use Rattle.trail.specs.declared.event.TrailEvent.{TrailEvent}
use Rattle.node_endings.specs.Settled.{EndsSettled}
use Rattle.node_run.specs.Lives.{Life, LifeEnd}
use Rattle.node_run.specs.Rounds.{IsLeftBy}
use Rattle.node_run.specs.Statuses.{all_went, status_of}
use Rattle.node_run.specs.declared.status.NodeStatus.{NodeStatus}
use Rattle.node_run.proofs.Causes.{disk-cause, read-cause, trail-cause, write-cause}
use Rattle.node_run.proofs.Closing.{life-end}
use Rattle.node_run.proofs.Taking.{whole-rounds, within-taken}
use Rattle.node_run.proofs.life.run_seated.Goals as goal

pub returns-clause-ended : goal.returns-clause-ended
returns-clause-ended g c =
    let told = c.run_loops-ends.ensures in
    let end = c.finish-end.ensures in
    let settled = c.settle-settled.ensures.settled in
    let life : Life g.row.S.Denot =
    record {
      meaning = g.S.Service.meaning;
      opening = g.P.Life.opening;
      head = g.P.Place.head;
      entries = g.P.Place.entries;
      left_before = g.I.Source.left c.args.input.now;
      left_after = g.I.Source.left c.run_loops-ends.new.input;
      written_before = g.W.Sink.written c.args.output.now;
      written_after = g.W.Sink.written c.run_loops-ends.new.output;
      told_before = g.P.Place.begun;
      told_after = g.O.Sink.written c.remains_of.result.sink;
      firm = c.remains_of.result.store.plan.firm;
    } in
    let Known = λ (status : NodeStatus) (trail : List TrailEvent). IsLeftBy g.D.Disk.told g.D.Disk.remembers g.D.Disk.cells g.D.Disk.moment g.D.Disk.left_since g.S.Service.meaning g.P.Life.opening trail g.P.Home.restored status c.args.worker.store c.remains_of.result.store in
    let went = all_went c.finish-end.result.arriving c.finish-end.result.leaving in
    let closed : c.settle-settled.result ≡ true → EndsSettled g.S.Service.meaning g.P.Life.opening c.finish-end.result.trail.items = λ is. rw (← end.same.0) at (settled is).1 in
    subst (λ (status : NodeStatus). (end : LifeEnd life status) × Known status end.lived.trail) (sym c.remains_of.ensures.status)
    (life-end life c.new-intake.result c.run_loops-ends.new.intake c.new-outlet.result c.run_loops-ends.new.outlet c.finish-end.result.trail.items c.run_loops-ends.result (c.new-intake.ensures.taken c.requires.arriving.1)
    told.reads (rw c.into_link.ensures at end.came) (ap link_taken c.new-outlet.ensures ∙ c.requires.leaving.1) told.wrote (rw c.into_link-2.ensures at end.left) end.released
    (rw (← c.remains_of.ensures.store) at end.needs) (rw (← c.remains_of.ensures.store) at end.firm) (rw (← c.remains_of.ensures.sink) at end.text) end.end_last c.finish-end.result.over c.finish-end.result.failed c.settle-settled.result
    c.finish-end.result.arriving c.finish-end.result.leaving told.whole told.form (λ is. (end.same.1 ∙ (settled is).0, closed is)) (rw c.into_link.ensures at end.all_came)
    (rw c.into_link-2.ensures at end.all_left) (rw (← c.remains_of.ensures.sink) at end.all_text) (Known (status_of c.run_loops-ends.result c.finish-end.result.failed (c.settle-settled.result && went)))
    (record {
      taken = lane_taken c.run_loops-ends.new.worker.lane;
      faulty = c.run_loops-ends.new.worker.faulty;
      front = end.took;
      needs = within-taken _ g.P.Home.restored c.finish-end.result.lane (lane_taken c.run_loops-ends.new.worker.lane) end.ends.1 end.lane.1.0 end.counts;
      told_firm = within-taken _ g.P.Home.restored c.finish-end.result.lane (lane_taken c.run_loops-ends.new.worker.lane) end.ends.0 end.lane.1.0 end.counts;
      whole = whole-rounds g.S.Service.meaning g.P.Life.opening c.finish-end.result.trail.items g.P.Home.restored (lane_taken c.run_loops-ends.new.worker.lane) c.finish-end.result.lane end.ends.0 end.put end.lane.1 end.counts end.took
          c.run_loops-ends.result c.run_loops-ends.new.worker.faulty c.finish-end.result.failed c.settle-settled.result went told.well closed;
      rounds = rw (c.requires.taken, ← end.store, ← c.remains_of.ensures.store) at told.rounds;
    }))

pub returns-clause-read : goal.returns-clause-read
returns-clause-read g c e =
    c.run_loops-ends.ensures.received
    (read-cause c.run_loops-ends.result c.finish-end.result.failed (c.settle-settled.result && all_went c.finish-end.result.arriving c.finish-end.result.leaving) (sym c.remains_of.ensures.status ∙ e))

pub returns-clause-write : goal.returns-clause-write
returns-clause-write g c e =
    c.run_loops-ends.ensures.sent
    (write-cause c.run_loops-ends.result c.finish-end.result.failed (c.settle-settled.result && all_went c.finish-end.result.arriving c.finish-end.result.leaving) (sym c.remains_of.ensures.status ∙ e))

pub returns-clause-trail : goal.returns-clause-trail
returns-clause-trail g c e =
    rw c.remains_of.ensures.sink
    (c.finish-end.ensures.failed
    (trail-cause c.run_loops-ends.result c.finish-end.result.failed (c.settle-settled.result && all_went c.finish-end.result.arriving c.finish-end.result.leaving) (sym c.remains_of.ensures.status ∙ e)))

pub returns-clause-disk : goal.returns-clause-disk
returns-clause-disk g c e =
    rw (c.remains_of.ensures.store, c.finish-end.ensures.store)
    (c.run_loops-ends.ensures.logged
    (disk-cause c.run_loops-ends.result c.finish-end.result.failed (c.settle-settled.result && all_went c.finish-end.result.arriving c.finish-end.result.leaving) (sym c.remains_of.ensures.status ∙ e)))

pub returns-clause-later : goal.returns-clause-later
returns-clause-later g c = rw (c.remains_of.ensures.store, c.finish-end.ensures.store) c.run_loops-ends.ensures.later.1.1
