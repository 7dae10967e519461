use Rattle.std.proofs.Common.{subst, arith}
use Rattle.disk_model.specs.Cells.{IsImage}
use Rattle.batch_log.specs.Jobs.{kept_now, other_now}
use Rattle.batch_log.proofs.Runs.{adds_on, stands_on, underway, idle_any, run_leaves, begin_leaves, call_leaves_three, begins, goes_further}
use Rattle.batch_log.proofs.log.BatchLog.append_group.Goals as goal

pub returns-in_err-append_start-clause-any_moment : goal.returns-in_err-append_start-clause-any_moment
returns-in_err-append_start-clause-any_moment g c = λ told remembers gs other s.
    rw (c.append_start.ensures.device) (begins g.D.Disk.moment g.D.Disk.left_since g.D.Disk.cells c.args.self.now.device c.args.self.now.end c.args.self.now.job c.args.entries.now gs other s (g.met.D.Disk.only_now remembers c.args.self.now.device))

pub returns-in_err-append_start-clause-crash : goal.returns-in_err-append_start-clause-crash
returns-in_err-append_start-clause-crash g c = λ told gs other s image is.
    begin_leaves (g.D.Disk.cells c.args.self.now.device) c.args.self.now.end c.args.self.now.job c.args.entries.now gs other s image (subst (λ (d : _). IsImage (g.D.Disk.cells d) image) c.append_start.ensures.device is)

pub loop-self-init : goal.loop-self-init
loop-self-init g c =
    let e = c.in_ok-append_start.ensures in
    record {
      was_open = e.closes.0;
      is_open = e.closes.1;
      adds = e.adds;
      underway = λ told.
          let u = c.requires.stands e.closes.0 told in
          underway (g.D.Disk.cells c.append_start.new.self.device) c.append_start.new.self.end c.append_start.new.self.job c.args.entries.now u.kept u.other
          (e.ok told u.kept u.other (idle_any (g.D.Disk.cells c.args.self.now.device) c.args.self.now.end c.args.self.now.job u.group c.args.entries.now u.kept u.other c.requires.idle u.stands));
      runs = e.ok;
      moments = λ told remembers gs other s.
          rw (c.append_start.ensures.device) (begins g.D.Disk.moment g.D.Disk.left_since g.D.Disk.cells c.args.self.now.device c.args.self.now.end c.args.self.now.job c.args.entries.now gs other s (g.met.D.Disk.only_now remembers c.args.self.now.device));
      later = rw (c.append_start.ensures.device) (omega arith);
      wants = rw (c.append_start.ensures.device) (omega arith);
    }

pub loop-self-preserved : goal.loop-self-preserved
loop-self-preserved g c =
    let i = c.loop-self.invariant in
    let e = c.in_ok-next_call.ensures in
    record {
      was_open = i.was_open;
      is_open = e.closes.1;
      adds = adds_on c.loop-self.self.job c.next_call.new.self.job i.adds e.next;
      underway = e.underway;
      runs = λ told gs other s. (
        adds_on c.loop-self.self.job c.next_call.new.self.job i.adds e.next,
        stands_on (g.D.Disk.cells c.next_call.new.self.device) c.next_call.new.self.end c.loop-self.self.job c.next_call.new.self.job c.args.entries.now gs other i.adds e.next
            (e.goes told c.args.entries.now (kept_now c.loop-self.self.job c.args.entries.now gs) (other_now c.loop-self.self.job c.args.entries.now gs other) (i.runs told gs other s).1),
      );
      moments = λ told remembers gs other s.
          goes_further g.D.Disk.moment g.D.Disk.left_since g.D.Disk.cells c.args.self.now.device c.loop-self.self.device c.next_call.new.self.device c.loop-self.self.job c.args.entries.now gs other (i.moments told remembers gs other s) e.time
          (e.crash told c.args.entries.now (kept_now c.loop-self.self.job c.args.entries.now gs) (other_now c.loop-self.self.job c.args.entries.now gs other) (i.runs told gs other s).1);
      later = omega (arith, i.later, e.later);
      wants = omega (arith, i.wants, e.wants_later);
    }

pub returns-in_err-next_call-clause-any_moment : goal.returns-in_err-next_call-clause-any_moment
returns-in_err-next_call-clause-any_moment g c = λ told remembers gs other s.
    let i = c.loop-self.invariant in
    let e = c.next_call.ensures in
    goes_further g.D.Disk.moment g.D.Disk.left_since g.D.Disk.cells c.args.self.now.device c.loop-self.self.device c.next_call.new.self.device c.loop-self.self.job c.args.entries.now gs other (i.moments told remembers gs other s) e.time
    (e.crash told c.args.entries.now (kept_now c.loop-self.self.job c.args.entries.now gs) (other_now c.loop-self.self.job c.args.entries.now gs other) (i.runs told gs other s).1)

pub returns-in_err-next_call-clause-crash : goal.returns-in_err-next_call-clause-crash
returns-in_err-next_call-clause-crash g c = λ told gs other s.
    call_leaves_three (g.D.Disk.cells c.next_call.new.self.device) c.loop-self.self.job c.args.entries.now gs other
    (c.next_call.ensures.crash told c.args.entries.now (kept_now c.loop-self.self.job c.args.entries.now gs) (other_now c.loop-self.self.job c.args.entries.now gs other) (c.loop-self.invariant.runs told gs other s).1)

pub returns-clause-crash : goal.returns-clause-crash
returns-clause-crash g c = λ told gs other s.
    run_leaves (g.D.Disk.cells c.loop-self.self.device) c.loop-self.self.end c.loop-self.self.job c.args.entries.now gs other (c.loop-self.invariant.runs told gs other s)
