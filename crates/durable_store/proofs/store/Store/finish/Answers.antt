use Rattle.std.proofs.Common.{◌≡◌, ◌≤◌, ◌∙◌, ℕ, ◌+◌, length, true, inl, refl, sym, ap, subst, arith}
use Rattle.batch_log.proofs.Answered.{on_err}
use Rattle.store_laws.specs.States.{StoreState, greatest, is_due, store_called}
use Rattle.store_laws.proofs.Aims.{firm_rises}
use Rattle.store_plan.specs.Plans.{state_with}
use Rattle.store_plan.proofs.Due.{nowhere}
use Rattle.durable_store.specs.Runs.{IsUnasked}
use Rattle.durable_store.proofs.Runs.{run_first, run_next, run_ends, run_fails, none_fell, fell_on}
use Rattle.durable_store.proofs.Held.{Held, next_held, still_held, held_over, done_held}
use Rattle.durable_store.proofs.Counted.{Counted, next_counted, counted_over, done_counted}
use Rattle.durable_store.proofs.Weighs.{plan_lighter}
use Rattle.durable_store.proofs.store.Store.finish.Goals as goal

pub loop-alloc-init : goal.loop-alloc-init
loop-alloc-init g c = record {
  is_open = c.requires.open;
  run = run_first g.D.Disk.told g.D.Disk.remembers g.D.Disk.cells g.D.Disk.moment g.D.Disk.left_since g.E.Stops.stops c.args.tail.now (λ d. state_with c.args.self.now.plan d) c.args.self.now.disks c.args.self.now refl (λ d. refl) (λ told. refl);
  stands = c.requires.sound;
  held = λ d unasked. record { unasked = unasked; waits = inl refl };
  counted = λ d unasked adds. record { adds = adds; fewer = omega arith; firm = omega arith };
  small = λ few. few;
  falls = none_fell g.D.Disk.faults c.args.self.now.disks;
  wants = none_fell g.D.Disk.wants c.args.self.now.disks;
}

pub loop-alloc-smaller : goal.loop-alloc-smaller
loop-alloc-smaller g c =
    let s = c.loop-alloc.self in
    let due : is_due g.E.Stops.stops (state_with s.plan nowhere) ≡ true = sym (c.is_due.ensures nowhere) ∙ c.loop-alloc-test.true in
    plan_lighter g.E.Stops.stops c.args.tail.now s.plan c.next_call.new.self.plan nowhere due (c.in_ok-next_call.ensures.called nowhere)

pub loop-alloc-preserved : goal.loop-alloc-preserved
loop-alloc-preserved g c =
    let s = c.loop-alloc.self in
    let t = c.next_call.new.self in
    let i = c.loop-alloc.invariant in
    let e = c.in_ok-next_call.ensures in
    record {
      is_open = e.closes.1;
      run = run_next g.D.Disk.told g.D.Disk.remembers g.D.Disk.cells g.D.Disk.moment g.D.Disk.left_since g.E.Stops.stops c.args.tail.now (λ d. state_with c.args.self.now.plan d) c.args.self.now.disks s t i.run e.fits e.time (e.crash i.is_open) (e.any_moment i.is_open) e.made e.called;
      stands = e.stands e.closes.1;
      held = λ d unasked.
          let due : is_due g.E.Stops.stops (state_with s.plan d) ≡ true = sym (c.is_due.ensures d) ∙ c.loop-alloc-test.true in
          held_over g.E.Stops.stops c.args.self.now.plan.waiting t.plan (store_called g.E.Stops.stops c.args.tail.now (state_with s.plan d)).devices d
          (subst (λ (q : StoreState). Held g.E.Stops.stops c.args.self.now.plan.waiting q) (sym (e.called d)) (next_held g.E.Stops.stops c.args.self.now.plan.waiting c.args.tail.now (state_with s.plan d) due (i.held d unasked)));
      counted = λ d unasked adds.
          let due : is_due g.E.Stops.stops (state_with s.plan d) ≡ true = sym (c.is_due.ensures d) ∙ c.loop-alloc-test.true in
          counted_over c.args.self.now.plan.waiting (c.args.self.now.plan.firm + length c.args.self.now.plan.adding) t.plan (store_called g.E.Stops.stops c.args.tail.now (state_with s.plan d)).devices d
          (subst (λ (q : StoreState). Counted c.args.self.now.plan.waiting (c.args.self.now.plan.firm + length c.args.self.now.plan.adding) q) (sym (e.called d)) (next_counted g.E.Stops.stops c.args.self.now.plan.waiting (c.args.self.now.plan.firm + length c.args.self.now.plan.adding) c.args.tail.now (state_with s.plan d) due (i.held d unasked) (i.counted d unasked adds)));
      small = λ few. subst (λ (n : ℕ). n ≤ greatest) (sym (ap (λ (q : StoreState). q.firm) (e.called nowhere))) (firm_rises g.E.Stops.stops c.args.tail.now (state_with s.plan nowhere) (i.small few)).1;
      falls = fell_on g.D.Disk.faults c.args.self.now.disks s.disks t.disks i.falls e.later;
      wants = fell_on g.D.Disk.wants c.args.self.now.disks s.disks t.disks i.wants e.wants_later;
    }

pub returns-in_err-next_call-clause-ran : goal.returns-in_err-next_call-clause-ran
returns-in_err-next_call-clause-ran g c =
    let i = c.loop-alloc.invariant in
    let e = c.in_err-next_call.ensures in
    run_fails g.D.Disk.told g.D.Disk.remembers g.D.Disk.cells g.D.Disk.moment g.D.Disk.left_since g.E.Stops.stops c.args.tail.now (λ d. state_with c.args.self.now.plan d) c.args.self.now.disks c.loop-alloc.self c.next_call.new.self i.run e.time (e.crash i.is_open) (e.any_moment i.is_open) (λ is_open. (e.unchanged is_open).0) e.held

pub returns-in_err-next_call-clause-held : goal.returns-in_err-next_call-clause-held
returns-in_err-next_call-clause-held g c = on_err c.from_residual.result _
    (λ d unasked is_open.
    let s = c.loop-alloc.self in
    let due : is_due g.E.Stops.stops (state_with s.plan d) ≡ true = sym (c.is_due.ensures d) ∙ c.loop-alloc-test.true in
    let u = c.in_err-next_call.ensures.unchanged is_open in
    ap (λ q. q.plan.waiting) u.0 ∙ still_held g.E.Stops.stops c.args.self.now.plan.waiting (state_with s.plan d) due (c.loop-alloc.invariant.held d unasked) u.1)

pub returns-clause-ran : goal.returns-clause-ran
returns-clause-ran g c = run_ends g.D.Disk.told g.D.Disk.remembers g.D.Disk.cells g.D.Disk.moment g.D.Disk.left_since g.E.Stops.stops c.args.tail.now (λ d. state_with c.args.self.now.plan d) c.args.self.now.disks c.loop-alloc.self c.loop-alloc.invariant.run

pub returns-in_err-next_call-clause-unasked : goal.returns-in_err-next_call-clause-unasked
returns-in_err-next_call-clause-unasked g c = λ is_open d unasked.
    let u = c.in_err-next_call.ensures.unchanged is_open in
    let was = c.loop-alloc.invariant.held d unasked in
    subst (λ q. IsUnasked (state_with q.plan d)) (sym u.0) was.unasked

pub returns-clause-unasked : goal.returns-clause-unasked
returns-clause-unasked g c = λ is_open d unasked.
    let was = c.loop-alloc.invariant.held d unasked in
    was.unasked

pub returns-clause-waits : goal.returns-clause-waits
returns-clause-waits g c = λ d unasked.
    let s = c.loop-alloc.self in
    done_held g.E.Stops.stops c.args.self.now.plan.waiting (state_with s.plan d) (sym (c.is_due.ensures d) ∙ c.loop-alloc-test.false) (c.loop-alloc.invariant.held d unasked)

pub returns-clause-firm : goal.returns-clause-firm
returns-clause-firm g c = λ d unasked adds few.
    let s = c.loop-alloc.self in
    done_counted g.E.Stops.stops c.args.self.now.plan.waiting (c.args.self.now.plan.firm + length c.args.self.now.plan.adding) (state_with s.plan d) (sym (c.is_due.ensures d) ∙ c.loop-alloc-test.false) (c.loop-alloc.invariant.held d unasked)
    (c.loop-alloc.invariant.counted d unasked adds) (c.loop-alloc.invariant.small few)
