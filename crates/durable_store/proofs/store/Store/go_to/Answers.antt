use Rattle.std.proofs.Common.{◌≡◌, ◌⊎◌, ◌∙◌, ◌<◌, [], None, true, refl, sym, subst, arith}
use Rattle.std.proofs.lemmas.Result.{err_from_is_err_and}
use Rattle.batch_log.proofs.Answered.{on_err}
use Rattle.store_laws.specs.States.{Devices, StoreState, greatest, writes_tail, store_called}
use Rattle.store_plan.specs.Plans.{state_with}
use Rattle.store_plan.proofs.Due.{nowhere}
use Rattle.durable_store.specs.Runs.{SwitchIsOn, SwitchIsOnOrDone}
use Rattle.durable_store.proofs.Runs.{run_first, run_fails, switch_first, switch_next, switch_ends, none_fell, fell_on}
use Rattle.durable_store.proofs.Comes.{comes_due, comes_next, comes_over, not_done, done_now, on_generation, on_left}
use Rattle.durable_store.proofs.Switches.{not_ok}
use Rattle.durable_store.proofs.Weighs.{plan_lighter}
use Rattle.durable_store.proofs.store.Store.go_to.Goals as goal

pub loop-self-init : goal.loop-self-init
loop-self-init g c = record {
  is_open = c.requires.open;
  run = switch_first g.D.Disk.told g.D.Disk.remembers g.D.Disk.cells g.D.Disk.moment g.D.Disk.left_since g.E.Stops.stops c.args.tail.now (λ d. state_with c.args.self.now.plan d) c.args.self.now.disks c.args.self.now.plan.generation c.args.self.now refl (run_first g.D.Disk.told g.D.Disk.remembers g.D.Disk.cells g.D.Disk.moment g.D.Disk.left_since g.E.Stops.stops c.args.tail.now (λ d. state_with c.args.self.now.plan d) c.args.self.now.disks c.args.self.now refl (λ d. refl) (λ told. refl));
  stands = c.requires.sound;
  comes = c.requires.waits;
  falls = none_fell g.D.Disk.faults c.args.self.now.disks;
  wants = none_fell g.D.Disk.wants c.args.self.now.disks;
}

pub loop-self-smaller : goal.loop-self-smaller
loop-self-smaller g c =
    let s = c.loop-self.self in
    let small = c.ranges.generation in
    let few : c.args.self.now.plan.generation < greatest = omega (arith, c.requires.next, small) in
    let goes : (d : Devices) → SwitchIsOn c.args.self.now.plan.generation s.plan.running (state_with s.plan d) = λ d. not_done c.args.self.now.plan.generation (state_with s.plan d) (λ is. c.loop-self-test.true (is ∙ sym c.requires.next)) (c.loop-self.invariant.comes d) in
    plan_lighter g.E.Stops.stops c.args.tail.now s.plan c.next_call.new.self.plan nowhere (comes_due c.args.self.now.plan.generation g.E.Stops.stops (state_with s.plan nowhere) few (goes nowhere)) (c.in_ok-next_call.ensures.called nowhere)

pub loop-self-preserved : goal.loop-self-preserved
loop-self-preserved g c =
    let s = c.loop-self.self in
    let t = c.next_call.new.self in
    let i = c.loop-self.invariant in
    let e = c.in_ok-next_call.ensures in
    let small = c.ranges.generation in
    let few : c.args.self.now.plan.generation < greatest = omega (arith, c.requires.next, small) in
    let goes : (d : Devices) → SwitchIsOn c.args.self.now.plan.generation s.plan.running (state_with s.plan d) = λ d. not_done c.args.self.now.plan.generation (state_with s.plan d) (λ is. c.loop-self-test.true (is ∙ sym c.requires.next)) (c.loop-self.invariant.comes d) in
    record {
      is_open = e.closes.1;
      run = switch_next g.D.Disk.told g.D.Disk.remembers g.D.Disk.cells g.D.Disk.moment g.D.Disk.left_since g.E.Stops.stops c.args.tail.now (λ d. state_with c.args.self.now.plan d) c.args.self.now.disks c.args.self.now.plan.generation s t i.run.0 (λ d. refl) (on_generation c.args.self.now.plan.generation (state_with s.plan nowhere) (goes nowhere)) e.fits e.time (e.crash i.is_open) (e.any_moment i.is_open) e.made e.called;
      stands = e.stands e.closes.1;
      comes = λ d.
          comes_over c.args.self.now.plan.generation t.plan (store_called g.E.Stops.stops c.args.tail.now (state_with s.plan d)).devices d
          (subst (λ (q : StoreState). SwitchIsOnOrDone c.args.self.now.plan.generation q) (sym (e.called d)) (comes_next c.args.self.now.plan.generation g.E.Stops.stops c.args.tail.now (state_with s.plan d) few (goes d)));
      falls = fell_on g.D.Disk.faults c.args.self.now.disks s.disks t.disks i.falls e.later;
      wants = fell_on g.D.Disk.wants c.args.self.now.disks s.disks t.disks i.wants e.wants_later;
    }

pub returns-in_err-next_call-clause-ran : goal.returns-in_err-next_call-clause-ran
returns-in_err-next_call-clause-ran g c =
    let i = c.loop-self.invariant in
    let e = c.in_err-next_call.ensures in
    let p = err_from_is_err_and c.from_residual.result c.from_residual.ensures.1 in (
      run_fails g.D.Disk.told g.D.Disk.remembers g.D.Disk.cells g.D.Disk.moment g.D.Disk.left_since g.E.Stops.stops c.args.tail.now (λ d. state_with c.args.self.now.plan d) c.args.self.now.disks c.loop-self.self c.next_call.new.self i.run.0 e.time (e.crash i.is_open) (e.any_moment i.is_open) (λ is_open. (e.unchanged is_open).0) e.held,
      not_ok c.from_residual.result p.0 _ p.1,
    )

pub returns-in_err-next_call-clause-same_generation : goal.returns-in_err-next_call-clause-same_generation
returns-in_err-next_call-clause-same_generation g c =
    let s = c.loop-self.self in
    let goes = not_done c.args.self.now.plan.generation (state_with s.plan nowhere) (λ is. c.loop-self-test.true (is ∙ sym c.requires.next)) (c.loop-self.invariant.comes nowhere) in
    on_err c.from_residual.result _ (c.in_err-next_call.ensures.held.1 ∙ on_generation c.args.self.now.plan.generation (state_with s.plan nowhere) goes)

pub returns-in_err-next_call-clause-left : goal.returns-in_err-next_call-clause-left
returns-in_err-next_call-clause-left g c =
    let s = c.loop-self.self in
    let goes = not_done c.args.self.now.plan.generation (state_with s.plan nowhere) (λ is. c.loop-self-test.true (is ∙ sym c.requires.next)) (c.loop-self.invariant.comes nowhere) in
    on_err c.from_residual.result _
    (λ is_open.
    let u = c.in_err-next_call.ensures.unchanged is_open in
    subst (λ q. (q.plan.running ≡ []) ⊎ ((writes_tail q.plan.running ≡ true) × (q.plan.asked ≡ None))) (sym u.0) (on_left c.args.self.now.plan.generation (state_with s.plan nowhere) goes u.1))

pub returns-clause-ran : goal.returns-clause-ran
returns-clause-ran g c = switch_ends g.D.Disk.told g.D.Disk.remembers g.D.Disk.cells g.D.Disk.moment g.D.Disk.left_since g.E.Stops.stops c.args.tail.now (λ d. state_with c.args.self.now.plan d) c.args.self.now.disks c.loop-self.self c.loop-self.invariant.run.0 (c.loop-self.invariant.run.1 (c.loop-self-test.false ∙ c.requires.next))

pub returns-clause-idle : goal.returns-clause-idle
returns-clause-idle g c = (done_now c.args.self.now.plan.generation (state_with c.loop-self.self.plan nowhere) (c.loop-self-test.false ∙ c.requires.next) (c.loop-self.invariant.comes nowhere)).idle

pub returns-clause-unasked : goal.returns-clause-unasked
returns-clause-unasked g c = (done_now c.args.self.now.plan.generation (state_with c.loop-self.self.plan nowhere) (c.loop-self-test.false ∙ c.requires.next) (c.loop-self.invariant.comes nowhere)).asked
