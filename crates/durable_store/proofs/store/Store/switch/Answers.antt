use Rattle.std.proofs.Common.{◌≡◌, ◌⊎◌, List, inl, inr, ⊎_elim, ◌∙◌, ◌+◌, [], None, true, sym, ap, subst}
use Rattle.store_laws.specs.States.{StoreState, asked, writes_tail}
use Rattle.store_laws.specs.declared.job.StoreCall.{StoreCall}
use Rattle.store_laws.proofs.Given.{any_asked}
use Rattle.store_plan.specs.Plans.{state_with}
use Rattle.store_plan.proofs.Due.{nowhere}
use Rattle.durable_store.specs.Disks.{cells_of}
use Rattle.durable_store.specs.Stores.{state_of, Stands}
use Rattle.durable_store.proofs.Switches.{asked_from, run_unasks, unasks_stands}
use Rattle.durable_store.proofs.Comes.{comes_asked}
use Rattle.durable_store.proofs.store.Store.switch.Goals as goal

pub go_to-requires-clause-next : goal.go_to-requires-clause-next
go_to-requires-clause-next g c = c.requires.fits.1 ∙ sym (ap (λ (s : StoreState). s.generation + 1) (c.ask.ensures nowhere))

pub go_to-requires-clause-waits : goal.go_to-requires-clause-waits
go_to-requires-clause-waits g c = comes_asked c.args.self.now.plan c.ask.new.self c.args.snapshot c.ask.ensures (c.requires.no_switch c.in_ok-check.ensures.closes.0)

pub go_to-requires-clause-sound : goal.go_to-requires-clause-sound
go_to-requires-clause-sound g c = λ told.
    let has = c.requires.sound c.in_ok-check.ensures.closes.0 told in
    subst (λ (q : StoreState). Stands q) (sym (c.ask.ensures (cells_of g.D.Disk.cells c.args.self.now.disks))) (has.0, any_asked (state_of g.D.Disk.cells c.args.self.now) has.0 c.args.snapshot has.1)

pub returns-in-Ok-clause-ran : goal.returns-in-Ok-clause-ran
returns-in-Ok-clause-ran g c = λ is_open.
    asked_from g.D.Disk.told g.D.Disk.remembers g.D.Disk.cells g.D.Disk.moment g.D.Disk.left_since g.E.Stops.stops c.args.tail.now (λ d. state_with c.ask.new.self d) (λ d. asked c.args.snapshot (state_with c.args.self.now.plan d)) c.args.self.now.disks c.go_to.new.self
    c.ask.ensures c.in-Ok.ensures.ran

pub returns-in-Err-clause-ran : goal.returns-in-Err-clause-ran
returns-in-Err-clause-ran g c = λ is_open. (
  run_unasks g.D.Disk.told g.D.Disk.remembers g.D.Disk.cells g.D.Disk.moment g.D.Disk.left_since g.E.Stops.stops c.args.tail.now (λ d. state_with c.ask.new.self d) (λ d. asked c.args.snapshot (state_with c.args.self.now.plan d)) c.args.self.now.disks c.go_to.new.self c.forget_switch.new.plan
      c.ask.ensures c.in-Err.ensures.ran.0 c.forget_switch.ensures,
  tt,
)

pub returns-in-Err-clause-same_generation : goal.returns-in-Err-clause-same_generation
returns-in-Err-clause-same_generation g c =
    ap (λ (q : StoreState). q.generation) (c.forget_switch.ensures nowhere) ∙ c.in-Err.ensures.same_generation ∙ ap (λ (q : StoreState). q.generation) (c.ask.ensures nowhere)

pub returns-in-Err-clause-unasked : goal.returns-in-Err-clause-unasked
returns-in-Err-clause-unasked g c = λ is_open. ap (λ (q : StoreState). q.asked) (c.forget_switch.ensures nowhere)

pub returns-in-Err-clause-left : goal.returns-in-Err-clause-left
returns-in-Err-clause-left g c = λ is_open.
    let t = c.go_to.new.self in
    let runs_is = ap (λ (q : StoreState). q.running) (c.forget_switch.ensures nowhere) in
    subst (λ (calls : List StoreCall). (calls ≡ []) ⊎ (writes_tail calls ≡ true)) (sym runs_is)
    (⊎_elim (λ (idle : t.plan.running ≡ []). inl idle) (λ (runs : (writes_tail t.plan.running ≡ true) × (t.plan.asked ≡ None)). inr runs.0) (c.in-Err.ensures.left is_open))

pub returns-in-Err-clause-stands : goal.returns-in-Err-clause-stands
returns-in-Err-clause-stands g c = λ is_open told.
    let t = c.go_to.new.self in
    let calm : (t.plan.running ≡ []) ⊎ (t.plan.asked ≡ None) =
    ⊎_elim (λ (idle : t.plan.running ≡ []). inl idle) (λ (runs : (writes_tail t.plan.running ≡ true) × (t.plan.asked ≡ None)). inr runs.1) (c.in-Err.ensures.left is_open) in
    subst (λ (q : StoreState). Stands q) (sym (c.forget_switch.ensures (cells_of g.D.Disk.cells t.disks))) (unasks_stands (state_of g.D.Disk.cells t) calm (c.go_to.ensures.stands is_open told))
