-- A run of a store that was asked to switch.
use Rattle.std.proofs.Common.{◌≡◌, ◌⊎◌, inl, inr, ℕ, Bool, List, [], ◌∷◌, None, Result, Ok, Err, OnOk, ◌∙◌, ap, subst}
use Rattle.disk_model.specs.Cells.{Cells}
use Rattle.store_laws.specs.Lives.{Either}
use Rattle.store_laws.specs.States.{Devices, StoreState}
use Rattle.store_laws.specs.Runs.{called_times}
use Rattle.store_laws.specs.Stands.{Aim, StandsBy, AnyRests}
use Rattle.store_laws.specs.declared.job.StoreCall.{StoreCall}
use Rattle.store_laws.specs.declared.job.Tail.{Tail}
use Rattle.store_plan.specs.declared.plan.Plan.{Plan}
use Rattle.store_plan.specs.Plans.{state_with}
use Rattle.durable_store.specs.Runs.{Ran, EndsWithSwitch, unasks}
use Rattle.durable_store.specs.Stores.{Stands}
use Rattle.durable_store.specs.declared.disks.Disks.{Disks}
use Rattle.durable_store.specs.declared.store.Store.{Store}

pub not_ok : {T E : Type 0} (r : Result T E) (e : E) (X : Type 0) → r ≡ Err e → OnOk r X
not_ok (Ok x) e X is = absurd cc
not_ok (Err f) e X is = tt

module _ {D : Type 0} (told remembers : Type 0) (cells : D → Cells) (moment : D → ℕ) (left_since : D → ℕ → List ℕ → Type 0) (stops : List ℕ → Bool) (tail : Tail) where
  abbrev pub SwitchRan : (Devices → StoreState) → Disks D → Store D → Type 0
  SwitchRan first old new = (run : Ran told remembers cells moment left_since stops tail first (λ q. q) old new) × ((d : Devices) → EndsWithSwitch stops tail run.calls (first d))

  -- the same run, with its beginning told in another way
  pub asked_from : (first first_too : Devices → StoreState) (old : Disks D) (new : Store D) → ((d : Devices) → first d ≡ first_too d) → SwitchRan first old new → SwitchRan first_too old new
  asked_from first first_too old new first_is ran =
      let firsts : first ≡ first_too = λ i. λ d. first_is d i in
      subst (λ (f : Devices → StoreState). SwitchRan f old new) firsts ran

  -- a switch that waits is taken back
  pub run_unasks : (first first_too : Devices → StoreState) (old : Disks D) (t : Store D) (back : Plan) → ((d : Devices) → first d ≡ first_too d) → Ran told remembers cells moment left_since stops tail first (λ q. q) old t
      → ((d : Devices) → state_with back d ≡ unasks (state_with t.plan d)) → Ran told remembers cells moment left_since stops tail first_too (λ q. unasks q) old (record { disks = t.disks; plan = back; state = t.state })
  run_unasks first first_too old t back first_is run back_is =
      let firsts : first ≡ first_too = λ i. λ d. first_is d i in
      subst (λ (f : Devices → StoreState). Ran told remembers cells moment left_since stops tail f (λ q. unasks q) old (record { disks = t.disks; plan = back; state = t.state })) firsts
      (record {
        calls = run.calls;
        fits = run.fits;
        mid = run.mid;
        passes = run.passes;
        ended = run.ended;
        contents = run.contents;
        still = run.still;
        plan = λ is_open d. back_is (called_times stops tail run.calls (first d)).devices ∙ ap (λ (q : StoreState). unasks q) (run.plan is_open d);
        firm = λ d. ap (λ (q : StoreState). q.firm) (back_is (called_times stops tail run.calls (first d)).devices) ∙ run.firm d;
        generation = λ d. ap (λ (q : StoreState). q.generation) (back_is (called_times stops tail run.calls (first d)).devices) ∙ run.generation d;
        crash = run.crash;
      })

-- ---- a switch that is taken back changes nothing of what the store stands for

rests_unasked : (calls : List StoreCall) (s : StoreState) (a : Aim) → calls ≡ [] → StandsBy Either AnyRests calls s a → StandsBy Either AnyRests calls (unasks s) a
rests_unasked [] s a idle r = record {
  images = r.images;
  rests = record { settled = r.rests.settled; even = r.rests.even; odd = r.rests.odd; generation = r.rests.generation; torn = r.rests.torn; end = r.rests.end };
  log = r.log;
  kept_is = r.kept_is;
  other_is = r.other_is;
}
rests_unasked (call ∷ left) s a idle r = absurd cc

unasks_same : (s : StoreState) → s.asked ≡ None → s ≡ unasks s
unasks_same s none = λ i. record {
  devices = s.devices;
  even = s.even;
  odd = s.odd;
  torn = s.torn;
  end = s.end;
  generation = s.generation;
  running = s.running;
  ending = s.ending;
  adding = s.adding;
  waiting = s.waiting;
  asked = none i;
  restored = s.restored;
  firm = s.firm;
}

pub unasks_stands : (s : StoreState) → (s.running ≡ []) ⊎ (s.asked ≡ None) → Stands s → Stands (unasks s)
unasks_stands s (inl idle) has = (has.0, rests_unasked s.running s has.0 idle has.1)
unasks_stands s (inr none) has = subst (λ (q : StoreState). Stands q) (unasks_same s none) has
