-- A switch that is asked comes to its end, if no other runs.
use Rattle.std.proofs.Common.{◌≡◌, ◌⊎◌, inl, inr, ⊎_elim, ℕ, ◌+◌, ◌<◌, nat_lt, Bool, true, false, not, cond, List, [], ◌∷◌, length, Option, Some, None, refl, sym, ◌∙◌, ap, subst, arith}
use Rattle.std.proofs.lemmas.Bool.{lt-ltb}
use Rattle.store_form.specs.Spelling.{group_text, checkpoint_text}
use Rattle.disk_model.specs.declared.call.DeviceCall.{DeviceCall}
use Rattle.store_laws.specs.States.{Devices, StoreState, side, slot_gate_of, greatest, is_torn, some, writes_tail, group_of, of_group, of_asked, Begun, Close, Repair, due_job, begins, is_due, asked, advanced, ends, job_called, store_called}
use Rattle.store_laws.specs.declared.job.Device.{Device}
use Rattle.store_laws.specs.declared.job.StoreCall.{StoreCall}
use Rattle.store_laws.specs.declared.job.StoreCall.TheVariants.{On, WriteTail}
use Rattle.store_laws.specs.declared.job.Ending.{Ending}
use Rattle.store_laws.specs.declared.job.Ending.TheVariants.{Closes, Repairs, Adds, Switches}
use Rattle.store_laws.specs.declared.job.Tail.{Tail}
use Rattle.store_laws.proofs.AnyGoes.{some_switch}
use Rattle.store_plan.specs.declared.plan.Plan.{Plan}
use Rattle.store_plan.specs.Plans.{state_with}
use Rattle.store_plan.proofs.Ready.{no_calls}
use Rattle.durable_store.specs.Runs.{IsNoSwitch, SwitchIsWaiting, SwitchIsRunning, SwitchIsDone, SwitchIsOn, SwitchIsOnOrDone}
use Rattle.durable_store.proofs.Held.{idle_no_switch, no_switch_left, no_tail_first, never_tail}

module _ (from : ℕ) where
  -- ---- a call of a job

  last_waits : (ending : Ending) (device : Device) (call : DeviceCall) (q : StoreState) (snapshot : List ℕ) → IsNoSwitch (On device call ∷ []) ending → q.generation ≡ from → q.asked ≡ Some snapshot → SwitchIsOnOrDone from (ends ending q)
  last_waits (Closes odd) device call q snapshot is generation asked = inl (inl (record { generation = generation; snapshot = snapshot; asked = asked; job = idle_no_switch q.ending }))
  last_waits Repairs device call q snapshot is generation asked = inl (inl (record { generation = generation; snapshot = snapshot; asked = asked; job = idle_no_switch q.ending }))
  last_waits (Adds end) device call q snapshot is generation asked = inl (inl (record { generation = generation; snapshot = snapshot; asked = asked; job = idle_no_switch q.ending }))
  last_waits (Switches end made) device call q snapshot is generation asked = absurd cc

  switched : (end last : ℕ) (q : StoreState) → q.generation ≡ from → q.asked ≡ None → SwitchIsOnOrDone from (ends (Switches end last) q)
  switched end last q generation none = inr (record { generation = ap (λ (n : ℕ). n + 1) generation; asked = none; idle = refl })

  waits_called : (tail : Tail) (calls : List StoreCall) (s : StoreState) → some calls ≡ true → SwitchIsWaiting from calls s → SwitchIsOnOrDone from (job_called tail calls s)
  waits_called tail [] s runs w = absurd cc
  waits_called tail (WriteTail ∷ left) s runs w = absurd (no_tail_first s.ending left w.job)
  waits_called tail (On device call ∷ []) s runs w = last_waits s.ending device call (advanced tail (On device call) [] s) w.snapshot w.job w.generation w.asked
  waits_called tail (On device call ∷ more ∷ left) s runs w = inl (inl (record { generation = w.generation; snapshot = w.snapshot; asked = w.asked; job = no_switch_left s.ending device call (more ∷ left) w.job }))

  made_called : (tail : Tail) (calls : List StoreCall) (s : StoreState) → SwitchIsRunning from calls s → SwitchIsOnOrDone from (job_called tail calls s)
  made_called tail [] s m = absurd (never m.runs)
    where
      never : false ≡ true → ⊥
      never is = cc
  made_called tail (On device call ∷ []) s m =
      subst (λ (e : Ending). SwitchIsOnOrDone from (ends e (advanced tail (On device call) [] s))) (sym m.ending) (switched m.end m.last (advanced tail (On device call) [] s) m.generation m.asked)
  made_called tail (WriteTail ∷ []) s m = switched (1 + length (group_text tail.entries)) tail.made (advanced tail WriteTail [] s) m.generation m.asked
  made_called tail (On device call ∷ more ∷ left) s m = inl (inr (record { generation = m.generation; asked = m.asked; runs = refl; end = m.end; last = m.last; ending = m.ending }))
  made_called tail (WriteTail ∷ more ∷ left) s m = inl (inr (record { generation = m.generation; asked = m.asked; runs = refl; end = 1 + length (group_text tail.entries); last = tail.made; ending = refl }))

  called : (tail : Tail) (calls : List StoreCall) (s : StoreState) → some calls ≡ true → SwitchIsOn from calls s → SwitchIsOnOrDone from (job_called tail calls s)
  called tail calls s runs goes = ⊎_elim (λ (w : SwitchIsWaiting from calls s). waits_called tail calls s runs w) (λ (m : SwitchIsRunning from calls s). made_called tail calls s m) goes

  -- ---- a job that begins

  abbrev Begins : StoreState → Begun → Type 0
  Begins s job = (some (begins job s).running ≡ true) × SwitchIsOn from (begins job s).running (begins job s)

  begin : (stops : List ℕ → Bool) (s : StoreState) (snapshot : List ℕ) → s.generation ≡ from → from < greatest → s.asked ≡ Some snapshot → Begins s (due_job stops s)
  begin stops s snapshot generation few asked = at_even (is_torn s.even)
    where
      of_close : (odd : Bool) → Begins s (Close odd)
      of_close odd = (refl, inl (record { generation = generation; snapshot = snapshot; asked = asked; job = tt }))

      below : nat_lt s.generation greatest ≡ true
      below = lt-ltb s.generation greatest (subst (λ (n : ℕ). n < greatest) (sym generation) few)

      at_asked : (t : Bool) (a : Option (List ℕ)) → t ≡ true → a ≡ Some snapshot → Begins s (of_asked (cond t a None) (of_group (group_of stops s.waiting)))
      at_asked true (Some x) is a_is =
          (some_switch (not (side s)) (slot_gate_of (not (side s)) s) (checkpoint_text (record { generation = s.generation + 1; snapshot = x })), inr (record { generation = generation; asked = refl; runs = some_switch (not (side s)) (slot_gate_of (not (side s)) s) (checkpoint_text (record { generation = s.generation + 1; snapshot = x })); end = 0; last = 0; ending = refl }))
      at_asked true None is a_is = absurd cc
      at_asked false a is a_is = absurd cc

      at_log : (t : Bool) → Begins s (cond t Repair (of_asked (cond (nat_lt s.generation greatest) s.asked None) (of_group (group_of stops s.waiting))))
      at_log true = (refl, inl (record { generation = generation; snapshot = snapshot; asked = asked; job = tt }))
      at_log false = at_asked (nat_lt s.generation greatest) s.asked below asked

      at_odd : (t : Bool) → Begins s (cond t (Close true) (cond s.torn Repair (of_asked (cond (nat_lt s.generation greatest) s.asked None) (of_group (group_of stops s.waiting)))))
      at_odd true = of_close true
      at_odd false = at_log s.torn

      at_even : (t : Bool) → Begins s (cond t (Close false) (cond (is_torn s.odd) (Close true) (cond s.torn Repair (of_asked (cond (nat_lt s.generation greatest) s.asked None) (of_group (group_of stops s.waiting))))))
      at_even true = of_close false
      at_even false = at_odd (is_torn s.odd)

  -- ---- a call of a store

  idle_waits : (s : StoreState) → some s.running ≡ false → SwitchIsOn from s.running s → SwitchIsWaiting from s.running s
  idle_waits s idle goes = ⊎_elim (λ (w : SwitchIsWaiting from s.running s). w) (λ (m : SwitchIsRunning from s.running s). absurd (both m.runs)) goes
    where
      both : some s.running ≡ true → ⊥
      both runs =
          let clash : false ≡ true = sym idle ∙ runs in
          cc

  pub comes_due : (stops : List ℕ → Bool) (s : StoreState) → from < greatest → SwitchIsOn from s.running s → is_due stops s ≡ true
  comes_due stops s few goes = by (some s.running) refl
    where
      by : (t : Bool) → some s.running ≡ t → some (cond t s (begins (due_job stops s) s)).running ≡ true
      by true is = is
      by false is =
          let w = idle_waits s is goes in
          (begin stops s w.snapshot w.generation few w.asked).0

  pub comes_next : (stops : List ℕ → Bool) (tail : Tail) (s : StoreState) → from < greatest → SwitchIsOn from s.running s → SwitchIsOnOrDone from (store_called stops tail s)
  comes_next stops tail s few goes = by (some s.running) refl
    where
      by : (t : Bool) → some s.running ≡ t → SwitchIsOnOrDone from (job_called tail (cond t s (begins (due_job stops s) s)).running (cond t s (begins (due_job stops s) s)))
      by true is = called tail s.running s is goes
      by false is =
          let w = idle_waits s is goes in
          let b = begin stops s w.snapshot w.generation few w.asked in
          called tail (begins (due_job stops s) s).running (begins (due_job stops s) s) b.0 b.1

  -- whatever the devices hold
  pub comes_over : (p : Plan) (d e : Devices) → SwitchIsOnOrDone from (state_with p d) → SwitchIsOnOrDone from (state_with p e)
  comes_over p d e comes =
      ⊎_elim
      (λ (goes : SwitchIsOn from p.running (state_with p d)).
      inl (⊎_elim
      (λ (w : SwitchIsWaiting from p.running (state_with p d)). inl (record { generation = w.generation; snapshot = w.snapshot; asked = w.asked; job = w.job }))
      (λ (m : SwitchIsRunning from p.running (state_with p d)). inr (record { generation = m.generation; asked = m.asked; runs = m.runs; end = m.end; last = m.last; ending = m.ending }))
      goes))
      (λ (is : SwitchIsDone from p.running (state_with p d)). inr (record { generation = is.generation; asked = is.asked; idle = is.idle })) comes

  -- a switch that is not done goes on
  pub not_done : (s : StoreState) → (s.generation ≡ from + 1 → ⊥) → SwitchIsOnOrDone from s → SwitchIsOn from s.running s
  not_done s differs comes = ⊎_elim (λ (goes : SwitchIsOn from s.running s). goes) (λ (is : SwitchIsDone from s.running s). absurd (differs is.generation)) comes

  -- the generation changes at the end of a switch, and then none waits
  pub done_now : (s : StoreState) → s.generation ≡ from + 1 → SwitchIsOnOrDone from s → SwitchIsDone from s.running s
  done_now s same comes = ⊎_elim
      (λ (goes : SwitchIsOn from s.running s). absurd (⊎_elim (λ (w : SwitchIsWaiting from s.running s). differ w.generation) (λ (m : SwitchIsRunning from s.running s). differ m.generation) goes))
      (λ (is : SwitchIsDone from s.running s). is) comes
    where
      differ : s.generation ≡ from → ⊥
      differ is = omega (arith, is, same)

  pub on_generation : (s : StoreState) → SwitchIsOn from s.running s → s.generation ≡ from
  on_generation s goes = ⊎_elim (λ (w : SwitchIsWaiting from s.running s). w.generation) (λ (m : SwitchIsRunning from s.running s). m.generation) goes

  -- where memory is wanted, no job runs, or the switch does
  pub on_left : (s : StoreState) → SwitchIsOn from s.running s → (some s.running ≡ false) ⊎ (writes_tail s.running ≡ true) → (s.running ≡ []) ⊎ ((writes_tail s.running ≡ true) × (s.asked ≡ None))
  on_left s goes begins =
      ⊎_elim (λ (idle : some s.running ≡ false). inl (no_calls s.running idle))
      (λ (wants : writes_tail s.running ≡ true).
      inr (wants, ⊎_elim (λ (w : SwitchIsWaiting from s.running s). absurd (never_tail s.running s.ending w.job wants)) (λ (m : SwitchIsRunning from s.running s). m.asked) goes)) begins

-- a switch that has just been asked
pub comes_asked : (p : Plan) (q : Plan) (snapshot : List ℕ) → ((d : Devices) → state_with q d ≡ asked snapshot (state_with p d)) → IsNoSwitch p.running p.ending → (d : Devices) → SwitchIsOnOrDone q.generation (state_with q d)
comes_asked p q snapshot is none d =
    inl (inl (record {
      generation = refl;
      snapshot = snapshot;
      asked = ap (λ (s : StoreState). s.asked) (is d);
      job = subst (λ (s : StoreState). IsNoSwitch s.running s.ending) (sym (is d)) none;
    }))
