-- A run of calls goes on by one more.
use Rattle.std.proofs.Common.{◌≡◌, inl, inr, ℕ, ◌+◌, suc, Bool, List, refl, sym, ◌∙◌, ap, subst, arith}
use Rattle.disk_model.specs.Cells.{Cells}
use Rattle.store_form.specs.declared.ends.State.TheVariants.{Open}
use Rattle.store_laws.specs.Restored.{Images}
use Rattle.store_laws.specs.States.{Devices, StoreState, store_called, MayLeave}
use Rattle.store_laws.specs.Runs.{called_times, CallFits, RunFits, CallLeaves, RunLeaves}
use Rattle.store_laws.specs.declared.job.Tail.{Tail}
use Rattle.store_plan.specs.Plans.{state_with}
use Rattle.durable_store.specs.Disks.{cells_of, TimeWent, NoneFell, LeftSince}
use Rattle.durable_store.specs.Runs.{Passed, Passes, Ran, EndsWithSwitch}
use Rattle.durable_store.specs.Stores.{state_of}
use Rattle.durable_store.specs.declared.disks.Disks.{Disks}
use Rattle.durable_store.specs.declared.store.Store.{Store}

module _ {D : Type 0} (told remembers : Type 0) (cells : D → Cells) (moment : D → ℕ) (left_since : D → ℕ → List ℕ → Type 0) (stops : List ℕ → Bool) (tail : Tail) (first : Devices → StoreState) (old : Disks D) where
  -- a run that every call of it went well
  pub record Going (now : Store D) : Type 0 where
    pub calls : ℕ
    pub fits : (d : Devices) → RunFits stops tail calls (first d)
    pub passes : Passes told remembers cells moment left_since stops tail calls (first (cells_of cells old)) old now.disks
    pub contents : told → cells_of cells now.disks ≡ (called_times stops tail calls (first (cells_of cells old))).devices
    pub plan : (d : Devices) → state_with now.plan (called_times stops tail calls (first d)).devices ≡ called_times stops tail calls (first d)

  pub run_first : (now : Store D) → now.disks ≡ old → ((d : Devices) → state_with now.plan (first d).devices ≡ first d) → (told → cells_of cells old ≡ (first (cells_of cells old)).devices) → Going now
  run_first now same plan contents = record {
    calls = 0;
    fits = λ d. tt;
    passes = same;
    contents = λ t. ap (λ (disks : Disks D). cells_of cells disks) same ∙ contents t;
    plan = plan;
  }

  -- the state of a store in a run
  pub state_now : (s : Store D) (run : Going s) → told → state_of cells s ≡ called_times stops tail run.calls (first (cells_of cells old))
  state_now s run t = ap (λ (d : Devices). state_with s.plan d) (run.contents t) ∙ run.plan (cells_of cells old)

  -- the next call, whether it goes well or not
  pub passed_next : (s t : Store D) (run : Going s) → TimeWent moment left_since cells s.disks t.disks
      → (told → (images : Images) → MayLeave (cells_of cells t.disks) images → CallLeaves stops tail (state_of cells s) images)
      → (told → remembers → (images : Images) → LeftSince moment left_since s.disks t.disks images → CallLeaves stops tail (state_of cells s) images)
      → Passed told remembers cells moment left_since stops tail (called_times stops tail run.calls (first (cells_of cells old))) s.disks t.disks
  passed_next s t run time crash moments = record {
    time = time;
    crash = λ is images m. subst (λ (q : StoreState). CallLeaves stops tail q images) (state_now s run is) (crash is images m);
    any_moment = λ is remember images l. subst (λ (q : StoreState). CallLeaves stops tail q images) (state_now s run is) (moments is remember images l);
  }

  pub run_next : (s t : Store D) (run : Going s) → ((d : Devices) → CallFits stops tail (state_with s.plan d)) → TimeWent moment left_since cells s.disks t.disks
      → (told → (images : Images) → MayLeave (cells_of cells t.disks) images → CallLeaves stops tail (state_of cells s) images)
      → (told → remembers → (images : Images) → LeftSince moment left_since s.disks t.disks images → CallLeaves stops tail (state_of cells s) images)
      → (told → cells_of cells t.disks ≡ (store_called stops tail (state_of cells s)).devices)
      → ((d : Devices) → state_with t.plan (store_called stops tail (state_with s.plan d)).devices ≡ store_called stops tail (state_with s.plan d)) → Going t
  run_next s t run fits time crash moments made called = record {
    calls = suc run.calls;
    fits = λ d. (run.fits d, subst (λ (q : StoreState). CallFits stops tail q) (run.plan d) (fits (called_times stops tail run.calls (first d)).devices));
    passes = (s.disks, (run.passes, passed_next s t run time crash moments));
    contents = λ is. made is ∙ ap (λ (q : StoreState). (store_called stops tail q).devices) (state_now s run is);
    plan = λ d. subst (λ (q : StoreState). state_with t.plan (store_called stops tail q).devices ≡ store_called stops tail q) (run.plan d) (called (called_times stops tail run.calls (first d)).devices);
  }

  -- ---- the end of a run

  leaves_at : (s : Store D) (run : Going s) → told → (images : Images) → MayLeave (cells_of cells s.disks) images → RunLeaves stops tail run.calls (first (cells_of cells old)) images
  leaves_at s run is images m = record { call = run.calls; among = omega arith; leaves = inl (subst (λ (d : Devices). MayLeave d images) (run.contents is) m) }

  pub run_ends : (s : Store D) → Going s → Ran told remembers cells moment left_since stops tail first (λ q. q) old s
  run_ends s run = record {
    calls = run.calls;
    fits = run.fits;
    mid = s.disks;
    passes = run.passes;
    ended = inl refl;
    contents = run.contents;
    still = λ is_open. refl;
    plan = λ is_open. run.plan;
    firm = λ d. ap (λ (q : StoreState). q.firm) (run.plan d);
    generation = λ d. ap (λ (q : StoreState). q.generation) (run.plan d);
    crash = leaves_at s run;
  }

  -- the next call fails
  pub run_fails : (s t : Store D) → Going s → TimeWent moment left_since cells s.disks t.disks
      → (told → (images : Images) → MayLeave (cells_of cells t.disks) images → CallLeaves stops tail (state_of cells s) images)
      → (told → remembers → (images : Images) → LeftSince moment left_since s.disks t.disks images → CallLeaves stops tail (state_of cells s) images)
      → (t.state ≡ Open → t ≡ s) → (t.plan.firm ≡ s.plan.firm) × (t.plan.generation ≡ s.plan.generation) → Ran told remembers cells moment left_since stops tail first (λ q. q) old t
  run_fails s t run time crash moments same held = record {
    calls = run.calls;
    fits = run.fits;
    mid = s.disks;
    passes = run.passes;
    ended = inr (passed_next s t run time crash moments);
    contents = run.contents;
    still = λ is_open. ap (λ (q : Store D). q.disks) (same is_open);
    plan = λ is_open d. ap (λ (q : Store D). state_with q.plan (called_times stops tail run.calls (first d)).devices) (same is_open) ∙ run.plan d;
    firm = λ d. held.0 ∙ ap (λ (q : StoreState). q.firm) (run.plan d);
    generation = λ d. held.1 ∙ ap (λ (q : StoreState). q.generation) (run.plan d);
    crash = λ is images m. record { call = run.calls; among = omega arith; leaves = (passed_next s t run time crash moments).crash is images m };
  }

  -- ---- a run that ends with a switch

  pub switch_next : (from : ℕ) (s t : Store D) (run : Going s) → ((d : Devices) → (first d).generation ≡ from) → s.plan.generation ≡ from → ((d : Devices) → CallFits stops tail (state_with s.plan d)) → TimeWent moment left_since cells s.disks t.disks
      → (told → (images : Images) → MayLeave (cells_of cells t.disks) images → CallLeaves stops tail (state_of cells s) images)
      → (told → remembers → (images : Images) → LeftSince moment left_since s.disks t.disks images → CallLeaves stops tail (state_of cells s) images)
      → (told → cells_of cells t.disks ≡ (store_called stops tail (state_of cells s)).devices)
      → ((d : Devices) → state_with t.plan (store_called stops tail (state_with s.plan d)).devices ≡ store_called stops tail (state_with s.plan d))
      → (x : Going t) × (t.plan.generation ≡ from + 1 → (d : Devices) → EndsWithSwitch stops tail x.calls (first d))
  unfolding run_next
  switch_next from s t run begins before fits time crash moments made called =
      let next = run_next s t run fits time crash moments made called in
      (next, λ is d. (sym (ap (λ (q : StoreState). q.generation) (run.plan d)) ∙ before ∙ sym (begins d), sym (ap (λ (q : StoreState). q.generation) (next.plan d)) ∙ is ∙ sym (ap (λ (n : ℕ). n + 1) (begins d))))

  pub switch_first : (from : ℕ) (now : Store D) → now.plan.generation ≡ from → Going now → (x : Going now) × (now.plan.generation ≡ from + 1 → (d : Devices) → EndsWithSwitch stops tail x.calls (first d))
  switch_first from now before run = (run, λ is. absurd (omega (arith, before, is)))

  pub switch_ends : (s : Store D) (run : Going s) → ((d : Devices) → EndsWithSwitch stops tail run.calls (first d)) → (x : Ran told remembers cells moment left_since stops tail first (λ q. q) old s) × ((d : Devices) → EndsWithSwitch stops tail x.calls (first d))
  unfolding run_ends
  switch_ends s run has = (run_ends s run, has)

-- ---- counts

module _ {D : Type 0} (counts : D → ℕ) where
  pub none_fell : (d : Disks D) → NoneFell counts d d
  none_fell d = record { even_log = omega arith; odd_log = omega arith; even_slot = omega arith; odd_slot = omega arith }

  pub fell_on : (a b c : Disks D) → NoneFell counts a b → NoneFell counts b c → NoneFell counts a c
  fell_on a b c one two = record {
    even_log = omega (arith, one.even_log, two.even_log);
    odd_log = omega (arith, one.odd_log, two.odd_log);
    even_slot = omega (arith, one.even_slot, two.even_slot);
    odd_slot = omega (arith, one.odd_slot, two.odd_slot);
  }
