-- A switch that waits changes nothing of the calls before it begins.
use Rattle.std.proofs.Common.{◌≡◌, inl, ℕ, zero, suc, nat_lt, Bool, true, false, cond, List, [], ◌∷◌, Option, Some, None, refl, sym, ◌∙◌, ap, subst, arith}
use Rattle.store_form.specs.declared.checkpoint.Checkpoint.{Checkpoint}
use Rattle.store_laws.specs.Restored.{Images}
use Rattle.store_laws.specs.States.{Devices, StoreState, greatest, is_torn, some, Begun, NoJob, Close, Repair, Switch, AddGroup, of_group, of_asked, group_of, due_job, begins, begun, advanced, ends, job_called, store_called, MayLeave}
use Rattle.store_laws.specs.Runs.{called_times, CallFits, RunFits}
use Rattle.store_laws.specs.Stands.{Aim, HasSpelling}
use Rattle.store_laws.specs.declared.job.Ending.{Ending}
use Rattle.store_laws.specs.declared.job.Ending.TheVariants.{Closes, Repairs, Adds, Switches}
use Rattle.store_laws.specs.declared.job.Kept.{Kept}
use Rattle.store_laws.specs.declared.job.StoreCall.{StoreCall}
use Rattle.store_laws.specs.declared.job.StoreCall.TheVariants.{On, WriteTail}
use Rattle.store_laws.specs.declared.job.Tail.{Tail}
use Rattle.durable_store.specs.BookRuns.{HoldsBook, BookNext}
use Rattle.durable_store.specs.Runs.{unasks}
use Rattle.durable_store.proofs.Ran.{run_holds, run_leaves}

-- ---- a switch that waits after a call has waited before it

ends_asked : (ending : Ending) (s : StoreState) → (ends ending s).asked ≡ s.asked
ends_asked (Closes odd) s = refl
ends_asked Repairs s = refl
ends_asked (Adds end) s = refl
ends_asked (Switches end last) s = refl

job_asked : (tail : Tail) (calls : List StoreCall) (s : StoreState) → (job_called tail calls s).asked ≡ s.asked
job_asked tail [] s = refl
job_asked tail (call ∷ []) s = ends_asked (advanced tail call [] s).ending (advanced tail call [] s)
job_asked tail (call ∷ (more ∷ left)) s = refl

begins_asked : (job : Begun) (s : StoreState) (snapshot : List ℕ) → (begins job s).asked ≡ Some snapshot → s.asked ≡ Some snapshot
begins_asked NoJob s snapshot is = is
begins_asked (Close odd) s snapshot is = is
begins_asked Repair s snapshot is = is
begins_asked (Switch other) s snapshot is = absurd cc
begins_asked (AddGroup group) s snapshot is = is

-- ---- the same call, asked or not

ends_unasks : (ending : Ending) (s : StoreState) → unasks (ends ending s) ≡ ends ending (unasks s)
ends_unasks (Closes odd) s = refl
ends_unasks Repairs s = refl
ends_unasks (Adds end) s = refl
ends_unasks (Switches end last) s = refl

job_unasks : (tail : Tail) (calls : List StoreCall) (s : StoreState) → unasks (job_called tail calls s) ≡ job_called tail calls (unasks s)
job_unasks tail [] s = refl
job_unasks tail (On device call ∷ []) s = ends_unasks s.ending (advanced tail (On device call) [] s)
job_unasks tail (WriteTail ∷ []) s = ends_unasks (advanced tail WriteTail [] s).ending (advanced tail WriteTail [] s)
job_unasks tail (On device call ∷ (more ∷ left)) s = refl
job_unasks tail (WriteTail ∷ (more ∷ left)) s = refl

begins_unasks : (job : Begun) (s : StoreState) (snapshot : List ℕ) → (begins job s).asked ≡ Some snapshot → unasks (begins job s) ≡ begins job (unasks s)
begins_unasks NoJob s snapshot is = refl
begins_unasks (Close odd) s snapshot is = refl
begins_unasks Repair s snapshot is = refl
begins_unasks (Switch other) s snapshot is = absurd cc
begins_unasks (AddGroup group) s snapshot is = refl

same_job : (s : StoreState) (even odd torn few : Bool) (o : Option (List ℕ)) (rest : Begun) (snapshot : List ℕ)
    → (begins (cond even (Close false) (cond odd (Close true) (cond torn Repair (of_asked (cond few o None) rest)))) s).asked ≡ Some snapshot
    → cond even (Close false) (cond odd (Close true) (cond torn Repair (of_asked (cond few o None) rest))) ≡ cond even (Close false) (cond odd (Close true) (cond torn Repair (of_asked (cond few None None) rest)))
same_job s true odd torn few o rest snapshot is = refl
same_job s false true torn few o rest snapshot is = refl
same_job s false false true few o rest snapshot is = refl
same_job s false false false false o rest snapshot is = refl
same_job s false false false true None rest snapshot is = refl
same_job s false false false true (Some other) rest snapshot is = absurd cc

module _ (stops : List ℕ → Bool) where
  due_same : (s : StoreState) (snapshot : List ℕ) → (begins (due_job stops s) s).asked ≡ Some snapshot → due_job stops s ≡ due_job stops (unasks s)
  due_same s snapshot is = same_job s (is_torn s.even) (is_torn s.odd) s.torn (nat_lt s.generation greatest) s.asked (of_group (group_of stops s.waiting)) snapshot is

  begun_asked : (s : StoreState) (snapshot : List ℕ) → (begun stops s).asked ≡ Some snapshot → s.asked ≡ Some snapshot
  begun_asked s snapshot = by (some s.running)
    where
      by : (t : Bool) → (cond t s (begins (due_job stops s) s)).asked ≡ Some snapshot → s.asked ≡ Some snapshot
      by true is = is
      by false is = begins_asked (due_job stops s) s snapshot is

  begun_unasks : (s : StoreState) (snapshot : List ℕ) → (begun stops s).asked ≡ Some snapshot → unasks (begun stops s) ≡ begun stops (unasks s)
  begun_unasks s snapshot = by (some s.running)
    where
      by : (t : Bool) → (cond t s (begins (due_job stops s) s)).asked ≡ Some snapshot → unasks (cond t s (begins (due_job stops s) s)) ≡ cond t (unasks s) (begins (due_job stops (unasks s)) (unasks s))
      by true is = refl
      by false is = begins_unasks (due_job stops s) s snapshot is ∙ ap (λ (job : Begun). begins job (unasks s)) (due_same s snapshot is)

  module _ (tail : Tail) where
    called_asked : (s : StoreState) (snapshot : List ℕ) → (store_called stops tail s).asked ≡ Some snapshot → (begun stops s).asked ≡ Some snapshot
    called_asked s snapshot is = sym (job_asked tail (begun stops s).running (begun stops s)) ∙ is

    called_unasks : (s : StoreState) (snapshot : List ℕ) → (store_called stops tail s).asked ≡ Some snapshot → unasks (store_called stops tail s) ≡ store_called stops tail (unasks s)
    called_unasks s snapshot is =
        job_unasks tail (begun stops s).running (begun stops s)
        ∙ ap (λ (q : StoreState). job_called tail q.running q) (begun_unasks s snapshot (called_asked s snapshot is))

    call_fits : (s : StoreState) (snapshot : List ℕ) → (begun stops s).asked ≡ Some snapshot → CallFits stops tail s → CallFits stops tail (unasks s)
    call_fits s snapshot waits fits = (λ idle. subst (λ (job : Begun). HasSpelling job) (same idle) (fits.0 idle), fits.1)
      where
        same : some s.running ≡ false → due_job stops s ≡ due_job stops (unasks s)
        same idle = due_same s snapshot (sym (ap (λ (t : Bool). (cond t s (begins (due_job stops s) s)).asked) idle) ∙ waits)

    -- it has waited all the time
    times_asked : (n : ℕ) (s : StoreState) (snapshot : List ℕ) → (called_times stops tail (suc n) s).asked ≡ Some snapshot → (called_times stops tail n s).asked ≡ Some snapshot
    times_asked n s snapshot is = begun_asked (called_times stops tail n s) snapshot (called_asked (called_times stops tail n s) snapshot is)

    pub times_unasks : (n : ℕ) (s : StoreState) (snapshot : List ℕ) → (called_times stops tail n s).asked ≡ Some snapshot → unasks (called_times stops tail n s) ≡ called_times stops tail n (unasks s)
    times_unasks zero s snapshot is = refl
    times_unasks (suc n) s snapshot is =
        called_unasks (called_times stops tail n s) snapshot is
        ∙ ap (λ (q : StoreState). store_called stops tail q) (times_unasks n s snapshot (times_asked n s snapshot is))

    pub times_fit : (n : ℕ) (s : StoreState) (snapshot : List ℕ) → (called_times stops tail n s).asked ≡ Some snapshot → RunFits stops tail n s → RunFits stops tail n (unasks s)
    times_fit zero s snapshot is fits = tt
    times_fit (suc n) s snapshot is fits =
        let before = times_asked n s snapshot is in (
          times_fit n s snapshot before fits.0,
          subst (λ (q : StoreState). CallFits stops tail q) (times_unasks n s snapshot before)
              (call_fits (called_times stops tail n s) snapshot (called_asked (called_times stops tail n s) snapshot is) fits.1),
        )

    -- ---- its book

    pub waits_holds : (book : List (List ℕ)) (present : Option Checkpoint) (stake : Kept) (gone n : ℕ) (s : StoreState) (a : Aim) (snapshot : List ℕ) → HoldsBook book present stake gone (unasks s) a → RunFits stops tail n s
        → (called_times stops tail n s).asked ≡ Some snapshot → (b : Aim) × HoldsBook book present stake gone (unasks (called_times stops tail n s)) b
    waits_holds book present stake gone n s a snapshot h fits is =
        let has = run_holds stops tail book present stake gone n (unasks s) a h (times_fit n s snapshot is fits) in
        (has.0, subst (λ (q : StoreState). HoldsBook book present stake gone q has.0) (sym (times_unasks n s snapshot is)) has.1)

    pub waits_leaves : (book : List (List ℕ)) (present : Option Checkpoint) (stake : Kept) (gone n : ℕ) (s : StoreState) (a : Aim) (snapshot : List ℕ) → HoldsBook book present stake gone (unasks s) a → RunFits stops tail n s
        → (called_times stops tail n s).asked ≡ Some snapshot → (images : Images) → MayLeave (called_times stops tail n s).devices images → BookNext book present stake images
    waits_leaves book present stake gone n s a snapshot h fits is images may =
        let same : (called_times stops tail n s).devices ≡ (called_times stops tail n (unasks s)).devices = ap (λ (q : StoreState). q.devices) (times_unasks n s snapshot is) in
        run_leaves stops tail book present stake gone n (unasks s) a h (times_fit n s snapshot is fits) images
        (record { call = n; among = omega arith; leaves = inl (subst (λ (d : Devices). MayLeave d images) same may) })
