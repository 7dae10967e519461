-- A whole switch: over any run of calls a crash restores what was kept when it began, or the new generation with the tail of the switch.
use Rattle.std.proofs.Common.{◌≡◌, ◌≢◌, ◌⊎◌, inl, inr, ⊎_elim, ℕ, zero, suc, ◌+◌, ◌≤◌, nat_lt, Bool, true, false, cond, List, [], ◌∷◌, Option, Some, None, refl, sym, ◌∙◌, ap, subst, arith}
use Rattle.std.proofs.lemmas.Bool.{cases_eq}
use Rattle.store_form.specs.declared.checkpoint.Checkpoint.{Checkpoint}
use Rattle.store_laws.specs.Restored.{Images, restores, switched}
use Rattle.store_laws.specs.Lives.{Either}
use Rattle.store_laws.specs.States.{StoreState, greatest, is_torn, some, Begun, NoJob, Close, Repair, Switch, AddGroup, of_group, of_asked, group_of, due_job, begins, begun, advanced, ends, job_called, store_called, MayLeave}
use Rattle.store_laws.specs.Stands.{Aim, IsOwn, aim_begins}
use Rattle.store_laws.specs.Runs.{called_times, CallFits, RunFits, CallLeaves, RunLeaves, aim_begun, aim_first, aim_then}
use Rattle.store_laws.specs.Tails.{aimed_at, tail_after, TailLeft, stake_before, SwitchesBy, HasSwitched, next_of, SwitchWaits, run_tail, SwitchesFrom, SwitchDue, SwitchNow, SwitchBegan}
use Rattle.store_laws.specs.declared.job.Kept.{Kept}
use Rattle.store_laws.specs.declared.job.Tail.{Tail}
use Rattle.store_laws.specs.declared.job.Ending.{Ending}
use Rattle.store_laws.specs.declared.job.Ending.TheVariants.{Closes, Repairs, Adds, Switches}
use Rattle.store_laws.specs.declared.job.StoreCall.{StoreCall}
use Rattle.store_laws.specs.declared.job.StoreCall.TheVariants.{On, WriteTail}
use Rattle.store_laws.proofs.Moments.{own_call_goes, own_call_restores}
use Rattle.store_laws.proofs.Given.{no_calls, calm_stake}
use Rattle.store_laws.proofs.Tails.{tail_begins, tail_goes, tail_ends, switched_crash, due_by}
use Rattle.store_laws.proofs.SwitchRuns.{called_later, times_later, waits_called}

-- ---- the first calls of a run

fits_front : (stops : List ℕ → Bool) (tail : Tail) (n k : ℕ) (s : StoreState) → k ≤ n → RunFits stops tail n s → RunFits stops tail k s
fits_front stops tail zero zero s le fits = tt
fits_front stops tail zero (suc k) s le fits = absurd (omega (arith, le))
fits_front stops tail (suc n) k s le fits =
    ⊎_elim (λ (is : k ≡ suc n). subst (λ (m : ℕ). RunFits stops tail m s) (sym is) fits) (λ (differs : k ≢ suc n). fits_front stops tail n k s (omega (arith, le, differs)) fits.0)
    (cases_eq k (suc n))

later_front : (stops : List ℕ → Bool) (tail : Tail) (n k : ℕ) (s : StoreState) → k ≤ n → (called_times stops tail k s).generation ≤ (called_times stops tail n s).generation
later_front stops tail zero zero s le = omega arith
later_front stops tail zero (suc k) s le = absurd (omega (arith, le))
later_front stops tail (suc n) k s le =
    ⊎_elim (λ (is : k ≡ suc n). subst (λ (m : ℕ). (called_times stops tail m s).generation ≤ (called_times stops tail (suc n) s).generation) (sym is) (omega arith))
    (λ (differs : k ≢ suc n).
    let before = later_front stops tail n k s (omega (arith, le, differs)) in
    let last = called_later stops tail (called_times stops tail n s) in
    omega (arith, before, last))
    (cases_eq k (suc n))

-- the generation is the same before all of these calls
same_front : (stops : List ℕ → Bool) (tail : Tail) (n k : ℕ) (s : StoreState) → k ≤ n → (called_times stops tail n s).generation ≡ s.generation → (called_times stops tail k s).generation ≡ s.generation
same_front stops tail n k s le same =
    let low = times_later stops tail k s in
    let high = later_front stops tail n k s le in
    omega (arith, low, high, same)

-- ---- a switch that is due is calm

calm_by : (even odd torn : Bool) (rest : Begun) (snapshot : List ℕ) → cond even (Close false) (cond odd (Close true) (cond torn Repair rest)) ≡ Switch snapshot → torn ≡ false
calm_by true odd torn rest snapshot is = absurd cc
calm_by false true torn rest snapshot is = absurd cc
calm_by false false true rest snapshot is = absurd cc
calm_by false false false rest snapshot is = refl

module _ (stops : List ℕ → Bool) (kept : Kept) (next : Checkpoint) (tail last : Tail) where
  -- once the switch has begun
  abbrev Goes : StoreState → Aim → Type 0
  Goes s a = SwitchesFrom kept next tail last (begun stops s) (aim_begun stops s a)

  -- it goes on, or has ended
  abbrev Comes : StoreState → Aim → Type 0
  Comes s a = SwitchesFrom kept next tail last s a ⊎ HasSwitched next last s a

  abbrev Now : StoreState → Aim → Type 0
  Now s a = SwitchNow stops kept next tail last s a

  due_stake : (s : StoreState) (a : Aim) → IsOwn s a → SwitchDue stops kept next tail last s a → a.stake ≡ a.kept
  due_stake s a own w =
      let rest = of_asked (cond (nat_lt s.generation greatest) s.asked None) (of_group (group_of stops s.waiting)) in
      let calm = due_by (is_torn s.even) (is_torn s.odd) s.torn rest next.snapshot w.due in
      calm_stake s a w.idle calm.0 calm.1 (calm_by (is_torn s.even) (is_torn s.odd) s.torn rest next.snapshot w.due) own

  due_begins : (s : StoreState) (a : Aim) → SwitchDue stops kept next tail last s a → SwitchesFrom kept next tail last (begins (due_job stops s) s) (aim_begins (due_job stops s) s a)
  due_begins s a w =
      let next_is : record { generation = s.generation + 1; snapshot = next.snapshot } ≡ next = λ i. record { generation = sym w.generation_is i; snapshot = next.snapshot } in
      let b : SwitchesBy (begins (Switch next.snapshot) s).running a.kept (record { generation = s.generation + 1; snapshot = next.snapshot }) None (begins (Switch next.snapshot) s) (aim_begins (Switch next.snapshot) s a) =
      tail_begins stops s a next.snapshot w.due in
      let c = subst (λ (x : Checkpoint). SwitchesBy (begins (Switch next.snapshot) s).running a.kept x None (begins (Switch next.snapshot) s) (aim_begins (Switch next.snapshot) s a)) next_is b in
      let d = subst (λ (k : Kept). SwitchesBy (begins (Switch next.snapshot) s).running k next None (begins (Switch next.snapshot) s) (aim_begins (Switch next.snapshot) s a)) w.kept_is c in
      subst (λ (job : Begun). SwitchesFrom kept next tail last (begins job s) (aim_begins job s a)) (sym w.due) (record { before = None; last_is = w.last_is; is = d })

  goes_now : (s : StoreState) (a : Aim) → Now s a → Goes s a
  goes_now s a (inl w) = by (some s.running) w.is.runs
    where
      by : (t : Bool) → t ≡ true → SwitchesFrom kept next tail last (cond t s (begins (due_job stops s) s)) (cond t a (aim_begins (due_job stops s) s a))
      by true is = w
      by false is = absurd cc
  goes_now s a (inr w) = by (some s.running) (ap some w.idle)
    where
      by : (t : Bool) → t ≡ false → SwitchesFrom kept next tail last (cond t s (begins (due_job stops s) s)) (cond t a (aim_begins (due_job stops s) s a))
      by true is = absurd cc
      by false is = due_begins s a w

  -- ---- a call

  same_tail : (call : StoreCall) (left : List StoreCall) (before : Option Tail) → TailLeft before (call ∷ left) → run_tail tail (tail_after tail call before) ≡ run_tail tail before
  same_tail (On device call) left before one = refl
  same_tail WriteTail left None one = refl
  same_tail WriteTail left (Some written) one = absurd one

  job_comes : (calls : List StoreCall) (s : StoreState) (a : Aim) (other : Kept) → s.running ≡ calls → SwitchesFrom kept next tail last s a → IsOwn (job_called tail calls s) (aim_first tail calls other a)
      → Comes (job_called tail calls s) (aim_first tail calls other a)
  job_comes [] s a other is w own =
      let clash : true ≡ false = sym w.is.runs ∙ ap some is in
      absurd cc
  job_comes (call ∷ []) s a other is w own =
      let v = subst (λ (calls : List StoreCall). SwitchesBy calls kept next w.before s a) is w.is in
      let e = tail_ends kept next w.before s a tail call other v own in
      let written : run_tail tail (tail_after tail call w.before) ≡ e.0 = ap (λ (o : Option Tail). run_tail tail o) e.1.0 in
      let same : e.0 ≡ last = sym written ∙ same_tail call [] w.before v.tail_left ∙ w.last_is in
      inr (subst (λ (t : Tail). HasSwitched next t (job_called tail (call ∷ []) s) (aim_first tail (call ∷ []) other a)) same e.1.1.0)
  job_comes (call ∷ (more ∷ left)) s a other is w own =
      let v = subst (λ (calls : List StoreCall). SwitchesBy calls kept next w.before s a) is w.is in
      inl (record {
        before = tail_after tail call w.before;
        last_is = same_tail call (more ∷ left) w.before v.tail_left ∙ w.last_is;
        is = tail_goes kept next w.before s a tail call more left v;
      })

  pub now_comes : (s : StoreState) (a : Aim) → IsOwn s a → CallFits stops tail s → Now s a → (b : Aim) × (IsOwn (store_called stops tail s) b × Comes (store_called stops tail s) b)
  now_comes s a own fits now =
      let then = own_call_goes stops tail s a own fits in
      (aim_then stops tail then.0 s a, (then.1, job_comes (begun stops s).running (begun stops s) (aim_begun stops s a) then.0 refl (goes_now s a now) then.1))

  -- ---- what a crash restores

  abbrev Given : Kept → Type 0
  Given x = (x ≡ kept) ⊎ (x ≡ switched next last.entries)

  aimed_given : (before : Option Tail) (x : Kept) → run_tail tail before ≡ last → x ≡ aimed_at kept next before → Given x
  aimed_given None x same is = inl is
  aimed_given (Some written) x same is = inr (is ∙ ap (λ (t : Tail). switched next t.entries) same)

  stake_given : (calls : List StoreCall) (before : Option Tail) (x : Kept) → run_tail tail before ≡ last → x ≡ stake_before calls kept (aimed_at kept next before) → Given x
  stake_given [] before x same is = aimed_given before x same is
  stake_given (call ∷ []) before x same is = aimed_given before x same is
  stake_given (call ∷ (more ∷ left)) before x same is = inl is

  from_given : (s : StoreState) (a : Aim) (images : Images) → SwitchesFrom kept next tail last s a → Either images a.kept a.stake → Given (restores images)
  from_given s a images w (inl is) = inl (is ∙ w.is.kept_is)
  from_given s a images w (inr is) = stake_given s.running w.before (restores images) w.last_is (is ∙ w.is.stake_is)

  comes_given : (s : StoreState) (a : Aim) (images : Images) → Comes s a → Either images a.kept a.stake → Given (restores images)
  comes_given s a images (inl w) either = from_given s a images w either
  comes_given s a images (inr h) (inl is) = inr (is ∙ h.kept_is)
  comes_given s a images (inr h) (inr is) = inr (is ∙ h.stake_is)

  now_given : (s : StoreState) (a : Aim) (images : Images) → IsOwn s a → Now s a → Either images a.kept a.stake → Given (restores images)
  now_given s a images own (inl w) either = from_given s a images w either
  now_given s a images own (inr w) (inl is) = inl (is ∙ w.kept_is)
  now_given s a images own (inr w) (inr is) = inl (is ∙ due_stake s a own w ∙ w.kept_is)

  call_given : (s : StoreState) (a : Aim) (images : Images) → IsOwn s a → Now s a → CallLeaves stops tail s images → Given (restores images)
  call_given s a images own now left = by (own_call_restores stops tail s a own images left)
    where
      by : Either images a.kept a.stake
          ⊎ ((other : Kept) × (IsOwn (store_called stops tail s) (aim_then stops tail other s a) × Either images (aim_then stops tail other s a).kept (aim_then stops tail other s a).stake))
          → Given (restores images)
      by (inl before) = now_given s a images own now before
      by (inr then) =
          comes_given (store_called stops tail s) (aim_then stops tail then.0 s a) images
          (job_comes (begun stops s).running (begun stops s) (aim_begun stops s a) then.0 refl (goes_now s a now) then.1.0) then.1.1

  -- ---- a run

  now_generation : (s : StoreState) (a : Aim) → Now s a → next.generation ≡ s.generation + 1
  now_generation s a (inl w) = w.is.generation_is
  now_generation s a (inr w) = w.generation_is

  -- the switch goes on as long as the generation is the old one
  still_goes : (from : ℕ) (s : StoreState) (a : Aim) → next.generation ≡ from + 1 → s.generation ≡ from → Comes s a → SwitchesFrom kept next tail last s a
  still_goes from s a later old (inl w) = w
  still_goes from s a later old (inr h) =
      let new = h.generation_is in
      absurd (omega (arith, later, old, new))

  pub now_runs : (n : ℕ) (s : StoreState) (a : Aim) → IsOwn s a → Now s a → RunFits stops tail n s → (called_times stops tail n s).generation ≡ s.generation → (b : Aim) × (IsOwn (called_times stops tail n s) b × Now (called_times stops tail n s) b)
  now_runs zero s a own now fits same = (a, (own, now))
  now_runs (suc n) s a own now fits same =
      let before = now_runs n s a own now fits.0 (same_front stops tail (suc n) n s (omega arith) same) in
      let then = now_comes (called_times stops tail n s) before.0 before.1.0 fits.1 before.1.1 in
      (then.0, (then.1.0, inl (still_goes s.generation (called_times stops tail (suc n) s) then.0 (now_generation s a now) same then.1.1)))

  pub whole_begins : (n : ℕ) (s : StoreState) (a : Aim) → IsOwn s a → Now s a → RunFits stops tail (suc n) s → (called_times stops tail (suc n) s).generation ≡ s.generation
      → (b : Aim) × (IsOwn (called_times stops tail (suc n) s) b × SwitchesFrom kept next tail last (called_times stops tail (suc n) s) b)
  whole_begins n s a own now fits same =
      let before = now_runs n s a own now fits.0 (same_front stops tail (suc n) n s (omega arith) same) in
      let then = now_comes (called_times stops tail n s) before.0 before.1.0 fits.1 before.1.1 in
      (then.0, (then.1.0, still_goes s.generation (called_times stops tail (suc n) s) then.0 (now_generation s a now) same then.1.1))

  pub whole_leaves : (n : ℕ) (s : StoreState) (a : Aim) → IsOwn s a → Now s a → RunFits stops tail n s → (called_times stops tail n s).generation ≡ s.generation → (images : Images) → RunLeaves stops tail n s images
      → (restores images ≡ kept) ⊎ (restores images ≡ switched next last.entries)
  whole_leaves n s a own now fits same images l =
      let before = now_runs l.call s a own now (fits_front stops tail n l.call s l.among fits) (same_front stops tail n l.call s l.among same) in
      call_given (called_times stops tail l.call s) before.0 images before.1.0 before.1.1 l.leaves

  pub whole_ends : (n : ℕ) (s : StoreState) (a : Aim) → IsOwn s a → Now s a → RunFits stops tail (suc n) s → (called_times stops tail n s).generation ≡ s.generation → (called_times stops tail (suc n) s).generation ≡ s.generation + 1
      → (b : Aim) × (IsOwn (called_times stops tail (suc n) s) b × HasSwitched next last (called_times stops tail (suc n) s) b)
  whole_ends n s a own now fits old new = (then.0, (then.1.0, by then.1.1))
    where
      before : (b : Aim) × (IsOwn (called_times stops tail n s) b × Now (called_times stops tail n s) b)
      before = now_runs n s a own now fits.0 old

      then : (b : Aim) × (IsOwn (called_times stops tail (suc n) s) b × Comes (called_times stops tail (suc n) s) b)
      then = now_comes (called_times stops tail n s) before.0 before.1.0 fits.1 before.1.1

      by : Comes (called_times stops tail (suc n) s) then.0 → HasSwitched next last (called_times stops tail (suc n) s) then.0
      by (inl w) =
          let later = w.is.generation_is in
          let first = now_generation s a now in
          absurd (omega (arith, later, first, new))
      by (inr h) = h

  pub whole_after : (n : ℕ) (s : StoreState) (a : Aim) → IsOwn s a → Now s a → RunFits stops tail (suc n) s → (called_times stops tail n s).generation ≡ s.generation → (called_times stops tail (suc n) s).generation ≡ s.generation + 1
      → (images : Images) → MayLeave (called_times stops tail (suc n) s).devices images → restores images ≡ switched next last.entries
  whole_after n s a own now fits old new images may =
      let e = whole_ends n s a own now fits old new in
      switched_crash next last (called_times stops tail (suc n) s) e.0 e.1.1 e.1.0 images may

pub whole_runs : (stops : List ℕ → Bool) (kept : Kept) (next : Checkpoint) (before : Option Tail) (tail : Tail) (s : StoreState) (a : Aim) → SwitchesBy s.running kept next before s a → SwitchNow stops kept next tail (run_tail tail before) s a
whole_runs stops kept next before tail s a is = inl (record { before = before; last_is = refl; is = is })

pub whole_due : (stops : List ℕ → Bool) (snapshot : List ℕ) (tail : Tail) (s : StoreState) (a : Aim) → s.running ≡ [] → due_job stops s ≡ Switch snapshot → SwitchNow stops a.kept (next_of s.generation snapshot) tail tail s a
whole_due stops snapshot tail s a idle due = inr (record { last_is = refl; idle = idle; due = due; generation_is = refl; kept_is = refl })

pub whole_goes : (stops : List ℕ → Bool) (kept : Kept) (next : Checkpoint) (before : Option Tail) (tail : Tail) (n : ℕ) (s : StoreState) (a : Aim) → IsOwn s a → SwitchesBy s.running kept next before s a → RunFits stops tail n s
    → (called_times stops tail n s).generation ≡ s.generation → (b : Aim) × (IsOwn (called_times stops tail n s) b × SwitchesFrom kept next tail (run_tail tail before) (called_times stops tail n s) b)
whole_goes stops kept next before tail zero s a own is fits same = (a, (own, record { before = before; last_is = refl; is = is }))
whole_goes stops kept next before tail (suc n) s a own is fits same = whole_begins stops kept next tail (run_tail tail before) n s a own (whole_runs stops kept next before tail s a is) fits same

-- ---- a switch that waits

module _ (stops : List ℕ → Bool) (from : ℕ) (snapshot : List ℕ) (tail : Tail) where
  module _ (s : StoreState) (w : SwitchWaits from snapshot s) where
    -- it waits still, or is the job that begins
    abbrev Which : Begun → Type 0
    Which job = SwitchWaits from snapshot (begins job s) ⊎ (job ≡ Switch snapshot)

    group : (entries : List (List ℕ)) → Which (of_group entries)
    group [] = inl w
    group (entry ∷ entries) = inl (record { generation_is = w.generation_is; asked_is = w.asked_is; no_switch = tt })

    asked_last : (few : Bool) → Which (of_asked (cond few (Some snapshot) None) (of_group (group_of stops s.waiting)))
    asked_last true = inr refl
    asked_last false = group (group_of stops s.waiting)

    choose : (even odd torn : Bool) → Which (cond even (Close false) (cond odd (Close true) (cond torn Repair (of_asked (cond (nat_lt s.generation greatest) s.asked None) (of_group (group_of stops s.waiting))))))
    choose true odd torn = inl (record { generation_is = w.generation_is; asked_is = w.asked_is; no_switch = tt })
    choose false true torn = inl (record { generation_is = w.generation_is; asked_is = w.asked_is; no_switch = tt })
    choose false false true = inl (record { generation_is = w.generation_is; asked_is = w.asked_is; no_switch = tt })
    choose false false false = subst (λ (o : Option (List ℕ)). Which (of_asked (cond (nat_lt s.generation greatest) o None) (of_group (group_of stops s.waiting)))) (sym w.asked_is) (asked_last (nat_lt s.generation greatest))

    waits_or_due : Which (due_job stops s)
    waits_or_due = choose (is_torn s.even) (is_torn s.odd) s.torn

  pub waits_call : (s : StoreState) (a : Aim) → SwitchWaits from snapshot s → SwitchWaits from snapshot (store_called stops tail s) ⊎ SwitchDue stops a.kept (next_of from snapshot) tail tail s a
  waits_call s a w = by (some s.running) refl
    where
      due : s.running ≡ [] → SwitchWaits from snapshot (begins (due_job stops s) s) ⊎ (due_job stops s ≡ Switch snapshot)
          → SwitchWaits from snapshot (job_called tail (begins (due_job stops s) s).running (begins (due_job stops s) s)) ⊎ SwitchDue stops a.kept (next_of from snapshot) tail tail s a
      due idle (inl still) = inl (waits_called from snapshot tail (begins (due_job stops s) s).running (begins (due_job stops s) s) refl still)
      due idle (inr is) = inr (record { last_is = refl; idle = idle; due = is; generation_is = ap (λ (n : ℕ). n + 1) (sym w.generation_is); kept_is = refl })

      by : (t : Bool) → some s.running ≡ t
          → SwitchWaits from snapshot (job_called tail (cond t s (begins (due_job stops s) s)).running (cond t s (begins (due_job stops s) s))) ⊎ SwitchDue stops a.kept (next_of from snapshot) tail tail s a
      by true is = inl (waits_called from snapshot tail s.running s refl w)
      by false is = due (no_calls s.running is) (waits_or_due s w)

  abbrev WaitsOrBegan : ℕ → StoreState → Type 0
  WaitsOrBegan n s = ((b : Aim) × (IsOwn (called_times stops tail n s) b × SwitchWaits from snapshot (called_times stops tail n s))) ⊎ SwitchBegan stops from snapshot tail n s

  pub whole_waits : (n : ℕ) (s : StoreState) (a : Aim) → IsOwn s a → SwitchWaits from snapshot s → RunFits stops tail n s → (called_times stops tail n s).generation ≡ from → WaitsOrBegan n s
  whole_waits zero s a own w fits same = inl (a, (own, w))
  whole_waits (suc n) s a own w fits same =
      let first = w.generation_is in
      let low = times_later stops tail n s in
      let high = called_later stops tail (called_times stops tail n s) in
      by (whole_waits n s a own w fits.0 (omega (arith, first, low, high, same)))
    where
      begins_now : (b : Aim) → IsOwn (called_times stops tail n s) b → SwitchDue stops b.kept (next_of from snapshot) tail tail (called_times stops tail n s) b → SwitchBegan stops from snapshot tail (suc n) s
      begins_now b own_b due =
          let then = now_comes stops b.kept (next_of from snapshot) tail tail (called_times stops tail n s) b own_b fits.1 (inr due) in
          record {
            call = n;
            among = omega arith;
            aim = b;
            own = own_b;
            due = due;
            now = then.0;
            now_own = then.1.0;
            is = still_goes stops b.kept (next_of from snapshot) tail tail from (called_times stops tail (suc n) s) then.0 refl same then.1.1;
          }

      call : (b : Aim) → IsOwn (called_times stops tail n s) b → SwitchWaits from snapshot (store_called stops tail (called_times stops tail n s)) ⊎ SwitchDue stops b.kept (next_of from snapshot) tail tail (called_times stops tail n s) b
          → WaitsOrBegan (suc n) s
      call b own_b (inl still) =
          let then = own_call_goes stops tail (called_times stops tail n s) b own_b fits.1 in
          inl (aim_then stops tail then.0 (called_times stops tail n s) b, (then.1, still))
      call b own_b (inr due) = inr (begins_now b own_b due)

      by : WaitsOrBegan n s → WaitsOrBegan (suc n) s
      by (inl x) = call x.0 x.1.0 (waits_call (called_times stops tail n s) x.0 x.1.1)
      by (inr e) =
          let le = e.among in
          let then = now_comes stops e.aim.kept (next_of from snapshot) tail tail (called_times stops tail n s) e.now e.now_own fits.1 (inl e.is) in
          inr (record {
            call = e.call;
            among = omega (arith, le);
            aim = e.aim;
            own = e.own;
            due = e.due;
            now = then.0;
            now_own = then.1.0;
            is = still_goes stops e.aim.kept (next_of from snapshot) tail tail from (called_times stops tail (suc n) s) then.0 refl same then.1.1;
          })

-- ---- a switch that began waits no more

ends_asked : (ending : Ending) (s : StoreState) → (ends ending s).asked ≡ s.asked
ends_asked (Closes odd) s = refl
ends_asked Repairs s = refl
ends_asked (Adds end) s = refl
ends_asked (Switches end last) s = refl

job_asked : (tail : Tail) (calls : List StoreCall) (s : StoreState) → (job_called tail calls s).asked ≡ s.asked
job_asked tail [] s = refl
job_asked tail (call ∷ []) s = ends_asked (advanced tail call [] s).ending (advanced tail call [] s)
job_asked tail (call ∷ (more ∷ left)) s = refl

begins_none : (job : Begun) (s : StoreState) → s.asked ≡ None → (begins job s).asked ≡ None
begins_none NoJob s none = none
begins_none (Close odd) s none = none
begins_none Repair s none = none
begins_none (Switch snapshot) s none = refl
begins_none (AddGroup group) s none = none

module _ (stops : List ℕ → Bool) (tail : Tail) where
  none_next : (s : StoreState) → s.asked ≡ None → (store_called stops tail s).asked ≡ None
  none_next s none = job_asked tail (begun stops s).running (begun stops s) ∙ by (some s.running)
    where
      by : (t : Bool) → (cond t s (begins (due_job stops s) s)).asked ≡ None
      by true = none
      by false = begins_none (due_job stops s) s none

  pub none_later : (n k : ℕ) (s : StoreState) → k ≤ n → (called_times stops tail k s).asked ≡ None → (called_times stops tail n s).asked ≡ None
  none_later zero zero s le none = none
  none_later zero (suc k) s le none = absurd (omega (arith, le))
  none_later (suc n) k s le none =
      ⊎_elim (λ (is : k ≡ suc n). subst (λ (m : ℕ). (called_times stops tail m s).asked ≡ None) is none)
      (λ (differs : k ≢ suc n). none_next (called_times stops tail n s) (none_later n k s (omega (arith, le, differs)) none)) (cases_eq k (suc n))

  pub due_none : (snapshot : List ℕ) (s : StoreState) → s.running ≡ [] → due_job stops s ≡ Switch snapshot → (store_called stops tail s).asked ≡ None
  due_none snapshot s idle due = job_asked tail (begun stops s).running (begun stops s) ∙ by (some s.running) (ap some idle)
    where
      by : (t : Bool) → t ≡ false → (cond t s (begins (due_job stops s) s)).asked ≡ None
      by true is = absurd cc
      by false is = ap (λ (job : Begun). (begins job s).asked) due

pub whole_unasked : (stops : List ℕ → Bool) (snapshot : List ℕ) (tail : Tail) (n : ℕ) (s : StoreState) → s.running ≡ [] → due_job stops s ≡ Switch snapshot → (called_times stops tail (suc n) s).asked ≡ None
whole_unasked stops snapshot tail n s idle due = none_later stops tail (suc n) 1 s (omega arith) (due_none stops tail snapshot s idle due)
