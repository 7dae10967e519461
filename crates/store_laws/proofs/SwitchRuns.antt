-- A run of calls of a store that was asked to switch: the switch waits, it runs, and it ends with the tail that the run gives.
use Rattle.std.proofs.Common.{◌≡◌, ◌⊎◌, inl, inr, ℕ, zero, suc, ◌+◌, ◌≤◌, nat_lt, Bool, true, false, cond, List, [], ◌∷◌, Option, Some, None, refl, sym, ◌∙◌, ap, subst, arith}
use Rattle.disk_model.specs.declared.call.DeviceCall.{DeviceCall}
use Rattle.store_laws.specs.Restored.{Images}
use Rattle.store_laws.specs.Lives.{Either}
use Rattle.store_laws.specs.States.{StoreState, greatest, is_torn, some, Begun, NoJob, Close, Repair, Switch, AddGroup, of_group, of_asked, group_of, due_job, begins, begun, advanced, ends, job_called, store_called}
use Rattle.store_laws.specs.Stands.{Aim, IsOwn, aim_begins}
use Rattle.store_laws.specs.Runs.{called_times, CallFits, RunFits, CallLeaves, aim_begun, aim_first, aim_then}
use Rattle.store_laws.specs.Tails.{tail_after, SwitchesBy, HasSwitched, NoSwitch, next_of, SwitchWaits, SwitchGoes, SwitchComes, SwitchEnded}
use Rattle.store_laws.specs.declared.job.Kept.{Kept}
use Rattle.store_laws.specs.declared.job.Tail.{Tail}
use Rattle.store_laws.specs.declared.job.Device.{Device}
use Rattle.store_laws.specs.declared.job.Ending.{Ending}
use Rattle.store_laws.specs.declared.job.Ending.TheVariants.{Closes, Repairs, Adds, Switches}
use Rattle.store_laws.specs.declared.job.StoreCall.{StoreCall}
use Rattle.store_laws.specs.declared.job.StoreCall.TheVariants.{On, WriteTail}
use Rattle.store_laws.proofs.Moments.{own_call_goes, own_call_restores}
use Rattle.store_laws.proofs.Tails.{calm_begins, tail_goes, tail_ends}

-- ---- the generation does not fall

ends_later : (ending : Ending) (s : StoreState) → s.generation ≤ (ends ending s).generation
ends_later (Closes odd) s = omega arith
ends_later Repairs s = omega arith
ends_later (Adds end) s = omega arith
ends_later (Switches end last) s = omega arith

job_later : (tail : Tail) (calls : List StoreCall) (s : StoreState) → s.generation ≤ (job_called tail calls s).generation
job_later tail [] s = omega arith
job_later tail (call ∷ []) s = ends_later (advanced tail call [] s).ending (advanced tail call [] s)
job_later tail (call ∷ (more ∷ left)) s = omega arith

begins_generation : (job : Begun) (s : StoreState) → (begins job s).generation ≡ s.generation
begins_generation NoJob s = refl
begins_generation (Close odd) s = refl
begins_generation Repair s = refl
begins_generation (Switch snapshot) s = refl
begins_generation (AddGroup group) s = refl

pub begun_generation : (stops : List ℕ → Bool) (s : StoreState) → (begun stops s).generation ≡ s.generation
begun_generation stops s = by (some s.running)
  where
    by : (t : Bool) → (cond t s (begins (due_job stops s) s)).generation ≡ s.generation
    by true = refl
    by false = begins_generation (due_job stops s) s

pub called_later : (stops : List ℕ → Bool) (tail : Tail) (s : StoreState) → s.generation ≤ (store_called stops tail s).generation
called_later stops tail s =
    let same = begun_generation stops s in
    let later = job_later tail (begun stops s).running (begun stops s) in
    omega (arith, same, later)

pub times_later : (stops : List ℕ → Bool) (tail : Tail) (n : ℕ) (s : StoreState) → s.generation ≤ (called_times stops tail n s).generation
times_later stops tail zero s = omega arith
times_later stops tail (suc n) s =
    let before = times_later stops tail n s in
    let last = called_later stops tail (called_times stops tail n s) in
    omega (arith, before, last)

-- ---- while the switch waits

none_switch : (ending : Ending) → NoSwitch [] ending
none_switch (Closes odd) = tt
none_switch Repairs = tt
none_switch (Adds end) = tt
none_switch (Switches end last) = refl

left_no_switch : (ending : Ending) (device : Device) (call : DeviceCall) (left : List StoreCall) → NoSwitch (On device call ∷ left) ending → NoSwitch left ending
left_no_switch (Closes odd) device call left is = is
left_no_switch Repairs device call left is = is
left_no_switch (Adds end) device call left is = is
left_no_switch (Switches end last) device call left is = absurd cc

no_tail_first : (ending : Ending) (left : List StoreCall) → NoSwitch (WriteTail ∷ left) ending → ⊥
no_tail_first (Closes odd) left is = is
no_tail_first Repairs left is = is
no_tail_first (Adds end) left is = is
no_tail_first (Switches end last) left is = cc

module _ (from : ℕ) (snapshot : List ℕ) (tail : Tail) where
  waits_ends : (ending : Ending) (device : Device) (call : DeviceCall) (s : StoreState) → s.generation ≡ from → s.asked ≡ Some snapshot → NoSwitch (On device call ∷ []) ending → SwitchWaits from snapshot (ends ending s)
  waits_ends (Closes odd) device call s generation asked_is none = record { generation_is = generation; asked_is = asked_is; no_switch = none_switch s.ending }
  waits_ends Repairs device call s generation asked_is none = record { generation_is = generation; asked_is = asked_is; no_switch = none_switch s.ending }
  waits_ends (Adds end) device call s generation asked_is none = record { generation_is = generation; asked_is = asked_is; no_switch = none_switch s.ending }
  waits_ends (Switches end last) device call s generation asked_is none = absurd cc

  pub waits_called : (calls : List StoreCall) (s : StoreState) → s.running ≡ calls → SwitchWaits from snapshot s → SwitchWaits from snapshot (job_called tail calls s)
  waits_called [] s is w = w
  waits_called (WriteTail ∷ left) s is w = absurd (no_tail_first s.ending left (subst (λ (calls : List StoreCall). NoSwitch calls s.ending) is w.no_switch))
  waits_called (On device call ∷ []) s is w =
      waits_ends s.ending device call (advanced tail (On device call) [] s) w.generation_is w.asked_is (subst (λ (calls : List StoreCall). NoSwitch calls s.ending) is w.no_switch)
  waits_called (On device call ∷ (more ∷ left)) s is w = record {
    generation_is = w.generation_is;
    asked_is = w.asked_is;
    no_switch = left_no_switch s.ending device call (more ∷ left) (subst (λ (calls : List StoreCall). NoSwitch calls s.ending) is w.no_switch);
  }

  -- ---- a job begins

  module _ (stops : List ℕ → Bool) (s : StoreState) (a : Aim) (w : SwitchWaits from snapshot s) where
    abbrev Begins : Begun → Type 0
    Begins job = SwitchGoes from snapshot tail (begins job s) (aim_begins job s a)

    switch : is_torn s.even ≡ false → is_torn s.odd ≡ false → Begins (Switch snapshot)
    switch even odd_is =
        inr (record {
          kept = a.kept;
          before = None;
          given = inl refl;
          is =
              subst (λ (g : ℕ). SwitchesBy (begins (Switch snapshot) s).running a.kept (next_of g snapshot) None (begins (Switch snapshot) s) (aim_begins (Switch snapshot) s a)) w.generation_is
              (calm_begins s a snapshot even odd_is);
        })

    group : (entries : List (List ℕ)) → Begins (of_group entries)
    group [] = inl w
    group (entry ∷ entries) = inl (record { generation_is = w.generation_is; asked_is = w.asked_is; no_switch = tt })

    last : is_torn s.even ≡ false → is_torn s.odd ≡ false → Begins (of_asked (cond (nat_lt s.generation greatest) s.asked None) (of_group (group_of stops s.waiting)))
    last even odd_is =
        subst (λ (o : Option (List ℕ)). Begins (of_asked (cond (nat_lt s.generation greatest) o None) (of_group (group_of stops s.waiting)))) (sym w.asked_is) (by (nat_lt s.generation greatest))
      where
        by : (t : Bool) → Begins (of_asked (cond t (Some snapshot) None) (of_group (group_of stops s.waiting)))
        by true = switch even odd_is
        by false = group (group_of stops s.waiting)

    choose : (even odd torn : Bool) → is_torn s.even ≡ even → is_torn s.odd ≡ odd
        → Begins (cond even (Close false) (cond odd (Close true) (cond torn Repair (of_asked (cond (nat_lt s.generation greatest) s.asked None) (of_group (group_of stops s.waiting))))))
    choose true odd torn even_is odd_is = inl (record { generation_is = w.generation_is; asked_is = w.asked_is; no_switch = tt })
    choose false true torn even_is odd_is = inl (record { generation_is = w.generation_is; asked_is = w.asked_is; no_switch = tt })
    choose false false true even_is odd_is = inl (record { generation_is = w.generation_is; asked_is = w.asked_is; no_switch = tt })
    choose false false false even_is odd_is = last even_is odd_is

    waits_begins : Begins (due_job stops s)
    waits_begins = choose (is_torn s.even) (is_torn s.odd) s.torn refl refl

  begun_goes : (stops : List ℕ → Bool) (s : StoreState) (a : Aim) → SwitchGoes from snapshot tail s a → SwitchGoes from snapshot tail (begun stops s) (aim_begun stops s a)
  begun_goes stops s a goes = by (some s.running) refl
    where
      start : some s.running ≡ false → SwitchGoes from snapshot tail s a → SwitchGoes from snapshot tail (begins (due_job stops s) s) (aim_begins (due_job stops s) s a)
      start none (inl w) = waits_begins stops s a w
      start none (inr r) =
          let clash : false ≡ true = sym none ∙ r.is.runs in
          absurd cc

      by : (t : Bool) → some s.running ≡ t → SwitchGoes from snapshot tail (cond t s (begins (due_job stops s) s)) (cond t a (aim_begins (due_job stops s) s a))
      by true is = goes
      by false is = start is goes

  -- ---- the next call

  given_after : (call : StoreCall) (before : Option Tail) → (before ≡ None) ⊎ (before ≡ Some tail) → (tail_after tail call before ≡ None) ⊎ (tail_after tail call before ≡ Some tail)
  given_after (On device call) before given = given
  given_after WriteTail before given = inr refl

  -- the tail that is written is the one that the run gives
  tail_is : (o : Option Tail) (t : Tail) → (o ≡ None) ⊎ (o ≡ Some tail) → o ≡ Some t → t ≡ tail
  tail_is o t (inl none) is =
      let clash : None ≡ Some t = sym none ∙ is in
      absurd cc
  tail_is o t (inr same) is = ap get (sym is ∙ same)
    where
      get : Option Tail → Tail
      get None = tail
      get (Some x) = x

  job_comes : (calls : List StoreCall) (s : StoreState) (a : Aim) (other : Kept) → s.running ≡ calls → SwitchGoes from snapshot tail s a → IsOwn (job_called tail calls s) (aim_first tail calls other a)
      → SwitchComes from snapshot tail (job_called tail calls s) (aim_first tail calls other a)
  job_comes calls s a other is (inl w) own = inl (inl (waits_called calls s is w))
  job_comes [] s a other is (inr r) own =
      let clash : true ≡ false = sym r.is.runs ∙ ap some is in
      absurd cc
  job_comes (call ∷ []) s a other is (inr r) own =
      let v = subst (λ (calls : List StoreCall). SwitchesBy calls r.kept (next_of from snapshot) r.before s a) is r.is in
      let e = tail_ends r.kept (next_of from snapshot) r.before s a tail call other v own in
      let same : e.0 ≡ tail = tail_is (tail_after tail call r.before) e.0 (given_after call r.before r.given) e.1.0 in
      inr (subst (λ (t : Tail). HasSwitched (next_of from snapshot) t (job_called tail (call ∷ []) s) (aim_first tail (call ∷ []) other a)) same e.1.1.0)
  job_comes (call ∷ (more ∷ left)) s a other is (inr r) own =
      let v = subst (λ (calls : List StoreCall). SwitchesBy calls r.kept (next_of from snapshot) r.before s a) is r.is in
      inl (inr (record {
        kept = r.kept;
        before = tail_after tail call r.before;
        given = given_after call r.before r.given;
        is = tail_goes r.kept (next_of from snapshot) r.before s a tail call more left v;
      }))

  pub call_comes : (stops : List ℕ → Bool) (s : StoreState) (a : Aim) → IsOwn s a → CallFits stops tail s → SwitchGoes from snapshot tail s a
      → (b : Aim) × (IsOwn (store_called stops tail s) b × SwitchComes from snapshot tail (store_called stops tail s) b)
  call_comes stops s a own fits goes =
      let then = own_call_goes stops tail s a own fits in
      (aim_then stops tail then.0 s a, (then.1, job_comes (begun stops s).running (begun stops s) (aim_begun stops s a) then.0 refl (begun_goes stops s a goes) then.1))

  pub call_restores : (stops : List ℕ → Bool) (s : StoreState) (a : Aim) → IsOwn s a → SwitchGoes from snapshot tail s a → (images : Images) → CallLeaves stops tail s images
      → Either images a.kept a.stake ⊎ ((b : Aim) × (IsOwn (store_called stops tail s) b × (SwitchComes from snapshot tail (store_called stops tail s) b × Either images b.kept b.stake)))
  call_restores stops s a own goes images left = by (own_call_restores stops tail s a own images left)
    where
      by : Either images a.kept a.stake
          ⊎ ((other : Kept) × (IsOwn (store_called stops tail s) (aim_then stops tail other s a) × Either images (aim_then stops tail other s a).kept (aim_then stops tail other s a).stake))
          → Either images a.kept a.stake ⊎ ((b : Aim) × (IsOwn (store_called stops tail s) b × (SwitchComes from snapshot tail (store_called stops tail s) b × Either images b.kept b.stake)))
      by (inl now) = inl now
      by (inr then) =
          inr (
            aim_then stops tail then.0 s a,
            (then.1.0, (job_comes (begun stops s).running (begun stops s) (aim_begun stops s a) then.0 refl (begun_goes stops s a goes) then.1.0, then.1.1)),
          )

  -- ---- a run

  goes_from : (s : StoreState) (a : Aim) → SwitchGoes from snapshot tail s a → s.generation ≡ from
  goes_from s a (inl w) = w.generation_is
  goes_from s a (inr r) =
      let next = r.is.generation_is in
      omega (arith, next)

  -- the switch waits or runs as long as the generation is the old one
  still_goes : (s : StoreState) (a : Aim) → s.generation ≡ from → SwitchComes from snapshot tail s a → SwitchGoes from snapshot tail s a
  still_goes s a old (inl goes) = goes
  still_goes s a old (inr h) =
      let next = h.generation_is in
      absurd (omega (arith, old, next))

  -- and has ended once it is the next one
  now_switched : (s : StoreState) (a : Aim) → s.generation ≡ from + 1 → SwitchComes from snapshot tail s a → HasSwitched (next_of from snapshot) tail s a
  now_switched s a new (inl goes) =
      let old = goes_from s a goes in
      absurd (omega (arith, old, new))
  now_switched s a new (inr h) = h

  pub run_goes : (stops : List ℕ → Bool) (n : ℕ) (s : StoreState) (a : Aim) → IsOwn s a → SwitchGoes from snapshot tail s a → RunFits stops tail n s → (called_times stops tail n s).generation ≡ from
      → (b : Aim) × (IsOwn (called_times stops tail n s) b × SwitchGoes from snapshot tail (called_times stops tail n s) b)
  run_goes stops zero s a own goes fits old = (a, (own, goes))
  run_goes stops (suc n) s a own goes fits old =
      let first = goes_from s a goes in
      let low = times_later stops tail n s in
      let high = called_later stops tail (called_times stops tail n s) in
      let before = run_goes stops n s a own goes fits.0 (omega (arith, first, low, high, old)) in
      let then = call_comes stops (called_times stops tail n s) before.0 before.1.0 fits.1 before.1.1 in
      (then.0, (then.1.0, still_goes (called_times stops tail (suc n) s) then.0 old then.1.1))

  pub run_switches : (stops : List ℕ → Bool) (n : ℕ) (s : StoreState) (a : Aim) → IsOwn s a → SwitchGoes from snapshot tail s a → RunFits stops tail (suc n) s → (called_times stops tail n s).generation ≡ from
      → (called_times stops tail (suc n) s).generation ≡ from + 1
      → (b : Aim) × (IsOwn (called_times stops tail (suc n) s) b × HasSwitched (next_of from snapshot) tail (called_times stops tail (suc n) s) b)
  run_switches stops n s a own goes fits old new =
      let before = run_goes stops n s a own goes fits.0 old in
      let then = call_comes stops (called_times stops tail n s) before.0 before.1.0 fits.1 before.1.1 in
      (then.0, (then.1.0, now_switched (called_times stops tail (suc n) s) then.0 new then.1.1))

  pub run_comes : (stops : List ℕ → Bool) (n : ℕ) (s : StoreState) (a : Aim) → IsOwn s a → SwitchGoes from snapshot tail s a → RunFits stops tail n s
      → ((b : Aim) × (IsOwn (called_times stops tail n s) b × SwitchGoes from snapshot tail (called_times stops tail n s) b)) ⊎ SwitchEnded stops from snapshot tail n s
  run_comes stops zero s a own goes fits = inl (a, (own, goes))
  run_comes stops (suc n) s a own goes fits = by (run_comes stops n s a own goes fits.0)
    where
      last : (b : Aim) × (IsOwn (called_times stops tail (suc n) s) b × SwitchComes from snapshot tail (called_times stops tail (suc n) s) b)
          → ((b : Aim) × (IsOwn (called_times stops tail (suc n) s) b × SwitchGoes from snapshot tail (called_times stops tail (suc n) s) b)) ⊎ SwitchEnded stops from snapshot tail (suc n) s
      last (b, (now, inl more)) = inl (b, (now, more))
      last (b, (now, inr has)) = inr (record { call = suc n; among = omega arith; aim = b; own = now; has = has })

      by : ((b : Aim) × (IsOwn (called_times stops tail n s) b × SwitchGoes from snapshot tail (called_times stops tail n s) b)) ⊎ SwitchEnded stops from snapshot tail n s
          → ((b : Aim) × (IsOwn (called_times stops tail (suc n) s) b × SwitchGoes from snapshot tail (called_times stops tail (suc n) s) b)) ⊎ SwitchEnded stops from snapshot tail (suc n) s
      by (inl before) = last (call_comes stops (called_times stops tail n s) before.0 before.1.0 fits.1 before.1.1)
      by (inr e) =
          let le = e.among in
          inr (record { call = e.call; among = omega (arith, le); aim = e.aim; own = e.own; has = e.has })
