-- The place of the switch that runs: that of the one which waited, from the call on at which it begins.
use Rattle.std.proofs.Common.{◌≡◌, ℕ, nat_lt, Bool, true, false, not, ◌&&◌, cond, List, [], ◌∷◌, Option, Some, None, is_some, refl, sym, ap, ◌∙◌, subst}
use Rattle.store_laws.specs.States.{StoreState, greatest, is_torn, some, Begun, Close, Repair, Switch, AddGroup, of_group, of_asked, group_of, due_job, begins, advanced, ends, job_called, store_called}
use Rattle.store_laws.specs.declared.job.Tail.{Tail}
use Rattle.store_laws.specs.declared.job.Ending.{Ending}
use Rattle.store_laws.specs.declared.job.Ending.TheVariants.{Closes, Repairs, Adds, Switches}
use Rattle.store_laws.specs.declared.job.StoreCall.{StoreCall}
use Rattle.world_rules.specs.Fronts.{stated_place}
use Rattle.member_store.specs.Cuts.{asked_place, place_by, place_then}

-- ---- a call of a job asks for nothing

ends_asked : (e : Ending) (q : StoreState) → (ends e q).asked ≡ q.asked
ends_asked (Closes odd) q = refl
ends_asked Repairs q = refl
ends_asked (Adds end) q = refl
ends_asked (Switches end last) q = refl

job_asked : (tail : Tail) (calls : List StoreCall) (q : StoreState) → (job_called tail calls q).asked ≡ q.asked
job_asked tail [] q = refl
job_asked tail (call ∷ []) q = ends_asked (advanced tail call [] q).ending (advanced tail call [] q)
job_asked tail (call ∷ (more ∷ left)) q = refl

-- no switch has begun
none_began : (waited now : Option (List ℕ)) (x y : ℕ) → now ≡ waited → cond (is_some waited && not (is_some now)) x y ≡ y
none_began None now x y is = refl
none_began (Some snapshot) now x y is = subst (λ (o : Option (List ℕ)). cond (not (is_some o)) x y ≡ y) (sym is) refl

-- the one that waited has begun
one_began : (waited now : Option (List ℕ)) (snapshot : List ℕ) (y : ℕ) → waited ≡ Some snapshot → now ≡ None → stated_place snapshot ≡ cond (is_some waited && not (is_some now)) (asked_place waited) y
one_began None now snapshot y is none = absurd cc
one_began (Some other) None snapshot y is none = sym (ap asked_place is)
one_began (Some other) (Some more) snapshot y is none = absurd cc

was_asked : (t : Bool) (waits : Option (List ℕ)) (snapshot : List ℕ) → Some snapshot ≡ cond t waits None → waits ≡ Some snapshot
was_asked true waits snapshot is = sym is
was_asked false waits snapshot is = absurd cc

module _ (stops : List ℕ → Bool) (s : StoreState) (place : ℕ) (tail : Tail) where
  -- the place after the first call of this job
  abbrev Placed : Begun → Type 0
  Placed job = place_by job place ≡ cond (is_some s.asked && not (is_some (job_called tail (begins job s).running (begins job s)).asked)) (asked_place s.asked) place

  same_asked : (q : StoreState) → q.asked ≡ s.asked → place ≡ cond (is_some s.asked && not (is_some (job_called tail q.running q).asked)) (asked_place s.asked) place
  same_asked q is = sym (none_began s.asked (job_called tail q.running q).asked (asked_place s.asked) place (job_asked tail q.running q ∙ is))

  switch : (snapshot : List ℕ) → s.asked ≡ Some snapshot → Placed (Switch snapshot)
  switch snapshot is = one_began s.asked (job_called tail (begins (Switch snapshot) s).running (begins (Switch snapshot) s)).asked snapshot place is (job_asked tail (begins (Switch snapshot) s).running (begins (Switch snapshot) s))

  group : (entries : List (List ℕ)) → Placed (of_group entries)
  group [] = same_asked s refl
  group (entry ∷ entries) = same_asked (begins (AddGroup (entry ∷ entries)) s) refl

  first_asked : (o : Option (List ℕ)) → o ≡ cond (nat_lt s.generation greatest) s.asked None → Placed (of_asked o (of_group (group_of stops s.waiting)))
  first_asked None is = group (group_of stops s.waiting)
  first_asked (Some snapshot) is = switch snapshot (was_asked (nat_lt s.generation greatest) s.asked snapshot is)

  choose : (even odd torn : Bool) → Placed (cond even (Close false) (cond odd (Close true) (cond torn Repair (of_asked (cond (nat_lt s.generation greatest) s.asked None) (of_group (group_of stops s.waiting))))))
  choose true odd torn = same_asked (begins (Close false) s) refl
  choose false true torn = same_asked (begins (Close true) s) refl
  choose false false true = same_asked (begins Repair s) refl
  choose false false false = first_asked (cond (nat_lt s.generation greatest) s.asked None) refl

  pub placed : place_then stops s place ≡ cond (is_some s.asked && not (is_some (store_called stops tail s).asked)) (asked_place s.asked) place
  placed = by (some s.running)
    where
      by : (t : Bool) → cond t place (place_by (due_job stops s) place)
          ≡ cond (is_some s.asked && not (is_some (job_called tail (cond t s (begins (due_job stops s) s)).running (cond t s (begins (due_job stops s) s))).asked)) (asked_place s.asked) place
      by true = same_asked s refl
      by false = choose (is_torn s.even) (is_torn s.odd) s.torn
