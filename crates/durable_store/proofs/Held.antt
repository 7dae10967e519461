-- While no switch runs or waits, the entries that wait are taken by one group alone, and nothing is due once that is firm.
use Rattle.std.proofs.Common.{◌≡◌, ◌⊎◌, inl, inr, ⊎_elim, ℕ, nat_lt, Bool, true, false, cond, List, [], ◌∷◌, length, drop, Option, Some, None, refl, sym, ◌∙◌, ap}
use Rattle.store_laws.specs.States.{Devices, StoreState, greatest, is_torn, some, writes_tail, group_of, of_group, of_asked, Begun, NoJob, Close, Repair, due_job, begins, is_due, advanced, ends, job_called, store_called}
use Rattle.store_laws.specs.declared.job.StoreCall.{StoreCall}
use Rattle.store_laws.specs.declared.job.StoreCall.TheVariants.{On, WriteTail}
use Rattle.store_laws.specs.declared.job.Device.{Device}
use Rattle.disk_model.specs.declared.call.DeviceCall.{DeviceCall}
use Rattle.store_laws.specs.declared.job.Ending.{Ending}
use Rattle.store_laws.specs.declared.job.Ending.TheVariants.{Closes, Repairs, Adds, Switches}
use Rattle.store_laws.specs.declared.job.Tail.{Tail}
use Rattle.store_laws.proofs.Given.{idle_now}
use Rattle.store_plan.specs.declared.plan.Plan.{Plan}
use Rattle.store_plan.specs.Plans.{state_with}
use Rattle.store_plan.proofs.Ready.{no_calls}
use Rattle.store_plan.proofs.Due.{begun_begins, due_group, due_group_full}
use Rattle.durable_store.specs.Runs.{IsNoSwitch, IsUnasked}

-- ---- a job that is no switch

pub idle_no_switch : (ending : Ending) → IsNoSwitch [] ending
idle_no_switch (Closes odd) = tt
idle_no_switch Repairs = tt
idle_no_switch (Adds end) = tt
idle_no_switch (Switches end made) = refl

pub no_switch_left : (ending : Ending) (device : Device) (call : DeviceCall) (left : List StoreCall) → IsNoSwitch (On device call ∷ left) ending → IsNoSwitch left ending
no_switch_left (Closes odd) device call left is = is
no_switch_left Repairs device call left is = is
no_switch_left (Adds end) device call left is = is
no_switch_left (Switches end made) device call left is = absurd cc

pub no_tail_first : (ending : Ending) (left : List StoreCall) → IsNoSwitch (WriteTail ∷ left) ending → ⊥
no_tail_first (Closes odd) left is = is
no_tail_first Repairs left is = is
no_tail_first (Adds end) left is = is
no_tail_first (Switches end made) left is = cc

pub never_tail : (calls : List StoreCall) (ending : Ending) → IsNoSwitch calls ending → writes_tail calls ≡ true → ⊥
never_tail [] ending is wants = cc
never_tail (On device call ∷ left) ending is wants = cc
never_tail (WriteTail ∷ left) ending is wants = no_tail_first ending left is

-- ---- the group of what waits

-- the calls that are left add a group, or none is left and the gate after the groups is closed
abbrev pub TakenBy : List StoreCall → Ending → Bool → Type 0
TakenBy [] ending torn = torn ≡ false
TakenBy (call ∷ left) (Closes odd) torn = ⊥
TakenBy (call ∷ left) Repairs torn = ⊥
TakenBy (call ∷ left) (Adds end) torn = Unit {0}
TakenBy (call ∷ left) (Switches end made) torn = ⊥

taken_left : (ending : Ending) (torn : Bool) (call more : StoreCall) (left left_too : List StoreCall) → TakenBy (call ∷ left) ending torn → TakenBy (more ∷ left_too) ending torn
taken_left (Closes odd) torn call more left left_too is = is
taken_left Repairs torn call more left left_too is = is
taken_left (Adds end) torn call more left left_too is = tt
taken_left (Switches end made) torn call more left left_too is = is

pub record HasTaken (stops : List ℕ → Bool) (waited : List (List ℕ)) (calls : List StoreCall) (s : StoreState) : Type 0 where
  pub even : is_torn s.even ≡ false
  pub odd : is_torn s.odd ≡ false
  pub group : group_of stops s.waiting ≡ []
  pub rest : s.waiting ≡ drop (length (group_of stops waited)) waited
  pub by : TakenBy calls s.ending s.torn

pub record Held (stops : List ℕ → Bool) (waited : List (List ℕ)) (s : StoreState) : Type 0 where
  pub unasked : IsUnasked s
  pub waits : (s.waiting ≡ waited) ⊎ HasTaken stops waited s.running s

module _ (stops : List ℕ → Bool) (waited : List (List ℕ)) where
  ends_held : (ending : Ending) (device : Device) (call : DeviceCall) (q : StoreState) → IsNoSwitch (On device call ∷ []) ending → q.asked ≡ None
      → (q.waiting ≡ waited) ⊎ ((is_torn q.even ≡ false) × ((is_torn q.odd ≡ false) × ((group_of stops q.waiting ≡ []) × ((q.waiting ≡ drop (length (group_of stops waited)) waited) × TakenBy (On device call ∷ []) ending q.torn)))) → Held stops waited (ends ending q)
  ends_held (Closes odd) device call q is none waits = record {
    unasked = record { asked = none; job = idle_no_switch q.ending };
    waits = ⊎_elim (λ same. inl same) (λ t. absurd t.1.1.1.1) waits;
  }
  ends_held Repairs device call q is none waits = record {
    unasked = record { asked = none; job = idle_no_switch q.ending };
    waits = ⊎_elim (λ same. inl same) (λ t. absurd t.1.1.1.1) waits;
  }
  ends_held (Adds end) device call q is none waits = record {
    unasked = record { asked = none; job = idle_no_switch q.ending };
    waits = ⊎_elim (λ same. inl same) (λ t. inr (record { even = t.0; odd = t.1.0; group = t.1.1.0; rest = t.1.1.1.0; by = refl })) waits;
  }
  ends_held (Switches end made) device call q is none waits = absurd cc

  called_held : (tail : Tail) (calls : List StoreCall) (s : StoreState) → some calls ≡ true → s.asked ≡ None → IsNoSwitch calls s.ending → (s.waiting ≡ waited) ⊎ HasTaken stops waited calls s → Held stops waited (job_called tail calls s)
  called_held tail [] s runs none is waits = absurd cc
  called_held tail (WriteTail ∷ left) s runs none is waits = absurd (no_tail_first s.ending left is)
  called_held tail (On device call ∷ []) s runs none is waits =
      ends_held s.ending device call (advanced tail (On device call) [] s) is none (⊎_elim (λ same. inl same) (λ t. inr (t.even, (t.odd, (t.group, (t.rest, t.by))))) waits)
  called_held tail (On device call ∷ more ∷ left) s runs none is waits = record {
    unasked = record { asked = none; job = no_switch_left s.ending device call (more ∷ left) is };
    waits = ⊎_elim (λ same. inl same) (λ t. inr (record { even = t.even; odd = t.odd; group = t.group; rest = t.rest; by = taken_left s.ending s.torn (On device call) more (more ∷ left) left t.by })) waits;
  }

  -- ---- a job that begins

  rest_by : (entry : List ℕ) (entries : List (List ℕ)) (t : Bool) → stops entry ≡ t → group_of stops (drop (length (group_of stops entries)) entries) ≡ []
      → group_of stops (drop (length (cond t [] (entry ∷ group_of stops entries))) (entry ∷ entries)) ≡ []
  rest_by entry entries true is rest = ap (λ (t : Bool). cond t [] (entry ∷ group_of stops entries)) is
  rest_by entry entries false is rest = rest

  rest_of : (w : List (List ℕ)) → group_of stops (drop (length (group_of stops w)) w) ≡ []
  rest_of [] = refl
  rest_of (entry ∷ entries) = rest_by entry entries (stops entry) refl (rest_of entries)

  pub record Begins (s q : StoreState) : Type 0 where
    pub asked : q.asked ≡ None
    pub job : IsNoSwitch q.running q.ending
    pub waits : (q.waiting ≡ waited) ⊎ HasTaken stops waited q.running q

  abbrev Holds : StoreState → Begun → Type 0
  Holds s job = some (begins job s).running ≡ true → Begins s (begins job s)

  abbrev Calm : StoreState → Type 0
  Calm s = (is_torn s.even ≡ false) × ((is_torn s.odd ≡ false) × (s.torn ≡ false))

  pub begin_held : (s : StoreState) → s.running ≡ [] → s.asked ≡ None → s.waiting ≡ waited → some (begins (due_job stops s) s).running ≡ true → Begins s (begins (due_job stops s) s)
  begin_held s idle none same = at_even (is_torn s.even) refl
    where
      at_group : Calm s → (group : List (List ℕ)) → group_of stops s.waiting ≡ group → Holds s (of_group group)
      at_group calm [] is = λ runs.
          let clash : false ≡ true = sym (ap some idle) ∙ runs in
          absurd cc
      at_group calm (entry ∷ entries) is = λ runs.
          record {
            asked = none;
            job = tt;
            waits = inr (record { even = calm.0; odd = calm.1.0; group = ap (λ (g : List (List ℕ)). group_of stops (drop (length g) s.waiting)) (sym is) ∙ rest_of s.waiting; rest = ap (λ (g : List (List ℕ)). drop (length g) s.waiting) (sym is) ∙ ap (λ (w : List (List ℕ)). drop (length (group_of stops w)) w) same; by = tt });
          }

      at_asked : Calm s → (asked : Option (List ℕ)) → (cond (nat_lt s.generation greatest) s.asked None) ≡ asked → Holds s (of_asked asked (of_group (group_of stops s.waiting)))
      at_asked calm None is = at_group calm (group_of stops s.waiting) refl
      at_asked calm (Some snapshot) is = λ runs.
          let clash : None ≡ Some snapshot = sym (never (nat_lt s.generation greatest) s.asked none) ∙ is in
          absurd cc
        where
          never : (t : Bool) (asked : Option (List ℕ)) → asked ≡ None → (cond t asked None) ≡ None
          never true asked is = is
          never false asked is = refl

      at_log : is_torn s.even ≡ false → is_torn s.odd ≡ false → (t : Bool) → s.torn ≡ t → Holds s (cond t Repair (of_asked (cond (nat_lt s.generation greatest) s.asked None) (of_group (group_of stops s.waiting))))
      at_log even odd true is = λ runs. record { asked = none; job = tt; waits = inl same }
      at_log even odd false is = at_asked (even, (odd, is)) (cond (nat_lt s.generation greatest) s.asked None) refl

      at_odd : is_torn s.even ≡ false → (t : Bool) → is_torn s.odd ≡ t
          → Holds s (cond t (Close true) (cond s.torn Repair (of_asked (cond (nat_lt s.generation greatest) s.asked None) (of_group (group_of stops s.waiting)))))
      at_odd even true is = λ runs. record { asked = none; job = tt; waits = inl same }
      at_odd even false is = at_log even is s.torn refl

      at_even : (t : Bool) → is_torn s.even ≡ t
          → Holds s (cond t (Close false) (cond (is_torn s.odd) (Close true) (cond s.torn Repair (of_asked (cond (nat_lt s.generation greatest) s.asked None) (of_group (group_of stops s.waiting))))))
      at_even true is = λ runs. record { asked = none; job = tt; waits = inl same }
      at_even false is = at_odd is (is_torn s.odd) refl

  -- ---- a call of a store

  taken_torn : (calls : List StoreCall) (ending : Ending) (torn : Bool) → calls ≡ [] → TakenBy calls ending torn → torn ≡ false
  taken_torn [] ending torn is by = by
  taken_torn (call ∷ left) ending torn is by = absurd cc

  pub not_due : (s : StoreState) → some s.running ≡ false → s.asked ≡ None → HasTaken stops waited s.running s → is_due stops s ≡ true → ⊥
  not_due s idle none taken due =
      let torn = taken_torn s.running s.ending s.torn (no_calls s.running idle) taken.by in
      let job = of_waiting torn (nat_lt s.generation greatest) refl in
      let same = begun_begins stops s (of_group (group_of stops s.waiting)) idle job ∙ ap (λ (g : List (List ℕ)). begins (of_group g) s) taken.group in
      let clash : false ≡ true = sym idle ∙ sym (ap (λ (q : StoreState). some q.running) same) ∙ due in
      cc
    where
      of_waiting : s.torn ≡ false → (t : Bool) → nat_lt s.generation greatest ≡ t → due_job stops s ≡ of_group (group_of stops s.waiting)
      of_waiting torn true few = due_group stops s taken.even taken.odd torn few none
      of_waiting torn false full = due_group_full stops s taken.even taken.odd torn full

  pub next_held : (tail : Tail) (s : StoreState) → is_due stops s ≡ true → Held stops waited s → Held stops waited (store_called stops tail s)
  next_held tail s due held = by (some s.running) refl due
    where
      by : (t : Bool) → some s.running ≡ t → some (cond t s (begins (due_job stops s) s)).running ≡ true
          → Held stops waited (job_called tail (cond t s (begins (due_job stops s) s)).running (cond t s (begins (due_job stops s) s)))
      by true is runs = called_held tail s.running s runs held.unasked.asked held.unasked.job held.waits
      by false is runs =
          let same = ⊎_elim (λ (w : s.waiting ≡ waited). w) (λ (t : HasTaken stops waited s.running s). absurd (not_due s is held.unasked.asked t due)) held.waits in
          let b = begin_held s (no_calls s.running is) held.unasked.asked same runs in
          called_held tail (begins (due_job stops s) s).running (begins (due_job stops s) s) runs b.asked b.job b.waits

  -- where memory is wanted, nothing of what waits is taken
  pub still_held : (s : StoreState) → is_due stops s ≡ true → Held stops waited s → (some s.running ≡ false) ⊎ (writes_tail s.running ≡ true) → s.waiting ≡ waited
  still_held s due held begins =
      ⊎_elim (λ (w : s.waiting ≡ waited). w)
      (λ (t : HasTaken stops waited s.running s).
      ⊎_elim (λ (idle : some s.running ≡ false). absurd (not_due s idle held.unasked.asked t due)) (λ (wants : writes_tail s.running ≡ true). absurd (never_tail s.running s.ending held.unasked.job wants)) begins)
      held.waits

  -- ---- where nothing is due

  none_by : (even odd torn few : Bool) (asked : Option (List ℕ)) (group : List (List ℕ)) → asked ≡ None → cond even (Close false) (cond odd (Close true) (cond torn Repair (of_asked (cond few asked None) (of_group group)))) ≡ NoJob → group ≡ []
  none_by true odd torn few asked group none is = absurd cc
  none_by false true torn few asked group none is = absurd cc
  none_by false false true few asked group none is = absurd cc
  none_by false false false few asked [] none is = refl
  none_by false false false true None (entry ∷ entries) none is = absurd cc
  none_by false false false false None (entry ∷ entries) none is = absurd cc
  none_by false false false few (Some snapshot) (entry ∷ entries) none is = absurd cc

  -- all that waited was taken, up to the first that ends a group
  pub done_held : (s : StoreState) → is_due stops s ≡ false → Held stops waited s → s.waiting ≡ drop (length (group_of stops waited)) waited
  done_held s none held =
      ⊎_elim
      (λ (same : s.waiting ≡ waited).
      let group : group_of stops waited ≡ [] =
      ap (λ (w : List (List ℕ)). group_of stops w) (sym same)
      ∙ none_by (is_torn s.even) (is_torn s.odd) s.torn (nat_lt s.generation greatest) s.asked (group_of stops s.waiting) held.unasked.asked (idle_now stops s none).1 in
      same ∙ ap (λ (g : List (List ℕ)). drop (length g) waited) (sym group))
      (λ (t : HasTaken stops waited s.running s). t.rest) held.waits

  taken_over : (p : Plan) (d e : Devices) → HasTaken stops waited p.running (state_with p d) → HasTaken stops waited p.running (state_with p e)
  taken_over p d e t = record { even = t.even; odd = t.odd; group = t.group; rest = t.rest; by = t.by }

  -- whatever the devices hold
  pub held_over : (p : Plan) (d e : Devices) → Held stops waited (state_with p d) → Held stops waited (state_with p e)
  held_over p d e held = record {
    unasked = record { asked = held.unasked.asked; job = held.unasked.job };
    waits = ⊎_elim (λ (w : p.waiting ≡ waited). inl w) (λ (t : HasTaken stops waited p.running (state_with p d)). inr (taken_over p d e t)) held.waits;
  }
