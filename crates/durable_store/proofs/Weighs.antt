-- The work that is left for a store: each call makes it less.
use Rattle.std.proofs.Common.{◌≡◌, ℕ, suc, ◌+◌, ◌-◌, ◌*◌, ◌≤◌, ◌<◌, nat_lt, Bool, true, false, not, cond, List, [], ◌∷◌, length, Option, Some, None, refl, sym, ◌∙◌, ap, arith, length-drop}
use Rattle.store_form.specs.Spelling.{checkpoint_text}
use Rattle.store_laws.specs.States.{Devices, StoreState, side, slot_gate_of, greatest, is_torn, some, switch_calls, group_of, of_group, of_asked, Begun, Close, Repair, Switch, due_job, begins, is_due, ending_of, advanced, ends, firm_by, job_called, store_called}
use Rattle.store_laws.specs.declared.job.Gate.{Gate}
use Rattle.store_laws.specs.declared.job.Gate.TheVariants.{Absent, Closed, Torn, Open}
use Rattle.store_laws.specs.declared.job.StoreCall.{StoreCall}
use Rattle.store_laws.specs.declared.job.StoreCall.TheVariants.{On, WriteTail}
use Rattle.store_laws.specs.declared.job.Ending.{Ending}
use Rattle.store_laws.specs.declared.job.Ending.TheVariants.{Closes, Repairs, Adds, Switches}
use Rattle.store_laws.specs.declared.job.Tail.{Tail}
use Rattle.store_plan.specs.declared.plan.Plan.{Plan}
use Rattle.store_plan.specs.Plans.{state_with}
use Rattle.store_plan.proofs.Ready.{no_calls}

abbrev pub flag : Bool → ℕ
flag b = cond b 16 0

abbrev pub asks : Option (List ℕ) → ℕ
asks None = 0
asks (Some snapshot) = 16

abbrev pub rest : StoreState → ℕ
rest s = asks s.asked + 16 * length s.waiting

-- the jobs that may still begin, if none runs
abbrev pub jobs : StoreState → ℕ
jobs s = flag (is_torn s.even) + (flag (is_torn s.odd) + (flag s.torn + rest s))

-- the jobs that may still begin after one with this end
abbrev pub jobs_after : Ending → StoreState → ℕ
jobs_after (Closes false) s = flag (is_torn s.odd) + (flag s.torn + rest s)
jobs_after (Closes true) s = flag (is_torn s.even) + (flag s.torn + rest s)
jobs_after Repairs s = flag (is_torn s.even) + (flag (is_torn s.odd) + rest s)
jobs_after (Adds end) s = flag (is_torn s.even) + (flag (is_torn s.odd) + rest s)
jobs_after (Switches end made) s = flag (is_torn s.even) + (flag (is_torn s.odd) + rest s)

-- the end of a job that makes these calls
abbrev pub last : List StoreCall → Ending → Ending
last [] ending = ending
last (On device call ∷ left) ending = last left ending
last (WriteTail ∷ left) ending = last left (Switches 0 0)

abbrev pub weight_by : List StoreCall → StoreState → ℕ
weight_by [] s = jobs s
weight_by (call ∷ left) s = suc (length left) + jobs_after (last (call ∷ left) s.ending) s

abbrev pub weight : StoreState → ℕ
weight s = weight_by s.running s

-- ---- a call of a job

open_less : (t : Bool) (gate : Gate) → flag (is_torn (cond t Open gate)) ≤ flag (is_torn gate)
open_less true gate = omega arith
open_less false gate = omega arith

open_less_too : (t : Bool) (gate : Gate) → flag (is_torn (cond t gate Open)) ≤ flag (is_torn gate)
open_less_too true gate = omega arith
open_less_too false gate = omega arith

ends_less : (ending : Ending) (s : StoreState) → weight (ends ending s) ≤ jobs_after ending s
ends_less (Closes false) s = omega arith
ends_less (Closes true) s = omega arith
ends_less Repairs s = omega arith
ends_less (Adds end) s = omega arith
ends_less (Switches end made) s =
    let even = open_less (side s) s.even in
    let odd = open_less_too (side s) s.odd in
    let dropped = length-drop (firm_by made s - s.firm) s.waiting in
    omega (arith, even, odd, dropped)

same_last : (left : List StoreCall) (end made end_too made_too : ℕ) (s : StoreState) → jobs_after (last left (Switches end made)) s ≡ jobs_after (last left (Switches end_too made_too)) s
same_last [] end made end_too made_too s = refl
same_last (On device call ∷ left) end made end_too made_too s = same_last left end made end_too made_too s
same_last (WriteTail ∷ left) end made end_too made_too s = refl

last_called : (tail : Tail) (call : StoreCall) (left : List StoreCall) (ending : Ending) (s : StoreState) → jobs_after (last left (ending_of tail call ending)) s ≡ jobs_after (last (call ∷ left) ending) s
last_called tail (On device call) left ending s = refl
last_called tail WriteTail left ending s = same_last left _ _ 0 0 s

-- the work does not depend on the devices, the calls and the end that a state names
advanced_same : (ending : Ending) (tail : Tail) (call : StoreCall) (left : List StoreCall) (s : StoreState) → jobs_after ending (advanced tail call left s) ≡ jobs_after ending s
advanced_same (Closes false) tail call left s = refl
advanced_same (Closes true) tail call left s = refl
advanced_same Repairs tail call left s = refl
advanced_same (Adds end) tail call left s = refl
advanced_same (Switches end made) tail call left s = refl

called_less : (tail : Tail) (call : StoreCall) (left : List StoreCall) (s : StoreState) → weight (job_called tail (call ∷ left) s) < weight_by (call ∷ left) s
called_less tail call [] s =
    let less = ends_less (ending_of tail call s.ending) (advanced tail call [] s) in
    let same = advanced_same (ending_of tail call s.ending) tail call [] s in
    let last_is = last_called tail call [] s.ending s in
    omega (arith, less, same, last_is)
called_less tail call (more ∷ left) s =
    let same = advanced_same (last (more ∷ left) (ending_of tail call s.ending)) tail call (more ∷ left) s in
    let last_is = last_called tail call (more ∷ left) s.ending s in
    omega (arith, same, last_is)

-- ---- a job that begins

switch_less : (odd : Bool) (gate : Gate) (text : List ℕ) (q s : StoreState) → q.even ≡ s.even → q.odd ≡ s.odd → q.asked ≡ None → q.waiting ≡ s.waiting → weight_by (switch_calls odd gate text) q < 16 + (flag (is_torn s.even) + (flag (is_torn s.odd) + 16 * length s.waiting))
switch_less odd Absent text q s even odd_too asked waiting =
    let a = ap (λ (x : Gate). flag (is_torn x)) even in
    let b = ap (λ (x : Gate). flag (is_torn x)) odd_too in
    let c = ap asks asked in
    let d = ap (λ (x : List (List ℕ)). length x) waiting in
    omega (arith, a, b, c, d)
switch_less odd Closed text q s even odd_too asked waiting =
    let a = ap (λ (x : Gate). flag (is_torn x)) even in
    let b = ap (λ (x : Gate). flag (is_torn x)) odd_too in
    let c = ap asks asked in
    let d = ap (λ (x : List (List ℕ)). length x) waiting in
    omega (arith, a, b, c, d)
switch_less odd Torn text q s even odd_too asked waiting =
    let a = ap (λ (x : Gate). flag (is_torn x)) even in
    let b = ap (λ (x : Gate). flag (is_torn x)) odd_too in
    let c = ap asks asked in
    let d = ap (λ (x : List (List ℕ)). length x) waiting in
    omega (arith, a, b, c, d)
switch_less odd Open text q s even odd_too asked waiting =
    let a = ap (λ (x : Gate). flag (is_torn x)) even in
    let b = ap (λ (x : Gate). flag (is_torn x)) odd_too in
    let c = ap asks asked in
    let d = ap (λ (x : List (List ℕ)). length x) waiting in
    omega (arith, a, b, c, d)

group_some : (stops : List ℕ → Bool) (waiting : List (List ℕ)) (entry : List ℕ) (entries : List (List ℕ)) → group_of stops waiting ≡ entry ∷ entries → 0 < length waiting
group_some stops [] entry entries is = absurd cc
group_some stops (first ∷ more) entry entries is = omega arith

abbrev Less : StoreState → Begun → Type 0
Less s job = some (begins job s).running ≡ true → weight (begins job s) ≤ jobs s

-- the first job that applies, by what it is
begins_less : (stops : List ℕ → Bool) (s : StoreState) → s.running ≡ [] → some (begins (due_job stops s) s).running ≡ true → weight (begins (due_job stops s) s) ≤ jobs s
begins_less stops s idle = at_even (is_torn s.even) refl
  where
    at_group : (group : List (List ℕ)) → group_of stops s.waiting ≡ group → Less s (of_group group)
    at_group [] is = λ runs.
        let clash : false ≡ true = sym (ap some idle) ∙ runs in
        absurd cc
    at_group (entry ∷ entries) is = λ runs.
        let few = group_some stops s.waiting entry entries is in
        let dropped = length-drop (length (entry ∷ entries)) s.waiting in
        omega (arith, few, dropped)

    at_asked : (asked : Option (List ℕ)) → (cond (nat_lt s.generation greatest) s.asked None) ≡ asked → Less s (of_asked asked (of_group (group_of stops s.waiting)))
    at_asked None is = at_group (group_of stops s.waiting) refl
    at_asked (Some snapshot) is = λ runs.
        let less = switch_less (not (side s)) (slot_gate_of (not (side s)) s) (checkpoint_text (record { generation = s.generation + 1; snapshot = snapshot })) (begins (Switch snapshot) s) s refl refl refl refl in
        let asked_is = ap asks (there (nat_lt s.generation greatest) s.asked snapshot is) in
        omega (arith, less, asked_is)
      where
        there : (t : Bool) (asked : Option (List ℕ)) (snapshot : List ℕ) → (cond t asked None) ≡ Some snapshot → asked ≡ Some snapshot
        there true asked snapshot is = is
        there false asked snapshot is = absurd cc

    at_log : (t : Bool) → s.torn ≡ t → Less s (cond t Repair (of_asked (cond (nat_lt s.generation greatest) s.asked None) (of_group (group_of stops s.waiting))))
    at_log true is = λ runs.
        let torn = ap flag is in
        omega (arith, torn)
    at_log false is = at_asked (cond (nat_lt s.generation greatest) s.asked None) refl

    at_odd : (t : Bool) → is_torn s.odd ≡ t → Less s (cond t (Close true) (cond s.torn Repair (of_asked (cond (nat_lt s.generation greatest) s.asked None) (of_group (group_of stops s.waiting)))))
    at_odd true is = λ runs.
        let torn = ap flag is in
        omega (arith, torn)
    at_odd false is = at_log s.torn refl

    at_even : (t : Bool) → is_torn s.even ≡ t
        → Less s (cond t (Close false) (cond (is_torn s.odd) (Close true) (cond s.torn Repair (of_asked (cond (nat_lt s.generation greatest) s.asked None) (of_group (group_of stops s.waiting))))))
    at_even true is = λ runs.
        let torn = ap flag is in
        omega (arith, torn)
    at_even false is = at_odd (is_torn s.odd) refl

-- ---- a call of a store

job_less : (tail : Tail) (calls : List StoreCall) (s : StoreState) → some calls ≡ true → weight (job_called tail calls s) < weight_by calls s
job_less tail [] s runs = absurd cc
job_less tail (call ∷ left) s runs = called_less tail call left s

pub lighter : (stops : List ℕ → Bool) (tail : Tail) (s : StoreState) → is_due stops s ≡ true → weight (store_called stops tail s) < weight s
lighter stops tail s = by (some s.running) refl
  where
    by : (t : Bool) → some s.running ≡ t → some (cond t s (begins (due_job stops s) s)).running ≡ true
        → weight (job_called tail (cond t s (begins (due_job stops s) s)).running (cond t s (begins (due_job stops s) s))) < weight s
    by true is runs = job_less tail s.running s runs
    by false is runs =
        let less = job_less tail (begins (due_job stops s) s).running (begins (due_job stops s) s) runs in
        let begun_less = begins_less stops s (no_calls s.running is) runs in
        let same = ap (λ (calls : List StoreCall). weight_by calls s) (no_calls s.running is) in
        omega (arith, less, begun_less, same)

after_over : (ending : Ending) (p : Plan) (d e : Devices) → jobs_after ending (state_with p d) ≡ jobs_after ending (state_with p e)
after_over (Closes false) p d e = refl
after_over (Closes true) p d e = refl
after_over Repairs p d e = refl
after_over (Adds end) p d e = refl
after_over (Switches end made) p d e = refl

weight_over : (calls : List StoreCall) (p : Plan) (d e : Devices) → weight_by calls (state_with p d) ≡ weight_by calls (state_with p e)
weight_over [] p d e = refl
weight_over (call ∷ left) p d e = ap (λ (n : ℕ). suc (length left) + n) (after_over (last (call ∷ left) p.ending) p d e)

-- the same for plans, whatever the devices hold
pub plan_lighter : (stops : List ℕ → Bool) (tail : Tail) (old new : Plan) (d : Devices) → is_due stops (state_with old d) ≡ true
    → state_with new (store_called stops tail (state_with old d)).devices ≡ store_called stops tail (state_with old d) → weight (state_with new d) < weight (state_with old d)
plan_lighter stops tail old new d due called =
    let less = lighter stops tail (state_with old d) due in
    let same = weight_over new.running new (store_called stops tail (state_with old d)).devices d in
    let is = ap weight called in
    omega (arith, less, same, is)
