-- What becomes firm at the end of a job, and what waits then.
use Rattle.std.proofs.Common.{◌≡◌, ℕ, ◌+◌, ◌-◌, ◌≤◌, nat_lt, Bool, true, false, not, cond, List, [], ◌∷◌, ◌++◌, length, take, drop, Option, Some, None, refl, sym, ◌∙◌, ap, subst, arith}
use Rattle.std.proofs.lemmas.List.{take-append-drop, length-take}
use Rattle.store_form.specs.Spelling.{checkpoint_text}
use Rattle.store_laws.specs.Restored.{Images}
use Rattle.store_laws.specs.States.{StoreState, greatest, side, slot_gate_of, is_torn, some, switch_calls, Begun, Close, Repair, Switch, of_group, of_asked, group_of, due_job, begins, begun, firm_by, ending_of, advanced, ends, job_called, store_called, store_opened, given, asked}
use Rattle.store_laws.specs.Firm.{not_firm, AddsBy, AddsIn, GroupAdds, SameEntries, KeepsCount, GroupCounts, SwitchCounts, Firms}
use Rattle.store_laws.specs.declared.job.Tail.{Tail}
use Rattle.store_laws.specs.declared.job.Gate.{Gate}
use Rattle.store_laws.specs.declared.job.Gate.TheVariants.{Absent, Closed, Torn, Open}
use Rattle.store_laws.specs.declared.job.Device.{Device}
use Rattle.store_laws.specs.declared.job.Ending.{Ending}
use Rattle.store_laws.specs.declared.job.Ending.TheVariants.{Closes, Repairs, Adds, Switches}
use Rattle.store_laws.specs.declared.job.StoreCall.{StoreCall}
use Rattle.store_laws.specs.declared.job.StoreCall.TheVariants.{On, WriteTail}
use Rattle.disk_model.specs.declared.call.DeviceCall.{DeviceCall}
use Rattle.store_laws.proofs.Given.{no_calls}
use Rattle.store_laws.proofs.Aims.{begins_firm, begun_firm}
use Rattle.store_laws.proofs.Booked.{group_front}

-- ---- the end of a job, one by one

pub goes_on : (tail : Tail) (call more : StoreCall) (left : List StoreCall) (s : StoreState) → SameEntries s (job_called tail (call ∷ (more ∷ left)) s)
goes_on tail call more left s = record { adding = refl; waiting = refl; firm = refl }

pub close_counts : (tail : Tail) (device : Device) (call : DeviceCall) (s : StoreState) (odd : Bool) → s.ending ≡ Closes odd → KeepsCount s (job_called tail (On device call ∷ []) s)
close_counts tail device call s odd is = subst (λ (e : Ending). KeepsCount s (ends e (advanced tail (On device call) [] s))) (sym is) (record { adding = refl; waiting = refl; firm = refl })

pub repair_counts : (tail : Tail) (device : Device) (call : DeviceCall) (s : StoreState) → s.ending ≡ Repairs → KeepsCount s (job_called tail (On device call ∷ []) s)
repair_counts tail device call s is = subst (λ (e : Ending). KeepsCount s (ends e (advanced tail (On device call) [] s))) (sym is) (record { adding = refl; waiting = refl; firm = refl })

pub group_counts : (tail : Tail) (device : Device) (call : DeviceCall) (s : StoreState) (end : ℕ) → s.ending ≡ Adds end → GroupCounts s (job_called tail (On device call ∷ []) s)
group_counts tail device call s end is = subst (λ (e : Ending). GroupCounts s (ends e (advanced tail (On device call) [] s))) (sym is) (record { adding = refl; waiting = refl; firm = refl })

pub switch_counts : (tail : Tail) (call : StoreCall) (s : StoreState) (end made : ℕ) → ending_of tail call s.ending ≡ Switches end made → SwitchCounts made s (job_called tail (call ∷ []) s)
switch_counts tail call s end made is = subst (λ (e : Ending). SwitchCounts made s (ends e (advanced tail call [] s))) (sym is) (record { adding = refl; waiting = refl; firm = refl })

-- ---- a group alone adds entries

adds_left : (ending : Ending) (device : Device) (call : DeviceCall) (left : List StoreCall) (adding : List (List ℕ)) → AddsBy ending (On device call ∷ left) adding → AddsBy ending left adding
adds_left (Closes odd) device call left adding adds = adds
adds_left Repairs device call left adding adds = adds
adds_left (Adds end) device call left adding adds = adds
adds_left (Switches end last) device call left adding adds = adds

tail_adds : (ending : Ending) (left : List StoreCall) (adding : List (List ℕ)) → AddsBy ending (WriteTail ∷ left) adding → adding ≡ []
tail_adds (Closes odd) left adding adds = adds
tail_adds Repairs left adding adds = adds
tail_adds (Adds end) left adding adds = absurd adds
tail_adds (Switches end last) left adding adds = adds

ends_adds : (ending : Ending) (s : StoreState) → GroupAdds (ends ending s)
ends_adds (Closes odd) s = refl
ends_adds Repairs s = refl
ends_adds (Adds end) s = refl
ends_adds (Switches end last) s = refl

job_adds : (tail : Tail) (calls : List StoreCall) (s : StoreState) → s.running ≡ calls → GroupAdds s → GroupAdds (job_called tail calls s)
job_adds tail [] s is adds = adds
job_adds tail (call ∷ []) s is adds = ends_adds (advanced tail call [] s).ending (advanced tail call [] s)
job_adds tail (On device call ∷ (more ∷ left)) s is adds = adds_left s.ending device call (more ∷ left) s.adding (subst (λ (calls : List StoreCall). AddsIn calls s.ending s.adding) is adds)
job_adds tail (WriteTail ∷ (more ∷ left)) s is adds = tail_adds s.ending (more ∷ left) s.adding (subst (λ (calls : List StoreCall). AddsIn calls s.ending s.adding) is adds)

pub opened_adds : (images : Images) → GroupAdds (store_opened images)
opened_adds images = refl

pub given_adds : (s : StoreState) (entries : List (List ℕ)) → GroupAdds s → GroupAdds (given entries s)
given_adds s entries adds = adds

pub asked_adds : (s : StoreState) (snapshot : List ℕ) → GroupAdds s → GroupAdds (asked snapshot s)
asked_adds s snapshot adds = adds

-- ---- a job begins

switch_adds : (odd : Bool) (gate : Gate) (text : List ℕ) → AddsIn (switch_calls odd gate text) (Switches 0 0) []
switch_adds odd Absent text = refl
switch_adds odd Closed text = refl
switch_adds odd Torn text = refl
switch_adds odd Open text = refl

module _ (stops : List ℕ → Bool) (s : StoreState) (adds : GroupAdds s) (idle : s.running ≡ []) where
  none : s.adding ≡ []
  none = subst (λ (calls : List StoreCall). AddsIn calls s.ending s.adding) idle adds

  waits : s.waiting ≡ not_firm s
  waits = ap (λ (l : List (List ℕ)). l ++ s.waiting) (sym none)

  abbrev Begins : Begun → Type 0
  Begins job = (not_firm (begins job s) ≡ not_firm s) × GroupAdds (begins job s)

  switch : (snapshot : List ℕ) → Begins (Switch snapshot)
  switch snapshot = (waits, switch_adds (not (side s)) (slot_gate_of (not (side s)) s) (checkpoint_text (record { generation = s.generation + 1; snapshot = snapshot })))

  group : (entries : List (List ℕ)) → entries ++ drop (length entries) s.waiting ≡ s.waiting → Begins (of_group entries)
  group [] front = (refl, adds)
  group (entry ∷ entries) front = (front ∙ waits, tt)

  first_asked : (o : Option (List ℕ)) → Begins (of_asked o (of_group (group_of stops s.waiting)))
  first_asked None = group (group_of stops s.waiting) (group_front stops s.waiting)
  first_asked (Some snapshot) = switch snapshot

  choose : (even odd torn : Bool) → Begins (cond even (Close false) (cond odd (Close true) (cond torn Repair (of_asked (cond (nat_lt s.generation greatest) s.asked None) (of_group (group_of stops s.waiting))))))
  choose true odd torn = (waits, refl)
  choose false true torn = (waits, refl)
  choose false false true = (waits, refl)
  choose false false false = first_asked (cond (nat_lt s.generation greatest) s.asked None)

  pub begins_takes : Begins (due_job stops s)
  begins_takes = choose (is_torn s.even) (is_torn s.odd) s.torn

pub job_takes : (stops : List ℕ → Bool) (s : StoreState) → s.running ≡ [] → GroupAdds s → (not_firm (begins (due_job stops s) s) ≡ not_firm s) × GroupAdds (begins (due_job stops s) s)
job_takes stops s idle adds = begins_takes stops s adds idle

pub job_firm : (stops : List ℕ → Bool) (s : StoreState) → (begins (due_job stops s) s).firm ≡ s.firm
job_firm stops s = begins_firm (due_job stops s) s

begun_takes : (stops : List ℕ → Bool) (s : StoreState) → GroupAdds s → (not_firm (begun stops s) ≡ not_firm s) × GroupAdds (begun stops s)
begun_takes stops s adds = by (some s.running) refl
  where
    by : (t : Bool) → some s.running ≡ t → (not_firm (cond t s (begins (due_job stops s) s)) ≡ not_firm s) × GroupAdds (cond t s (begins (due_job stops s) s))
    by true is = (refl, adds)
    by false is = begins_takes stops s adds (no_calls s.running is)

-- ---- the next call

-- the first of the entries that wait, and those that still do
ends_firms : (ending : Ending) (calls : List StoreCall) (s : StoreState) → AddsBy ending calls s.adding → s.firm ≤ greatest → Firms s (ends ending s)
ends_firms (Closes odd) calls s adds few = record { became = []; all = ap (λ (l : List (List ℕ)). l ++ s.waiting) (sym adds); firm = omega (arith, few) }
ends_firms Repairs calls s adds few = record { became = []; all = ap (λ (l : List (List ℕ)). l ++ s.waiting) (sym adds); firm = omega (arith, few) }
ends_firms (Adds end) calls s adds few = record { became = s.adding; all = refl; firm = omega arith }
ends_firms (Switches end last) calls s adds few =
    let taken = length-take (firm_by last s - s.firm) s.waiting in
    record {
      became = take (firm_by last s - s.firm) s.waiting;
      all = take-append-drop (firm_by last s - s.firm) s.waiting ∙ ap (λ (l : List (List ℕ)). l ++ s.waiting) (sym adds);
      firm = omega (arith, taken, few);
    }

job_firms : (tail : Tail) (calls : List StoreCall) (s : StoreState) → s.running ≡ calls → GroupAdds s → s.firm ≤ greatest → Firms s (job_called tail calls s)
job_firms tail [] s is adds few = record { became = []; all = refl; firm = omega (arith, few) }
job_firms tail (On device call ∷ []) s is adds few =
    let f = ends_firms s.ending (On device call ∷ []) (advanced tail (On device call) [] s) (subst (λ (calls : List StoreCall). AddsIn calls s.ending s.adding) is adds) few in
    record { became = f.became; all = f.all; firm = f.firm }
job_firms tail (WriteTail ∷ []) s is adds few =
    let none = tail_adds s.ending [] s.adding (subst (λ (calls : List StoreCall). AddsIn calls s.ending s.adding) is adds) in
    let f = ends_firms (advanced tail WriteTail [] s).ending [] (advanced tail WriteTail [] s) none few in
    record { became = f.became; all = f.all; firm = f.firm }
job_firms tail (call ∷ (more ∷ left)) s is adds few = record { became = []; all = refl; firm = omega (arith, few) }

pub call_adds : (stops : List ℕ → Bool) (tail : Tail) (s : StoreState) → GroupAdds s → GroupAdds (store_called stops tail s)
call_adds stops tail s adds = job_adds tail (begun stops s).running (begun stops s) refl (begun_takes stops s adds).1

pub call_firms : (stops : List ℕ → Bool) (tail : Tail) (s : StoreState) → GroupAdds s → s.firm ≤ greatest → Firms s (store_called stops tail s)
call_firms stops tail s adds few =
    let takes = begun_takes stops s adds in
    let same = begun_firm stops s in
    let f = job_firms tail (begun stops s).running (begun stops s) refl takes.1 (omega (arith, few, same)) in
    let grown = f.firm in
    record { became = f.became; all = f.all ∙ takes.0; firm = omega (arith, grown, same) }
