-- All entries that a store counts stay counted. What waits has all of the tail that is not firm.
use Rattle.std.proofs.Common.{◌≡◌, ℕ, ◌+◌, ◌-◌, ◌≤◌, min, max, Bool, true, false, cond, List, [], ◌∷◌, ◌++◌, length, drop, Option, Some, None, refl, sym, ◌∙◌, ap, subst, arith, length-append}
use Rattle.std.proofs.lemmas.List.{length-drop}
use Rattle.disk_model.specs.declared.call.DeviceCall.{DeviceCall}
use Rattle.store_laws.specs.Restored.{Images}
use Rattle.store_laws.specs.States.{StoreState, greatest, some, writes_tail, wants_tail, due_job, begins, firm_by, advanced, ends, job_called, store_called, store_opened, given}
use Rattle.store_laws.specs.Stands.{Aim, aim_begins}
use Rattle.store_laws.specs.Firm.{not_firm, AddsIn, GroupAdds}
use Rattle.store_laws.specs.Logs.{MakesBy, Makes, Logs, written_by, written_then, counted, TailCounts}
use Rattle.store_laws.specs.declared.job.Tail.{Tail}
use Rattle.store_laws.specs.declared.job.Device.{Device}
use Rattle.store_laws.specs.declared.job.Ending.{Ending}
use Rattle.store_laws.specs.declared.job.Ending.TheVariants.{Closes, Repairs, Adds, Switches}
use Rattle.store_laws.specs.declared.job.StoreCall.{StoreCall}
use Rattle.store_laws.specs.declared.job.StoreCall.TheVariants.{On, WriteTail}
use Rattle.store_laws.proofs.Given.{no_calls}
use Rattle.store_laws.proofs.Firmed.{job_takes, job_firm}
use Rattle.store_laws.proofs.Logged.{no_tail_is, rest_is, tail_by, begins_plain, log_begins}

-- ---- what waits has the tail

written_none : (written : Option Tail) (tail : Tail) (s : StoreState) (a : Aim) (e : Ending) (calls : List StoreCall) → MakesBy e calls written s.adding a → written ≡ Some tail → s.adding ≡ []
written_none written tail s a (Closes odd) calls m is = m.none
written_none written tail s a Repairs calls m is = m.none
written_none written tail s a (Adds end) calls m is = no_tail_is (s.adding ≡ []) tail (sym m.unwritten ∙ is)
written_none written tail s a (Switches end last) calls m is = m.none

none_added : (tail : Tail) (s : StoreState) (a : Aim) → Logs (Some tail) s a → s.adding ≡ []
none_added tail s a = by s.running
  where
    by : (calls : List StoreCall) → Makes calls s.ending (Some tail) s.adding a → s.adding ≡ []
    by [] m = m.1
    by (call ∷ left) m = written_none (Some tail) tail s a s.ending (call ∷ left) m refl

pub waits_counted : (tail : Tail) (s : StoreState) (a : Aim) → Logs (Some tail) s a → s.restored + tail.made ≤ counted s → firm_by tail.made s - s.firm ≤ length s.waiting
waits_counted tail s a logs few =
    let empty : length s.adding ≡ 0 = ap (λ (l : List (List ℕ)). length l) (none_added tail s a logs) in
    let all = length-append s.adding s.waiting in
    omega (arith, few, empty, all)

-- ---- the end of a job

group_number : (firm adding waiting : ℕ) → firm + (adding + waiting) ≤ greatest → min (firm + adding) greatest + waiting ≡ firm + (adding + waiting)
group_number firm adding waiting few = omega (arith, few)

switch_number : (firm restored made waiting left : ℕ) → restored + made ≤ firm + waiting → firm + waiting ≤ greatest → left ≡ waiting - (max firm (min (restored + made) greatest) - firm)
    → max firm (min (restored + made) greatest) + left ≡ firm + waiting
switch_number firm restored made waiting left few most is = omega (arith, few, most, is)

keeps_count : (s : StoreState) → s.adding ≡ [] → s.firm + length s.waiting ≡ counted s
keeps_count s none = ap (λ (l : List (List ℕ)). s.firm + length (l ++ s.waiting)) (sym none)

adds_count : (s : StoreState) → counted s ≤ greatest → min (s.firm + length s.adding) greatest + length s.waiting ≡ counted s
adds_count s few =
    let all = length-append s.adding s.waiting in
    group_number s.firm (length s.adding) (length s.waiting) (omega (arith, few, all)) ∙ ap (λ (n : ℕ). s.firm + n) (sym all)

switch_count : (tail : Tail) (s : StoreState) → s.adding ≡ [] → s.restored + tail.made ≤ counted s → counted s ≤ greatest → firm_by tail.made s + length (drop (firm_by tail.made s - s.firm) s.waiting) ≡ counted s
switch_count tail s none few most =
    let same = keeps_count s none in
    switch_number s.firm s.restored tail.made (length s.waiting) (length (drop (firm_by tail.made s - s.firm) s.waiting)) (omega (arith, few, same)) (omega (arith, most, same)) (length-drop (firm_by tail.made s - s.firm) s.waiting)
    ∙ same

abbrev Same : Ending → Tail → Device → DeviceCall → StoreState → Type 0
Same e tail device call s = counted (ends e (advanced tail (On device call) [] s)) ≡ counted s

end_count : (e : Ending) (written : Option Tail) (tail : Tail) (device : Device) (call : DeviceCall) (s : StoreState) (a : Aim) → MakesBy e (On device call ∷ []) written s.adding a → TailCounts written s → counted s ≤ greatest → Same e tail device call s
end_count (Closes odd) written tail device call s a m few most = keeps_count s m.none
end_count Repairs written tail device call s a m few most = keeps_count s m.none
end_count (Adds end) written tail device call s a m few most = adds_count s most
end_count (Switches end last) None tail device call s a m few most = absurd m.left
end_count (Switches end last) (Some t) tail device call s a m few most = subst (λ (e : Ending). Same e tail device call s) (sym m.ending_is) (switch_count t s m.none few most)

-- ---- the next call

clash : (b : Bool) (X : Type 0) → b ≡ true → b ≡ false → X
clash b X is other = absurd cc

still_counts : (written : Option Tail) (tail : Tail) (call : StoreCall) (left : List StoreCall) (s : StoreState) → TailCounts written s → TailCounts written (advanced tail call left s)
still_counts None tail call left s few = tt
still_counts (Some t) tail call left s few = few

job_count : (calls : List StoreCall) (tail : Tail) (written : Option Tail) (s : StoreState) (a : Aim) → Makes calls s.ending written s.adding a → TailCounts written s → (writes_tail calls ≡ true → s.restored + tail.made ≤ counted s) → counted s ≤ greatest
    → (counted (job_called tail calls s) ≡ counted s) × TailCounts (written_by tail calls written) (job_called tail calls s)
job_count [] tail written s a m few new most = (refl, few)
job_count (On device call ∷ []) tail written s a m few new most = (end_count s.ending written tail device call s a m few most, tt)
job_count (WriteTail ∷ []) tail written s a m few new most = (switch_count tail s (tail_by s.ending [] written s.adding a m).0.1 (new refl) most, tt)
job_count (On device call ∷ (more ∷ left)) tail written s a m few new most = (refl, still_counts written tail (On device call) (more ∷ left) s few)
job_count (WriteTail ∷ (more ∷ left)) tail written s a m few new most = (refl, new refl)

pub call_counts : (stops : List ℕ → Bool) (tail : Tail) (written : Option Tail) (s : StoreState) (a : Aim) → Logs written s a → TailCounts written s → (wants_tail s ≡ true → s.restored + tail.made ≤ counted s) → counted s ≤ greatest
    → (counted (store_called stops tail s) ≡ counted s) × TailCounts (written_then stops tail s written) (store_called stops tail s)
call_counts stops tail written s a logs few new most = by (some s.running) refl
  where
    by : (t : Bool) → some s.running ≡ t
        → (counted (job_called tail (cond t s (begins (due_job stops s) s)).running (cond t s (begins (due_job stops s) s))) ≡ counted s)
        × TailCounts (written_by tail (cond t s (begins (due_job stops s) s)).running written) (job_called tail (cond t s (begins (due_job stops s) s)).running (cond t s (begins (due_job stops s) s)))
    by true is = job_count s.running tail written s a logs few new most
    by false is =
        let idle = no_calls s.running is in
        let rest = rest_is written s a idle logs in
        let m = begins (due_job stops s) s in
        let g = log_begins stops written s a idle logs in
        let adds : GroupAdds s = subst (λ (calls : List StoreCall). AddsIn calls s.ending s.adding) (sym idle) rest.1 in
        let same : counted m ≡ counted s = ap (λ (n : ℕ). n + length (not_firm m)) (job_firm stops s) ∙ ap (λ (l : List (List ℕ)). s.firm + length l) (job_takes stops s idle adds).0 in
        let plain = begins_plain (due_job stops s) s idle in
        let k = job_count m.running tail None m (aim_begins (due_job stops s) s a) g.logs tt (λ (w : writes_tail m.running ≡ true). clash (writes_tail m.running) (m.restored + tail.made ≤ counted m) w plain) (omega (arith, most, same)) in
        (k.0 ∙ same, subst (λ (w : Option Tail). TailCounts (written_by tail m.running w) (job_called tail m.running m)) (sym rest.0) k.1)

-- ---- a store that is opened, and what is given

pub opened_counts : (images : Images) → counted (store_opened images) ≡ (store_opened images).firm
opened_counts images = omega arith

pub given_counts : (written : Option Tail) (s : StoreState) (entries : List (List ℕ)) → TailCounts written s → (counted (given entries s) ≡ counted s + length entries) × TailCounts written (given entries s)
given_counts written s entries few = (more, by written few)
  where
    more : counted (given entries s) ≡ counted s + length entries
    more =
        let all = length-append s.adding (s.waiting ++ entries) in
        let waits = length-append s.waiting entries in
        let old = length-append s.adding s.waiting in
        omega (arith, all, waits, old)

    by : (w : Option Tail) → TailCounts w s → TailCounts w (given entries s)
    by None low = tt
    by (Some tail) low = omega (arith, low, more)
