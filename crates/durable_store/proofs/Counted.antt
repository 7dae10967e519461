-- How many entries become firm while no switch runs or waits: those that no longer wait.
use Rattle.std.proofs.Common.{◌≡◌, ◌⊎◌, ⊎_elim, ℕ, ◌+◌, ◌-◌, ◌≤◌, min, Bool, true, false, cond, List, [], ◌∷◌, length, drop, refl, ap, subst, arith, length-append}
use Rattle.disk_model.specs.declared.call.DeviceCall.{DeviceCall}
use Rattle.store_laws.specs.Firm.{GroupAdds, AddsBy, AddsIn}
use Rattle.store_laws.specs.States.{Devices, StoreState, greatest, some, group_of, due_job, begins, is_due, advanced, ends, job_called, store_called}
use Rattle.store_laws.specs.declared.job.Device.{Device}
use Rattle.store_laws.specs.declared.job.Ending.{Ending}
use Rattle.store_laws.specs.declared.job.Ending.TheVariants.{Closes, Repairs, Adds, Switches}
use Rattle.store_laws.specs.declared.job.StoreCall.{StoreCall}
use Rattle.store_laws.specs.declared.job.StoreCall.TheVariants.{On, WriteTail}
use Rattle.store_laws.specs.declared.job.Tail.{Tail}
use Rattle.store_laws.proofs.Booked.{group_front}
use Rattle.store_laws.proofs.Firmed.{job_takes, job_firm, call_adds}
use Rattle.store_laws.proofs.Given.{idle_now}
use Rattle.store_plan.specs.declared.plan.Plan.{Plan}
use Rattle.store_plan.specs.Plans.{state_with}
use Rattle.store_plan.proofs.Ready.{no_calls}
use Rattle.durable_store.specs.Runs.{IsNoSwitch}
use Rattle.durable_store.proofs.Held.{Held, HasTaken, not_due, begin_held, no_tail_first, done_held}

-- the number of firm entries once the running group is firm
abbrev pub firm_soon : StoreState → ℕ
firm_soon s = min (s.firm + length s.adding) greatest

-- `count` entries were firm or in the running group when these waited
pub record Counted (waited : List (List ℕ)) (count : ℕ) (s : StoreState) : Type 0 where
  pub adds : GroupAdds s
  pub fewer : length s.waiting ≤ length waited
  pub firm : firm_soon s ≡ min (count + (length waited - length s.waiting)) greatest

-- ---- a call of a job

ends_soon : (ending : Ending) (device : Device) (call : DeviceCall) (q : StoreState) → IsNoSwitch (On device call ∷ []) ending → AddsBy ending (On device call ∷ []) q.adding → (firm_soon (ends ending q) ≡ firm_soon q) × ((ends ending q).waiting ≡ q.waiting)
ends_soon (Closes odd) device call q is adds =
    let none = ap (λ (l : List (List ℕ)). length l) adds in
    (omega (arith, none), refl)
ends_soon Repairs device call q is adds =
    let none = ap (λ (l : List (List ℕ)). length l) adds in
    (omega (arith, none), refl)
ends_soon (Adds end) device call q is adds = (omega arith, refl)
ends_soon (Switches end made) device call q is adds = absurd cc

job_soon : (tail : Tail) (calls : List StoreCall) (s : StoreState) → IsNoSwitch calls s.ending → AddsIn calls s.ending s.adding → (firm_soon (job_called tail calls s) ≡ firm_soon s) × ((job_called tail calls s).waiting ≡ s.waiting)
job_soon tail [] s is adds = (refl, refl)
job_soon tail (WriteTail ∷ left) s is adds = absurd (no_tail_first s.ending left is)
job_soon tail (On device call ∷ []) s is adds = ends_soon s.ending device call (advanced tail (On device call) [] s) is adds
job_soon tail (On device call ∷ (more ∷ left)) s is adds = (refl, refl)

module _ (stops : List ℕ → Bool) (waited : List (List ℕ)) (count : ℕ) where
  job_counted : (tail : Tail) (s : StoreState) → IsNoSwitch s.running s.ending → GroupAdds (job_called tail s.running s) → Counted waited count s → Counted waited count (job_called tail s.running s)
  job_counted tail s is adds c =
      let same = job_soon tail s.running s is c.adds in
      let soon = same.0 in
      let waits = ap (λ (l : List (List ℕ)). length l) same.1 in
      let fewer = c.fewer in
      let firm = c.firm in
      record { adds = adds; fewer = omega (arith, waits, fewer); firm = omega (arith, soon, waits, firm) }

  -- a job that begins
  begins_counted : (s : StoreState) → s.running ≡ [] → Counted waited count s → Counted waited count (begins (due_job stops s) s)
  begins_counted s idle c =
      let takes = job_takes stops s idle c.adds in
      let all = ap (λ (l : List (List ℕ)). length l) takes.0 in
      let before = length-append s.adding s.waiting in
      let now = length-append (begins (due_job stops s) s).adding (begins (due_job stops s) s).waiting in
      let none = ap (λ (l : List (List ℕ)). length l) (subst (λ (calls : List StoreCall). AddsIn calls s.ending s.adding) idle c.adds) in
      let same = job_firm stops s in
      let fewer = c.fewer in
      let firm = c.firm in
      record { adds = takes.1; fewer = omega (arith, all, before, now, none, fewer); firm = omega (arith, all, before, now, none, same, fewer, firm) }

  -- ---- a call of a store

  pub next_counted : (tail : Tail) (s : StoreState) → is_due stops s ≡ true → Held stops waited s → Counted waited count s → Counted waited count (store_called stops tail s)
  next_counted tail s due held c = by (some s.running) refl due (call_adds stops tail s c.adds)
    where
      by : (t : Bool) → some s.running ≡ t → some (cond t s (begins (due_job stops s) s)).running ≡ true
          → GroupAdds (job_called tail (cond t s (begins (due_job stops s) s)).running (cond t s (begins (due_job stops s) s)))
          → Counted waited count (job_called tail (cond t s (begins (due_job stops s) s)).running (cond t s (begins (due_job stops s) s)))
      by true is runs adds = job_counted tail s held.unasked.job adds c
      by false is runs adds =
          let idle = no_calls s.running is in
          let same = ⊎_elim (λ (w : s.waiting ≡ waited). w) (λ (t : HasTaken stops waited s.running s). absurd (not_due stops waited s is held.unasked.asked t due)) held.waits in
          let b = begin_held stops waited s idle held.unasked.asked same runs in
          job_counted tail (begins (due_job stops s) s) b.job adds (begins_counted s idle c)

  -- where nothing is due
  pub done_counted : (s : StoreState) → is_due stops s ≡ false → Held stops waited s → Counted waited count s → s.firm ≤ greatest → s.firm ≡ min (count + length (group_of stops waited)) greatest
  done_counted s none held c few =
      let nothing = ap (λ (l : List (List ℕ)). length l) (subst (λ (calls : List StoreCall). AddsIn calls s.ending s.adding) (idle_now stops s none).0 c.adds) in
      let left = ap (λ (l : List (List ℕ)). length l) (done_held stops waited s none held) in
      let all = ap (λ (l : List (List ℕ)). length l) (group_front stops waited) in
      let both = length-append (group_of stops waited) (drop (length (group_of stops waited)) waited) in
      let firm = c.firm in
      omega (arith, nothing, left, all, both, firm, few)

-- whatever the devices hold
pub counted_over : (waited : List (List ℕ)) (count : ℕ) (p : Plan) (d e : Devices) → Counted waited count (state_with p d) → Counted waited count (state_with p e)
counted_over waited count p d e c = record { adds = c.adds; fewer = c.fewer; firm = c.firm }
