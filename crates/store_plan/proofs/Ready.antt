-- A store before its next call, with the tail that this call writes.
use Rattle.std.proofs.Common.{◌≡◌, ℕ, ◌+◌, Bool, true, false, not, cond, List, [], ◌∷◌, refl, sym, ◌∙◌, ap, subst}
use Rattle.disk_model.specs.DeviceCalls.{CanBeMade}
use Rattle.disk_model.specs.declared.call.DeviceCall.{DeviceCall}
use Rattle.store_form.specs.Spelling.{IsGroup, checkpoint_text}
use Rattle.store_laws.specs.Restored.{Images}
use Rattle.store_laws.specs.States.{StoreState, side, slot_gate_of, switch_calls, some, writes_tail, Begun, NoJob, Close, Repair, Switch, AddGroup, due_job, begins, begun, cells_on, job_called, store_called, devices_during}
use Rattle.store_laws.specs.Stands.{Aim, Runs, StandsBy, HasSpelling, aim_begins, aim_written}
use Rattle.store_laws.specs.declared.job.Kept.{Kept}
use Rattle.store_laws.specs.declared.job.Device.{Device}
use Rattle.store_laws.specs.declared.job.Gate.{Gate}
use Rattle.store_laws.specs.declared.job.Gate.TheVariants.{Absent, Closed, Torn, Open}
use Rattle.store_laws.specs.declared.job.StoreCall.{StoreCall}
use Rattle.store_laws.specs.declared.job.StoreCall.TheVariants.{On, WriteTail}
use Rattle.store_laws.specs.declared.job.Tail.{Tail}
use Rattle.store_plan.specs.Plans.{with_tail, readied}

-- ---- no job begins with a tail

switch_first : (odd : Bool) (gate : Gate) (text : List ℕ) → writes_tail (switch_calls odd gate text) ≡ false
switch_first odd Absent text = refl
switch_first odd Closed text = refl
switch_first odd Torn text = refl
switch_first odd Open text = refl

pub begins_first : (job : Begun) (s : StoreState) → s.running ≡ [] → writes_tail (begins job s).running ≡ false
begins_first NoJob s idle = ap writes_tail idle
begins_first (Close odd) s idle = refl
begins_first Repair s idle = refl
begins_first (Switch snapshot) s idle = switch_first (not (side s)) (slot_gate_of (not (side s)) s) (checkpoint_text (record { generation = s.generation + 1; snapshot = snapshot }))
begins_first (AddGroup group) s idle = refl

pub no_calls : (calls : List StoreCall) → some calls ≡ false → calls ≡ []
no_calls [] is = refl
no_calls (call ∷ left) is = absurd cc

-- where the next call of the store that has begun writes the tail, a job ran before
pub tail_ran : (stops : List ℕ → Bool) (s : StoreState) → writes_tail (begun stops s).running ≡ true → begun stops s ≡ s
tail_ran stops s = by (some s.running) refl
  where
    by : (t : Bool) → some s.running ≡ t → writes_tail (cond t s (begins (due_job stops s) s)).running ≡ true → cond t s (begins (due_job stops s) s) ≡ s
    by true is w = refl
    by false is w =
        let clash : false ≡ true = sym (begins_first (due_job stops s) s (no_calls s.running is)) ∙ w in
        absurd cc

pub tail_first : (tail : Tail) (calls : List StoreCall) (s : StoreState) → s.running ≡ calls → writes_tail (with_tail tail calls s).running ≡ false
tail_first tail [] s is = ap writes_tail is
tail_first tail (On device call ∷ left) s is = ap writes_tail is
tail_first tail (WriteTail ∷ left) s is = refl

pub readied_first : (stops : List ℕ → Bool) (tail : Tail) (s : StoreState) → writes_tail (readied stops tail s).running ≡ false
readied_first stops tail s = tail_first tail (begun stops s).running (begun stops s) refl

-- ---- the call is the same

tail_called : (tail : Tail) (calls : List StoreCall) (s : StoreState) → s.running ≡ calls → job_called tail (with_tail tail calls s).running (with_tail tail calls s) ≡ job_called tail calls s
tail_called tail [] s is = ap (λ (calls : List StoreCall). job_called tail calls s) is
tail_called tail (On device call ∷ left) s is = ap (λ (calls : List StoreCall). job_called tail calls s) is
tail_called tail (WriteTail ∷ []) s is = refl
tail_called tail (WriteTail ∷ more ∷ left) s is = refl

pub readied_called : (stops : List ℕ → Bool) (tail : Tail) (s : StoreState) → job_called tail (readied stops tail s).running (readied stops tail s) ≡ store_called stops tail s
readied_called stops tail s = tail_called tail (begun stops s).running (begun stops s) refl

tail_during : (tail : Tail) (calls : List StoreCall) (s : StoreState) → s.running ≡ calls → devices_during tail (with_tail tail calls s).running (with_tail tail calls s) ≡ devices_during tail calls s
tail_during tail [] s is = ap (λ (calls : List StoreCall). devices_during tail calls s) is
tail_during tail (On device call ∷ left) s is = ap (λ (calls : List StoreCall). devices_during tail calls s) is
tail_during tail (WriteTail ∷ left) s is = refl

pub readied_during : (stops : List ℕ → Bool) (tail : Tail) (s : StoreState)
    → devices_during tail (readied stops tail s).running (readied stops tail s) ≡ devices_during tail (begun stops s).running (begun stops s)
readied_during stops tail s = tail_during tail (begun stops s).running (begun stops s) refl

-- the devices are as they were
tail_devices : (tail : Tail) (calls : List StoreCall) (s : StoreState) → (with_tail tail calls s).devices ≡ s.devices
tail_devices tail [] s = refl
tail_devices tail (On device call ∷ left) s = refl
tail_devices tail (WriteTail ∷ left) s = refl

begins_devices : (job : Begun) (s : StoreState) → (begins job s).devices ≡ s.devices
begins_devices NoJob s = refl
begins_devices (Close odd) s = refl
begins_devices Repair s = refl
begins_devices (Switch snapshot) s = refl
begins_devices (AddGroup group) s = refl

pub begun_devices : (stops : List ℕ → Bool) (s : StoreState) → (begun stops s).devices ≡ s.devices
begun_devices stops s = by (some s.running)
  where
    by : (t : Bool) → (cond t s (begins (due_job stops s) s)).devices ≡ s.devices
    by true = refl
    by false = begins_devices (due_job stops s) s

pub readied_devices : (stops : List ℕ → Bool) (tail : Tail) (s : StoreState) → (readied stops tail s).devices ≡ s.devices
readied_devices stops tail s = tail_devices tail (begun stops s).running (begun stops s) ∙ begun_devices stops s

-- ---- the store stands for the same

module _ (P : Images → Kept → Kept → Type 0) (R : StoreState → Kept → Kept → Type 0) where
  pub tail_stands : (tail : Tail) (calls : List StoreCall) (s : StoreState) (a : Aim) → s.running ≡ calls → (writes_tail calls ≡ true → IsGroup tail.entries) → StandsBy P R calls s a
      → (now : Aim) × StandsBy P R (with_tail tail calls s).running (with_tail tail calls s) now
  tail_stands tail [] s a is fits stands = (a, subst (λ (calls : List StoreCall). StandsBy P R calls s a) (sym is) stands)
  tail_stands tail (On device call ∷ left) s a is fits stands = (a, subst (λ (calls : List StoreCall). StandsBy P R calls s a) (sym is) stands)
  tail_stands tail (WriteTail ∷ left) s a is fits stands = (aim_written tail WriteTail a, (stands.0, λ any any_fits. stands.1 tail (fits refl)))

  pub readied_stands : ((stops : List ℕ → Bool) (s : StoreState) (a : Aim) → s.running ≡ [] → StandsBy P R s.running s a → HasSpelling (due_job stops s)
      → StandsBy P R (begins (due_job stops s) s).running (begins (due_job stops s) s) (aim_begins (due_job stops s) s a))
      → (stops : List ℕ → Bool) (tail : Tail) (s : StoreState) (a : Aim) → (some s.running ≡ false → HasSpelling (due_job stops s)) → (writes_tail s.running ≡ true → IsGroup tail.entries)
      → StandsBy P R s.running s a → (now : Aim) × StandsBy P R (readied stops tail s).running (readied stops tail s) now
  readied_stands begin stops tail s a spelled fits stands =
      let has = of_begun (some s.running) refl in
      tail_stands tail (begun stops s).running (begun stops s) has.0 refl (λ w. fits (subst (λ (q : StoreState). writes_tail q.running ≡ true) (tail_ran stops s w) w)) has.1
    where
      of_begun : (t : Bool) → some s.running ≡ t → (now : Aim) × StandsBy P R (cond t s (begins (due_job stops s) s)).running (cond t s (begins (due_job stops s) s)) now
      of_begun true is = (a, stands)
      of_begun false is = (aim_begins (due_job stops s) s a, begin stops s a (no_calls s.running is) stands (spelled is))

-- where the next call is a device call, it can be made
pub first_can : (P : Images → Kept → Kept → Type 0) (R : StoreState → Kept → Kept → Type 0) (s : StoreState) (a : Aim) (device : Device) (call : DeviceCall) (left : List StoreCall) (tail : Tail) → IsGroup tail.entries
    → s.running ≡ On device call ∷ left → StandsBy P R s.running s a → CanBeMade call (cells_on device s.devices)
first_can P R s a device call left tail fits is stands =
    let runs : Runs P R (On device call ∷ left) s a = subst (λ (calls : List StoreCall). StandsBy P R calls s a) is stands in
    (runs.1 tail fits).0
