-- A run of calls of a store, one after the other, and what a crash during it may leave.
use Rattle.std.specs.Prelude.{◌≡◌, ◌≤◌, ◌⊎◌, ℕ, zero, suc, Bool, true, false, cond, List, [], ◌∷◌}
use Rattle.store_form.specs.Spelling.{IsGroup}
use Rattle.store_laws.specs.Restored.{Images}
use Rattle.store_laws.specs.States.{StoreState, some, writes_tail, due_job, begun, store_called, MayLeave, devices_during}
use Rattle.store_laws.specs.Stands.{Aim, aim_called, aim_after, aim_begins, HasSpelling}
use Rattle.store_laws.specs.declared.job.Kept.{Kept}
use Rattle.store_laws.specs.declared.job.StoreCall.{StoreCall}
use Rattle.store_laws.specs.declared.job.Tail.{Tail}

-- the store after some calls
abbrev pub called_times : (List ℕ → Bool) → Tail → ℕ → StoreState → StoreState
called_times stops tail zero s = s
called_times stops tail (suc n) s = store_called stops tail (called_times stops tail n s)

-- the job that begins at the next call has a spelling, and so has the tail, if this call writes it
abbrev pub CallFits : (List ℕ → Bool) → Tail → StoreState → Type 0
CallFits stops tail s = (some s.running ≡ false → HasSpelling (due_job stops s)) × (writes_tail s.running ≡ true → IsGroup tail.entries)

-- each of the first calls
abbrev pub RunFits : (List ℕ → Bool) → Tail → ℕ → StoreState → Type 0
RunFits stops tail zero s = Unit {0}
RunFits stops tail (suc n) s = RunFits stops tail n s × CallFits stops tail (called_times stops tail n s)

-- what a crash may leave before the next call, or at a moment of it
abbrev pub CallLeaves : (List ℕ → Bool) → Tail → StoreState → Images → Type 0
CallLeaves stops tail s images = MayLeave s.devices images ⊎ (CallFits stops tail s × MayLeave (devices_during tail (begun stops s).running (begun stops s)) images)

-- what a crash may leave at a moment of a run, whose last call may have failed
pub record RunLeaves (stops : List ℕ → Bool) (tail : Tail) (n : ℕ) (s : StoreState) (images : Images) : Type 0 where
  pub call : ℕ
  pub among : call ≤ n
  pub leaves : CallLeaves stops tail (called_times stops tail call s) images

-- ---- what the store stands for

-- once the first job that applies has begun, if none runs
abbrev pub aim_begun : (List ℕ → Bool) → StoreState → Aim → Aim
aim_begun stops s a = cond (some s.running) a (aim_begins (due_job stops s) s a)

-- after the first of these calls; if it is the job's last one, another torn gate may bring back `other`
abbrev pub aim_first : Tail → List StoreCall → Kept → Aim → Aim
aim_first tail [] other a = a
aim_first tail (call ∷ left) other a = aim_after left other (aim_called tail call left a)

-- after the store's next device call
abbrev pub aim_then : (List ℕ → Bool) → Tail → Kept → StoreState → Aim → Aim
aim_then stops tail other s a = aim_first tail (begun stops s).running other (aim_begun stops s a)
