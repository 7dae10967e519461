-- A run of calls of a store over its devices.
use Rattle.std.specs.Prelude.{◌≡◌, ◌⊎◌, ◌+◌, ℕ, zero, suc, Bool, true, List, [], Result, Ok, Err, Some, None}
use Rattle.disk_model.specs.Cells.{Cells}
use Rattle.store_form.specs.declared.ends.State.TheVariants.{Open}
use Rattle.store_laws.specs.Restored.{Images}
use Rattle.store_laws.specs.States.{Devices, StoreState, with_job, some, MayLeave}
use Rattle.store_laws.specs.Books.{NoTail}
use Rattle.store_laws.specs.Runs.{called_times, RunFits, CallLeaves, RunLeaves}
use Rattle.store_laws.specs.declared.job.Ending.{Ending}
use Rattle.store_laws.specs.declared.job.Ending.TheVariants.{Closes, Repairs, Adds, Switches}
use Rattle.store_laws.specs.declared.job.StoreCall.{StoreCall}
use Rattle.store_laws.specs.declared.job.Tail.{Tail}
use Rattle.store_plan.specs.Plans.{state_with, waits}
use Rattle.durable_store.specs.Disks.{cells_of, TimeWent, LeftSince}
use Rattle.durable_store.specs.declared.disks.Disks.{Disks}
use Rattle.durable_store.specs.declared.store.Store.{Store}

-- a tail of no entry, for a run that writes none
abbrev pub no_tail : Tail
no_tail = record { made = 0; entries = [] }

-- a job that is no switch
abbrev pub IsNoSwitch : List StoreCall → Ending → Type 0
IsNoSwitch calls (Closes odd) = NoTail calls
IsNoSwitch calls Repairs = NoTail calls
IsNoSwitch calls (Adds end) = NoTail calls
IsNoSwitch calls (Switches end made) = calls ≡ []

-- a store of which no switch runs or waits
pub record IsUnasked (s : StoreState) : Type 0 where
  pub asked : s.asked ≡ None
  pub job : IsNoSwitch s.running s.ending

-- The switch from this generation waits.
pub record SwitchIsWaiting (from : ℕ) (calls : List StoreCall) (s : StoreState) : Type 0 where
  pub generation : s.generation ≡ from
  pub snapshot : List ℕ
  pub asked : s.asked ≡ Some snapshot
  pub job : IsNoSwitch calls s.ending

-- It runs.
pub record SwitchIsRunning (from : ℕ) (calls : List StoreCall) (s : StoreState) : Type 0 where
  pub generation : s.generation ≡ from
  pub asked : s.asked ≡ None
  pub runs : some calls ≡ true
  pub end : ℕ
  pub last : ℕ
  pub ending : s.ending ≡ Switches end last

-- It has ended.
pub record SwitchIsDone (from : ℕ) (calls : List StoreCall) (s : StoreState) : Type 0 where
  pub generation : s.generation ≡ from + 1
  pub asked : s.asked ≡ None
  pub idle : calls ≡ []

-- it waits or runs
abbrev pub SwitchIsOn : ℕ → List StoreCall → StoreState → Type 0
SwitchIsOn from calls s = SwitchIsWaiting from calls s ⊎ SwitchIsRunning from calls s

-- it waits or runs, or has ended
abbrev pub SwitchIsOnOrDone : ℕ → StoreState → Type 0
SwitchIsOnOrDone from s = SwitchIsOn from s.running s ⊎ SwitchIsDone from s.running s

-- A run of this many calls from this state ends with a switch: the last of its calls is the one at which the generation changes.
abbrev pub EndsWithSwitch : (List ℕ → Bool) → Tail → ℕ → StoreState → Type 0
EndsWithSwitch stops tail zero s = ⊥
EndsWithSwitch stops tail (suc n) s = ((called_times stops tail n s).generation ≡ s.generation) × ((called_times stops tail (suc n) s).generation ≡ s.generation + 1)

-- what a call that takes entries leaves: all that waits, or, with an error, what waited before
abbrev pub taken_by : {T E : Type 0} → Result T E → List (List ℕ) → StoreState → StoreState
taken_by (Ok x) waited = λ s. s
taken_by (Err e) waited = λ s. waits waited s

-- the store without a switch that waits
abbrev pub unasks : StoreState → StoreState
unasks s = with_job s.running s.ending s.adding s.waiting None s

-- what a call that switches leaves: with an error, no switch waits
abbrev pub asked_by : {T E : Type 0} → Result T E → StoreState → StoreState
asked_by (Ok x) = λ s. s
asked_by (Err e) = λ s. unasks s

module _ {D : Type 0} (told remembers : Type 0) (cells : D → Cells) (moment : D → ℕ) (left_since : D → ℕ → List ℕ → Type 0) (stops : List ℕ → Bool) (tail : Tail) where
  -- A call of the store in this state, from devices to others. It bounds what a crash may leave after it, and might have left at any
  -- moment of it.
  pub record Passed (s : StoreState) (old new : Disks D) : Type 0 where
    pub time : TimeWent moment left_since cells old new
    pub crash : told → (images : Images) → MayLeave (cells_of cells new) images → CallLeaves stops tail s images
    pub any_moment : told → remembers → (images : Images) → LeftSince moment left_since old new images → CallLeaves stops tail s images

  -- that many calls, one after the other
  abbrev pub Passes : ℕ → StoreState → Disks D → Disks D → Type 0
  Passes zero s old new = new ≡ old
  Passes (suc n) s old new = (mid : Disks D) × (Passes n s old mid × Passed (called_times stops tail n s) mid new)

  -- A run of a store that begins in the state `first`. `calls` calls went well, and left the devices `mid`. Then the run ended, or a call
  -- failed. A store that stays open is in the state after the calls, or in what `last` makes of it.
  pub record Ran (first : Devices → StoreState) (last : StoreState → StoreState) (old : Disks D) (new : Store D) : Type 0 where
    pub calls : ℕ
    pub fits : (d : Devices) → RunFits stops tail calls (first d)
    pub mid : Disks D
    pub passes : Passes calls (first (cells_of cells old)) old mid
    pub ended : (new.disks ≡ mid) ⊎ Passed (called_times stops tail calls (first (cells_of cells old))) mid new.disks
    pub contents : told → cells_of cells mid ≡ (called_times stops tail calls (first (cells_of cells old))).devices
    pub still : new.state ≡ Open → new.disks ≡ mid
    pub plan : new.state ≡ Open → (d : Devices) → state_with new.plan (called_times stops tail calls (first d)).devices ≡ last (called_times stops tail calls (first d))
    pub firm : (d : Devices) → new.plan.firm ≡ (called_times stops tail calls (first d)).firm
    pub generation : (d : Devices) → new.plan.generation ≡ (called_times stops tail calls (first d)).generation
    pub crash : told → (images : Images) → MayLeave (cells_of cells new.disks) images → RunLeaves stops tail calls (first (cells_of cells old)) images
