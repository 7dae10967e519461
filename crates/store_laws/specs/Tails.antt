-- A switch and its tail: what it aims at before the tail is written and after it, and what it has reached at its end.
use Rattle.std.specs.Prelude.{◌≡◌, ◌≤◌, ◌<◌, ◌⊎◌, ◌+◌, ℕ, Bool, true, false, not, List, [], ◌∷◌, length, Option, Some, None}
use Rattle.disk_model.specs.DeviceCalls.{made}
use Rattle.disk_model.specs.declared.call.DeviceCall.TheVariants.{Write}
use Rattle.store_form.specs.Spelling.{group_text}
use Rattle.store_form.specs.declared.checkpoint.Checkpoint.{Checkpoint}
use Rattle.batch_log.specs.LogCalls.{anew_text}
use Rattle.store_laws.specs.Restored.{switched}
use Rattle.store_laws.specs.States.{Devices, StoreState, side, log_at, change, is_torn, some, Switch, due_job}
use Rattle.store_laws.specs.Stands.{Aim, IsOwn}
use Rattle.store_laws.specs.Stakes.{present_log}
use Rattle.store_laws.specs.Runs.{called_times}
use Rattle.store_laws.specs.Books.{NoTail}
use Rattle.store_laws.specs.declared.job.Kept.{Kept}
use Rattle.store_laws.specs.declared.job.Tail.{Tail}
use Rattle.store_laws.specs.declared.job.Ending.{Ending}
use Rattle.store_laws.specs.declared.job.Ending.TheVariants.{Closes, Repairs, Adds, Switches}
use Rattle.store_laws.specs.declared.job.Device.TheVariants.{Log}
use Rattle.store_laws.specs.declared.job.StoreCall.{StoreCall}
use Rattle.store_laws.specs.declared.job.StoreCall.TheVariants.{On, WriteTail}

-- what a switch from `kept` to this checkpoint aims at: nothing new until its tail is written, then the new generation with that tail's entries
abbrev pub aimed_at : Kept → Checkpoint → Option Tail → Kept
aimed_at kept next None = kept
aimed_at kept next (Some tail) = switched next tail.entries

-- the tail that is written after a call, of the one that was written before and the one that is given at this call
abbrev pub tail_after : Tail → StoreCall → Option Tail → Option Tail
tail_after tail (On device call) before = before
tail_after tail WriteTail before = Some tail

-- calls that write one tail
abbrev pub OneTail : List StoreCall → Type 0
OneTail [] = ⊥
OneTail (On device call ∷ left) = OneTail left
OneTail (WriteTail ∷ left) = NoTail left

-- the calls that are left write the tail if it is not written yet
abbrev pub TailLeft : Option Tail → List StoreCall → Type 0
TailLeft None calls = OneTail calls
TailLeft (Some tail) calls = NoTail calls

-- what the end of a switch makes of a store
abbrev pub switch_ending : Option Tail → Ending
switch_ending None = Switches 0 0
switch_ending (Some tail) = Switches (1 + length (group_text tail.entries)) tail.made

-- what is at stake before these calls: all but the last of them come before the write of the gate, or are that write
abbrev pub stake_before : List StoreCall → Kept → Kept → Kept
stake_before [] kept aimed = aimed
stake_before (call ∷ []) kept aimed = aimed
stake_before (call ∷ (more ∷ left)) kept aimed = kept

-- devices after these calls of a switch, whose log is that of `odd`, with this tail
abbrev pub devices_then : Bool → Tail → List StoreCall → Devices → Devices
devices_then odd tail [] d = d
devices_then odd tail (On device call ∷ left) d = devices_then odd tail left (change (made call) device d)
devices_then odd tail (WriteTail ∷ left) d = devices_then odd tail left (change (made (Write 0 (anew_text tail.entries))) (Log odd) d)

-- the bytes of the next generation's log once these calls are made, with this tail
abbrev pub next_log : Tail → List StoreCall → StoreState → List ℕ
next_log tail calls s = (log_at (not (side s)) (devices_then (not (side s)) tail calls s.devices)).now

-- the calls that are left make of the next generation's log the tail alone: its gate, its group and the next gate
abbrev pub LogLeft : Option Tail → List StoreCall → StoreState → Type 0
LogLeft None calls s = (tail : Tail) → next_log tail calls s ≡ anew_text tail.entries
LogLeft (Some tail) calls s = next_log tail calls s ≡ anew_text tail.entries

-- A store that still makes these calls of a switch, from `kept` to the checkpoint `next`. `tail` is the tail that is written, if it is.
pub record SwitchesBy (calls : List StoreCall) (kept : Kept) (next : Checkpoint) (tail : Option Tail) (s : StoreState) (a : Aim) : Type 0 where
  pub runs : some calls ≡ true
  pub tail_left : TailLeft tail calls
  pub log_left : LogLeft tail calls s
  pub kept_is : a.kept ≡ kept
  pub stake_is : a.stake ≡ stake_before calls kept (aimed_at kept next tail)
  pub gated_is : a.gated ≡ aimed_at kept next tail
  pub then_is : a.then ≡ aimed_at kept next tail
  pub next_is : a.next ≡ next
  pub ending_is : s.ending ≡ switch_ending tail
  pub generation_is : next.generation ≡ s.generation + 1
  pub even_calm : is_torn s.even ≡ false
  pub odd_calm : is_torn s.odd ≡ false

-- A store after a switch to the checkpoint `next` with this tail. It keeps the new generation with the tail's entries, and may restore no
-- other thing. Its log has the tail's bytes and no more: a gate, the tail's group, and the closed gate at which the log ends. No group runs.
pub record HasSwitched (next : Checkpoint) (tail : Tail) (s : StoreState) (a : Aim) : Type 0 where
  pub idle : s.running ≡ []
  pub generation_is : s.generation ≡ next.generation
  pub end_is : s.end ≡ 1 + length (group_text tail.entries)
  pub log_is : present_log s ≡ anew_text tail.entries
  pub long_is : length (present_log s) ≡ 2 + length (group_text tail.entries)
  pub none_added : s.adding ≡ []
  pub kept_is : a.kept ≡ switched next tail.entries
  pub stake_is : a.stake ≡ switched next tail.entries
  pub gated_is : a.gated ≡ switched next tail.entries

-- ---- a switch that is asked for

-- calls of a job that is no switch, or none
abbrev pub NoSwitch : List StoreCall → Ending → Type 0
NoSwitch calls (Closes odd) = NoTail calls
NoSwitch calls Repairs = NoTail calls
NoSwitch calls (Adds end) = NoTail calls
NoSwitch calls (Switches end last) = calls ≡ []

abbrev pub next_of : ℕ → List ℕ → Checkpoint
next_of from snapshot = record { generation = from + 1; snapshot = snapshot }

-- The switch from this generation waits.
pub record SwitchWaits (from : ℕ) (snapshot : List ℕ) (s : StoreState) : Type 0 where
  pub generation_is : s.generation ≡ from
  pub asked_is : s.asked ≡ Some snapshot
  pub no_switch : NoSwitch s.running s.ending

-- It runs, and has written no tail, or this one.
pub record SwitchRuns (from : ℕ) (snapshot : List ℕ) (tail : Tail) (s : StoreState) (a : Aim) : Type 0 where
  pub kept : Kept
  pub before : Option Tail
  pub given : (before ≡ None) ⊎ (before ≡ Some tail)
  pub is : SwitchesBy s.running kept (next_of from snapshot) before s a

-- it waits or runs
abbrev pub SwitchGoes : ℕ → List ℕ → Tail → StoreState → Aim → Type 0
SwitchGoes from snapshot tail s a = SwitchWaits from snapshot s ⊎ SwitchRuns from snapshot tail s a

-- it waits or runs, or has just ended
abbrev pub SwitchComes : ℕ → List ℕ → Tail → StoreState → Aim → Type 0
SwitchComes from snapshot tail s a = SwitchGoes from snapshot tail s a ⊎ HasSwitched (next_of from snapshot) tail s a

-- A run of this many calls, one of which ended the switch.
pub record SwitchEnded (stops : List ℕ → Bool) (from : ℕ) (snapshot : List ℕ) (tail : Tail) (n : ℕ) (s : StoreState) : Type 0 where
  pub call : ℕ
  pub among : call ≤ n
  pub aim : Aim
  pub own : IsOwn (called_times stops tail call s) aim
  pub has : HasSwitched (next_of from snapshot) tail (called_times stops tail call s) aim

-- ---- a whole switch

-- the tail of a switch over a run that gives this tail: that one, unless another was written before the run
abbrev pub run_tail : Tail → Option Tail → Tail
run_tail tail None = tail
run_tail tail (Some written) = written

-- A switch from `kept` to the checkpoint `next` runs. Its tail is `last`, if the run gives the tail `tail`.
pub record SwitchesFrom (kept : Kept) (next : Checkpoint) (tail last : Tail) (s : StoreState) (a : Aim) : Type 0 where
  pub before : Option Tail
  pub last_is : run_tail tail before ≡ last
  pub is : SwitchesBy s.running kept next before s a

-- It is the next job that begins.
pub record SwitchDue (stops : List ℕ → Bool) (kept : Kept) (next : Checkpoint) (tail last : Tail) (s : StoreState) (a : Aim) : Type 0 where
  pub last_is : tail ≡ last
  pub idle : s.running ≡ []
  pub due : due_job stops s ≡ Switch next.snapshot
  pub generation_is : next.generation ≡ s.generation + 1
  pub kept_is : a.kept ≡ kept

-- it runs, or is the next job that begins
abbrev pub SwitchNow : (List ℕ → Bool) → Kept → Checkpoint → Tail → Tail → StoreState → Aim → Type 0
SwitchNow stops kept next tail last s a = SwitchesFrom kept next tail last s a ⊎ SwitchDue stops kept next tail last s a

-- A run of this many calls, at one of which a switch began that had waited. It began from what was kept then, and runs.
pub record SwitchBegan (stops : List ℕ → Bool) (from : ℕ) (snapshot : List ℕ) (tail : Tail) (n : ℕ) (s : StoreState) : Type 0 where
  pub call : ℕ
  pub among : call < n
  pub aim : Aim
  pub own : IsOwn (called_times stops tail call s) aim
  pub due : SwitchDue stops aim.kept (next_of from snapshot) tail tail (called_times stops tail call s) aim
  pub now : Aim
  pub now_own : IsOwn (called_times stops tail n s) now
  pub is : SwitchesFrom aim.kept (next_of from snapshot) tail tail (called_times stops tail n s) now
