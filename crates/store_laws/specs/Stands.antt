-- What a store stands for between two device calls.
use Rattle.std.specs.Prelude.{◌≡◌, ◌⊎◌, ◌+◌, ℕ, true, false, cond, List, [], ◌∷◌, ◌++◌, None}
use Rattle.disk_model.specs.DeviceCalls.{CanBeMade}
use Rattle.store_form.specs.Spelling.{Group, IsGroup, IsEntry}
use Rattle.store_form.specs.declared.checkpoint.Checkpoint.{Checkpoint}
use Rattle.batch_log.specs.Log.{log_bytes, AreGroups, first_group, restored}
use Rattle.batch_log.specs.Exact.{end_opened}
use Rattle.checkpoint_store.specs.Slots.{generation_of}
use Rattle.store_laws.specs.Restored.{Images, log_image, side_of, present_in, restores, with, switched, slot_gate, log_torn, slot_opened, log_opened}
use Rattle.store_laws.specs.States.{Devices, StoreState, side, is_torn, Begun, NoJob, Close, Repair, Switch, AddGroup, all_settled, cells_on, device_of, call_of, advanced, ended, MayLeave}
use Rattle.store_laws.specs.Lives.{StoreWire, StoreNext, Either}
use Rattle.store_laws.specs.declared.job.Kept.{Kept}
use Rattle.store_laws.specs.declared.job.StoreCall.{StoreCall}
use Rattle.store_laws.specs.declared.job.StoreCall.TheVariants.{On, WriteTail}
use Rattle.store_laws.specs.declared.job.Tail.{Tail}

-- What a store stands for. Each crash now restores `kept`, or `stake` instead: what a torn gate may bring back, or a gate that was opened and
-- is not sure. `gated` is at stake once the running job has written its gate. `then` is kept after the running job. `next` is the checkpoint
-- of a running switch.
pub record Aim : Type 0 where
  pub kept : Kept
  pub stake : Kept
  pub gated : Kept
  pub then : Kept
  pub next : Checkpoint

-- no job runs; a gate that is torn may bring back `other`
abbrev pub at_rest : Kept → Kept → Checkpoint → Aim
at_rest kept other next = record { kept = kept; stake = other; gated = other; then = kept; next = next }

-- once the tail is written, the new generation is what the job aims at
abbrev pub aim_written : Tail → StoreCall → Aim → Aim
aim_written tail (On device call) a = a
aim_written tail WriteTail a = record { kept = a.kept; stake = a.stake; gated = switched a.next tail.entries; then = switched a.next tail.entries; next = a.next }

-- the last two calls of a job are the write of a gate and its sync
abbrev pub aim_left : List StoreCall → Aim → Aim
aim_left [] a = a
aim_left (call ∷ []) a = record { kept = a.kept; stake = a.gated; gated = a.gated; then = a.then; next = a.next }
aim_left (call ∷ (more ∷ left)) a = a

-- what the store stands for after a call of its job, with the calls that are left
abbrev pub aim_called : Tail → StoreCall → List StoreCall → Aim → Aim
aim_called tail call left a = aim_left left (aim_written tail call a)

-- devices of which each crash now leaves bytes that have this property
abbrev pub Leaves : (Images → Kept → Kept → Type 0) → Devices → Aim → Type 0
Leaves P d a = (images : Images) → MayLeave d images → P images a.kept a.stake

-- A store whose running job still makes these calls. Each crash before a call leaves what `P` says, whatever tail is given at the call that
-- writes it. `R` holds at the job's end, of what is kept then and of what another torn gate may bring back. Of a crash during a call nothing
-- need be said: it leaves what one before the call may leave, or one after it.
abbrev pub Runs : (Images → Kept → Kept → Type 0) → (StoreState → Kept → Kept → Type 0) → List StoreCall → StoreState → Aim → Type 0
Runs P R [] s a = (other : Kept) × R s a.then other
Runs P R (call ∷ left) s a =
    Leaves P s.devices a
    × ((tail : Tail) → IsGroup tail.entries
    → CanBeMade (call_of tail call) (cells_on (device_of s call) s.devices) × Runs P R left (ended left (advanced tail call left s)) (aim_called tail call left a))

-- No job runs, and nothing is pending: the store is one that is opened over the bytes of its devices, in all that its calls depend on.
pub record Rests (s : StoreState) (images : Images) : Type 0 where
  pub settled : s.devices ≡ all_settled images
  pub even : s.even ≡ slot_gate false images.even_slot
  pub odd : s.odd ≡ slot_gate true images.odd_slot
  pub generation : s.generation ≡ generation_of (present_in images)
  pub torn : s.torn ≡ log_torn (log_image (side_of (present_in images)) images)
  pub end : s.end ≡ end_opened (log_image (side_of (present_in images)) images)

-- what a 1 at the first gate that has to be closed would bring back; what is restored if there is none
abbrev pub instead : StoreState → Images → Kept
instead s images =
    cond (is_torn s.even) (restores (slot_opened false images))
    (cond (is_torn s.odd) (restores (slot_opened true images))
    (cond s.torn (restores (log_opened (side s) images)) (restores images)))

-- The bytes of a log, read to their end: whole groups, and after them no group. Of bytes below 256 it always holds.
pub record IsRead (bytes : List ℕ) : Type 0 where
  pub rest : List ℕ
  pub are : bytes ≡ log_bytes (restored bytes) ++ rest
  pub fit : AreGroups (restored bytes)
  pub nothing : first_group rest ≡ None

-- a store over any bytes
pub record AnyRests (s : StoreState) (kept other : Kept) : Type 0 where
  pub images : Images
  pub rests : Rests s images
  pub log : IsRead (log_image (side_of (present_in images)) images)
  pub kept_is : kept ≡ restores images
  pub other_is : other ≡ instead s images

-- a store over bytes that only crashes of its own lives have changed
pub record OwnRests (s : StoreState) (kept other : Kept) : Type 0 where
  pub images : Images
  pub rests : Rests s images
  pub wire : StoreWire images kept other

abbrev pub StandsBy : (Images → Kept → Kept → Type 0) → (StoreState → Kept → Kept → Type 0) → List StoreCall → StoreState → Aim → Type 0
StandsBy P R [] s a = R s a.kept a.stake
StandsBy P R (call ∷ left) s a = Runs P R (call ∷ left) s a

-- a store over any bytes: a crash restores `kept` or `stake`
abbrev pub StoreStands : StoreState → Aim → Type 0
StoreStands s a = StandsBy Either AnyRests s.running s a

-- a store that only crashes of its own lives have changed: a crash leaves bytes with which the next life begins
abbrev pub IsOwn : StoreState → Aim → Type 0
IsOwn s a = StandsBy StoreNext OwnRests s.running s a

-- what the store stands for after a call, if these calls are left; at the job's end another torn gate may bring back `other`
abbrev pub aim_after : List StoreCall → Kept → Aim → Aim
aim_after [] other a = at_rest a.then other a.next
aim_after (call ∷ left) other a = a

-- ---- what the job that begins makes of them

abbrev pub aim_begins : Begun → StoreState → Aim → Aim
aim_begins NoJob s a = a
aim_begins (Close odd) s a = at_rest a.kept a.stake a.next
aim_begins Repair s a = at_rest a.kept a.stake a.next
aim_begins (Switch snapshot) s a = record { kept = a.kept; stake = a.kept; gated = a.kept; then = a.kept; next = record { generation = s.generation + 1; snapshot = snapshot } }
aim_begins (AddGroup group) s a = record { kept = a.kept; stake = a.kept; gated = with a.kept group; then = with a.kept group; next = a.next }

-- the entries, or the snapshot, of the job that begins have a spelling
abbrev pub HasSpelling : Begun → Type 0
HasSpelling NoJob = Unit {0}
HasSpelling (Close odd) = Unit {0}
HasSpelling Repair = Unit {0}
HasSpelling (Switch snapshot) = IsEntry snapshot
HasSpelling (AddGroup group) = IsGroup group

-- ---- a switch

-- what is kept, or the new generation with some tail
abbrev pub KeptOrNew : Kept → Checkpoint → Kept → Type 0
KeptOrNew kept next x = (x ≡ kept) ⊎ ((tail : Group) × (x ≡ switched next tail))

-- a store that switches from what it keeps to this checkpoint
pub record Switching (kept : Kept) (next : Checkpoint) (a : Aim) : Type 0 where
  pub kept_is : a.kept ≡ kept
  pub next_is : a.next ≡ next
  pub stake_is : KeptOrNew kept next a.stake
  pub gated_is : KeptOrNew kept next a.gated
  pub then_is : KeptOrNew kept next a.then
