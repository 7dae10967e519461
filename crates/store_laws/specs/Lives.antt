-- The bytes of four devices between two lives of a store, and what a gate that a crash left torn would bring back.
use Rattle.std.specs.Prelude.{◌≡◌, ◌≢◌, ◌⊎◌, ◌<◌, ℕ, Bool, not, List, [], ◌∷◌, ◌++◌, drop, Option, Some, None}
use Rattle.store_form.specs.Spelling.{Group, checkpoint_text}
use Rattle.store_form.specs.declared.checkpoint.Checkpoint.{Checkpoint}
use Rattle.batch_log.specs.Log.{AreGroups}
use Rattle.batch_log.specs.Wires.{Ends, Wire}
use Rattle.checkpoint_store.specs.Slots.{slot_of, generation_of}
use Rattle.checkpoint_store.specs.SlotJobs.{IsFor}
use Rattle.store_laws.specs.Restored.{Images, log_image, slot_image, side_of, entries_of, restores, slot_gate}
use Rattle.store_laws.specs.declared.job.Kept.{Kept}
use Rattle.store_laws.specs.declared.job.Gate.TheVariants.{Torn}

-- no checkpoint, or one of an older generation
abbrev pub IsOlder : Option Checkpoint → Option Checkpoint → Type 0
IsOlder present None = Unit {0}
IsOlder present (Some y) = y.generation < generation_of present

-- The slot of the present generation: it has the newest checkpoint, or none and no torn gate.
pub record Present (odd : Bool) (bytes : List ℕ) (present : Option Checkpoint) : Type 0 where
  pub has : slot_of odd bytes ≡ present
  pub calm : slot_gate odd bytes ≢ Torn

pub record IsShut (bytes : List ℕ) : Type 0 where
  pub rest : List ℕ
  pub are : bytes ≡ 0 ∷ rest

-- a slot that has, and with a gate of 1 would have, nothing or one older checkpoint
pub record Old (odd : Bool) (bytes : List ℕ) (present : Option Checkpoint) : Type 0 where
  pub was : Option Checkpoint
  pub older : IsOlder present was
  pub has : (slot_of odd bytes ≡ None) ⊎ (slot_of odd bytes ≡ was)
  pub by_gate : (slot_of odd (1 ∷ drop 1 bytes) ≡ None) ⊎ (slot_of odd (1 ∷ drop 1 bytes) ≡ was)

-- the slot of the other generations: its gate is closed, or it holds what is older
abbrev pub Beside : Bool → List ℕ → Option Checkpoint → Type 0
Beside odd bytes present = IsShut bytes ⊎ Old odd bytes present

-- No gate but that of the present log may bring anything back.
pub record LogTorn (images : Images) (kept other : Kept) : Type 0 where
  pub present : Present (side_of kept.present) (slot_image (side_of kept.present) images) kept.present
  pub beside : Beside (not (side_of kept.present)) (slot_image (not (side_of kept.present)) images) kept.present
  pub own : List Group
  pub own_other : List Group
  pub log : Wire (log_image (side_of kept.present) images) own own_other
  pub entries : kept.entries ≡ entries_of own
  pub is : other ≡ record { present = kept.present; entries = entries_of own_other }

-- After the gate of the other slot, whatever it is, stands a whole checkpoint of a later generation, whose log is sure.
pub record Held (bytes : List ℕ) (images : Images) (kept other : Kept) : Type 0 where
  pub next : Checkpoint
  pub is_for : IsFor (not (side_of kept.present)) next
  pub beyond : generation_of kept.present < next.generation
  pub gate : ℕ
  pub rest : List ℕ
  pub are : bytes ≡ gate ∷ (checkpoint_text next ++ rest)
  pub present : Present (side_of kept.present) (slot_image (side_of kept.present) images) kept.present
  pub own : List Group
  pub fit : AreGroups own
  pub log : Ends (log_image (side_of kept.present) images) own own
  pub entries : kept.entries ≡ entries_of own
  pub next_own : List Group
  pub next_fit : AreGroups next_own
  pub next_log : Ends (log_image (not (side_of kept.present)) images) next_own next_own
  pub is : other ≡ record { present = Some next; entries = entries_of next_own }

-- The gate of the other slot is torn, and would bring back a later generation.
pub record SlotTorn (images : Images) (kept other : Kept) : Type 0 where
  pub held : Held (slot_image (not (side_of kept.present)) images) images kept other
  pub torn : (held.gate ≢ 0) × (held.gate ≢ 1)

-- Bytes that restore `kept`. With what a crash may make of the one torn gate they restore `other`.
abbrev pub StoreWire : Images → Kept → Kept → Type 0
StoreWire images kept other = LogTorn images kept other ⊎ SlotTorn images kept other

-- what the next life keeps, and what it may restore instead: `kept` alone, `kept` and `other`, or `other` alone
abbrev pub StoreNext : Images → Kept → Kept → Type 0
StoreNext images kept other = StoreWire images kept kept ⊎ (StoreWire images kept other ⊎ StoreWire images other other)

-- one of two things is restored
abbrev pub Either : Images → Kept → Kept → Type 0
Either images kept other = (restores images ≡ kept) ⊎ (restores images ≡ other)

-- the bytes of empty devices, and what they restore
abbrev pub no_bytes : Images
no_bytes = record { even_log = []; odd_log = []; even_slot = []; odd_slot = [] }

abbrev pub nothing : Kept
nothing = record { present = None; entries = [] }
