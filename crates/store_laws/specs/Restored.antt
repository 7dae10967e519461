-- What the bytes of four devices restore.
use Rattle.std.specs.Prelude.{ℕ, suc, Bool, true, false, not, cond, ◌==◌, get_or, List, [], ◌∷◌, ◌++◌, take, drop, Option, Some, None}
use Rattle.std.specs.List.{flat_map}
use Rattle.store_form.specs.Spelling.{Group}
use Rattle.store_form.specs.declared.checkpoint.Checkpoint.{Checkpoint}
use Rattle.batch_log.specs.Log.{restored}
use Rattle.batch_log.specs.Exact.{end_opened}
use Rattle.checkpoint_store.specs.Slots.{is_odd, slot_of, newest, generation_of}
use Rattle.store_laws.specs.declared.job.Kept.{Kept}
use Rattle.store_laws.specs.declared.job.Gate.{Gate}
use Rattle.store_laws.specs.declared.job.Gate.TheVariants.{Absent, Closed, Torn, Open}

-- the bytes of the four devices: the logs and the slots, of the even and of the odd generations
pub record Images : Type 0 where
  pub even_log : List ℕ
  pub odd_log : List ℕ
  pub even_slot : List ℕ
  pub odd_slot : List ℕ

abbrev pub log_image : Bool → Images → List ℕ
log_image false images = images.even_log
log_image true images = images.odd_log

abbrev pub slot_image : Bool → Images → List ℕ
slot_image false images = images.even_slot
slot_image true images = images.odd_slot

-- the parity of the slot and of the log that a checkpoint uses; without one the generation is 0
abbrev pub side_of : Option Checkpoint → Bool
side_of present = is_odd (generation_of present)

-- the newest checkpoint of two slots that counts
abbrev pub present_in : Images → Option Checkpoint
present_in images = newest images.even_slot images.odd_slot

abbrev pub entries_of : List Group → List (List ℕ)
entries_of groups = flat_map (λ group. group) groups

-- the newest checkpoint, and the entries of the log of its generation
abbrev pub restores : Images → Kept
restores images = record { present = present_in images; entries = entries_of (restored (log_image (side_of (present_in images)) images)) }

-- what is kept, with more entries
abbrev pub with : Kept → Group → Kept
with kept added = record { present = kept.present; entries = kept.entries ++ added }

-- a new generation with the tail of its log
abbrev pub switched : Checkpoint → Group → Kept
switched next tail = record { present = Some next; entries = tail }

-- ---- the gates

abbrev pub counts_or_torn : Option Checkpoint → Gate
counts_or_torn None = Torn
counts_or_torn (Some x) = Open

-- the gate of a slot that has these bytes
abbrev pub slot_gate : Bool → List ℕ → Gate
slot_gate odd [] = Absent
slot_gate odd (gate ∷ rest) = cond (gate == 0) Closed (counts_or_torn (slot_of odd (gate ∷ rest)))

-- a log whose gate after its groups is absent or not 0
abbrev pub log_torn : List ℕ → Bool
log_torn bytes = not (get_or bytes (end_opened bytes) 1 == 0)

-- ---- with a gate of 1 in the place of one that is not sure

abbrev pub slot_opened : Bool → Images → Images
slot_opened false images = record { even_log = images.even_log; odd_log = images.odd_log; even_slot = 1 ∷ drop 1 images.even_slot; odd_slot = images.odd_slot }
slot_opened true images = record { even_log = images.even_log; odd_log = images.odd_log; even_slot = images.even_slot; odd_slot = 1 ∷ drop 1 images.odd_slot }

-- bytes with a 1 at an index
abbrev pub opened_at : ℕ → List ℕ → List ℕ
opened_at end bytes = take end bytes ++ 1 ∷ drop (suc end) bytes

abbrev pub log_opened : Bool → Images → Images
log_opened false images = record { even_log = opened_at (end_opened images.even_log) images.even_log; odd_log = images.odd_log; even_slot = images.even_slot; odd_slot = images.odd_slot }
log_opened true images = record { even_log = images.even_log; odd_log = opened_at (end_opened images.odd_log) images.odd_log; even_slot = images.even_slot; odd_slot = images.odd_slot }
