-- What a slot says before its snapshot is read.
use Rattle.std.specs.Prelude.{◌≡◌, ◌≤◌, ℕ, Bool, ◌&&◌, nat_lt, List, length, take, drop, Option, Some, None}
use Rattle.store_form.specs.Reading.{all_of, checkpoint_at}
use Rattle.store_form.specs.declared.checkpoint.Checkpoint.{Checkpoint}
use Rattle.checkpoint_store.specs.Slots.{slot_of, counted, same, is_odd}
use Rattle.checkpoint_store.specs.declared.job.SlotJob.{SlotJob}
use Rattle.checkpoint_store.specs.declared.job.SlotJob.TheVariants.{Torn, Counts}

-- the checkpoint with a generation, and with so many bytes behind the head as its snapshot
abbrev pub with_head : List ℕ → ℕ × ℕ → Checkpoint
with_head bytes x = record { generation = x.0; snapshot = take x.1 (drop 13 bytes) }

-- whether a generation uses a slot
abbrev pub uses_slot : Bool → ℕ → Bool
uses_slot odd generation = nat_lt 0 generation && same odd (is_odd generation)

-- the generation and the length of the snapshot of a slot that counts
abbrev pub HeadOf : Bool → List ℕ → Option (ℕ × ℕ) → Type 0
HeadOf odd bytes None = slot_of odd bytes ≡ None
HeadOf odd bytes (Some x) = (slot_of odd bytes ≡ Some (with_head bytes x)) × (x.1 ≤ length (drop 13 bytes))

-- the same of what stands after an open gate
abbrev pub CountsAfter : Bool → List ℕ → Option (ℕ × ℕ) → Type 0
CountsAfter odd bytes None = counted odd (checkpoint_at (all_of (drop 1 bytes))) ≡ None
CountsAfter odd bytes (Some x) = (counted odd (checkpoint_at (all_of (drop 1 bytes))) ≡ Some (with_head bytes x)) × (x.1 ≤ length (drop 13 bytes))

-- the job on a slot with an open gate
abbrev pub job_by : Option (ℕ × ℕ) → SlotJob
job_by None = Torn
job_by (Some x) = Counts
