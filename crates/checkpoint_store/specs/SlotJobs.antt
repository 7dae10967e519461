-- What a slot stands for between two device calls.
use Rattle.std.specs.Prelude.{◌≡◌, ◌≢◌, ◌⊎◌, ℕ, Bool, true, false, List, [], ◌∷◌, ◌++◌, Option, Some, None}
use Rattle.disk_model.specs.Cells.{Cells, settled, written}
use Rattle.store_form.specs.Spelling.{checkpoint_text}
use Rattle.store_form.specs.declared.checkpoint.Checkpoint.{Checkpoint}
use Rattle.checkpoint_store.specs.Slots.{is_odd, slot_of, by_gate, instead_of, InEachImage, Fits}
use Rattle.checkpoint_store.specs.declared.job.SlotJob.{SlotJob}
use Rattle.checkpoint_store.specs.declared.job.SlotJob.TheVariants.{Empty, Torn, Shut, Close, SyncClose, Fill, SyncFill, Full, Gate, SyncGate, Counts}

-- A slot stands for a pair: what it has after each crash now (`has`), and what it may have instead (`other`). `next` is the checkpoint that
-- the running job puts there, if it puts one.

-- a checkpoint that may stand in the slot of the odd or of the even generations
pub record IsFor (odd : Bool) (p : Checkpoint) : Type 0 where
  pub fits : Fits p
  pub uses : is_odd p.generation ≡ odd

-- contents with a closed gate, all of it sure
pub record IsShut (cells : Cells) : Type 0 where
  pub rest : List ℕ
  pub are : cells ≡ settled (0 ∷ rest)

-- contents with a gate that is neither closed nor of a whole checkpoint
pub record IsTorn (odd : Bool) (cells : Cells) (other : Option Checkpoint) : Type 0 where
  pub gate : ℕ
  pub rest : List ℕ
  pub are : cells ≡ settled (gate ∷ rest)
  pub torn : gate ≢ 0
  pub nothing : slot_of odd (gate ∷ rest) ≡ None
  pub is : other ≡ slot_of odd (1 ∷ rest)

-- contents with an open gate, and after it a whole checkpoint
pub record IsCounted (odd : Bool) (cells : Cells) (has : Option Checkpoint) : Type 0 where
  pub rest : List ℕ
  pub are : cells ≡ settled (1 ∷ rest)
  pub checkpoint : Checkpoint
  pub counts : slot_of odd (1 ∷ rest) ≡ Some checkpoint
  pub is : has ≡ Some checkpoint

-- any contents of a slot that is to be closed
pub record ToClose (odd : Bool) (cells : Cells) (other : Option Checkpoint) : Type 0 where
  pub bytes : List ℕ
  pub are : cells ≡ settled bytes
  pub is : other ≡ by_gate odd bytes

pub record Closing (odd : Bool) (cells : Cells) (other : Option Checkpoint) : Type 0 where
  pub bytes : List ℕ
  pub are : cells ≡ written 0 (0 ∷ []) (settled bytes)
  pub is : other ≡ by_gate odd bytes

pub record ToFill (odd : Bool) (cells : Cells) (bytes : List ℕ) (next : Checkpoint) : Type 0 where
  pub rest : List ℕ
  pub are : cells ≡ settled (0 ∷ rest)
  pub bytes_are : bytes ≡ checkpoint_text next
  pub is_for : IsFor odd next

pub record Filling (odd : Bool) (cells : Cells) (next : Checkpoint) : Type 0 where
  pub rest : List ℕ
  pub are : cells ≡ written 1 (checkpoint_text next) (settled (0 ∷ rest))
  pub is_for : IsFor odd next

-- contents with a closed gate, and after it a whole checkpoint that is sure
pub record IsFull (odd : Bool) (cells : Cells) (next : Checkpoint) : Type 0 where
  pub rest : List ℕ
  pub are : cells ≡ settled (0 ∷ (checkpoint_text next ++ rest))
  pub is_for : IsFor odd next

pub record Opening (odd : Bool) (cells : Cells) (next : Checkpoint) : Type 0 where
  pub rest : List ℕ
  pub are : cells ≡ written 0 (1 ∷ []) (settled (0 ∷ (checkpoint_text next ++ rest)))
  pub is_for : IsFor odd next

-- a slot that has nothing, and may have nothing instead
abbrev pub Nothing : Option Checkpoint → Option Checkpoint → Type 0
Nothing has other = (has ≡ None) × (other ≡ None)

abbrev pub SlotStands : Bool → Cells → SlotJob → Checkpoint → Option Checkpoint → Option Checkpoint → Type 0
SlotStands odd cells Empty next has other = (cells ≡ settled []) × Nothing has other
SlotStands odd cells Torn next has other = IsTorn odd cells other × (has ≡ None)
SlotStands odd cells Shut next has other = IsShut cells × Nothing has other
SlotStands odd cells Close next has other = ToClose odd cells other × (has ≡ None)
SlotStands odd cells SyncClose next has other = Closing odd cells other × (has ≡ None)
SlotStands odd cells (Fill bytes) next has other = ToFill odd cells bytes next × Nothing has other
SlotStands odd cells SyncFill next has other = Filling odd cells next × Nothing has other
SlotStands odd cells Full next has other = IsFull odd cells next × Nothing has other
SlotStands odd cells Gate next has other = IsFull odd cells next × Nothing has other
SlotStands odd cells SyncGate next has other = Opening odd cells next × ((has ≡ None) × (other ≡ Some next))
SlotStands odd cells Counts next has other = IsCounted odd cells has × (other ≡ has)

pub record IsSlotUnderWay (odd : Bool) (cells : Cells) (job : SlotJob) : Type 0 where
  pub next : Checkpoint
  pub has : Option Checkpoint
  pub other : Option Checkpoint
  pub stands : SlotStands odd cells job next has other

-- Bytes that have one of two checkpoints. With another value of their gate they have no third.
abbrev pub Leaves : Bool → Option Checkpoint → Option Checkpoint → List ℕ → Type 0
Leaves odd has other image =
    ((slot_of odd image ≡ has) × (instead_of odd image ≡ has))
    ⊎ (((slot_of odd image ≡ has) × (instead_of odd image ≡ other)) ⊎ ((slot_of odd image ≡ other) × (instead_of odd image ≡ other)))

abbrev pub SlotLeaves : Bool → Cells → Option Checkpoint → Option Checkpoint → Type 0
SlotLeaves odd cells has other = InEachImage cells (Leaves odd has other)

-- ---- the pair after the next call of a job

abbrev pub has_after : SlotJob → Checkpoint → Option Checkpoint → Option Checkpoint
has_after SyncGate next has = Some next
has_after Empty next has = has
has_after Torn next has = has
has_after Shut next has = has
has_after Close next has = has
has_after SyncClose next has = has
has_after (Fill bytes) next has = has
has_after SyncFill next has = has
has_after Full next has = has
has_after Gate next has = has
has_after Counts next has = has

abbrev pub other_after : SlotJob → Checkpoint → Option Checkpoint → Option Checkpoint → Option Checkpoint
other_after SyncClose next has other = has
other_after Gate next has other = Some next
other_after SyncGate next has other = Some next
other_after Empty next has other = other
other_after Torn next has other = other
other_after Shut next has other = other
other_after Close next has other = other
other_after (Fill bytes) next has other = other
other_after SyncFill next has other = other
other_after Full next has other = other
other_after Counts next has other = other

-- what a crash during the next call, or the rest of the job, may leave instead of `has`
abbrev pub slot_stake : SlotJob → Checkpoint → Option Checkpoint → Option Checkpoint
slot_stake Gate next other = Some next
slot_stake SyncGate next other = Some next
slot_stake Empty next other = other
slot_stake Torn next other = other
slot_stake Shut next other = other
slot_stake Close next other = other
slot_stake SyncClose next other = other
slot_stake (Fill bytes) next other = other
slot_stake SyncFill next other = other
slot_stake Full next other = other
slot_stake Counts next other = other

-- ---- and at the end of a job

abbrev pub has_then : SlotJob → Checkpoint → Option Checkpoint → Option Checkpoint
has_then Gate next has = Some next
has_then SyncGate next has = Some next
has_then Empty next has = has
has_then Torn next has = has
has_then Shut next has = has
has_then Close next has = has
has_then SyncClose next has = has
has_then (Fill bytes) next has = has
has_then SyncFill next has = has
has_then Full next has = has
has_then Counts next has = has

abbrev pub other_then : SlotJob → Checkpoint → Option Checkpoint → Option Checkpoint → Option Checkpoint
other_then Close next has other = has
other_then SyncClose next has other = has
other_then Gate next has other = Some next
other_then SyncGate next has other = Some next
other_then Empty next has other = other
other_then Torn next has other = other
other_then Shut next has other = other
other_then (Fill bytes) next has other = other
other_then SyncFill next has other = other
other_then Full next has other = other
other_then Counts next has other = other

-- the contents after the next call, if it does not fail
abbrev pub slot_called : SlotJob → Cells → Cells
slot_called Close cells = written 0 (0 ∷ []) cells
slot_called (Fill bytes) cells = written 1 bytes cells
slot_called Gate cells = written 0 (1 ∷ []) cells
slot_called Empty cells = cells
slot_called Torn cells = cells
slot_called Shut cells = cells
slot_called SyncClose cells = cells
slot_called SyncFill cells = cells
slot_called Full cells = cells
slot_called SyncGate cells = cells
slot_called Counts cells = cells

-- ---- the order of the calls

-- a slot on which no job runs
abbrev pub idle : SlotJob → Bool
idle Empty = true
idle Torn = true
idle Shut = true
idle Full = true
idle Counts = true
idle Close = false
idle SyncClose = false
idle (Fill bytes) = false
idle SyncFill = false
idle Gate = false
idle SyncGate = false

abbrev pub IsIdle : SlotJob → Type 0
IsIdle job = idle job ≡ true

-- the last state of a job
abbrev pub end_of : SlotJob → SlotJob
end_of Close = Shut
end_of SyncClose = Shut
end_of (Fill bytes) = Full
end_of SyncFill = Full
end_of Gate = Counts
end_of SyncGate = Counts
end_of Empty = Empty
end_of Torn = Torn
end_of Shut = Shut
end_of Full = Full
end_of Counts = Counts

abbrev pub job_after : SlotJob → SlotJob
job_after Close = SyncClose
job_after SyncClose = Shut
job_after (Fill bytes) = SyncFill
job_after SyncFill = Full
job_after Gate = SyncGate
job_after SyncGate = Counts
job_after Empty = Empty
job_after Torn = Torn
job_after Shut = Shut
job_after Full = Full
job_after Counts = Counts

-- the number of calls that a job still makes
abbrev pub calls_left : SlotJob → ℕ
calls_left Close = 2
calls_left SyncClose = 1
calls_left (Fill bytes) = 2
calls_left SyncFill = 1
calls_left Gate = 2
calls_left SyncGate = 1
calls_left Empty = 0
calls_left Torn = 0
calls_left Shut = 0
calls_left Full = 0
calls_left Counts = 0

-- a slot whose gate is sure to be closed
abbrev pub shut : SlotJob → Bool
shut Shut = true
shut Full = true
shut Empty = false
shut Torn = false
shut Counts = false
shut Close = false
shut SyncClose = false
shut (Fill bytes) = false
shut SyncFill = false
shut Gate = false
shut SyncGate = false
