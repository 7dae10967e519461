-- The exact slot after each call that goes well, and after it is opened over given bytes.
use Rattle.std.specs.Prelude.{ℕ, Bool, ◌==◌, cond, List, [], ◌∷◌, Option, Some, None}
use Rattle.disk_model.specs.Cells.{Cells, settled, written}
use Rattle.store_form.specs.declared.checkpoint.Checkpoint.{Checkpoint}
use Rattle.checkpoint_store.specs.Slots.{slot_of}
use Rattle.checkpoint_store.specs.declared.job.SlotJob.{SlotJob}
use Rattle.checkpoint_store.specs.declared.job.SlotJob.TheVariants.{Empty, Torn, Shut, Close, SyncClose, Fill, SyncFill, Full, Gate, SyncGate, Counts}

-- the contents of the device after the next call of a job
abbrev pub cells_called : SlotJob → Cells → Cells
cells_called Close cells = written 0 (0 ∷ []) cells
cells_called SyncClose cells = settled cells.now
cells_called (Fill bytes) cells = written 1 bytes cells
cells_called SyncFill cells = settled cells.now
cells_called Gate cells = written 0 (1 ∷ []) cells
cells_called SyncGate cells = settled cells.now
cells_called Empty cells = cells
cells_called Torn cells = cells
cells_called Shut cells = cells
cells_called Full cells = cells
cells_called Counts cells = cells

-- a slot whose gate is not closed: it counts, or it has to be closed
abbrev pub counts_or_torn : Option Checkpoint → SlotJob
counts_or_torn None = Torn
counts_or_torn (Some x) = Counts

-- a slot that is opened over these bytes
abbrev pub slot_opened : Bool → List ℕ → SlotJob
slot_opened odd [] = Empty
slot_opened odd (gate ∷ rest) = cond (gate == 0) Shut (counts_or_torn (slot_of odd (gate ∷ rest)))
