-- The slots of a store.
use Rattle.std.specs.Prelude.{ℕ, cond, Option}
use Rattle.disk_model.specs.Cells.{Cells}
use Rattle.store_form.specs.declared.checkpoint.Checkpoint.{Checkpoint}
use Rattle.checkpoint_store.specs.Slots.{is_odd, by_gate}
use Rattle.checkpoint_store.specs.SlotJobs.{SlotStands, IsSlotUnderWay, SlotLeaves, IsFull}
use Rattle.checkpoint_store.specs.declared.store.CheckpointStore.{CheckpointStore}
use Rattle.checkpoint_store.specs.declared.store.Slot.{Slot}

-- the slot that a generation uses
abbrev pub slot : {D : Type 0} → ℕ → CheckpointStore D → Slot D
slot generation store = cond (is_odd generation) store.odd store.even

-- the slot that a generation does not use
abbrev pub beside : {D : Type 0} → ℕ → CheckpointStore D → Slot D
beside generation store = cond (is_odd generation) store.even store.odd

-- what that slot stands for, if `cells` tells what a device holds
abbrev pub StandsAt : {D : Type 0} → (D → Cells) → ℕ → CheckpointStore D → Checkpoint → Option Checkpoint → Option Checkpoint → Type 0
StandsAt cells generation store next has other = SlotStands (is_odd generation) (cells (slot generation store).device) (slot generation store).job next has other

abbrev pub UnderWayAt : {D : Type 0} → (D → Cells) → ℕ → CheckpointStore D → Type 0
UnderWayAt cells generation store = IsSlotUnderWay (is_odd generation) (cells (slot generation store).device) (slot generation store).job

abbrev pub LeavesAt : {D : Type 0} → (D → Cells) → ℕ → CheckpointStore D → Option Checkpoint → Option Checkpoint → Type 0
LeavesAt cells generation store has other = SlotLeaves (is_odd generation) (cells (slot generation store).device) has other

abbrev pub IsFullAt : {D : Type 0} → (D → Cells) → ℕ → CheckpointStore D → Checkpoint → Type 0
IsFullAt cells generation store next = IsFull (is_odd generation) (cells (slot generation store).device) next

-- the checkpoint that it would have with a gate of 1
abbrev pub gate_gives : {D : Type 0} → (D → Cells) → ℕ → CheckpointStore D → Option Checkpoint
gate_gives cells generation store = by_gate (is_odd generation) (cells (slot generation store).device).now
