-- The opening of a store: what the job of an opened slot says of its gate.
use Rattle.checkpoint_store.specs.declared.job.SlotJob.{SlotJob}
use Rattle.checkpoint_store.specs.declared.job.SlotJob.TheVariants.{Empty, Torn as TornSlot, Shut, Close as CloseSlot, SyncClose as SyncCloseSlot, Fill, SyncFill, Full, Gate as GateSlot, SyncGate as SyncGateSlot, Counts}
use Rattle.store_laws.specs.declared.job.Gate.{Gate}
use Rattle.store_laws.specs.declared.job.Gate.TheVariants.{Absent, Closed, Torn, Open}

-- the gate of a slot on which no job runs
abbrev pub gate_by : SlotJob → Gate
gate_by Empty = Absent
gate_by TornSlot = Torn
gate_by Shut = Closed
gate_by CloseSlot = Closed
gate_by SyncCloseSlot = Closed
gate_by (Fill bytes) = Closed
gate_by SyncFill = Closed
gate_by Full = Closed
gate_by GateSlot = Closed
gate_by SyncGateSlot = Closed
gate_by Counts = Open
