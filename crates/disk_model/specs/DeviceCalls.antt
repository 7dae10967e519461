-- The calls that change a disk, as data: what a call makes of the contents, and what a crash during it may leave.
use Rattle.std.specs.Prelude.{◌≤◌, ◌<◌, ◌+◌, ◌^◌, Bool, true, false, length}
use Rattle.disk_model.specs.Cells.{Cells, settled, written, cut_to}
use Rattle.disk_model.specs.declared.call.DeviceCall.{DeviceCall}
use Rattle.disk_model.specs.declared.call.DeviceCall.TheVariants.{Write, Cut, Sync}

-- the contents after a call
abbrev pub made : DeviceCall → Cells → Cells
made (Write at bytes) cells = written at bytes cells
made (Cut to) cells = cut_to to cells
made Sync cells = settled cells.now

-- contents of which a crash leaves what a crash during the call may leave, whether the call goes well or fails
abbrev pub during : DeviceCall → Cells → Cells
during (Write at bytes) cells = written at bytes cells
during (Cut to) cells = cut_to to cells
during Sync cells = cells

-- a write that begins within the contents, or at their end
abbrev pub CanBeMade : DeviceCall → Cells → Type 0
CanBeMade (Write at bytes) cells = at ≤ length cells.now
CanBeMade (Cut to) cells = Unit {0}
CanBeMade Sync cells = Unit {0}

-- a write within the greatest length of a disk
abbrev pub HasRoom : DeviceCall → Type 0
HasRoom (Write at bytes) = at + length bytes < 2 ^ 63
HasRoom (Cut to) = Unit {0}
HasRoom Sync = Unit {0}

abbrev pub is_sync : DeviceCall → Bool
is_sync (Write at bytes) = false
is_sync (Cut to) = false
is_sync Sync = true
