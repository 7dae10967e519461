-- The meaning of disks in memory.
use Rattle.std.specs.Prelude.{ℕ, Bool, ◌==◌, ◌+◌, ◌-◌, ◌^◌, min, List, length}
use Rattle.std.specs.List.{list_any}
use Rattle.disk_model.specs.Cells.{Cells, IsWrong}
use Rattle.disk_model.specs.Platters.{cells_of}
use Rattle.disk_model.specs.Replay.{LeftSince}
use Rattle.disk_model.specs.declared.image.ImageFault.{ImageFault}
use Rattle.disk_model.specs.declared.image.ImageFault.TheVariants.{NotAnImage, NoMemory}
use Rattle.disk_model.specs.declared.memory.MemDisk.{MemDisk}
use Rattle.disk_model.specs.declared.plain.PlainDisk.{PlainDisk}

-- the contents of a disk that remembers
abbrev pub disk_cells : MemDisk → Cells
disk_cells d = cells_of d.platter

-- the moment of a disk: the number of its changes
abbrev pub disk_moment : MemDisk → ℕ
disk_moment d = length d.changes.items

-- the bytes that a crash since a moment might have left
abbrev pub disk_left : MemDisk → ℕ → List ℕ → Type 0
disk_left d t c = LeftSince d.first d.changes.items t c

-- the number of the next changing call, from 1; it stays at 2^64 - 1
abbrev pub next_number : MemDisk → ℕ
next_number d = min (d.made + 1) (2 ^ 64 - 1)

-- a disk whose next changing call is told to fail
abbrev pub is_due : MemDisk → Bool
is_due d = list_any (λ call. call == next_number d) d.failing.items

-- the contents of a plain disk
abbrev pub plain_cells : PlainDisk → Cells
plain_cells d = cells_of d.platter

-- the reason for which bytes make no disk
abbrev pub Refuses : ImageFault → Cells → List ℕ → Type 0
Refuses (NotAnImage at) s bytes = IsWrong s bytes at
Refuses NoMemory s bytes = Unit {0}
