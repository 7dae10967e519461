-- Addresses of disks: a directory, a member, and the number of one of its devices.
use Rattle.std.specs.Prelude.{◌≡◌, ◌≢◌, ℕ, ◌==◌, Bool, ◌&&◌, List, [], ◌∷◌, Option, Some, None, if◌then◌else◌}
use Rattle.smart_base.specs.Lists.{same_bytes}
use Rattle.disk_model.specs.Cells.{Cells, settled}
use Rattle.disk_model.specs.Memory.{disk_cells}
use Rattle.disk_model.specs.declared.memory.MemDisk.{MemDisk}
use Rattle.disk_model.specs.declared.room.Shelf.{Shelf}

-- the address of a disk
pub record Address : Type 0 where
  pub dir : List ℕ
  pub member : ℕ
  pub device : ℕ

abbrev pub address : List ℕ → ℕ → ℕ → Address
address dir member device = record { dir = dir; member = member; device = device }

abbrev pub same_address : Address → Address → Bool
same_address a b = same_bytes a.dir b.dir && (a.member == b.member) && (a.device == b.device)

-- a change of a room that leaves all other addresses as they are
abbrev pub KeepsOthers : {A : Type 0} → Address → (Address → A) → (Address → A) → Type 0
KeepsOthers here old new = (other : Address) → other ≢ here → new other ≡ old other

-- ---- a room in memory

abbrev pub address_of : Shelf → Address
address_of s = record { dir = s.dir; member = s.member; device = s.device }

abbrev pub is_at : Address → Shelf → Bool
is_at here s = same_address (address_of s) here

abbrev pub shelf_at : List Shelf → Address → Option Shelf
shelf_at [] here = None
shelf_at (s ∷ shelves) here = if is_at here s then Some s else shelf_at shelves here

-- the contents of a kept disk; a disk that was never there holds nothing
abbrev pub cells_of_kept : Option MemDisk → Cells
cells_of_kept None = settled []
cells_of_kept (Some d) = disk_cells d

abbrev pub cells_of_shelf : Option Shelf → Cells
cells_of_shelf None = settled []
cells_of_shelf (Some s) = cells_of_kept s.disk

abbrev pub cells_at : List Shelf → Address → Cells
cells_at shelves here = cells_of_shelf (shelf_at shelves here)

-- the number of a disk's faults when it was taken, if it is taken
abbrev pub faults_if_gone : Option MemDisk → ℕ → Option ℕ
faults_if_gone None faults = Some faults
faults_if_gone (Some d) faults = None

abbrev pub taken_of_shelf : Option Shelf → Option ℕ
taken_of_shelf None = None
taken_of_shelf (Some s) = faults_if_gone s.disk s.faults

abbrev pub taken_at : List Shelf → Address → Option ℕ
taken_at shelves here = taken_of_shelf (shelf_at shelves here)

-- the number of a disk's faults that its shelf notes when the disk is taken
abbrev pub noted_faults : Option MemDisk → ℕ → ℕ
noted_faults None faults = faults
noted_faults (Some d) faults = d.faults

-- a shelf after its disk was taken
abbrev pub taken_from : Shelf → Shelf
taken_from s = record { dir = s.dir; member = s.member; device = s.device; disk = None; faults = noted_faults s.disk s.faults }

-- a new shelf, whose disk is taken
abbrev pub empty_shelf : Address → Shelf
empty_shelf here = record { dir = here.dir; member = here.member; device = here.device; disk = None; faults = 0 }

-- a shelf after its disk came back
abbrev pub refilled : MemDisk → Shelf → Shelf
refilled d s = record { dir = s.dir; member = s.member; device = s.device; disk = Some d; faults = s.faults }
