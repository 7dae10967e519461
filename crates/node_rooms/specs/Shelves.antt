-- The shelves of a room: what is taken from which address, and what is kept there.
use Rattle.std.specs.Prelude.{ℕ, Bool, List, [], ◌∷◌, Option, Some, None, if◌then◌else◌}
use Rattle.smart_io.specs.declared.memory.MemSink.{MemSink}
use Rattle.disk_model.specs.Rooms.{Address, address, same_address}
use Rattle.node_rooms.specs.declared.shelves.Shelf.{Shelf}

abbrev pub address_of : Shelf → Address
address_of s = address s.dir s.member s.device

abbrev pub is_at : Address → Shelf → Bool
is_at here s = same_address (address_of s) here

-- the first shelf of an address
abbrev pub shelf_at : List Shelf → Address → Option Shelf
shelf_at [] here = None
shelf_at (s ∷ shelves) here = if is_at here s then Some s else shelf_at shelves here

abbrev pub taken_of : Option Shelf → Option ℕ
taken_of None = None
taken_of (Some s) = s.taken

abbrev pub sink_of : Option Shelf → Option MemSink
sink_of None = None
sink_of (Some s) = s.sink

-- how often a thing had failed when it was taken from an address, if it is taken
abbrev pub taken_at : List Shelf → Address → Option ℕ
taken_at shelves here = taken_of (shelf_at shelves here)

-- the sink that is kept at an address
abbrev pub sink_at : List Shelf → Address → Option MemSink
sink_at shelves here = sink_of (shelf_at shelves here)

-- a shelf from which something is taken
abbrev pub lent : Address → ℕ → Shelf
lent here faults = record { dir = here.dir; member = here.member; device = here.device; taken = Some faults; sink = None }

-- a shelf with other contents
abbrev pub with_contents : Option ℕ → Option MemSink → Shelf → Shelf
with_contents taken sink s = record { dir = s.dir; member = s.member; device = s.device; taken = taken; sink = sink }
