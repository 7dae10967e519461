-- What a seat in memory holds.
use Rattle.std.specs.Prelude.{ℕ, List, Option, Some, None}
use Rattle.node_rows.specs.declared.workers.cell.Snapshot.{Snapshot}

-- a snapshot as its place and its bytes
abbrev pub pair_of : Option Snapshot → Option (ℕ × List ℕ)
pair_of None = None
pair_of (Some s) = Some (s.place, s.bytes)
