-- The first byte that no crash leaves, if there is one.
use Rattle.std.specs.Prelude.{ℕ, zero, suc, ◌+◌, ◌==◌, nat_lt, nat_le, Bool, not, ◌&&◌, List, length, get_or, if◌then◌else◌, Option, Some, None}
use Rattle.disk_model.specs.Cells.{Cells, covers}

-- an index at which no crash leaves these bytes: it is in the shortest length, untouched since the last sync, and differs
abbrev pub is_wrong_at : Cells → List ℕ → ℕ → Bool
is_wrong_at s image i = nat_lt i s.shortest && not (covers s.touched i) && not (get_or image i 0 == get_or s.now i 0)

-- the first of `count` numbers, from i on, that passes a test
abbrev pub first_from : (ℕ → Bool) → (count i : ℕ) → Option ℕ
first_from p zero i = None
first_from p (suc count) i = if p i then Some i else first_from p count (i + 1)

-- the first wrong index, or the length if only that is wrong
abbrev pub or_length : Cells → List ℕ → Option ℕ → Option ℕ
or_length s image (Some at) = Some at
or_length s image None = if nat_le s.shortest (length image) && nat_le (length image) s.greatest then None else Some (length image)

-- the first wrong index of bytes that no crash leaves, or their length; none if a crash may leave them
unfoldable pub wrong_in : Cells → List ℕ → Option ℕ
wrong_in s image = or_length s image (first_from (is_wrong_at s image) (length image) 0)
