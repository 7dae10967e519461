-- What a round of a check worker hands over.
use Rattle.std.specs.Prelude.{ℕ, List, Option, Some, None, nat_lt, if◌then◌else◌}

-- the snapshot that is wanted, if its place is above the last
abbrev pub above : ℕ → Option (ℕ × List ℕ) → Option (ℕ × List ℕ)
above last None = None
above last (Some wanted) = if nat_lt last wanted.0 then Some wanted else None

-- the place of a snapshot; 0 without one
abbrev pub place_of : Option (ℕ × List ℕ) → ℕ
place_of None = 0
place_of (Some wanted) = wanted.0

-- the first snapshot that is there
abbrev pub newest : Option (ℕ × List ℕ) → Option (ℕ × List ℕ) → Option (ℕ × List ℕ)
newest None before = before
newest (Some wanted) before = Some wanted

-- the place that was handed over last
abbrev pub last_then : ℕ → ℕ → ℕ
last_then last place = if nat_lt last place then place else last
