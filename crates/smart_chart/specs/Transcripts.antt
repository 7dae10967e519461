-- Which lines of which bytes a picture shows.
use Rattle.std.specs.Prelude.{ℕ, ◌+◌, ◌-◌, ◌^◌, ◌==◌, ◌&&◌, nat_le, nat_lt, Bool, List, [], ◌∷◌, ◌++◌, take, drop, length, if◌then◌else◌, Option, Some, None}
use Rattle.smart_base.specs.Decimals.{number_of}
use Rattle.smart_chart.specs.declared.lines.Range.{Range}

-- the lines of bytes

-- a byte of a line; one that does not print is `?`
abbrev pub printed : ℕ → ℕ
printed b = if nat_le 32 b && nat_le b 126 then b else 63

-- the last line may lack its line feed
abbrev pub last_line : List ℕ → List (List ℕ)
last_line [] = []
last_line (b ∷ bs) = (b ∷ bs) ∷ []

-- the lines of bytes, where a line has begun
abbrev pub lines_from : List ℕ → List ℕ → List (List ℕ)
lines_from line [] = last_line line
lines_from line (b ∷ bs) = if b == 10 then line ∷ lines_from [] bs else lines_from (line ++ printed b ∷ []) bs

abbrev pub lines_of : List ℕ → List (List ℕ)
lines_of bytes = lines_from [] bytes

-- the range of lines that a program's words give

-- at most 1,000 lines
abbrev pub range_by : Option ℕ → Option ℕ → Option Range
range_by (Some from) (Some to) =
    if nat_le 1 from && nat_le from to && nat_lt (to - from) 1000 && nat_lt to (2 ^ 32) then Some (record { from = from; to = to }) else None
range_by _ _ = None

abbrev pub range_of : List (List ℕ) → Option Range
range_of [] = Some (record { from = 1; to = 60 })
range_of (from ∷ to ∷ []) = range_by (number_of from) (number_of to)
range_of _ = None

-- the lines of a range
abbrev pub in_range : Range → List (List ℕ) → List (List ℕ)
in_range range lines = take (range.to + 1 - range.from) (drop (range.from - 1) lines)
