-- Numbers in decimal digits.
use Rattle.std.specs.Prelude.{ℕ, ◌+◌, ◌-◌, ◌*◌, ◌^◌, ◌==◌, nat_lt, nat_le, ◌&&◌, List, [], ◌∷◌, if◌then◌else◌, Option, Some, None}

-- the number that digits go on to, if it is below 2 ^ 64
abbrev pub number_from : ℕ → List ℕ → Option ℕ
number_from n [] = Some n
number_from n (d ∷ ds) =
    if nat_le 48 d && nat_le d 57 && nat_lt (10 * n + (d - 48)) (2 ^ 64) then number_from (10 * n + (d - 48)) ds else None

-- a number below 2 ^ 64 in decimal, without leading zeros
abbrev pub number_of : List ℕ → Option ℕ
number_of [] = None
number_of (d ∷ []) = number_from 0 (d ∷ [])
number_of (d ∷ e ∷ ds) = if d == 48 then None else number_from 0 (d ∷ e ∷ ds)
