-- Bytes that print, and bytes that are no markup.
use Rattle.std.specs.Prelude.{ℕ, ◌==◌, ◌&&◌, ◌||◌, nat_le, not, Bool, true, List, [], ◌∷◌}

-- the byte prints or ends a line
abbrev pub is_plain : ℕ → Bool
is_plain b = b == 10 || (nat_le 32 b && nat_le b 126)

-- each byte prints or ends a line
abbrev pub are_plain : List ℕ → Bool
are_plain [] = true
are_plain (b ∷ bs) = is_plain b && are_plain bs

-- the byte is neither `<` nor `>`
abbrev pub is_no_tag : ℕ → Bool
is_no_tag b = not (b == 60) && not (b == 62)

-- no byte is `<` or `>`
abbrev pub have_no_tag : List ℕ → Bool
have_no_tag [] = true
have_no_tag (b ∷ bs) = is_no_tag b && have_no_tag bs
