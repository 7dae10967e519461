-- The words of a line that are left to read, and what numbers they are.
use Rattle.std.specs.Prelude.{◌≡◌, ℕ, ◌≤◌, Bool, true, false, List, [], ◌∷◌}
use Rattle.world_rules.specs.Scripts.{words_in, Range}

-- the words of what is left, if something is
abbrev pub words_left : Bool → List ℕ → List (List ℕ)
words_left false bytes = []
words_left true bytes = words_in bytes

-- two words, and maybe more
pub record Several (words : List (List ℕ)) : Type 0 where
  pub first : List ℕ
  pub second : List ℕ
  pub more : List (List ℕ)
  pub are : words ≡ first ∷ second ∷ more

-- numbers none of which is above the greatest of its range
abbrev pub Within : List Range → List ℕ → Type 0
Within [] numbers = Unit {0}
Within (r ∷ ranges) [] = Unit {0}
Within (r ∷ ranges) (n ∷ numbers) = (n ≤ r.most) × Within ranges numbers
