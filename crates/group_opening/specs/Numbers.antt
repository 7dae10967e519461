-- The numbers of a group's members.
use Rattle.std.specs.Prelude.{ℕ, zero, suc, List, [], ◌∷◌, ◌++◌}

-- the numbers from 1 on, so many
abbrev pub numbers_to : ℕ → List ℕ
numbers_to zero = []
numbers_to (suc count) = numbers_to count ++ suc count ∷ []
