-- The folder in which the rows are played.
use Rattle.std.specs.Prelude.{ℕ, List, [], ◌∷◌}

-- a full stop
abbrev pub dir_here : List ℕ
dir_here = 46 ∷ []
