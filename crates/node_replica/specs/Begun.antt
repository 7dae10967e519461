-- Views that begin, and what is told of them.
use Rattle.std.specs.Prelude.{ℕ, ◌==◌, List, [], ◌∷◌, if◌then◌else◌, Option, Some, None}
use Rattle.smart_base.specs.Views.{View, present}
use Rattle.node_rules.specs.declared.node.Fired.{Fired}
use Rattle.node_rules.specs.declared.node.Fired.TheVariants as fires

-- the number of the present one of later views, if that of earlier ones is another
abbrev pub number_begun : List View → List View → Option ℕ
number_begun before now = if (present before).number == (present now).number then None else Some (present now).number

-- the event of a view that began, by its number; none if none did
abbrev pub viewed : Option ℕ → List Fired
viewed None = []
viewed (Some number) = fires.Viewed number ∷ []
