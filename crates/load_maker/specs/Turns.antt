-- What is left of a load's script, by the line that comes next.
use Rattle.std.specs.Prelude.{ℕ, ◌-◌, ◌%◌, ◌==◌, ◌||◌, List, ◌∷◌, ◌++◌, if◌then◌else◌}
use Rattle.load_maker.specs.Loads.{drawn, crasher, crash_lines, last_drawn, asks_left}
use Rattle.load_maker.specs.declared.line.LoadLine.{LoadLine}
use Rattle.load_maker.specs.declared.line.LoadLine.TheVariants as lines
use Rattle.load_maker.specs.declared.script.Turn.{Turn}
use Rattle.load_maker.specs.declared.script.Turn.TheVariants as turns

-- which line comes behind ask i of n
abbrev pub behind_ask : ℕ → ℕ → Turn
behind_ask n i = if i % 8 == 0 || i == n then turns.Flow else turns.Ask

-- which line comes behind the flow after ask i
abbrev pub behind_flow : ℕ → Turn
behind_flow i = if i % 64 == 0 then turns.Crash else turns.Ask

-- the lines of a load of n asks that are left, where `more` asks are, and x was drawn last
unfoldable pub lines_left : ℕ → ℕ → ℕ → Turn → List LoadLine
lines_left n more x turns.Group = lines.Group ∷ lines.App ∷ lines.Period ∷ asks_left n more x
lines_left n more x turns.App = lines.App ∷ lines.Period ∷ asks_left n more x
lines_left n more x turns.Period = lines.Period ∷ asks_left n more x
lines_left n more x turns.Ask = asks_left n more x
lines_left n more x turns.Flow =
    lines.Flow ∷ (crash_lines (n - more) (drawn x) ++ asks_left n more (last_drawn (n - more) x))
lines_left n more x turns.Crash =
    lines.Crash (crasher (drawn x)) ∷ lines.Restart (crasher (drawn x)) ∷ asks_left n more (drawn x)
lines_left n more x turns.Restart = lines.Restart (crasher x) ∷ asks_left n more x
