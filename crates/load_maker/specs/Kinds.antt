-- What stands in the script of a load.
use Rattle.std.specs.Prelude.{◌≤◌, Bool, true, false}
use Rattle.load_maker.specs.declared.line.LoadLine.{LoadLine}
use Rattle.load_maker.specs.declared.line.LoadLine.TheVariants as lines

abbrev pub is_ask : LoadLine → Bool
is_ask lines.Group = false
is_ask lines.App = false
is_ask lines.Period = false
is_ask (lines.Ask client amount) = true
is_ask lines.Flow = false
is_ask (lines.Crash member) = false
is_ask (lines.Restart member) = false

abbrev pub is_flow : LoadLine → Bool
is_flow lines.Group = false
is_flow lines.App = false
is_flow lines.Period = false
is_flow (lines.Ask client amount) = false
is_flow lines.Flow = true
is_flow (lines.Crash member) = false
is_flow (lines.Restart member) = false

abbrev pub is_crash : LoadLine → Bool
is_crash lines.Group = false
is_crash lines.App = false
is_crash lines.Period = false
is_crash (lines.Ask client amount) = false
is_crash lines.Flow = false
is_crash (lines.Crash member) = true
is_crash (lines.Restart member) = false

abbrev pub is_restart : LoadLine → Bool
is_restart lines.Group = false
is_restart lines.App = false
is_restart lines.Period = false
is_restart (lines.Ask client amount) = false
is_restart lines.Flow = false
is_restart (lines.Crash member) = false
is_restart (lines.Restart member) = true

-- a line names clients 1 to 8, amounts 1 to 100 and members 1 to 4 alone
abbrev pub IsInRange : LoadLine → Type 0
IsInRange lines.Group = Unit {0}
IsInRange lines.App = Unit {0}
IsInRange lines.Period = Unit {0}
IsInRange (lines.Ask client amount) = ((1 ≤ client) × (client ≤ 8)) × ((1 ≤ amount) × (amount ≤ 100))
IsInRange lines.Flow = Unit {0}
IsInRange (lines.Crash member) = (1 ≤ member) × (member ≤ 4)
IsInRange (lines.Restart member) = (1 ≤ member) × (member ≤ 4)
