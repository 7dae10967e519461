-- Why bytes are no recorded runs.
use Rattle.std.specs.Prelude.{◌≡◌, ◌⊎◌, ◌<◌, ◌+◌, ℕ, Bool, true, false, List, []}
use Rattle.audit_rules.specs.Readings.{StopsAt, PassesLimit}
use Rattle.trail_reading.specs.declared.parts.Stop.{Stop}
use Rattle.trail_reading.specs.declared.parts.Stop.TheVariants as stops
use Rattle.trail_audit.specs.declared.reader.ReadingFault.{ReadingFault}
use Rattle.trail_audit.specs.declared.reader.ReadingFault.TheVariants.{Empty, Form, Limit, NoMemory}

-- what is said of bytes by each fault
abbrev pub IsFault : List ℕ → ReadingFault → Type 0
IsFault bytes Empty = bytes ≡ []
IsFault bytes (Form part) = StopsAt bytes part
IsFault bytes (Limit part) = PassesLimit bytes part
IsFault bytes NoMemory = Unit {0}

-- parts of which none is lacking, and that are some
pub record IsWhole (lacks : Bool) (count : ℕ) (stop : Stop) : Type 0 where
  pub ended : stop ≡ stops.Done
  pub complete : lacks ≡ false
  pub some : 0 < count

-- why parts that were read make no whole
abbrev pub IsWhy : Bool → ℕ → Stop → ReadingFault → Type 0
IsWhy lacks count stop Empty = (stop ≡ stops.Done) × (count ≡ 0)
IsWhy lacks count stop (Form part) = (part ≡ count + 1) × ((stop ≡ stops.Unreadable) ⊎ ((stop ≡ stops.Done) × (lacks ≡ true)))
IsWhy lacks count stop (Limit part) = (part ≡ count + 1) × (stop ≡ stops.Limit)
IsWhy lacks count stop NoMemory = Unit {0}
