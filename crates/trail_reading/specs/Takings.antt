-- What a call has taken of trails.
use Rattle.std.specs.Prelude.{◌≡◌, ℕ, Bool, true, false, Option, Some, None, List, length, ◌<◌, ◌≤◌}
use Rattle.smart_base.specs.Cuts.{Cut}
use Rattle.audit_rules.specs.declared.recorded.TheConstants.{PARTS}
use Rattle.audit_rules.specs.declared.recorded.Reading.{Reading}
use Rattle.audit_rules.specs.Readings.{Reached, next_part, parts_read, Refuses}
use Rattle.trail_reading.specs.declared.parts.Stop.{Stop}
use Rattle.trail_reading.specs.declared.parts.Stop.TheVariants.{Done, Unreadable, Limit}
use Rattle.trail_reading.specs.declared.parts.PartsRead.{PartsRead}

-- a part that was taken, or could not be; the reading stays then
abbrev pub HasTaken : Bool → Option Reading → Reading → Reading → Type 0
HasTaken true next old new = next ≡ Some new
HasTaken false next old new = (next ≡ None) × (new ≡ old)

-- the next part of bytes that was taken, or could not be; the reading stays then
abbrev pub HasNext : Bool → Reached → Reached → Type 0
HasNext true old new = next_part old ≡ Some new
HasNext false old new = (next_part old ≡ None) × (new.reading ≡ old.reading)

-- why the reading of parts stopped, at what is left
abbrev pub IsStop : Stop → ℕ → Reached → Type 0
IsStop Done count x = length x.cut.left ≡ 0
IsStop Unreadable count x = Refuses count x
IsStop Limit count x = (0 < length x.cut.left) × (count ≡ PARTS)

-- the parts of bytes that could be read, 2^24 at most, and why no more were
pub record IsRead (bytes : List ℕ) (read : PartsRead) : Type 0 where
  pub few : read.count ≤ PARTS
  pub last : Reached
  pub reached : parts_read bytes read.count ≡ Some last
  pub same : last.reading ≡ read.reading
  pub stop : IsStop read.stop read.count last
