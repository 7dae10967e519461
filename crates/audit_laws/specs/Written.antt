-- Trails that are read as they are written.
use Rattle.std.specs.Prelude.{◌≡◌, ◌<◌, ◌≤◌, ◌+◌, ◌^◌, ℕ, true, false, List, [], ◌∷◌, ◌++◌, length}
use Rattle.std.specs.List.{flat_map}
use Rattle.smart_base.specs.Lists.{Each}
use Rattle.trail.specs.Events.{event_text, FitsEvent}
use Rattle.trail.specs.Openings.{opening_text, FitsOpening}
use Rattle.trail.specs.Trails.{trail_text}
use Rattle.trail.specs.declared.event.TrailEvent.{TrailEvent}
use Rattle.trail.specs.declared.event.TrailEvent.TheVariants.{End}
use Rattle.audit_rules.specs.declared.recorded.Recorded.{Recorded}
use Rattle.audit_rules.specs.declared.recorded.TheConstants.{PARTS}
use Rattle.audit_rules.specs.Audits.{is_client, CanBegin}
use Rattle.audit_rules.specs.Readings.{is_known, may_happen, is_end, part_count}

-- bytes that a part of a trail may have
abbrev pub IsShort : List ℕ → Type 0
IsShort bytes = length bytes < 2 ^ 32

-- an event that stands before the end of a trail
pub record IsWithin (e : TrailEvent) : Type 0 where
  pub fits : FitsEvent e
  pub short : IsShort (event_text e)
  pub goes_on : is_end e ≡ false

-- A trail that can be written and read again. It has as many entries as its opening tells, and ends with its only End.
pub record IsWritten (t : Recorded) : Type 0 where
  pub opening : FitsOpening t.opening
  pub short : IsShort (opening_text t.opening)
  pub entries : length t.entries ≡ t.opening.entries
  pub texts : Each IsShort t.entries
  pub events : List TrailEvent
  pub ends : t.events ≡ events ++ End ∷ []
  pub within : Each IsWithin events
  -- a client has no entry, and only such events as a client may have
  pub none : is_client t ≡ true → t.entries ≡ []
  pub may : is_client t ≡ true → Each (λ e. may_happen e ≡ true) events
  pub begins : CanBegin t

-- trails of which no two have one number, nor that of one before them
abbrev pub AreApart : List Recorded → List Recorded → Type 0
AreApart before [] = Unit {0}
AreApart before (t ∷ ts) = (is_known before t.opening.member ≡ false) × AreApart (before ++ t ∷ []) ts

-- how many parts trails have
abbrev pub parts_of : List Recorded → ℕ
parts_of [] = 0
parts_of (t ∷ ts) = part_count t + parts_of ts

-- the text of a trail that was recorded
abbrev pub text_of : Recorded → List ℕ
text_of t = trail_text t.opening t.entries t.events

-- the texts of trails, one after the other
abbrev pub texts_of : List Recorded → List ℕ
texts_of trails = flat_map text_of trails

-- trails that can be written and read again, one after the other
pub record AreWritten (trails : List Recorded) : Type 0 where
  pub each : Each IsWritten trails
  pub apart : AreApart [] trails
  pub some : 0 < length trails
  pub few : parts_of trails ≤ PARTS
