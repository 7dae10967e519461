-- The text of a trail: its parts one after the other, each after its length.
use Rattle.std.specs.Prelude.{ℕ, List, ◌++◌}
use Rattle.std.specs.Int.{w32}
use Rattle.std.specs.List.{flat_map}
use Rattle.smart_base.specs.Spelling.{behind}
use Rattle.trail.specs.Events.{event_text}
use Rattle.trail.specs.Openings.{opening_text}
use Rattle.trail.specs.declared.event.TrailEvent.{TrailEvent}
use Rattle.trail.specs.declared.opening.TrailOpening.{TrailOpening}

-- a part of a trail
abbrev pub part : List ℕ → List ℕ
part bytes = behind w32 bytes

-- the parts of events, one after the other
abbrev pub events_text : List TrailEvent → List ℕ
events_text events = flat_map (λ e. part (event_text e)) events

-- the text of a trail with this opening, these entries in their bytes, and these events
abbrev pub trail_text : TrailOpening → List (List ℕ) → List TrailEvent → List ℕ
trail_text opening entries events = part (opening_text opening) ++ (flat_map part entries ++ events_text events)
