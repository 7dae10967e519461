-- The payload of a frame that sends a message.
use Rattle.std.proofs.Common.{◌≡◌, drop, refl}
use Rattle.trail.specs.Events.{event_text, event_content}
use Rattle.trail.specs.declared.event.TrailEvent.{TrailEvent}

-- the bytes of an event behind the first
pub behind_kind : (e : TrailEvent) → drop 1 (event_text e) ≡ event_content e
unfolding event_text
behind_kind e = refl
