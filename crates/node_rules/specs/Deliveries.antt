-- The batches that a node delivers, and where a replica that it takes over ends a segment of them.
use Rattle.std.specs.Prelude.{ℕ, ◌+◌, ◌≡◌, List, [], ◌∷◌, ◌++◌, Option, Some, None}
use Rattle.node_rules.specs.declared.node.Delivery.{Delivery}
use Rattle.node_rules.specs.declared.node.Fired.{Fired}
use Rattle.node_rules.specs.declared.node.Fired.TheVariants as fires

-- the delivery that a rule's event reports, if it is one
abbrev pub delivery_in : Fired → List Delivery
delivery_in (fires.Installed place) = []
delivery_in fires.Spoiled = []
delivery_in (fires.Delivered d) = d ∷ []
delivery_in (fires.Marked snapshot) = []
delivery_in (fires.Adopted s) = []
delivery_in fires.Joined = []
delivery_in (fires.Promised p) = []
delivery_in fires.Led = []
delivery_in fires.Proposed = []
delivery_in fires.Wrote = []
delivery_in fires.Accepted = []
delivery_in (fires.Decided place) = []
delivery_in fires.Timed = []
delivery_in fires.Answered = []
delivery_in (fires.Viewed view) = []

-- the place of the replica that a rule's event installs, if it installs one
abbrev pub installed_in : Fired → Option ℕ
installed_in (fires.Installed place) = Some place
installed_in fires.Spoiled = None
installed_in (fires.Delivered d) = None
installed_in (fires.Marked snapshot) = None
installed_in (fires.Adopted s) = None
installed_in fires.Joined = None
installed_in (fires.Promised p) = None
installed_in fires.Led = None
installed_in fires.Proposed = None
installed_in fires.Wrote = None
installed_in fires.Accepted = None
installed_in (fires.Decided place) = None
installed_in fires.Timed = None
installed_in fires.Answered = None
installed_in (fires.Viewed view) = None

-- deliveries at successive places, the first at a given one
abbrev pub AtPlaces : ℕ → List Delivery → Type 0
AtPlaces place [] = Unit {0}
AtPlaces place (d ∷ ds) = (d.place ≡ place) × AtPlaces (place + 1) ds

-- A segment of deliveries: those of a node since it began, restarted or took over a replica. It has the place at which it began, and the
-- deliveries of earlier segments.
pub record Segment : Type 0 where
  pub began : ℕ
  pub delivered : List Delivery
  pub earlier : List Delivery

-- the segment behind an event that installs a replica of a place, or that delivers these
abbrev pub segment_with : Option ℕ → List Delivery → Segment → Segment
segment_with None ds s = record { began = s.began; delivered = s.delivered ++ ds; earlier = s.earlier }
segment_with (Some place) ds s = record { began = place; delivered = []; earlier = s.earlier ++ s.delivered }

-- the segment behind the events of a step
unfoldable pub segment_after : Segment → List Fired → Segment
segment_after s [] = s
segment_after s (rule ∷ rules) = segment_after (segment_with (installed_in rule) (delivery_in rule) s) rules
