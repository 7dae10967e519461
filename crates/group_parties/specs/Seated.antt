-- What is left of the client of a group.
use Rattle.std.specs.Prelude.{◌≡◌, ℕ, true, List, [], ◌∷◌, Option}
use Rattle.std.specs.Io.KnownBytes.{Appends}
use Rattle.atomic_table.specs.Seated.{TableId}
use Rattle.smart_base.specs.Lists.{Each}
use Rattle.client_quorum.specs.Clients.{fresh}
use Rattle.client_seat.specs.Asks.{Asks}
use Rattle.node_rules.specs.declared.node.Target.{Target}
use Rattle.trail.specs.Trails.{trail_text}
use Rattle.trail.specs.declared.event.TrailEvent.{TrailEvent}
use Rattle.trail.specs.declared.event.TrailEvent.TheVariants.{Happens, Send, Lost, Polls, End}
use Rattle.trail.specs.declared.opening.TrailOpening.{TrailOpening}
use Rattle.group_ends.specs.Carried.{DropsLate}
use Rattle.group_ends.specs.Facts.{HasComeAtMost}
use Rattle.group_ends.specs.Journals.{has_end, HasFront, IsEndLast}
use Rattle.group_ends.specs.Ports.{ends, port_links, inbox_links, CarriesFirst}
use Rattle.group_parties.specs.declared.ending.Lived.{Lived}

-- events of which none came or was sent: polls that found nothing, and the end
abbrev pub AreMute : List TrailEvent → Type 0
AreMute [] = Unit {0}
AreMute (Happens event ∷ events) = ⊥
AreMute (Send a ∷ events) = ⊥
AreMute (Lost a ∷ events) = ⊥
AreMute (Polls count ∷ events) = AreMute events
AreMute (End ∷ events) = AreMute events

-- The client has lived: it sent the requests that it had to ask next. Each link has a front of what its trail sends to the link's end without a Lost, and no more
-- arrived than was taken. If it is told as whole, its trail has its end, and the sink has the whole text.
pub record IsClientLeft {O : Type 0} (head : TrailOpening) (entries : List (List ℕ)) (written : O → Option (List ℕ)) (begun : Option (List ℕ)) (receivers : List Target) (leaving arriving : List TableId) (sink : O) (e : Lived) : Type 0 where
  pub asks : Asks head.secret (fresh head.view 1) e.events
  pub end_last : IsEndLast e.events
  pub late : DropsLate receivers [] e.events
  pub left : Each (CarriesFirst e.events) e.row.ports.items
  pub came : HasComeAtMost e.events e.inbox.links.items
  pub named : (ends e.row.ports.items ≡ receivers) × ((port_links e.row.ports.items ≡ leaving) × (inbox_links e.inbox.links.items ≡ arriving))
  pub text : HasFront begun (written sink) (trail_text head entries e.events)
  pub all_text : e.whole ≡ true → Appends begun (written sink) (trail_text head entries e.events)
  pub ended : e.whole ≡ true → has_end e.events ≡ true
