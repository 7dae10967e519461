-- What the links and the trail of a seat keep.
use Rattle.std.proofs.Common.{◌≡◌, ℕ, ◌-◌, Bool, false, List, [], ◌++◌, length, map, take, Option, Some, None, option_map}
use Rattle.std.proofs.Props.{props}
use Rattle.std.specs.Io.KnownBytes.{Appends}
use Rattle.smart_service.specs.Services.{Meaning}
use Rattle.smart_statements.specs.declared.entry.NodeEvent.{NodeEvent}
use Rattle.smart_statements.specs.declared.entry.NodeEvent.TheVariants.{Arrive, Tick, Deliver, Firm}
use Rattle.snapshot_form.specs.Snapshots.{restored}
use Rattle.trail.specs.Events.{addressed_text}
use Rattle.trail.specs.declared.event.TrailEvent.{TrailEvent}
use Rattle.trail.specs.declared.opening.App.TheVariants.{Count}
use Rattle.trail.specs.declared.opening.TrailOpening.{TrailOpening}
use Rattle.trail_rules.specs.Replays.{sends}
use Rattle.node_played.specs.Lives.{no_view}

-- the head of a trail of nobody
abbrev pub no_head : TrailOpening
no_head = record { member = 0; period = 0; view = no_view; app = Count; secret = []; snapshot = []; entries = 0 }

-- the place of the replica whose snapshot bytes are, if they are a replica's
abbrev pub place_in : {S : Type 0} → Meaning S → List ℕ → Option ℕ
place_in m bytes = option_map (λ r. r.place) (restored m bytes)

-- the payloads of the frames that a trail's Sends are
abbrev pub payloads : List TrailEvent → List (List ℕ)
payloads events = map addressed_text (sends events)

-- one list is a front of another
abbrev pub IsFirst : {A : Type 0} → List A → List A → Type 0
IsFirst front all = take (length front) all ≡ front

-- What a sink tells is what it told before the head was written, and then a front of this text. A sink that told nothing then may tell anything.
abbrev pub HasWrittenFirst : Option (List ℕ) → Option (List ℕ) → List ℕ → Type 0
HasWrittenFirst None now text = Unit {0}
HasWrittenFirst (Some before) None text = ⊥
HasWrittenFirst (Some before) (Some written) text = written ≡ before ++ take (length written - length before) text

-- an event that no message from a link is
abbrev pub IsOwn : NodeEvent → Type 0
IsOwn (Arrive bytes) = ⊥
IsOwn Tick = Unit {0}
IsOwn Deliver = Unit {0}
IsOwn (Firm count) = Unit {0}

appends_prop : (begun now : Option (List ℕ)) (text : List ℕ) → IsProp (Appends begun now text)
appends_prop None now text = hlevel props
appends_prop (Some before) None text = hlevel props
appends_prop (Some before) (Some written) text = hlevel props

pub whole_prop : (over : Bool) (begun now : Option (List ℕ)) (text : List ℕ) → IsProp (over ≡ false → Appends begun now text)
whole_prop over begun now text =
    let told = appends_prop begun now text in
    hlevel (props, told)

pub first_prop : (begun now : Option (List ℕ)) (text : List ℕ) → IsProp (HasWrittenFirst begun now text)
first_prop None now text = hlevel props
first_prop (Some before) None text = hlevel props
first_prop (Some before) (Some written) text = hlevel props
