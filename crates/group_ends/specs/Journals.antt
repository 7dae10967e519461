-- What the sink of a trail has of its text, and that an End is the trail's last event.
use Rattle.std.proofs.Common.{◌≡◌, ℕ, ◌-◌, Bool, true, false, ◌||◌, List, [], ◌∷◌, ◌++◌, length, take, Option, Some, None}
use Rattle.std.proofs.Props.{props}
use Rattle.std.specs.Io.KnownBytes.{Appends}
use Rattle.trail.specs.declared.event.TrailEvent.{TrailEvent}
use Rattle.trail.specs.declared.event.TrailEvent.TheVariants.{Happens, Send, Lost, Polls, End}
use Rattle.trail.specs.declared.opening.App.TheVariants.{Count}
use Rattle.trail.specs.declared.opening.TrailOpening.{TrailOpening}

-- the head of a trail of nobody
abbrev pub no_head : TrailOpening
no_head = record { member = 0; period = 0; view = record { number = 0; start = 1; f = 0; members = [] }; app = Count; secret = []; snapshot = []; entries = 0 }

-- What a sink tells is what it told before the head was written, and then a front of this text. A sink that told nothing then may tell anything.
abbrev pub HasFront : Option (List ℕ) → Option (List ℕ) → List ℕ → Type 0
HasFront None now text = Unit {0}
HasFront (Some before) None text = ⊥
HasFront (Some before) (Some written) text = written ≡ before ++ take (length written - length before) text

-- the event that says that a trail is whole
abbrev pub is_end : TrailEvent → Bool
is_end (Happens event) = false
is_end (Send a) = false
is_end (Lost a) = false
is_end (Polls count) = false
is_end End = true

-- whether an End stands among some events
abbrev pub has_end : List TrailEvent → Bool
has_end [] = false
has_end (e ∷ events) = is_end e || has_end events

-- no event stands behind an End
abbrev pub IsEndLast : List TrailEvent → Type 0
IsEndLast events = (before behind : List TrailEvent) → events ≡ before ++ End ∷ behind → behind ≡ []

pub end_last_prop : (events : List TrailEvent) → IsProp (IsEndLast events)
end_last_prop events = hlevel props

appends_prop : (begun now : Option (List ℕ)) (text : List ℕ) → IsProp (Appends begun now text)
appends_prop None now text = hlevel props
appends_prop (Some before) None text = hlevel props
appends_prop (Some before) (Some written) text = hlevel props

pub whole_prop : (whole : Bool) (begun now : Option (List ℕ)) (text : List ℕ) → IsProp (whole ≡ true → Appends begun now text)
whole_prop whole begun now text =
    let told = appends_prop begun now text in
    hlevel (props, told)

pub front_prop : (begun now : Option (List ℕ)) (text : List ℕ) → IsProp (HasFront begun now text)
front_prop None now text = hlevel props
front_prop (Some before) None text = hlevel props
front_prop (Some before) (Some written) text = hlevel props
