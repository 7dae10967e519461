-- What a core keeps with its trail and its lane.
use Rattle.std.proofs.Common.{◌≡◌, ℕ, ◌≤◌, Bool, true, false, ◌||◌, List, [], ◌∷◌, ◌++◌, map, drop, Option, Some, None, option_map}
use Rattle.std.proofs.Props.{props}
use Rattle.smart_statements.specs.declared.entry.NodeEvent.{NodeEvent}
use Rattle.smart_statements.specs.declared.entry.NodeEvent.TheVariants.{Arrive, Tick, Deliver, Firm}
use Rattle.smart_base.specs.Views.{View}
use Rattle.smart_service.specs.Services.{Meaning}
use Rattle.vote_book.specs.Entries.{entry_text}
use Rattle.vote_book.specs.declared.entry.LogEntry.{LogEntry}
use Rattle.node_rules.specs.Marks.{wanted}
use Rattle.node_rules.specs.Nodes.{Node}
use Rattle.node_rules.specs.Steps.{outset, opened, first_leaving}
use Rattle.node_rules.specs.declared.node.Held.{Held}
use Rattle.node_rules.specs.declared.node.OwnSnapshot.{OwnSnapshot}
use Rattle.trail.specs.declared.event.Addressed.{Addressed}
use Rattle.trail.specs.declared.event.TrailEvent.{TrailEvent}
use Rattle.trail.specs.declared.event.TrailEvent.TheVariants.{Happens, Send, Lost, Polls, End}
use Rattle.node_rules.specs.Tails.{tail_of}
use Rattle.store_laws.specs.declared.job.Tail.{Tail}
use Rattle.trail_rules.specs.Replays.{Step, core_steps, replay, IsRelease, after, MayCome, Released}

-- the view of nobody
abbrev pub no_view : View
no_view = record { number = 0; start = 1; f = 0; members = [] }

-- a node that stands for none
abbrev pub nobody : {S : Type 0} → Meaning S → Node S
nobody m = opened (outset m [] 0 no_view 0)

-- the bytes of the entries that a node made in a life that began with so many
abbrev pub made_texts : ℕ → List LogEntry → List (List ℕ)
made_texts restored entries = map entry_text (drop restored entries)

-- the number of a Firm is at most what was read from the lane
abbrev pub IsRead : ℕ → NodeEvent → Type 0
IsRead read (Arrive bytes) = Unit {0}
IsRead read Tick = Unit {0}
IsRead read Deliver = Unit {0}
IsRead read (Firm count) = count ≤ read

-- A tail that a log has beside a checkpoint of a place, after some events from this opening.
abbrev pub IsTailOf : {S : Type 0} → Meaning S → Node S → ℕ → Tail → Type 0
IsTailOf m opening place tail =
    (events : List TrailEvent) × ((tail.made ≡ (tail_of (replay (core_steps m) opening events) place).made) × (tail.entries ≡ (tail_of (replay (core_steps m) opening events) place).entries))

-- the place and the bytes of a snapshot
abbrev pub pair_of : OwnSnapshot → ℕ × List ℕ
pair_of own = (own.place, own.snapshot)

-- A snapshot of a place for which a node wanted its store to switch, after some events from this opening.
abbrev pub IsWantedOf : {S : Type 0} → Meaning S → Node S → ℕ → List ℕ → Type 0
IsWantedOf m opening place snapshot =
    ∥ ((events : List TrailEvent) × (option_map pair_of (wanted (replay (core_steps m) opening events)) ≡ Some (place, snapshot))) ∥₁

-- the event that says that a trail is whole
abbrev pub is_end : TrailEvent → Bool
is_end (Happens event) = false
is_end (Send a) = false
is_end (Lost a) = false
is_end (Polls count) = false
is_end End = true

-- whether an End stands among some events
abbrev pub has_end : List TrailEvent → Bool
has_end [] = false
has_end (e ∷ events) = is_end e || has_end events

-- no event stands behind an End
abbrev pub IsEndLast : List TrailEvent → Type 0
IsEndLast events = (before behind : List TrailEvent) → events ≡ before ++ End ∷ behind → behind ≡ []

pub end_last_prop : (events : List TrailEvent) → IsProp (IsEndLast events)
end_last_prop events = hlevel props

release_prop : (a : Addressed) (held : Option Held) → IsProp (IsRelease a held)
release_prop a None = hlevel props
release_prop a (Some h) = hlevel props

may_prop : {S : Type 0} (n : Node S) (e : TrailEvent) → IsProp (MayCome n e)
may_prop n (Happens event) = hlevel props
may_prop n (Send a) = release_prop a (first_leaving n.firm n.held)
may_prop n (Lost a) = hlevel props
may_prop n (Polls count) = hlevel props
may_prop n End = hlevel props

pub released_prop : {S : Type 0} (step : Step S) (n : Node S) (events : List TrailEvent) → IsProp (Released step n events)
released_prop step n [] = hlevel props
released_prop step n (e ∷ events) =
    let first = may_prop n e in
    let rest = released_prop step (after step n e) events in
    hlevel (props, first, rest)
