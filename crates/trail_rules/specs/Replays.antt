-- What a trail says of its node: the node that its events make, and what came to it and left it.
use Rattle.std.specs.Prelude.{◌≡◌, ℕ, max, List, [], ◌∷◌, ◌++◌, Option, Some, None}
use Rattle.smart_statements.specs.declared.entry.NodeEvent.{NodeEvent}
use Rattle.smart_statements.specs.declared.entry.NodeEvent.TheVariants.{Arrive, Tick, Deliver, Firm}
use Rattle.smart_service.specs.Services.{Meaning}
use Rattle.node_rules.specs.Nodes.{Node}
use Rattle.node_rules.specs.Kept.{core_step}
use Rattle.node_rules.specs.Steps.{step_of, first_leaving, after_first}
use Rattle.node_rules.specs.declared.node.Held.{Held}
use Rattle.trail.specs.declared.event.Addressed.{Addressed}
use Rattle.trail.specs.declared.event.TrailEvent.{TrailEvent}
use Rattle.trail.specs.declared.event.TrailEvent.TheVariants.{Happens, Send, Lost, Polls, End}

-- ---- what came and what left

-- the message that an event sends, if it sends one
abbrev pub sent_by : TrailEvent → List Addressed
sent_by (Happens event) = []
sent_by (Send a) = a ∷ []
sent_by (Lost a) = []
sent_by (Polls count) = []
sent_by End = []

-- the bytes that arrive by an event, if any do
abbrev pub came_by : TrailEvent → List (List ℕ)
came_by (Happens (Arrive bytes)) = bytes ∷ []
came_by (Happens Tick) = []
came_by (Happens Deliver) = []
came_by (Happens (Firm count)) = []
came_by (Send a) = []
came_by (Lost a) = []
came_by (Polls count) = []
came_by End = []

-- the messages that a trail sends, in order
abbrev pub sends : List TrailEvent → List Addressed
sends [] = []
sends (e ∷ events) = sent_by e ++ sends events

-- the bytes that arrive in a trail, in order
abbrev pub arrivals : List TrailEvent → List (List ℕ)
arrivals [] = []
arrivals (e ∷ events) = came_by e ++ arrivals events

-- the number of firm entries that was told last, after one more event
abbrev pub told_firm : ℕ → TrailEvent → ℕ
told_firm before (Happens (Arrive bytes)) = before
told_firm before (Happens Tick) = before
told_firm before (Happens Deliver) = before
told_firm before (Happens (Firm count)) = count
told_firm before (Send a) = before
told_firm before (Lost a) = before
told_firm before (Polls count) = before
told_firm before End = before

-- the number of firm entries that a trail told last; the one before it, if it told none
abbrev pub last_firm : ℕ → List TrailEvent → ℕ
last_firm before [] = before
last_firm before (e ∷ events) = last_firm (told_firm before e) events

-- ---- the replay

-- a held message is this one
abbrev pub IsRelease : Addressed → Option Held → Type 0
IsRelease a None = ⊥
IsRelease a (Some h) = (h.to ≡ a.to) × (h.message ≡ a.message)

-- how many firm entries a message needed; 0 without one
abbrev pub needs_of : Option Held → ℕ
needs_of None = 0
needs_of (Some h) = h.needs

-- What one event of the node makes of it: a node that keeps everything, or a core.
abbrev pub Step : Type 0 → Type 0
Step S = Node S → NodeEvent → Node S

abbrev pub node_step : {S : Type 0} → Meaning S → Step S
node_step m n event = (step_of m n event).node

abbrev pub core_steps : {S : Type 0} → Meaning S → Step S
core_steps m n event = (core_step m n event).node

-- the node after the next message that leaves was taken out
abbrev pub one_left : {S : Type 0} → Node S → Node S
one_left n = record n { held = after_first n.firm n.held }

-- the node after an event of its trail: a Send takes the next message that leaves
abbrev pub after : {S : Type 0} → Step S → Node S → TrailEvent → Node S
after step n (Happens event) = step n event
after step n (Send a) = one_left n
after step n (Lost a) = n
after step n (Polls count) = n
after step n End = n

-- the replay of a trail: the node that its events make, one after the other
abbrev pub replay : {S : Type 0} → Step S → Node S → List TrailEvent → Node S
replay step n [] = n
replay step n (e ∷ events) = replay step (after step n e) events

-- an event that may come next: what is sent is the next release
abbrev pub MayCome : {S : Type 0} → Node S → TrailEvent → Type 0
MayCome n (Happens event) = Unit {0}
MayCome n (Send a) = IsRelease a (first_leaving n.firm n.held)
MayCome n (Lost a) = Unit {0}
MayCome n (Polls count) = Unit {0}
MayCome n End = Unit {0}

-- each message that a trail sends is the next release of its replay there
abbrev pub Released : {S : Type 0} → Step S → Node S → List TrailEvent → Type 0
Released step n [] = Unit {0}
Released step n (e ∷ events) = MayCome n e × Released step (after step n e) events

-- how many firm entries the message of an event needed
abbrev pub need_of : {S : Type 0} → Node S → TrailEvent → ℕ
need_of n (Happens event) = 0
need_of n (Send a) = needs_of (first_leaving n.firm n.held)
need_of n (Lost a) = 0
need_of n (Polls count) = 0
need_of n End = 0

-- the most that a message of a trail needed
abbrev pub needed : {S : Type 0} → Step S → Node S → List TrailEvent → ℕ
needed step n [] = 0
needed step n (e ∷ events) = max (need_of n e) (needed step (after step n e) events)
