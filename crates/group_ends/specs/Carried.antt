-- What the links of a group carry, by the trail of the party that sends on them.
use Rattle.std.specs.Prelude.{◌≡◌, ℕ, ◌<◌, ◌==◌, Bool, true, false, not, ◌&&◌, ◌||◌, List, [], ◌∷◌, ◌++◌, length, filter, if◌then◌else◌, Option, Some, None}
use Rattle.std.specs.List.{list_any}
use Rattle.smart_base.specs.Lists.{same_bytes}
use Rattle.smart_messages.specs.Messages.{spelling}
use Rattle.node_rules.specs.declared.node.Target.{Target}
use Rattle.node_rules.specs.declared.node.Target.TheVariants.{Node, Client, View, Clients}
use Rattle.trail.specs.declared.event.Addressed.{Addressed}
use Rattle.trail.specs.declared.event.TrailEvent.{TrailEvent}
use Rattle.trail.specs.declared.event.TrailEvent.TheVariants.{Happens, Send, Lost, Polls, End}

-- ---- who a message is for

-- the same receiver
abbrev pub same_target : Target → Target → Bool
same_target (Node a) (Node b) = a == b
same_target (Node a) (Client b) = false
same_target (Node a) View = false
same_target (Node a) Clients = false
same_target (Client a) (Node b) = false
same_target (Client a) (Client b) = a == b
same_target (Client a) View = false
same_target (Client a) Clients = false
same_target View (Node b) = false
same_target View (Client b) = false
same_target View View = true
same_target View Clients = false
same_target Clients (Node b) = false
same_target Clients (Client b) = false
same_target Clients View = false
same_target Clients Clients = true

-- Whether the end of a link is to hear a message for this receiver. A view is all members. A group has one client, which hears what is for any
-- or for all. All members of a group are those of its view: no view moves in a group.
abbrev pub is_for : Target → Target → Bool
is_for (Node a) (Node b) = a == b
is_for (Node a) (Client b) = false
is_for (Node a) View = false
is_for (Node a) Clients = false
is_for (Client a) (Node b) = false
is_for (Client a) (Client b) = true
is_for (Client a) View = false
is_for (Client a) Clients = false
is_for View (Node b) = true
is_for View (Client b) = false
is_for View View = false
is_for View Clients = false
is_for Clients (Node b) = false
is_for Clients (Client b) = true
is_for Clients View = false
is_for Clients Clients = false

-- Ends of the same link. A group has one client, so it has one link to a client.
abbrev pub same_end : Target → Target → Bool
same_end (Node a) (Node b) = a == b
same_end (Node a) (Client b) = false
same_end (Node a) View = false
same_end (Node a) Clients = false
same_end (Client a) (Node b) = false
same_end (Client a) (Client b) = true
same_end (Client a) View = false
same_end (Client a) Clients = false
same_end View (Node b) = false
same_end View (Client b) = false
same_end View View = true
same_end View Clients = false
same_end Clients (Node b) = false
same_end Clients (Client b) = false
same_end Clients View = false
same_end Clients Clients = true

-- ---- what a link carries

-- the events behind a Send tell that the link to an end has dropped it
abbrev pub is_lost : Target → List TrailEvent → Bool
is_lost end [] = false
is_lost end (Happens event ∷ events) = false
is_lost end (Send a ∷ events) = false
is_lost end (Lost a ∷ events) = same_target a.to end || is_lost end events
is_lost end (Polls count ∷ events) = false
is_lost end (End ∷ events) = false

-- the messages of a trail that the link to an end carries, in their bytes: those for the end that the link has not dropped
abbrev pub carried : Target → List TrailEvent → List (List ℕ)
carried end [] = []
carried end (Happens event ∷ events) = carried end events
carried end (Send a ∷ events) = if is_for a.to end && not (is_lost end events) then spelling a.message ∷ carried end events else carried end events
carried end (Lost a ∷ events) = carried end events
carried end (Polls count ∷ events) = carried end events
carried end (End ∷ events) = carried end events

-- ---- what a link drops

-- the message that was sent last, if only Losts stand behind it
abbrev pub last_sent : Option Addressed → List TrailEvent → Option Addressed
last_sent last [] = last
last_sent last (Happens event ∷ events) = last_sent None events
last_sent last (Send a ∷ events) = last_sent (Some a) events
last_sent last (Lost a ∷ events) = last_sent last events
last_sent last (Polls count ∷ events) = last_sent None events
last_sent last (End ∷ events) = last_sent None events

-- what is lost is a message that was sent, on its way to one of its receivers
abbrev pub IsOf : Addressed → Option Addressed → Type 0
IsOf lost None = ⊥
IsOf lost (Some sent) = (lost.message ≡ sent.message) × (is_for sent.to lost.to ≡ true)

-- a receiver is one of these
abbrev pub is_among : Target → List Target → Bool
is_among end targets = list_any (same_target end) targets

-- the link to an end has been told to have dropped the message that was sent last
abbrev pub is_told : Bool → Target → List TrailEvent → Bool
is_told told end [] = told
is_told told end (Happens event ∷ events) = is_told false end events
is_told told end (Send a ∷ events) = is_told false end events
is_told told end (Lost a ∷ events) = is_told (told || same_target a.to end) end events
is_told told end (Polls count ∷ events) = is_told false end events
is_told told end (End ∷ events) = is_told false end events

-- An event that may come next in the trail of a party whose links have these ends. A link drops the message that was sent last, once, and only if it would have carried more than 1,024 with it.
abbrev pub MayDrop : List Target → List TrailEvent → TrailEvent → Type 0
MayDrop targets before (Happens event) = Unit {0}
MayDrop targets before (Send a) = Unit {0}
MayDrop targets before (Lost a) = IsOf a (last_sent None before) × (is_among a.to targets ≡ true) × (is_told false a.to before ≡ false) × (1024 < length (carried a.to before))
MayDrop targets before (Polls count) = Unit {0}
MayDrop targets before End = Unit {0}

-- events after others, each of which may come next
abbrev pub DropsLate : List Target → List TrailEvent → List TrailEvent → Type 0
DropsLate targets before [] = Unit {0}
DropsLate targets before (e ∷ events) = MayDrop targets before e × DropsLate targets (before ++ e ∷ []) events

-- ---- what comes

-- how often bytes stand among others
abbrev pub times : List ℕ → List (List ℕ) → ℕ
times bytes others = length (filter (same_bytes bytes) others)
