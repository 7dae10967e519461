-- What a client's trail says of it: the client that its events make, what it asked and accepted, and what its links carry.
use Rattle.std.proofs.Common.{◌≡◌, ℕ, ◌+◌, ◌==◌, cond, List, [], ◌∷◌, ◌++◌, get_or, Option, Some, None}
use Rattle.std.proofs.Props.{props}
use Rattle.std.specs.Option.{option_to_list}
use Rattle.smart_statements.specs.Forms.{SignedBy}
use Rattle.smart_statements.specs.Kinds.{requests}
use Rattle.smart_statements.specs.declared.entry.NodeEvent.{NodeEvent}
use Rattle.smart_statements.specs.declared.entry.NodeEvent.TheVariants.{Arrive, Tick, Deliver, Firm}
use Rattle.smart_statements.specs.declared.statement.Request.{Request}
use Rattle.smart_messages.specs.Messages.{request_in}
use Rattle.smart_messages.specs.declared.message.Message.TheVariants.{Ask}
use Rattle.replica_rules.specs.Seals.{signed}
use Rattle.client_quorum.specs.Clients.{request_of, asking}
use Rattle.client_quorum.specs.Readings.{heard_bytes, after_bytes}
use Rattle.client_quorum.specs.Quorums.{accepted_in}
use Rattle.client_quorum.specs.declared.client.Acceptance.{Acceptance}
use Rattle.client_quorum.specs.declared.client.Client.{Client}
use Rattle.node_rules.specs.declared.node.Target.{Target}
use Rattle.node_rules.specs.declared.node.Target.TheVariants as targets
use Rattle.group_ends.specs.Carried.{carried}
use Rattle.trail.specs.declared.event.Addressed.{Addressed}
use Rattle.trail.specs.declared.event.TrailEvent.{TrailEvent}
use Rattle.trail.specs.declared.event.TrailEvent.TheVariants.{Happens, Send, Lost, Polls, End}

-- ---- the client

-- the client after a message was sent: a request waits for its reply
abbrev pub after_sent : Client → Option (SignedBy Request) → Client
after_sent c None = c
after_sent c (Some q) = asking c q.statement

-- after an event of its trail: what came was heard
abbrev pub client_after : List ℕ → Client → TrailEvent → Client
client_after secret c (Happens (Arrive bytes)) = after_bytes secret c bytes
client_after secret c (Happens Tick) = c
client_after secret c (Happens Deliver) = c
client_after secret c (Happens (Firm count)) = c
client_after secret c (Send a) = after_sent c (request_in a.message)
client_after secret c (Lost a) = c
client_after secret c (Polls count) = c
client_after secret c End = c

-- the client that the events of a trail make, one after the other
abbrev pub client_of : List ℕ → Client → List TrailEvent → Client
client_of secret c [] = c
client_of secret c (e ∷ events) = client_of secret (client_after secret c e) events

-- ---- what it asked

-- a request, to all members
abbrev pub to_all : SignedBy Request → Addressed
to_all q = record { to = targets.View; message = Ask q }

-- the message that asks for an operation: the client's next request
abbrev pub ask_by : List ℕ → Client → List ℕ → Addressed
ask_by secret c op = to_all (signed requests secret c.id (request_of c op))

-- a message that a client may send: its next request, to all members, while no other waits
abbrev pub IsNextAsk : List ℕ → Client → Target → Option (SignedBy Request) → Type 0
IsNextAsk secret c to None = ⊥
IsNextAsk secret c to (Some q) = (to ≡ targets.View) × (c.waiting ≡ None) × (q ≡ signed requests secret c.id (request_of c q.statement.op))

-- what happens to a client: messages arrive
abbrev pub MayHappen : NodeEvent → Type 0
MayHappen (Arrive bytes) = Unit {0}
MayHappen Tick = ⊥
MayHappen Deliver = ⊥
MayHappen (Firm count) = ⊥

-- an event that may come next in a client's trail
abbrev pub MayCome : List ℕ → Client → TrailEvent → Type 0
MayCome secret c (Happens event) = MayHappen event
MayCome secret c (Send a) = IsNextAsk secret c a.to (request_in a.message)
MayCome secret c (Lost a) = Unit {0}
MayCome secret c (Polls count) = Unit {0}
MayCome secret c End = Unit {0}

-- events each of which may come where it stands: each message that was sent is the request that the client had to ask next
abbrev pub Asks : List ℕ → Client → List TrailEvent → Type 0
Asks secret c [] = Unit {0}
Asks secret c (e ∷ events) = MayCome secret c e × Asks secret (client_after secret c e) events

-- ---- what it accepted

abbrev pub accepted_by : List ℕ → Client → TrailEvent → Option Acceptance
accepted_by secret c (Happens (Arrive bytes)) = accepted_in (heard_bytes secret c bytes)
accepted_by secret c (Happens Tick) = None
accepted_by secret c (Happens Deliver) = None
accepted_by secret c (Happens (Firm count)) = None
accepted_by secret c (Send a) = None
accepted_by secret c (Lost a) = None
accepted_by secret c (Polls count) = None
accepted_by secret c End = None

-- the acceptances of a trail, in order
abbrev pub acceptances : List ℕ → Client → List TrailEvent → List Acceptance
acceptances secret c [] = []
acceptances secret c (e ∷ events) = option_to_list (accepted_by secret c e) ++ acceptances secret (client_after secret c e) events

-- ---- links

-- what a trail sends to the end of the link at an index, and does not tell as lost
abbrev pub carried_at : List Target → ℕ → List TrailEvent → List (List ℕ)
carried_at ends index events = carried (get_or ends index targets.View) events

-- ---- polls

-- how many polls found nothing since the last message was sent, by a trail behind so many
abbrev pub polls_since : ℕ → List TrailEvent → ℕ
polls_since before [] = before
polls_since before (Happens event ∷ events) = polls_since before events
polls_since before (Send a ∷ events) = polls_since 0 events
polls_since before (Lost a ∷ events) = polls_since before events
polls_since before (Polls count ∷ events) = polls_since (before + count) events
polls_since before (End ∷ events) = polls_since before events

-- the event that tells of empty polls, if there were any
abbrev pub told_polls : ℕ → List TrailEvent
told_polls idle = cond (idle == 0) [] (Polls idle ∷ [])

-- ---- facts that are all alike

ask_prop : (secret : List ℕ) (c : Client) (to : Target) (q : Option (SignedBy Request)) → IsProp (IsNextAsk secret c to q)
ask_prop secret c to None = hlevel props
ask_prop secret c to (Some q) = hlevel props

happen_prop : (event : NodeEvent) → IsProp (MayHappen event)
happen_prop (Arrive bytes) = hlevel props
happen_prop Tick = hlevel props
happen_prop Deliver = hlevel props
happen_prop (Firm count) = hlevel props

may_prop : (secret : List ℕ) (c : Client) (e : TrailEvent) → IsProp (MayCome secret c e)
may_prop secret c (Happens event) = happen_prop event
may_prop secret c (Send a) = ask_prop secret c a.to (request_in a.message)
may_prop secret c (Lost a) = hlevel props
may_prop secret c (Polls count) = hlevel props
may_prop secret c End = hlevel props

pub asks_prop : (secret : List ℕ) (c : Client) (events : List TrailEvent) → IsProp (Asks secret c events)
asks_prop secret c [] = hlevel props
asks_prop secret c (e ∷ events) =
    let first = may_prop secret c e in
    let rest = asks_prop secret (client_after secret c e) events in
    hlevel (props, first, rest)
