-- How the events of a trail are spelled and read. An event has one spelling.
use Rattle.std.specs.Prelude.{◌≡◌, ℕ, ◌<◌, ◌^◌, ◌==◌, Bool, true, false, ◌||◌, List, [], ◌++◌, length, if◌then◌else◌, Result, Ok, Err}
use Rattle.std.specs.Int.{w8, w16, w64}
use Rattle.smart_base.specs.Cuts.{Cut, Read, ◌>>=◌, ranged, number_at, fault_at, whole}
use Rattle.smart_base.specs.Spelling.{u8, u16, u64}
use Rattle.smart_statements.specs.declared.entry.NodeEvent.TheVariants.{Arrive, Tick, Deliver, Firm}
use Rattle.smart_messages.specs.Messages.{spelling, decoded, Fits}
use Rattle.smart_messages.specs.declared.message.Message.{Message}
use Rattle.node_rules.specs.declared.node.Target.{Target}
use Rattle.node_rules.specs.declared.node.Target.TheVariants.{Node, Client, View, Clients}
use Rattle.trail.specs.declared.event.Addressed.{Addressed}
use Rattle.trail.specs.declared.event.TrailEvent.{TrailEvent}
use Rattle.trail.specs.declared.event.TrailEvent.TheVariants.{Happens, Send, Lost, Polls, End}

-- ---- who receives a message, and the message

-- a receiver's kind and number. All members of a view have the number 0, and so have all clients.
abbrev pub target_kind : Target → ℕ
target_kind (Node member) = 1
target_kind (Client client) = 2
target_kind View = 3
target_kind Clients = 4

abbrev pub target_id : Target → ℕ
target_id (Node member) = member
target_id (Client client) = client
target_id View = 0
target_id Clients = 0

-- one receiver, and neither a view nor all clients
abbrev pub is_one : Target → Bool
is_one (Node member) = true
is_one (Client client) = true
is_one View = false
is_one Clients = false

-- The bytes of a message and of who receives it.
unfoldable pub addressed_text : Addressed → List ℕ
addressed_text a = u8 (target_kind a.to) ++ (u16 (target_id a.to) ++ spelling a.message)

pub record FitsAddressed (a : Addressed) : Type 0 where
  pub id_fits : target_id a.to < 2 ^ 16
  pub message_fits : Fits a.message

-- a kind of receiver
abbrev pub is_target : ℕ → Bool
is_target kind = kind == 1 || kind == 2 || kind == 3 || kind == 4

abbrev pub is_id : ℕ → ℕ → Bool
is_id kind id = kind == 1 || kind == 2 || id == 0

abbrev pub target_of : ℕ → ℕ → Target
target_of kind id = if kind == 1 then Node id else if kind == 2 then Client id else if kind == 3 then View else Clients

abbrev pub target_kind_at : Cut → Read ℕ
target_kind_at = ranged is_target (number_at w8)

abbrev pub target_id_at : ℕ → Cut → Read ℕ
target_id_at kind = ranged (is_id kind) (number_at w16)

-- the message that is left; a fault in it is told at its first byte
abbrev pub message_left : Cut → Result Message ℕ
message_left c = fault_at c.at (decoded c.left)

unfoldable pub addressed_at : Cut → Result Addressed ℕ
addressed_at c = do
  k ← target_kind_at c
  i ← target_id_at k.0 k.1
  m ← message_left i.1
  Ok (record { to = target_of k.0 i.0; message = m })

-- ---- events

-- the first byte of an event
abbrev pub event_kind : TrailEvent → ℕ
event_kind (Happens (Arrive bytes)) = 1
event_kind (Happens Tick) = 2
event_kind (Happens Deliver) = 3
event_kind (Happens (Firm count)) = 4
event_kind (Send a) = 5
event_kind (Lost a) = 6
event_kind (Polls count) = 7
event_kind End = 8

-- the bytes of an event after the first one
abbrev pub event_content : TrailEvent → List ℕ
event_content (Happens (Arrive bytes)) = bytes
event_content (Happens Tick) = []
event_content (Happens Deliver) = []
event_content (Happens (Firm count)) = u64 count
event_content (Send a) = addressed_text a
event_content (Lost a) = addressed_text a
event_content (Polls count) = u64 count
event_content End = []

-- the bytes of an event: it has one spelling
unfoldable pub event_text : TrailEvent → List ℕ
event_text e = u8 (event_kind e) ++ event_content e

-- an event that has bytes. What was lost was sent to one receiver.
abbrev pub FitsEvent : TrailEvent → Type 0
FitsEvent (Happens (Arrive bytes)) = Unit {0}
FitsEvent (Happens Tick) = Unit {0}
FitsEvent (Happens Deliver) = Unit {0}
FitsEvent (Happens (Firm count)) = count < 2 ^ 64
FitsEvent (Send a) = FitsAddressed a
FitsEvent (Lost a) = FitsAddressed a × (is_one a.to ≡ true)
FitsEvent (Polls count) = count < 2 ^ 64
FitsEvent End = Unit {0}

-- a byte with which an event begins
abbrev pub is_event_kind : ℕ → Bool
is_event_kind k = k == 1 || k == 2 || k == 3 || k == 4 || k == 5 || k == 6 || k == 7 || k == 8

abbrev pub event_kind_at : Cut → Read ℕ
event_kind_at = ranged is_event_kind (number_at w8)

-- an event with nothing after its first byte
unfoldable pub alone_at : TrailEvent → Cut → Result TrailEvent ℕ
alone_at e c = if length c.left == 0 then Ok e else Err c.at

-- a number that is all that is left
abbrev pub number_left : Cut → Result ℕ ℕ
number_left = whole (number_at w64)

unfoldable pub lost_at : Cut → Result TrailEvent ℕ
lost_at c = do
  a ← addressed_at c
  if is_one a.to then Ok (Lost a) else Err c.at

unfoldable pub content_at : ℕ → Cut → Result TrailEvent ℕ
content_at kind c =
    if kind == 1 then Ok (Happens (Arrive c.left))
    else if kind == 2 then alone_at (Happens Tick) c
    else if kind == 3 then alone_at (Happens Deliver) c
    else if kind == 4 then number_left c >>= (λ n. Ok (Happens (Firm n)))
    else if kind == 5 then addressed_at c >>= (λ a. Ok (Send a))
    else if kind == 6 then lost_at c
    else if kind == 7 then number_left c >>= (λ n. Ok (Polls n))
    else alone_at End c

unfoldable pub event_at : Cut → Result TrailEvent ℕ
event_at c = do
  k ← event_kind_at c
  content_at k.0 k.1

-- the event that bytes are, or the offset of the first field that is none
abbrev pub event_decoded : List ℕ → Result TrailEvent ℕ
event_decoded bytes = event_at (record { at = 0; left = bytes })
