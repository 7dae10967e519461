-- The first difference of recorded runs from what the rules of their members make.
use Rattle.std.specs.Prelude.{◌≡◌, ℕ, ◌+◌, ◌==◌, Bool, true, false, ◌&&◌, not, List, [], ◌∷◌, map, filter, if◌then◌else◌, Option, Some, None, option_map, Result, Ok, Err}
use Rattle.std.specs.List.{list_any, flat_map}
use Rattle.smart_base.specs.Lists.{or_else, same_bytes}
use Rattle.smart_base.specs.declared.party.Party.{Party}
use Rattle.smart_base.specs.declared.party.Party.TheVariants.{Member, Client}
use Rattle.smart_keys.specs.Keys.{is_tag}
use Rattle.smart_statements.specs.declared.entry.NodeEvent.{NodeEvent}
use Rattle.smart_statements.specs.declared.entry.NodeEvent.TheVariants.{Arrive, Tick, Deliver, Firm}
use Rattle.smart_messages.specs.Messages.{decoded, own, sealed_of, statements_in}
use Rattle.smart_messages.specs.declared.message.Message.{Message}
use Rattle.smart_messages.specs.declared.message.Sealed.{Sealed}
use Rattle.smart_service.specs.Services.{Meaning}
use Rattle.snapshot_form.specs.Snapshots.{snapshot_text}
use Rattle.replica_rules.specs.Replicas.{empty}
use Rattle.app_count.specs.Counts.{counting}
use Rattle.app_kv.specs.Snapshots.{keeping}
use Rattle.node_rules.specs.Nodes.{Node}
use Rattle.node_rules.specs.Steps.{first_leaving}
use Rattle.node_rules.specs.Reopening.{reopened_from, damage_of}
use Rattle.node_rules.specs.declared.node.Held.{Held}
use Rattle.node_rules.specs.declared.node.Parts.{Parts}
use Rattle.trail.specs.Events.{addressed_text}
use Rattle.trail.specs.declared.event.Addressed.{Addressed}
use Rattle.trail.specs.declared.event.TrailEvent.{TrailEvent}
use Rattle.trail.specs.declared.event.TrailEvent.TheVariants.{Happens, Send, Lost, Polls, End}
use Rattle.trail.specs.declared.opening.App.{App}
use Rattle.trail.specs.declared.opening.App.TheVariants as apps
use Rattle.trail.specs.declared.opening.TrailOpening.{TrailOpening}
use Rattle.trail_rules.specs.Replays.{Step, node_step, after, sends}
use Rattle.audit_rules.specs.declared.recorded.Recorded.{Recorded}
use Rattle.audit_rules.specs.declared.recorded.Difference.{Difference}
use Rattle.audit_rules.specs.declared.recorded.Found.{Found}
use Rattle.audit_rules.specs.declared.recorded.Found.TheVariants as finds
use Rattle.audit_rules.specs.declared.recorded.Verdict.{Verdict}
use Rattle.audit_rules.specs.declared.recorded.Verdict.TheVariants.{Coherent, Differs}

-- ---- the node with which a trail begins

-- the snapshot of the checkpoint with which a member began. Without a checkpoint its opening has the snapshot of the empty replica.
abbrev pub checkpoint_in : {S : Type 0} → Meaning S → TrailOpening → Option (List ℕ)
checkpoint_in m o = if same_bytes o.snapshot (snapshot_text m (empty m o.view)) then None else Some o.snapshot

-- what the devices of a member restored, by its trail
abbrev pub parts_in : {S : Type 0} → Meaning S → Recorded → Parts
parts_in m t = record { snapshot = checkpoint_in m t.opening; entries = t.entries }

-- the node with which a member's trail begins
unfoldable pub first_node : {S : Type 0} → Meaning S → Recorded → Node S
first_node m t = reopened_from m t.opening.secret t.opening.member t.opening.view t.opening.period (parts_in m t)

-- the trail of a client
abbrev pub is_client : Recorded → Bool
is_client t = t.opening.member == 0

-- the number of the first damaged part with which a member began, if there is one, over a service
abbrev pub damage_over : {S : Type 0} → Meaning S → Recorded → Option ℕ
damage_over m t = damage_of m t.opening.secret t.opening.view (parts_in m t)

-- over the service that its opening names
abbrev pub damage_by : Recorded → App → Option ℕ
damage_by t apps.Count = damage_over counting t
damage_by t apps.Kv = damage_over keeping t

-- a trail whose member could begin so; a client always can
abbrev pub CanBegin : Recorded → Type 0
CanBegin t = is_client t ≡ false → damage_by t t.opening.app ≡ None

-- ---- what was sent

-- a held message, and who is to receive it
abbrev pub addressed_of : Held → Addressed
addressed_of h = record { to = h.to; message = h.message }

-- a message that was sent is this one, as both are spelled
abbrev pub is_release : Addressed → Option Held → Bool
is_release a None = false
is_release a (Some h) = same_bytes (addressed_text (addressed_of h)) (addressed_text a)

-- a message that was sent and is not the next one that leaves
abbrev pub sent_found : Addressed → Option Held → Option Found
sent_found a next = if is_release a next then None else Some (finds.Sent (option_map addressed_of next) a)

-- ---- what came

abbrev pub is_of : ℕ → Party → Bool
is_of member (Member id) = id == member
is_of member (Client id) = false

abbrev pub is_member : Party → Bool
is_member (Member id) = true
is_member (Client id) = false

abbrev pub same_party : Party → Party → Bool
same_party (Member a) (Member b) = a == b
same_party (Member a) (Client b) = false
same_party (Client a) (Member b) = false
same_party (Client a) (Client b) = a == b

abbrev pub same_sealed : Sealed → Sealed → Bool
same_sealed a b = same_party a.who b.who && (same_bytes a.text b.text && same_bytes a.tag b.tag)

-- a statement of a member of this number
abbrev pub is_by : ℕ → Sealed → Bool
is_by member s = is_of member s.who

-- the statements that a member makes with a message that it sends, each with its tag: those of the message's own that it signed
abbrev pub made_with : ℕ → Message → List Sealed
made_with member m = filter (is_by member) (map sealed_of (own m))

-- the statements that a trail's member has made with the messages that it sent
abbrev pub made_by : Recorded → List Sealed
made_by t = flat_map (λ (a : Addressed). made_with t.opening.member a.message) (sends t.events)

-- A statement that its member has sent, by the member's own trail. A member without a trail has sent nothing.
abbrev pub has_sent : List Recorded → Sealed → Bool
has_sent trails s = list_any (same_sealed s) (flat_map made_by trails)

-- a statement of a member whose tag is the one that the member makes, and that is not among those that were sent
abbrev pub is_unsent : (Sealed → Bool) → List ℕ → Sealed → Bool
is_unsent sent secret s = is_member s.who && (is_tag secret s.who s.text s.tag && not (sent s))

-- the first value that passes a test
abbrev pub first_of : {A : Type 0} → (A → Bool) → List A → Option A
first_of wanted [] = None
first_of wanted (x ∷ xs) = if wanted x then Some x else first_of wanted xs

-- the statements of bytes that came, at any depth and with any tags; none if the bytes are no message
abbrev pub sealed_in : Result Message ℕ → List Sealed
sealed_in (Ok m) = map sealed_of (statements_in m)
sealed_in (Err at) = []

-- the first statement in bytes that came which was not sent
abbrev pub stated_found : (Sealed → Bool) → List ℕ → List ℕ → Option Found
stated_found sent secret bytes = option_map finds.Stated (first_of (is_unsent sent secret) (sealed_in (decoded bytes)))

abbrev pub came_found : (Sealed → Bool) → List ℕ → NodeEvent → Option Found
came_found sent secret (Arrive bytes) = stated_found sent secret bytes
came_found sent secret Tick = None
came_found sent secret Deliver = None
came_found sent secret (Firm count) = None

-- ---- the first difference

-- what an event has and has no right to, at a node that its trail made
abbrev pub event_found : {S : Type 0} → (Sealed → Bool) → List ℕ → Node S → TrailEvent → Option Found
event_found sent secret n (Happens event) = came_found sent secret event
event_found sent secret n (Send a) = sent_found a (first_leaving n.firm n.held)
event_found sent secret n (Lost a) = None
event_found sent secret n (Polls count) = None
event_found sent secret n End = None

-- of a client's event. A client may send anything.
abbrev pub client_found : (Sealed → Bool) → List ℕ → TrailEvent → Option Found
client_found sent secret (Happens event) = came_found sent secret event
client_found sent secret (Send a) = None
client_found sent secret (Lost a) = None
client_found sent secret (Polls count) = None
client_found sent secret End = None

-- a difference at an event
abbrev pub differing : ℕ → ℕ → Option Found → Option Difference
differing member event found = option_map (λ f. record { member = member; event = event; found = f }) found

-- the first difference among a member's events, which come after so many and begin at a node
abbrev pub member_difference : {S : Type 0} → Step S → (Sealed → Bool) → TrailOpening → ℕ → Node S → List TrailEvent → Option Difference
member_difference step sent o before n [] = None
member_difference step sent o before n (e ∷ events) =
    or_else (differing o.member (before + 1) (event_found sent o.secret n e)) (member_difference step sent o (before + 1) (after step n e) events)

-- the first difference among a client's events
abbrev pub client_difference : (Sealed → Bool) → TrailOpening → ℕ → List TrailEvent → Option Difference
client_difference sent o before [] = None
client_difference sent o before (e ∷ events) =
    or_else (differing o.member (before + 1) (client_found sent o.secret e)) (client_difference sent o (before + 1) events)

-- the first difference in a member's trail, over a service
abbrev pub service_difference : {S : Type 0} → Meaning S → (Sealed → Bool) → Recorded → Option Difference
service_difference m sent t = member_difference (node_step m) sent t.opening 0 (first_node m t) t.events

-- over the service that its opening names
abbrev pub app_difference : (Sealed → Bool) → Recorded → App → Option Difference
app_difference sent t apps.Count = service_difference counting sent t
app_difference sent t apps.Kv = service_difference keeping sent t

-- the first difference in a trail
unfoldable pub trail_difference : (Sealed → Bool) → Recorded → Option Difference
trail_difference sent t = if is_client t then client_difference sent t.opening 0 t.events else app_difference sent t t.opening.app

-- the first difference in trails, in their order
abbrev pub difference_in : (Sealed → Bool) → List Recorded → Option Difference
difference_in sent [] = None
difference_in sent (t ∷ ts) = or_else (trail_difference sent t) (difference_in sent ts)

unfoldable pub first_difference : List Recorded → Option Difference
first_difference trails = difference_in (has_sent trails) trails

abbrev pub verdict_of : Option Difference → Verdict
verdict_of None = Coherent
verdict_of (Some d) = Differs d
