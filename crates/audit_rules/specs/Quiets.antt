-- Quiet recorded runs: nothing is left to be done or to arrive.
use Rattle.std.specs.Prelude.{ℕ, ◌-◌, ◌==◌, nat_le, Bool, ◌&&◌, ◌||◌, not, List, [], ◌∷◌, ◌++◌, length, map, filter, if◌then◌else◌, is_none}
use Rattle.std.specs.List.{list_any, list_all, flat_map}
use Rattle.smart_base.specs.Lists.{same_bytes}
use Rattle.smart_base.specs.Views.{View}
use Rattle.smart_messages.specs.Messages.{spelling}
use Rattle.smart_service.specs.Services.{Meaning}
use Rattle.app_count.specs.Counts.{counting}
use Rattle.app_kv.specs.Snapshots.{keeping}
use Rattle.node_rules.specs.Nodes.{Node, view_of}
use Rattle.node_rules.specs.Steps.{first_leaving}
use Rattle.node_rules.specs.declared.node.Target.{Target}
use Rattle.node_rules.specs.declared.node.Target.TheVariants as targets
use Rattle.trail.specs.declared.event.Addressed.{Addressed}
use Rattle.trail.specs.declared.event.TrailEvent.{TrailEvent}
use Rattle.trail.specs.declared.event.TrailEvent.TheVariants.{Happens, Send, Lost, Polls, End}
use Rattle.trail.specs.declared.opening.App.{App}
use Rattle.trail.specs.declared.opening.App.TheVariants as apps
use Rattle.trail_rules.specs.Replays.{Step, node_step, after, replay, arrivals}
use Rattle.audit_rules.specs.declared.recorded.Recorded.{Recorded}
use Rattle.audit_rules.specs.Audits.{first_node, is_client}

-- ---- at rest

-- a node at which no batch waits, all entries are firm, and no message is held
abbrev pub is_at_rest : {S : Type 0} → Node S → Bool
is_at_rest n = is_none n.waiting && (nat_le (length n.entries) n.firm && (length n.held == 0))

-- what a node's calls tell of it: no batch waits, all entries are firm, and no message leaves
abbrev pub seems_at_rest : {S : Type 0} → Node S → Bool
seems_at_rest n = is_none n.waiting && (nat_le (length n.entries) n.firm && is_none (first_leaving n.firm n.held))

abbrev pub rests_over : {S : Type 0} → Meaning S → Recorded → Bool
rests_over m t = is_at_rest (replay (node_step m) (first_node m t) t.events)

abbrev pub rests_by : Recorded → App → Bool
rests_by t apps.Count = rests_over counting t
rests_by t apps.Kv = rests_over keeping t

-- a trail whose member is at rest after its last event; a client is always
unfoldable pub rests : Recorded → Bool
rests t = is_client t || rests_by t t.opening.app

-- ---- what was sent, lost, and came

-- a message to one receiver: the number of the receiver's trail, and the message in its bytes
pub record Post : Type 0 where
  pub to : ℕ
  pub text : List ℕ

-- The receivers of a message, with the members of the sender's view: the numbers of their trails. A client's trail has the number 0, and a run
-- has one client.
abbrev pub receivers : List ℕ → Target → List ℕ
receivers members (targets.Node member) = member ∷ []
receivers members (targets.Client client) = 0 ∷ []
receivers members targets.View = members
receivers members targets.Clients = 0 ∷ []

-- a message for each of its receivers
abbrev pub posts : List ℕ → Addressed → List Post
posts members a = map (λ (r : ℕ). record { to = r; text = spelling a.message }) (receivers members a.to)

abbrev pub sent_at : List ℕ → TrailEvent → List Post
sent_at members (Happens event) = []
sent_at members (Send a) = posts members a
sent_at members (Lost a) = []
sent_at members (Polls count) = []
sent_at members End = []

-- what a member has sent, each message to the members of its view there
abbrev pub sent_from : {S : Type 0} → Step S → Node S → List TrailEvent → List Post
sent_from step n [] = []
sent_from step n (e ∷ events) = sent_at (view_of n).members e ++ sent_from step (after step n e) events

-- what a client has sent
abbrev pub client_sent : View → List TrailEvent → List Post
client_sent view events = flat_map (sent_at view.members) events

abbrev pub sent_over : {S : Type 0} → Meaning S → Recorded → List Post
sent_over m t = sent_from (node_step m) (first_node m t) t.events

abbrev pub sent_by : Recorded → App → List Post
sent_by t apps.Count = sent_over counting t
sent_by t apps.Kv = sent_over keeping t

-- what was sent by a trail
unfoldable pub posted : Recorded → List Post
posted t = if is_client t then client_sent t.opening.view t.events else sent_by t t.opening.app

abbrev pub lost_at : TrailEvent → List Post
lost_at (Happens event) = []
lost_at (Send a) = []
lost_at (Lost a) = posts [] a
lost_at (Polls count) = []
lost_at End = []

-- what links dropped of what was sent by a trail
abbrev pub dropped : Recorded → List Post
dropped t = flat_map lost_at t.events

-- what came to a trail's owner
abbrev pub came : Recorded → List Post
came t = map (λ bytes. record { to = t.opening.member; text = bytes }) (arrivals t.events)

-- ---- quiet runs

abbrev pub same_post : Post → Post → Bool
same_post a b = a.to == b.to && same_bytes a.text b.text

-- how often a message to a receiver stands in others
abbrev pub times : Post → List Post → ℕ
times p ps = length (filter (same_post p) ps)

-- a receiver that has a trail
abbrev pub has_trail : List Recorded → ℕ → Bool
has_trail trails receiver = list_any (λ t. t.opening.member == receiver) trails

-- a message that came to its receiver as often as it was sent and not dropped. One that was always dropped may have come from elsewhere.
abbrev pub has_come : (sent lost arrived : ℕ) → Bool
has_come sent lost arrived = nat_le sent lost || (sent - lost == arrived)

abbrev pub is_received : List Post → List Post → List Post → Post → Bool
is_received sent lost arrived p = has_come (times p sent) (times p lost) (times p arrived)

-- each message that was sent to a receiver with a trail and was not dropped has come, as often as it was sent
abbrev pub all_received : List Recorded → Bool
all_received trails =
    let sent = flat_map posted trails in
    list_all (λ p. not (has_trail trails p.to) || is_received sent (flat_map dropped trails) (flat_map came trails) p) sent

-- quiet recorded runs
unfoldable pub is_quiet : List Recorded → Bool
is_quiet trails = list_all rests trails && all_received trails
