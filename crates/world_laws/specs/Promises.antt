-- The promise of a play: all members deliver one list of batches (state machine replication).
use Rattle.std.specs.Prelude.{ℕ, zero, suc, true, ◌+◌, ◌-◌, ◌^◌, ◌++◌, ◌==◌, ◌≡◌, ◌<◌, ◌≤◌, ◌⊎◌, List, [], ◌∷◌, length, take, slice_get, max, filter, map, if◌then◌else◌, nat_le, not, ◌&&◌, Bool, false, Option, Some, None}
use Rattle.smart_base.specs.Lists.{Distinct, Each}
use Rattle.smart_base.specs.Views.{View, is_member, is_view}
use Rattle.smart_statements.specs.Kinds.{requests}
use Rattle.smart_statements.specs.Batches.{Batch}
use Rattle.smart_statements.specs.declared.statement.Request.{Request}
use Rattle.smart_statements.specs.declared.statement.Answer.{Answer}
use Rattle.smart_base.specs.declared.party.Party.TheVariants.{Member}
use Rattle.smart_base.specs.declared.limits.TheConstants.{CLIENTS, LAST_CLIENT}
use Rattle.smart_messages.specs.declared.message.Message.TheVariants.{Ask}
use Rattle.smart_service.specs.Services.{Meaning}
use Rattle.replica_rules.specs.Replicas.{state, executed_lines, answer, place_of, batch_at, request_at, view_at, views_after}
use Rattle.replica_rules.specs.Seals.{digest_of, signed}
use Rattle.node_rules.specs.Nodes.{next_place}
use Rattle.node_rules.specs.Deliveries.{AtPlaces}
use Rattle.node_rules.specs.Reopening.{damage_of, reopened_from}
use Rattle.smart_service.specs.declared.replica.Replica.{Replica}
use Rattle.snapshot_form.specs.Replicas.{is_first_view}
use Rattle.vote_book.specs.Books.{Among, HasMade, last_made, Lawful}
use Rattle.vote_book.specs.Entries.{entry_text}
use Rattle.book_laws.specs.BookCuts.{cut_at}
use Rattle.agreement_laws.specs.Certificates.{IsBacked}
use Rattle.agreement_laws.specs.Diaries.{IsShown}
use Rattle.agreement_laws.specs.Statements.{Statement, signer_of, said}
use Rattle.agreement_laws.specs.Statements as statements
use Rattle.store_laws.specs.Restored.{Images, restores}
use Rattle.world_rules.specs.Crashes.{images_left, wrong_images}
use Rattle.world_rules.specs.Fronts.{checkpoint_place}
use Rattle.world_rules.specs.declared.crash.Image.{Image}
use Rattle.store_laws.specs.States.{MayLeave}
use Rattle.node_rules.specs.declared.node.Delivery.{Delivery}
use Rattle.world_rules.specs.Secrets.{group_secret}
use Rattle.world_rules.specs.Premises.{is_among}
use Rattle.world_rules.specs.declared.message.Content.TheVariants as contents
use Rattle.world_rules.specs.Worlds.{Host, World, asked_in, course_of, is_gone, life_crashed, parts_of, parts_held, host_index, host_resumed, is_name, begun}
use Rattle.world_rules.specs.Plays.{has_member, world_after, lines_told}
use Rattle.world_rules.specs.Knowing.{known_by}
use Rattle.world_rules.specs.Stated.{IsWitnessed, stated, diary}
use Rattle.client_quorum.specs.declared.client.Client.{Client}
use Rattle.client_quorum.specs.declared.client.Acceptance.{Acceptance}
use Rattle.world_laws.specs.Sending.{IsAddressedFrom, QuorumsReplied, SentFirm}
use Rattle.world_rules.specs.declared.line.Line.{Line}
use Rattle.world_rules.specs.declared.line.Line.TheVariants as lines
use Rattle.world_rules.specs.declared.message.Ending.{Ending}
use Rattle.world_rules.specs.declared.line.OutLine.{OutLine}
use Rattle.world_rules.specs.declared.line.OutLine.TheVariants as outs
use Rattle.world_rules.specs.declared.message.Sent.{Sent}
use Rattle.world_rules.specs.declared.message.Origin.TheVariants as origins
use Rattle.world_rules.specs.declared.line.Header.{Header}
use Rattle.world_rules.specs.InForce.{IsInForce}
use Rattle.node_laws.specs.Sound.{AreRanged}

-- a waiting batch, if there is one, that is the list's batch at a place
abbrev pub IsNext : List Batch → ℕ → Option Batch → Type 0
IsNext chosen place None = Unit {0}
IsNext chosen place (Some batch) = batch_at chosen place ≡ Some batch

-- A delivery that is right by the list. Its batch is the list's at that place. It executed as many requests as the list executes there: those
-- of the batch that are their clients' next.
pub record IsChosenAt {S : Type 0} (m : Meaning S) (view : View) (chosen : List Batch) (d : Delivery) : Type 0 where
  pub batch : batch_at chosen d.place ≡ Some d.batch
  pub executed : d.executed ≡ length (executed_lines m (state m view (take (d.place - 1) chosen)) d.batch)

-- A host that has delivered a front of the list. Its replica is the state after that front. Since it began this life or
-- took over a replica, it has delivered one batch at each place after that one, in order. Each delivery of any of its lives is right by the list. The batch that it has decided
-- and not delivered is the list's too.
pub record IsPrefix {S : Type 0} (m : Meaning S) (view : View) (chosen : List Batch) (h : Host S) : Type 0 where
  pub within : h.node.replica.place ≤ length chosen
  pub replica : h.node.replica ≡ state m view (take h.node.replica.place chosen)
  pub count : h.resumed + length h.delivered ≡ h.node.replica.place
  pub places : AtPlaces (h.resumed + 1) h.delivered
  pub delivered : Each (IsChosenAt m view chosen) h.delivered
  pub earlier : Each (IsChosenAt m view chosen) h.earlier
  pub waiting : IsNext chosen (next_place h.node) h.node.waiting

-- ---- kept places

-- the replica after a restart, if a crash leaves given bytes of the devices
abbrev pub restored_replica : {S : Type 0} → Meaning S → View → ℕ → Host S → Images → Replica S
restored_replica m view period h left = (reopened_from m group_secret h.node.id view period (parts_of (restores left))).replica

-- a correct member whose devices restore a place or a later one
abbrev pub restores_place : {S : Type 0} → Meaning S → World S → (ℕ → Images) → ℕ → Host S → Bool
restores_place m w left place h = not (is_gone w h.node.id) && nat_le place (restored_replica m w.view w.period h (left h.node.id)).place

-- such a member of a view
abbrev pub has_place : {S : Type 0} → Meaning S → World S → View → (ℕ → Images) → ℕ → Host S → Bool
has_place m w view left place h = is_member view h.node.id && restores_place m w left place h

-- bytes that crashes now may leave of the devices of all correct members, whether their nodes run or have crashed
abbrev pub MayBeLeft : {S : Type 0} → World S → (ℕ → Images) → Type 0
MayBeLeft w left = Each (λ h. is_gone w h.node.id ≡ false → MayLeave h.store.devices (left h.node.id)) w.hosts

-- A place that crashes cannot take back. Take the view in force there. Whatever crashes leave of the devices of correct members, more than f
-- correct members of that view restore that place or a later one.
pub record IsKept {S : Type 0} (m : Meaning S) (w : World S) (place : ℕ) : Type 0 where
  pub enough : (left : ℕ → Images) → MayBeLeft w left
      → (view_at w.view w.chosen place).f < length (filter (has_place m w (view_at w.view w.chosen place) left place) w.hosts)

-- A member that can restart (recovery: Dura-SMaRt, USENIX ATC 2013). A crash may leave each device as it was at its last sync, or as it
-- reads now. A crash line without patches therefore never ends a play. Whatever a crash leaves, the devices restore exactly the cut of the
-- diary that this crash makes, at the place of their newest checkpoint. That diary begins with the present one, and then has at most entries
-- that were not firm. It has made that place. Neither the restored checkpoint nor a restored entry is damaged. The restored replica is the
-- state after a front of the list, at the last place that the diary has made. If the member has crashed, what its devices hold is not damaged
-- either.
pub record Recovers {S : Type 0} (m : Meaning S) (w : World S) (h : Host S) : Type 0 where
  pub possible : (image : Image) → wrong_images h.store (images_left image [] h.store) ≡ None
  pub leaves : (image : Image) → MayLeave h.store.devices (images_left image [] h.store)
  pub diary : (left : Images) → MayLeave h.store.devices left → (restores left).entries ≡ map entry_text (cut_at (checkpoint_place (restores left).present) (life_crashed h left).diary)
  pub made : (left : Images) → MayLeave h.store.devices left → 0 < checkpoint_place (restores left).present → HasMade (life_crashed h left).diary (checkpoint_place (restores left).present)
  pub undamaged : (left : Images) → MayLeave h.store.devices left → damage_of m group_secret w.view (parts_of (restores left)) ≡ None
  pub restarts : h.up ≡ false → damage_of m group_secret w.view (parts_held h) ≡ None
  pub within : (left : Images) → MayLeave h.store.devices left → (restored_replica m w.view w.period h left).place ≤ length w.chosen
  pub reaches : (left : Images) → MayLeave h.store.devices left → (restored_replica m w.view w.period h left).place ≡ last_made (life_crashed h left).diary
  pub right : (left : Images) → MayLeave h.store.devices left → restored_replica m w.view w.period h left ≡ state m w.view (take (restored_replica m w.view w.period h left).place w.chosen)

-- ---- replies

-- a message in which its client asks a request: the client has signed the request and sent it itself
pub record IsAskedIn (s : Sent) (q : Request) : Type 0 where
  pub origin : s.origin ≡ origins.Client q.client
  pub content : s.content ≡ contents.Message (Ask (signed requests group_secret q.client q))

-- a request that its client has asked
abbrev pub HasAsked : List Sent → Request → Type 0
HasAsked [] q = ⊥
HasAsked (s ∷ sent) q = IsAskedIn s q ⊎ HasAsked sent q

-- a client that was declared rogue
abbrev pub IsRogue : List ℕ → ℕ → Type 0
IsRogue rogue client = is_among rogue client ≡ true

-- A right reply: the service's answer at its place and index, to the request of its client and number there. Its client asked that request,
-- unless the client is rogue. The request states an earlier place than the reply. The request is executed first at that place and index,
-- and nowhere else (`executes_once` of replica_laws). The reply states the view in force there.
pub record IsRightReply {S : Type 0} (m : Meaning S) (w : World S) (a : Answer) : Type 0 where
  pub request : Request
  pub request_is : request_at w.chosen a.place a.index ≡ Some request
  pub client_is : request.client ≡ a.client
  pub seq_is : request.seq ≡ a.seq
  pub asked : IsRogue w.rogue request.client ⊎ HasAsked w.sent request
  pub above : request.after < a.place
  pub place_is : place_of m w.view w.chosen a.client a.seq ≡ Some (a.place, a.index)
  pub reply_is : answer m w.view w.chosen a.place a.index ≡ Some a.reply
  pub view_is : a.view ≡ (view_at w.view w.chosen a.place).number

-- a right statement: a reply is a right one, and a view is one of the list; for other kinds nothing is claimed
abbrev pub IsRightStatement : {S : Type 0} → Meaning S → World S → Statement → Type 0
IsRightStatement m w (statements.Replied a) = IsRightReply m w a.statement
IsRightStatement m w (statements.Informed i) = Among i.statement.view (views_after w.view w.chosen)
IsRightStatement m w (statements.Asked q) = Unit {0}
IsRightStatement m w (statements.Proposed p) = Unit {0}
IsRightStatement m w (statements.Voted b) = Unit {0}
IsRightStatement m w (statements.Stopped s) = Unit {0}
IsRightStatement m w (statements.Reported r) = Unit {0}
IsRightStatement m w (statements.Synced s) = Unit {0}
IsRightStatement m w (statements.Marked k) = Unit {0}

-- A world of right statements. Each reply and each view in a message that a node holds is right. Each with a correct member's tag is right, in
-- whichever message it was sent.
pub record AreStatementsRight {S : Type 0} (m : Meaning S) (w : World S) : Type 0 where
  pub held : Each (λ h. Each (λ x. Each (IsRightStatement m w) (said x.message)) h.node.held) w.hosts
  pub sent : (s : Statement) (member : ℕ) → Among s (stated w.sent) → signer_of s ≡ Member member → is_among w.faulty member ≡ false → IsRightStatement m w s

-- a client that knows some of these views alone, and first the one that the group begins with
pub record KnowsViews (first : View) (views : List View) (c : Client) : Type 0 where
  pub later : List View
  pub begins : c.views ≡ first ∷ later
  pub each : Each (λ v. Among v views) c.views

-- the reply that an acceptance tells
abbrev pub answer_accepted : Acceptance → Answer
answer_accepted a = record { view = a.view; place = a.place; index = a.index; client = a.request.client; seq = a.request.seq; reply = a.reply }

-- A right acceptance. Its client has asked the request, and the reply is right. The request at the reply's place is the one that the client
-- asked, unless the client is rogue. For a rogue client it may be another request of that number. If the client is not rogue, the place is
-- later than the one that its request states. That one is the greatest that the client knew when it asked (`past_known` of
-- `OneListThroughout`).
pub record IsRight {S : Type 0} (m : Meaning S) (w : World S) (a : Acceptance) : Type 0 where
  pub asked : HasAsked w.sent a.request
  pub right : IsRightReply m w (answer_accepted a)
  pub own : IsRogue w.rogue a.request.client ⊎ (right.request ≡ a.request)

-- acceptances of which no two are of one client's requests of one number
abbrev pub AreApart : List Acceptance → Type 0
AreApart [] = Unit {0}
AreApart (a ∷ later) = Each (λ b. b.request.client ≡ a.request.client → b.request.seq ≡ a.request.seq → ⊥) later × AreApart later

-- `count` numbers from i on
unfoldable pub numbers_from : ℕ → ℕ → List ℕ
numbers_from zero i = []
numbers_from (suc count) i = i ∷ numbers_from count (i + 1)

-- A member's diary, whether the member is one of a view or has only a node. It is lawful. Each entry is of a view of the list, and within its
-- place and regency. It rests on what has been stated in each view in force. It shows each statement of the member, in whichever message it stands, unless the member is faulty.
pub record IsWitness {S : Type 0} (w : World S) (member : ℕ) : Type 0 where
  pub lawful : Lawful 0 0 (diary w member)
  pub ranged : AreRanged (views_after w.view w.chosen) (diary w member)
  pub backed : (v : View) → IsInForce w v → Each (IsBacked group_secret digest_of v (stated w.sent)) (diary w member)
  pub shown : (s : Statement) → Among s (stated w.sent) → signer_of s ≡ Member member → is_among w.faulty member ≡ false → IsShown digest_of (diary w member) s

-- One list at a moment of a play. Each node has delivered a front of it, also a node that is gone, has stopped, or is no member. Whatever
-- crashes leave of a node's devices, it restarts from a front of the list. Each member of the view that the group begins with has a node. No
-- member has two. Each number from 0 to 1,024 has one client, and a client knows views of the list alone. Each node's diary is lawful. A
-- correct node's shows what it has stated. Each reply and each view that a node holds or a correct member has stated is right. Each accepted
-- reply is right, a quorum has given it, and its place is kept. A client accepts one reply to each number. What a node or a client has sent is
-- its own. A node's votes, replies and reports rest on what became firm there. What a node has sent went to the members of the view in force
-- behind a place of the list, to one member, to one client, or to clients that have asked.
pub record OneList {S : Type 0} (m : Meaning S) (w : World S) : Type 0 where
  pub members : filter (is_member w.view) (map (λ h. h.node.id) w.hosts) ≡ w.view.members
  pub nodes : Distinct (map (λ h. h.node.id) w.hosts)
  pub clients : map (λ c. c.id) w.clients ≡ numbers_from CLIENTS 0
  pub known : Each (KnowsViews w.view (views_after w.view w.chosen)) w.clients
  pub hosts : Each (IsPrefix m w.view w.chosen) w.hosts
  pub recovers : Each (Recovers m w) w.hosts
  pub witness : (member : ℕ) → IsWitness w member
  pub right : AreStatementsRight m w
  pub accepted : Each (IsRight m w) w.accepted
  pub quorums : QuorumsReplied w
  pub kept : Each (λ a. IsKept m w a.place) w.accepted
  pub apart : AreApart w.accepted
  pub firm : SentFirm w
  pub addressed : Each (λ s. IsAddressedFrom w.view w.chosen (asked_in w.clients) s.origin s.to s.content) w.sent

-- A transcript line that is true of the list. If it tells an accepted reply, it names where the list executes that client's request of that
-- number, and the service's answer.
abbrev pub IsAnswered : {S : Type 0} → Meaning S → View → List Batch → OutLine → Type 0
IsAnswered m view chosen (outs.Accepted client seq place index reply) =
    (place_of m view chosen client seq ≡ Some (place, index)) × (answer m view chosen place index ≡ Some reply)
IsAnswered m view chosen (outs.Group members faulty app period) = Unit {0}
IsAnswered m view chosen (outs.Sent number origin summary) = Unit {0}
IsAnswered m view chosen (outs.Decided member place) = Unit {0}
IsAnswered m view chosen (outs.Installed member place) = Unit {0}
IsAnswered m view chosen (outs.Delivered member place executed) = Unit {0}
IsAnswered m view chosen (outs.View member number) = Unit {0}
IsAnswered m view chosen (outs.Promised member number regency) = Unit {0}
IsAnswered m view chosen (outs.Synced member number regency base bound) = Unit {0}
IsAnswered m view chosen (outs.Dropped member why) = Unit {0}
IsAnswered m view chosen (outs.Counted client have need) = Unit {0}
IsAnswered m view chosen (outs.Viewed client have need) = Unit {0}
IsAnswered m view chosen (outs.Moved client number) = Unit {0}
IsAnswered m view chosen (outs.Ignored client why) = Unit {0}
IsAnswered m view chosen (outs.Busy client seq) = Unit {0}
IsAnswered m view chosen (outs.Absent member) = Unit {0}
IsAnswered m view chosen (outs.Crashed member) = Unit {0}
IsAnswered m view chosen (outs.Restarted member place entries) = Unit {0}
IsAnswered m view chosen (outs.Down member) = Unit {0}
IsAnswered m view chosen (outs.Idle member) = Unit {0}
IsAnswered m view chosen (outs.IdleClient client) = Unit {0}
IsAnswered m view chosen (outs.Learned client place) = Unit {0}
IsAnswered m view chosen (outs.Stands member place number regency) = Unit {0}
IsAnswered m view chosen (outs.Seen client place) = Unit {0}
IsAnswered m view chosen (outs.End lines messages) = Unit {0}

-- a transcript line that tells an accepted reply
abbrev pub is_acceptance : OutLine → Bool
is_acceptance (outs.Accepted client seq place index reply) = true
is_acceptance (outs.Group members faulty app period) = false
is_acceptance (outs.Sent number origin summary) = false
is_acceptance (outs.Decided member place) = false
is_acceptance (outs.Installed member place) = false
is_acceptance (outs.Delivered member place executed) = false
is_acceptance (outs.View member number) = false
is_acceptance (outs.Promised member number regency) = false
is_acceptance (outs.Synced member number regency base bound) = false
is_acceptance (outs.Dropped member why) = false
is_acceptance (outs.Counted client have need) = false
is_acceptance (outs.Viewed client have need) = false
is_acceptance (outs.Moved client number) = false
is_acceptance (outs.Ignored client why) = false
is_acceptance (outs.Busy client seq) = false
is_acceptance (outs.Absent member) = false
is_acceptance (outs.Crashed member) = false
is_acceptance (outs.Restarted member place entries) = false
is_acceptance (outs.Down member) = false
is_acceptance (outs.Idle member) = false
is_acceptance (outs.IdleClient client) = false
is_acceptance (outs.Learned client place) = false
is_acceptance (outs.Stands member place number regency) = false
is_acceptance (outs.Seen client place) = false
is_acceptance (outs.End lines messages) = false

-- the transcript line of an acceptance
abbrev pub accepted_line : Acceptance → OutLine
accepted_line a = outs.Accepted a.request.client a.request.seq a.place a.index a.reply

-- a transcript line that tells a delivery at a member
abbrev pub is_delivery : ℕ → OutLine → Bool
is_delivery id (outs.Delivered member place executed) = member == id
is_delivery id (outs.Group members faulty app period) = false
is_delivery id (outs.Sent number origin summary) = false
is_delivery id (outs.Decided member place) = false
is_delivery id (outs.Installed member place) = false
is_delivery id (outs.View member number) = false
is_delivery id (outs.Promised member number regency) = false
is_delivery id (outs.Synced member number regency base bound) = false
is_delivery id (outs.Dropped member why) = false
is_delivery id (outs.Counted client have need) = false
is_delivery id (outs.Accepted client seq place index reply) = false
is_delivery id (outs.Viewed client have need) = false
is_delivery id (outs.Moved client number) = false
is_delivery id (outs.Ignored client why) = false
is_delivery id (outs.Busy client seq) = false
is_delivery id (outs.Absent member) = false
is_delivery id (outs.Crashed member) = false
is_delivery id (outs.Restarted member place entries) = false
is_delivery id (outs.Down member) = false
is_delivery id (outs.Idle member) = false
is_delivery id (outs.IdleClient client) = false
is_delivery id (outs.Learned client place) = false
is_delivery id (outs.Stands member place number regency) = false
is_delivery id (outs.Seen client place) = false
is_delivery id (outs.End lines messages) = false

-- the transcript line of a delivery at a member
abbrev pub delivered_line : ℕ → Delivery → OutLine
delivered_line id d = outs.Delivered id d.place d.executed

-- A transcript that tells each batch that a step of a host's node delivered, in all its lives and in order. It tells no other delivery
-- there. What a restart delivers again is not told.
abbrev pub HasTold : {S : Type 0} → List OutLine → Host S → Type 0
HasTold told h = filter (is_delivery h.node.id) told ≡ map (delivered_line h.node.id) (h.earlier ++ h.delivered)

-- what a node's deliveries go on from: a place, and the number of entries of its last restart
pub record Restart : Type 0 where
  pub place : ℕ
  pub entries : ℕ

abbrev pub restart_of : ℕ → ℕ → Restart
restart_of place entries = record { place = place; entries = entries }

-- the start of a node without a restart: from nothing
abbrev pub from_nothing : Restart
from_nothing = restart_of 0 0

-- what a member's node goes on from, by a transcript line: what the line tells if it is of its restart or installation, else as before
abbrev pub restarts_with : ℕ → Restart → OutLine → Restart
restarts_with id before (outs.Group members faulty app period) = before
restarts_with id before (outs.Sent number origin summary) = before
restarts_with id before (outs.Decided member place) = before
restarts_with id before (outs.Installed member place) = if member == id then restart_of place before.entries else before
restarts_with id before (outs.Delivered member place executed) = before
restarts_with id before (outs.View member number) = before
restarts_with id before (outs.Promised member number regency) = before
restarts_with id before (outs.Synced member number regency base bound) = before
restarts_with id before (outs.Dropped member why) = before
restarts_with id before (outs.Counted client have need) = before
restarts_with id before (outs.Accepted client seq place index reply) = before
restarts_with id before (outs.Viewed client have need) = before
restarts_with id before (outs.Moved client number) = before
restarts_with id before (outs.Ignored client why) = before
restarts_with id before (outs.Busy client seq) = before
restarts_with id before (outs.Absent member) = before
restarts_with id before (outs.Crashed member) = before
restarts_with id before (outs.Restarted member place entries) = if member == id then restart_of place entries else before
restarts_with id before (outs.Down member) = before
restarts_with id before (outs.Idle member) = before
restarts_with id before (outs.IdleClient client) = before
restarts_with id before (outs.Learned client place) = before
restarts_with id before (outs.Stands member place number regency) = before
restarts_with id before (outs.Seen client place) = before
restarts_with id before (outs.End lines messages) = before

-- what a member's node goes on from, by a transcript: what its last lines of a restart and of an installation tell, else as before
abbrev pub last_restart : ℕ → Restart → List OutLine → Restart
last_restart id before [] = before
last_restart id before (line ∷ lines) = last_restart id (restarts_with id before line) lines

-- A host whose node began this life at a place or took over its replica, and began this life with this number of restored entries: those of
-- the log after its newest checkpoint, if it had one.
pub record WentOn {S : Type 0} (from : Restart) (h : Host S) : Type 0 where
  pub place : h.resumed ≡ from.place
  pub entries : h.node.restored ≡ from.entries

-- a host whose deliveries go on as the last transcript lines of its restart and its installation tell, or from nothing if no line does
abbrev pub HasGoneOn : {S : Type 0} → List OutLine → Host S → Type 0
HasGoneOn told h = WentOn (last_restart h.node.id from_nothing told) h

-- Members or clients that lines have declared. A played line has declared each of them. While nothing has ended the play, each that a played
-- line declared is among them.
pub record AreDeclared (declares : ℕ → Line) (played : List Line) (ending : Option Ending) (ids : List ℕ) : Type 0 where
  pub only : (id : ℕ) → is_among ids id ≡ true → Among (declares id) played
  pub all : ending ≡ None → (id : ℕ) → Among (declares id) played → is_among ids id ≡ true

-- Nodes that stand in a world. Each is of a member of the view that the group begins with, or of one for which a played line added a node.
-- While nothing has ended the play, each member has one for which a played line added it.
pub record AreAdded {S : Type 0} (played : List Line) (w : World S) : Type 0 where
  pub only : (id : ℕ) → has_member w id ≡ true → (is_member w.view id ≡ true) ⊎ Among (lines.Node id) played
  pub all : w.ending ≡ None → (id : ℕ) → is_name id ≡ true → Among (lines.Node id) played → has_member w id ≡ true

-- lines of which none adds a node
abbrev pub AddsNone : List Line → Type 0
AddsNone ls = (id : ℕ) → Among (lines.Node id) ls → ⊥

-- a request that was sent already, or that states no earlier place than the transcript has told its client
abbrev pub IsPast : List Sent → List OutLine → Request → Type 0
IsPast sent told q = HasAsked sent q ⊎ (known_by q.client told ≤ q.after)

-- A header of which the world of a play may begin. Its view is the first one, with the number 0 and from place 1 on. Its period has a spelling
-- in an opening, as each period of a script has: those are from N to 2^20.
pub record IsHeader (g : Header) : Type 0 where
  pub viewed : is_view g.view ≡ true
  pub begins : is_first_view g.view ≡ true
  pub period_fits : g.period < 2 ^ 32

-- the world after the first lines of a script over a group
abbrev pub world_at : {S : Type 0} → Meaning S → Header → List Line → ℕ → World S
world_at m g ls k = world_after (course_of m) (begun m g) (take k ls)

-- A line that has had its effect. If it tells a client what another knows, the client then knows the greater of both places. This is claimed
-- while nothing has ended the play, and if the other client is not rogue.
abbrev pub HasTaught : {S : Type 0} → World S → List OutLine → List OutLine → Line → Type 0
HasTaught w before after (lines.Tell from to) =
    w.ending ≡ None → is_among w.rogue from ≡ false → from ≤ LAST_CLIENT → to ≤ LAST_CLIENT → known_by to after ≡ max (known_by to before) (known_by from before)
HasTaught w before after lines.Nothing = Unit {0}
HasTaught w before after (lines.Ask client op) = Unit {0}
HasTaught w before after (lines.Change op) = Unit {0}
HasTaught w before after (lines.Again client) = Unit {0}
HasTaught w before after (lines.Flow members) = Unit {0}
HasTaught w before after (lines.Give number to) = Unit {0}
HasTaught w before after (lines.Deliver members) = Unit {0}
HasTaught w before after (lines.Tick members) = Unit {0}
HasTaught w before after (lines.Settle member) = Unit {0}
HasTaught w before after (lines.Disk member count) = Unit {0}
HasTaught w before after (lines.Crash member image patches) = Unit {0}
HasTaught w before after (lines.CrashAll image) = Unit {0}
HasTaught w before after (lines.Restart member) = Unit {0}
HasTaught w before after lines.RestartAll = Unit {0}
HasTaught w before after lines.SettleAll = Unit {0}
HasTaught w before after lines.Show = Unit {0}
HasTaught w before after (lines.Node member) = Unit {0}
HasTaught w before after (lines.Faulty member) = Unit {0}
HasTaught w before after (lines.Rogue client) = Unit {0}
HasTaught w before after (lines.Inject form) = Unit {0}

-- A member that a line has restarted. Before the line its host stands at an index, and it has crashed. Its host there is then the one that
-- goes on from what its devices hold, and runs. This is claimed while nothing has ended the play, and if the member is not faulty.
abbrev pub HasRestarted : {S : Type 0} → Meaning S → World S → World S → ℕ → Type 0
HasRestarted {S = S} m before after member =
    before.ending ≡ None → (i : ℕ) (h : Host S) → host_index before.hosts member ≡ Some i → slice_get before.hosts i ≡ Some h → h.up ≡ false → is_gone before h.node.id ≡ false
    → slice_get after.hosts i ≡ Some (host_resumed h (reopened_from m group_secret h.node.id before.view before.period (parts_held h)))

-- One list throughout a play: it holds after each line. The view that the group begins with stays, and so does its period. The nodes are
-- those of that view's members and those that a line has added, and none is lost. The faulty members and the rogue clients are those that a
-- line has declared. The list, what was sent, what was accepted and each diary only grow. Each transcript line of an accepted reply tells the service's answer
-- on the list. The transcript tells each accepted reply once, in order, and no other. It tells the deliveries of each node once, in order,
-- through all its lives, and no other. Each node goes on from the place that the last line of its restart or installation tells. After a
-- line that restarts a crashed member, its node runs, from what its devices hold. After a line that tells a client what another knows, the
-- client knows that too. The request of each accepted reply states what its client knew. Take any line after which it had not been sent: it
-- states no earlier place than the transcript had told the client by then. Those are places of accepted replies, and learned ones. The reply
-- stands past them all, as its place is later than the one that the request states (`above` of `IsRightReply`). After each line the diary of
-- each correct member is lawful and rests on what has been stated. It shows each statement of the member that stands in what was sent. Each
-- batch of the list has a decision among what has been stated. While a member runs, what is firm of its node's book is the cut of its diary.
-- After its crash its devices restore the cut of the diary.
pub record OneListThroughout {S : Type 0} (m : Meaning S) (g : Header) (ls : List Line) : Type 0 where
  pub one_list : (k : ℕ) → OneList m (world_at m g ls k)
  pub viewed : (k : ℕ) → (world_at m g ls k).view ≡ g.view
  pub period : (k : ℕ) → (world_at m g ls k).period ≡ g.period
  pub nodes : (k : ℕ) → AreAdded (take k ls) (world_at m g ls k)
  pub nodes_grow : (j k : ℕ) → j ≤ k → (id : ℕ) → has_member (world_at m g ls j) id ≡ true → has_member (world_at m g ls k) id ≡ true
  pub faulty : (k : ℕ) → AreDeclared (λ member. lines.Faulty member) (take k ls) (world_at m g ls k).ending (world_at m g ls k).faulty
  pub rogue : (k : ℕ) → AreDeclared (λ client. lines.Rogue client) (take k ls) (world_at m g ls k).ending (world_at m g ls k).rogue
  pub grows : (j k : ℕ) → j ≤ k → take (length (world_at m g ls j).chosen) (world_at m g ls k).chosen ≡ (world_at m g ls j).chosen
  pub sent_grows : (j k : ℕ) → j ≤ k → take (length (world_at m g ls j).sent) (world_at m g ls k).sent ≡ (world_at m g ls j).sent
  pub accepted_grows : (j k : ℕ) → j ≤ k → take (length (world_at m g ls j).accepted) (world_at m g ls k).accepted ≡ (world_at m g ls j).accepted
  pub diaries_grow : (j k : ℕ) → j ≤ k → (member : ℕ) → take (length (diary (world_at m g ls j) member)) (diary (world_at m g ls k) member) ≡ diary (world_at m g ls j) member
  pub told : (k : ℕ) → Each (IsAnswered m g.view (world_at m g ls k).chosen) (lines_told (course_of m) (begun m g) (take k ls))
  pub told_all : (k : ℕ) → filter is_acceptance (lines_told (course_of m) (begun m g) (take k ls)) ≡ map accepted_line (world_at m g ls k).accepted
  pub told_deliveries : (k : ℕ) → Each (HasTold (lines_told (course_of m) (begun m g) (take k ls))) (world_at m g ls k).hosts
  pub told_restarts : (k : ℕ) → Each (HasGoneOn (lines_told (course_of m) (begun m g) (take k ls))) (world_at m g ls k).hosts
  pub restarted : (k member : ℕ) → slice_get ls k ≡ Some (lines.Restart member) → HasRestarted m (world_at m g ls k) (world_at m g ls (k + 1)) member
  pub taught : (k : ℕ) (line : Line) → slice_get ls k ≡ Some line
      → HasTaught (world_at m g ls k) (lines_told (course_of m) (begun m g) (take k ls)) (lines_told (course_of m) (begun m g) (take (k + 1) ls)) line
  pub past_known : (j k : ℕ) → Each (λ a. IsPast (world_at m g ls j).sent (lines_told (course_of m) (begun m g) (take j ls)) a.request) (world_at m g ls k).accepted
  pub witnessed : (k : ℕ) → IsWitnessed (world_at m g ls k)
