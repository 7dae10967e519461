-- What each event of a world keeps, the lines of a script keep.
use Rattle.std.proofs.Common.{◌≡◌, not, ℕ, zero, suc, ◌+◌, ◌^◌, ◌<◌, ◌≤◌, ◌++◌, ◌∙◌, ◌&&◌, ◌||◌, ◌==◌, arith, Bool, true, false, List, [], ◌∷◌, length, refl, ap, cond, Option, Some, None, is_some, nat_lt, nat_le, inl, inr, ◌⊎◌, subst, Result, Ok, Err, ◌-◌, sym, append-nil, append_assoc, take, drop, eqb-true}
use Rattle.replica_rules.specs.Replicas.{views_after}
use Rattle.std.proofs.lemmas.Bool.{ltb-true, leb-true, leb-false, or_parts}
use Rattle.std.specs.Prelude.{slice_get, slice_set, insert, get_or}
use Rattle.std.specs.Option.{option_and_then}
use Rattle.std.proofs.lemmas.List.{length-drop}
use Rattle.smart_base.specs.Cuts.{IsBytes, Cut, whole, limited}
use Rattle.smart_base.specs.Lists.{or_else, Each}
use Rattle.smart_base.specs.Views.{View, present}
use Rattle.smart_statements.specs.Kinds.{requests}
use Rattle.smart_messages.specs.Messages.{Fits, spelling, decoded, message_at, FitsContent, content}
use Rattle.smart_messages.proofs.Messages.{decoded_is, spelling_is}
use Rattle.smart_messages.specs.declared.message.Message.{Message}
use Rattle.smart_statements.specs.declared.statement.Request.{Request}
use Rattle.smart_messages.specs.declared.message.Message.TheVariants.{Ask, Reply}
use Rattle.smart_messages.specs.declared.message.Message.TheVariants as changes
use Rattle.smart_statements.specs.declared.entry.NodeEvent.{NodeEvent}
use Rattle.smart_statements.specs.declared.entry.NodeEvent.TheVariants.{Arrive, Tick, Deliver, Firm}
use Rattle.replica_rules.specs.Seals.{signed}
use Rattle.node_rules.specs.Nodes.{Node, next_place, view_of}
use Rattle.node_rules.specs.Steps.{Outcome, leaving}
use Rattle.node_rules.specs.Reopening.{reopened_from, damage_of}
use Rattle.store_laws.specs.Restored.{Images}
use Rattle.store_laws.specs.States.{MayLeave, is_due}
use Rattle.world_rules.specs.Crashes.{images_left, wrong_images}
use Rattle.world_rules.specs.declared.crash.Image.{Image}
use Rattle.world_rules.specs.declared.crash.Patch.{Patch}
use Rattle.world_rules.specs.declared.crash.NotAnImage as stores
use Rattle.member_store.proofs.Told.{may_leave}
use Rattle.node_rules.specs.declared.node.Held.{Held}
use Rattle.node_rules.specs.declared.node.Target.TheVariants as targets
use Rattle.world_rules.specs.Secrets.{group_secret}
use Rattle.world_rules.specs.Premises.{is_among, too_many, is_forged, texts_in, collides, texts_met, bytes_of, too_many_in}
use Rattle.world_rules.specs.Injections.{content_by, content_of, are_bytes, content_from, injected_bytes, injected}
use Rattle.client_quorum.specs.Clients.{request_of, asking, learning}
use Rattle.client_quorum.specs.Readings.{word_read}
use Rattle.world_rules.specs.Clients.{heard_word}
use Rattle.world_rules.specs.Worlds.{Course, Host, World, is_up, remembered, life_called, switching_after, store_after, parts_held, host_crashed, crashes_with, host_crashes, crashes, host_resumed, resumes_from, host_resumes, resumes, restart_at, at_host, summary, telling, posts, sends_all, told_drop, told_fired, host_after, chosen_with, stepped, is_gone, is_rogue, new_host, adds_unless, adds_node, is_name, hosts_below, host_takes, node_takes, disk_called, hears_firm, host_calls, calls_disk, takes_due, settle_once, settle, told_absent, settle_present, settle_all, gives, hearing, client_hears, hears_bytes, client_takes, client_asks, ask_found, asks, client_repeats, repeat_found, repeats, learns, learns_from, tells, goes, flow_sent, flow_once, is_listed, where_listed, at_listed, each_listed, host_index, at_index, at_member, arrives, arrives_at, sent_arrives, give_number, told_idle, telling_all, host_tries, tries_at, tries_each, give_one, shown_host, shown_client, shows, declares_faulty, declares_rogue, injects_content, injects, is_halted, heard_by, asked_in, reaches, meets, snapshot_in, takes_met, breaking, ending_few}
use Rattle.world_rules.specs.Repeats.{repeated}
use Rattle.store_laws.specs.Stops.{is_installed}
use Rattle.world_rules.specs.Plays.{line_played, rested, world_after}
use Rattle.client_quorum.specs.declared.client.Client.{Client}
use Rattle.client_quorum.specs.declared.client.Word.{Word}
use Rattle.client_quorum.specs.declared.client.Word.TheVariants as words
use Rattle.client_quorum.specs.declared.client.Heard.{Heard}
use Rattle.world_rules.specs.declared.line.Line.{Line}
use Rattle.world_rules.specs.declared.line.Line.TheVariants as lines
use Rattle.world_rules.specs.declared.line.OutLine.{OutLine}
use Rattle.world_rules.specs.declared.line.OutLine.TheVariants as outs
use Rattle.world_rules.specs.declared.message.Content.{Content}
use Rattle.world_rules.specs.declared.message.Content.TheVariants as contents
use Rattle.world_rules.specs.declared.message.Origin.TheVariants as origins
use Rattle.world_rules.specs.declared.message.Sent.{Sent}
use Rattle.world_rules.specs.declared.message.Ending.{Ending}
use Rattle.world_rules.specs.declared.message.Ending.TheVariants.{Limit, Premise}
use Rattle.world_rules.specs.declared.message.Premise.TheVariants.{TooManyFaulty, Forged, Collision, NotAnImage}
use Rattle.world_rules.specs.declared.line.Injection.{Injection}
use Rattle.world_laws.specs.Sending.{IsUnread}
use Rattle.vote_book.specs.Books.{Among}
use Rattle.node_rules.specs.Transfers.{completed_by}
use Rattle.world_laws.proofs.Meeting.{all-met, broken}
use Rattle.world_laws.proofs.Lists.{repeated_keeps, until_rest_keeps, each_from_keeps}
use Rattle.std.specs.List.{flat_map}
use Rattle.smart_base.specs.declared.party.Party.{Party}
use Rattle.smart_base.specs.declared.party.Party.TheVariants as parties
use Rattle.node_rules.specs.declared.node.Fired.{Fired}
use Rattle.node_rules.specs.declared.node.Fired.TheVariants as fires
use Rattle.node_rules.specs.declared.node.Why.{Why}
use Rattle.agreement_laws.proofs.Lists.{not_false, not_true, either_by, some_equal, either, each_append}
use Rattle.smart_base.proofs.SameLists.{and_true}

-- what is sent

-- what a node lets go
abbrev pub from_node : {S : Type 0} → World S → ℕ → View → Held → Sent
from_node w id view h = record { origin = origins.Node id; to = heard_by view (asked_in w.clients) h.to; content = contents.Message h.message }

-- what a client sends, to the members of its present view
abbrev pub from_client : Client → Message → Sent
from_client c message = record { origin = origins.Client c.id; to = heard_by (present c.views) [] targets.View; content = contents.Message message }

-- what a script injects
abbrev pub from_script : Content → Sent
from_script content = record { origin = origins.Script; to = []; content = content }

-- a content was sent
abbrev pub HasContent : List Sent → Content → Type 0
HasContent [] content = ⊥
HasContent (s ∷ sent) content = (s.content ≡ content) ⊎ HasContent sent content

-- a message was sent
abbrev pub HasMessage : List Sent → Message → Type 0
HasMessage sent message = HasContent sent (contents.Message message)

-- bytes are those of a content that was sent
pub record IsSent (sent : List Sent) (bytes : List ℕ) : Type 0 where
  pub content : Content
  pub spelled : bytes ≡ bytes_of content
  pub has : HasContent sent content

-- a node hears how many entries of its life are firm in its host's store, where more are than it knows
pub record Hears {S : Type 0} (h : Host S) (count : ℕ) : Type 0 where
  pub more : h.node.firm < h.store.firm
  pub life : count ≡ h.store.firm - h.node.restored

-- what may come to a node: the bytes of a content that was sent, and what is firm in its host's store
abbrev pub MayCome : {S : Type 0} → World S → Host S → NodeEvent → Type 0
MayCome w h (Arrive bytes) = IsSent w.sent bytes
MayCome w h Tick = Unit {0}
MayCome w h Deliver = Unit {0}
MayCome w h (Firm count) = Hears h count

-- What may come to a node while nothing has ended the play. The text that it completes was met.
pub record MayTake {S : Type 0} (w : World S) (h : Host S) (event : NodeEvent) : Type 0 where
  pub on : w.ending ≡ None
  pub come : MayCome w h event
  pub met : Each (λ text. Among text (texts_met w.sent w.marked)) (completed_by h.node event)

-- how a content is read: a message whose parts have spellings, if it is not too long, from it as itself, and bytes that are none, not at all
abbrev pub IsRead : Content → Type 0
IsRead (contents.Message message) = FitsContent message
IsRead (contents.Raw bytes) = IsUnread bytes

-- a request of a client, with its tag
abbrev pub signed_by : Client → Request → Message
signed_by c q = Ask (signed requests group_secret c.id q)

-- the request that a client asks, with its tag
abbrev pub ask_of : Client → List ℕ → Message
ask_of c op = signed_by c (request_of c op)

-- the world in which a client has asked and its request has not left
abbrev pub asked_by : {S : Type 0} → World S → ℕ → Client → List ℕ → World S
asked_by w i c op = record w { clients = slice_set w.clients i (asking c (request_of c op)) }

-- the world in which a client has learned of a place
abbrev pub learned_by : {S : Type 0} → World S → ℕ → Client → ℕ → World S
learned_by w i c place = record w { clients = slice_set w.clients i (learning c place) }

-- the world with another host at an index
abbrev pub with_host : {S : Type 0} → World S → ℕ → Host S → World S
with_host w i h = record w { hosts = slice_set w.hosts i h }

-- the host whose store has made its next device call, and whose node has heard nothing of it
abbrev pub after_call : {S : Type 0} → Course S → Host S → Host S
after_call course h = record h { store = store_after h; switching = switching_after h (store_after h); life = remembered course h.life (life_called h.life (store_after h)) }

-- the world with that host
abbrev pub called : {S : Type 0} → Course S → World S → ℕ → Host S → World S
called course w i h = with_host w i (after_call course h)

-- the entries that the devices of a host hold, and the node that goes on from what they hold
abbrev pub entries_left : {S : Type 0} → Host S → List (List ℕ)
entries_left h = (parts_held h).entries

abbrev pub node_resumed : {S : Type 0} → Course S → World S → Host S → Node S
node_resumed course w h = reopened_from course.meaning group_secret h.node.id w.view w.period (parts_held h)

-- what it tells
abbrev pub resumed_line : {S : Type 0} → Course S → World S → Host S → OutLine
resumed_line course w h = outs.Restarted h.node.id (node_resumed course w h).replica.place (length (entries_left h))

-- a member that has no host, and whose number is one of a member
pub record IsNew {S : Type 0} (w : World S) (member : ℕ) : Type 0 where
  pub none : host_index w.hosts member ≡ None
  pub low : 1 ≤ member
  pub high : member ≤ 65535

-- the world with the host of a new node of a member at an index
abbrev pub added : {S : Type 0} → Course S → World S → ℕ → ℕ → World S
added course w i member = record w { hosts = insert w.hosts i (new_host course.meaning w member) }

-- a host's node runs, or its member has crashed; it is not gone
abbrev pub IsUp : {S : Type 0} → World S → Host S → Type 0
IsUp w h = (h.up ≡ true) × (is_among w.faulty h.node.id ≡ false)

abbrev pub IsDown : {S : Type 0} → World S → Host S → Type 0
IsDown w h = (h.up ≡ false) × (is_among w.faulty h.node.id ≡ false)

-- what a client tells that has
abbrev pub learned_line : Client → ℕ → OutLine
learned_line c place = outs.Learned c.id (learning c place).seen

-- a transcript line that tells of no place that a client knows: of no accepted reply, and of none that it was told
abbrev pub IsBeside : OutLine → Type 0
IsBeside (outs.Group members faulty app period) = Unit {0}
IsBeside (outs.Sent number origin summary) = Unit {0}
IsBeside (outs.Decided member place) = Unit {0}
IsBeside (outs.Installed member place) = Unit {0}
IsBeside (outs.Delivered member place executed) = Unit {0}
IsBeside (outs.View member number) = Unit {0}
IsBeside (outs.Promised member number regency) = Unit {0}
IsBeside (outs.Synced member number regency base bound) = Unit {0}
IsBeside (outs.Dropped member why) = Unit {0}
IsBeside (outs.Counted client have need) = Unit {0}
IsBeside (outs.Accepted client seq place index reply) = ⊥
IsBeside (outs.Viewed client have need) = Unit {0}
IsBeside (outs.Moved client number) = Unit {0}
IsBeside (outs.Ignored client why) = Unit {0}
IsBeside (outs.Busy client seq) = Unit {0}
IsBeside (outs.Absent member) = Unit {0}
IsBeside (outs.Crashed member) = Unit {0}
IsBeside (outs.Restarted member place entries) = Unit {0}
IsBeside (outs.Down member) = Unit {0}
IsBeside (outs.Idle member) = Unit {0}
IsBeside (outs.IdleClient client) = Unit {0}
IsBeside (outs.Learned client place) = ⊥
IsBeside (outs.Stands member place number regency) = Unit {0}
IsBeside (outs.Seen client place) = Unit {0}
IsBeside (outs.End lines messages) = Unit {0}

-- a transcript line that tells of no delivery and no restart either
abbrev pub IsAside : OutLine → Type 0
IsAside (outs.Group members faulty app period) = Unit {0}
IsAside (outs.Sent number origin summary) = Unit {0}
IsAside (outs.Decided member place) = Unit {0}
IsAside (outs.Installed member place) = ⊥
IsAside (outs.Delivered member place executed) = ⊥
IsAside (outs.View member number) = Unit {0}
IsAside (outs.Promised member number regency) = Unit {0}
IsAside (outs.Synced member number regency base bound) = Unit {0}
IsAside (outs.Dropped member why) = Unit {0}
IsAside (outs.Counted client have need) = Unit {0}
IsAside (outs.Accepted client seq place index reply) = ⊥
IsAside (outs.Viewed client have need) = Unit {0}
IsAside (outs.Moved client number) = Unit {0}
IsAside (outs.Ignored client why) = Unit {0}
IsAside (outs.Busy client seq) = Unit {0}
IsAside (outs.Absent member) = Unit {0}
IsAside (outs.Crashed member) = Unit {0}
IsAside (outs.Restarted member place entries) = ⊥
IsAside (outs.Down member) = Unit {0}
IsAside (outs.Idle member) = Unit {0}
IsAside (outs.IdleClient client) = Unit {0}
IsAside (outs.Learned client place) = ⊥
IsAside (outs.Stands member place number regency) = Unit {0}
IsAside (outs.Seen client place) = Unit {0}
IsAside (outs.End lines messages) = Unit {0}

-- it tells of no place either
pub aside_beside : (line : OutLine) → IsAside line → IsBeside line
aside_beside (outs.Group members faulty app period) aside = tt
aside_beside (outs.Sent number origin summary) aside = tt
aside_beside (outs.Decided member place) aside = tt
aside_beside (outs.Installed member place) aside = absurd aside
aside_beside (outs.Delivered member place executed) aside = absurd aside
aside_beside (outs.View member number) aside = tt
aside_beside (outs.Promised member number regency) aside = tt
aside_beside (outs.Synced member number regency base bound) aside = tt
aside_beside (outs.Dropped member why) aside = tt
aside_beside (outs.Counted client have need) aside = tt
aside_beside (outs.Accepted client seq place index reply) aside = absurd aside
aside_beside (outs.Viewed client have need) aside = tt
aside_beside (outs.Moved client number) aside = tt
aside_beside (outs.Ignored client why) aside = tt
aside_beside (outs.Busy client seq) aside = tt
aside_beside (outs.Absent member) aside = tt
aside_beside (outs.Crashed member) aside = tt
aside_beside (outs.Restarted member place entries) aside = absurd aside
aside_beside (outs.Down member) aside = tt
aside_beside (outs.Idle member) aside = tt
aside_beside (outs.IdleClient client) aside = tt
aside_beside (outs.Learned client place) aside = absurd aside
aside_beside (outs.Stands member place number regency) aside = tt
aside_beside (outs.Seen client place) aside = tt
aside_beside (outs.End lines messages) aside = tt

-- who is faulty and who is rogue from now on, and how the play ended: more are, not too many, and what has ended stays so
pub record Declares {S : Type 0} (w : World S) (faulty rogue : List ℕ) (ending : Option Ending) : Type 0 where
  pub more_faulty : (member : ℕ) → is_among w.faulty member ≡ true → is_among faulty member ≡ true
  pub more_rogue : (client : ℕ) → is_among w.rogue client ≡ true → is_among rogue client ≡ true
  pub few : (v : View) → Among v (views_after w.view w.chosen) → too_many v w.faulty ≡ false → too_many v faulty ≡ false
  pub over : ending ≡ None → w.ending ≡ None

-- a fact on worlds that each event keeps, but that a node goes on
pub record Keeps {S : Type 0} (course : Course S) (P : World S → Type 0) : Type 0 where
  -- the node of a host takes an event
  pub event : (w : World S) (i : ℕ) (h : Host S) (event : NodeEvent) → IsUp w h → slice_get w.hosts i ≡ Some h → MayTake w h event → P w → P (stepped course w i h (course.step h.node event))
  -- texts are met
  pub meet : (w : World S) (texts : List (List ℕ)) → w.ending ≡ None → P w → P (meets w texts)
  -- the store of a host makes a device call
  pub disk : (w : World S) (i : ℕ) (h : Host S) → IsUp w h → slice_get w.hosts i ≡ Some h → P w → P (called course w i h)
  -- the node of a host stops, and a crash leaves this of its devices
  pub crash : (w : World S) (i : ℕ) (h : Host S) (left : Images) → IsUp w h → slice_get w.hosts i ≡ Some h → MayLeave h.store.devices left → P w → P (with_host w i (host_crashed course h left))
  -- a client hears the bytes of a content that are read as a member's word
  pub hear : (w : World S) (i : ℕ) (c : Client) (x : Content) (a : Word) → w.ending ≡ None → slice_get w.clients i ≡ Some c → HasContent w.sent x → word_read (decoded (bytes_of x)) ≡ Some a
      → P w → P (hearing w i c a (heard_word c a))
  -- a client asks
  pub ask : (w : World S) (i : ℕ) (c : Client) (op : List ℕ) → slice_get w.clients i ≡ Some c → c.waiting ≡ None → c.last + 1 < 2 ^ 63 → length op ≤ 4096 → P w
      → P (posts (asked_by w i c op) (from_client c (ask_of c op)))
  -- a client sends the request that waits once more
  pub again : (w : World S) (i : ℕ) (c : Client) (q : Request) → slice_get w.clients i ≡ Some c → c.waiting ≡ Some q → P w → P (posts w (from_client c (signed_by c q)))
  -- a client learns of the greatest place that another knows
  pub learn : (w : World S) (i j : ℕ) (c d : Client) → slice_get w.clients i ≡ Some c → slice_get w.clients j ≡ Some d → P w → P (learned_by w i c d.seen)
  -- a script injects what is not forged
  pub inject : (w : World S) (x : Content) → IsRead x → is_forged w.faulty w.rogue w.sent x ≡ false → P w → P (posts w (from_script x))
  -- a member is faulty or a client is rogue from now on, or the play ends
  pub declare : (w : World S) (faulty rogue : List ℕ) (ending : Option Ending) → Declares w faulty rogue ending → P w → P (record w { faulty = faulty; rogue = rogue; ending = ending })
  -- nothing but the flow's mark and the transcript changes
  pub same : (w : World S) (mark : ℕ) (told : List OutLine) → P w → P (record w { mark = mark; told = told })

-- the same, but that a node takes an event
pub record KeepsBut {S : Type 0} (course : Course S) (P : World S → Type 0) : Type 0 where
  -- texts are met
  pub meet : (w : World S) (texts : List (List ℕ)) → w.ending ≡ None → P w → P (meets w texts)
  -- the store of a host makes a device call
  pub disk : (w : World S) (i : ℕ) (h : Host S) → IsUp w h → slice_get w.hosts i ≡ Some h → P w → P (called course w i h)
  -- the node of a host stops, and a crash leaves this of its devices
  pub crash : (w : World S) (i : ℕ) (h : Host S) (left : Images) → IsUp w h → slice_get w.hosts i ≡ Some h → MayLeave h.store.devices left → P w → P (with_host w i (host_crashed course h left))
  -- a client hears the bytes of a content that are read as a member's word
  pub hear : (w : World S) (i : ℕ) (c : Client) (x : Content) (a : Word) → w.ending ≡ None → slice_get w.clients i ≡ Some c → HasContent w.sent x → word_read (decoded (bytes_of x)) ≡ Some a
      → P w → P (hearing w i c a (heard_word c a))
  -- a client asks
  pub ask : (w : World S) (i : ℕ) (c : Client) (op : List ℕ) → slice_get w.clients i ≡ Some c → c.waiting ≡ None → c.last + 1 < 2 ^ 63 → length op ≤ 4096 → P w
      → P (posts (asked_by w i c op) (from_client c (ask_of c op)))
  -- a client sends the request that waits once more
  pub again : (w : World S) (i : ℕ) (c : Client) (q : Request) → slice_get w.clients i ≡ Some c → c.waiting ≡ Some q → P w → P (posts w (from_client c (signed_by c q)))
  -- a client learns of the greatest place that another knows
  pub learn : (w : World S) (i j : ℕ) (c d : Client) → slice_get w.clients i ≡ Some c → slice_get w.clients j ≡ Some d → P w → P (learned_by w i c d.seen)
  -- a script injects what is not forged
  pub inject : (w : World S) (x : Content) → IsRead x → is_forged w.faulty w.rogue w.sent x ≡ false → P w → P (posts w (from_script x))
  -- a member is faulty or a client is rogue from now on, or the play ends
  pub declare : (w : World S) (faulty rogue : List ℕ) (ending : Option Ending) → Declares w faulty rogue ending → P w → P (record w { faulty = faulty; rogue = rogue; ending = ending })
  -- nothing but the flow's mark and the transcript changes
  pub same : (w : World S) (mark : ℕ) (told : List OutLine) → P w → P (record w { mark = mark; told = told })

-- and that, too
pub record KeepsAll {S : Type 0} (course : Course S) (P : World S → Type 0) : Type 0 where
  pub kept : Keeps course P
  -- a node goes on from what its devices hold
  pub resume : (w : World S) (i : ℕ) (h : Host S) → IsDown w h → slice_get w.hosts i ≡ Some h → P w → P (with_host w i (host_resumed h (node_resumed course w h)))
  -- a new node is added
  pub add : (w : World S) (i member : ℕ) → w.ending ≡ None → IsNew w member → P w → P (added course w i member)

-- a fact on worlds that each event of members that run keeps, while nothing has ended the play
pub record KeepsLive {S : Type 0} (course : Course S) (P : World S → Type 0) : Type 0 where
  -- the node of a host takes an event
  pub event : (w : World S) (i : ℕ) (h : Host S) (event : NodeEvent) → w.ending ≡ None → IsUp w h → slice_get w.hosts i ≡ Some h → MayTake w h event → P w
      → P (stepped course w i h (course.step h.node event))
  -- texts are met
  pub meet : (w : World S) (texts : List (List ℕ)) → w.ending ≡ None → P w → P (meets w texts)
  -- the store of a host makes a device call
  pub disk : (w : World S) (i : ℕ) (h : Host S) → w.ending ≡ None → IsUp w h → slice_get w.hosts i ≡ Some h → P w → P (called course w i h)
  -- a client hears the bytes of a content that are read as a member's word
  pub hear : (w : World S) (i : ℕ) (c : Client) (x : Content) (a : Word) → w.ending ≡ None → slice_get w.clients i ≡ Some c → HasContent w.sent x → word_read (decoded (bytes_of x)) ≡ Some a
      → P w → P (hearing w i c a (heard_word c a))
  -- a client asks
  pub ask : (w : World S) (i : ℕ) (c : Client) (op : List ℕ) → w.ending ≡ None → slice_get w.clients i ≡ Some c → c.waiting ≡ None → c.last + 1 < 2 ^ 63 → length op ≤ 4096 → P w
      → P (posts (asked_by w i c op) (from_client c (ask_of c op)))
  -- a client sends the request that waits once more
  pub again : (w : World S) (i : ℕ) (c : Client) (q : Request) → w.ending ≡ None → slice_get w.clients i ≡ Some c → c.waiting ≡ Some q → P w → P (posts w (from_client c (signed_by c q)))
  -- a client learns of the greatest place that another knows, and tells what it knows then
  pub learn : (w : World S) (i j : ℕ) (c d : Client) → w.ending ≡ None → slice_get w.clients i ≡ Some c → slice_get w.clients j ≡ Some d → P w
      → P (telling (learned_by w i c d.seen) (learned_line c d.seen))
  -- a script injects what is not forged
  pub inject : (w : World S) (x : Content) → w.ending ≡ None → IsRead x → is_forged w.faulty w.rogue w.sent x ≡ false → P w → P (posts w (from_script x))
  -- a member is faulty or a client is rogue from now on, or the play ends
  pub declare : (w : World S) (faulty rogue : List ℕ) (ending : Option Ending) → w.ending ≡ None → Declares w faulty rogue ending → P w
      → P (record w { faulty = faulty; rogue = rogue; ending = ending })
  -- a flow goes on to the message behind the mark
  pub mark : (w : World S) (s : Sent) → w.ending ≡ None → slice_get w.sent w.mark ≡ Some s → P w → P (record w { mark = w.mark + 1 })
  -- a line is told that tells of no place that a client knows, of no delivery and of no restart, and nothing else changes
  pub tell : (w : World S) (line : OutLine) → IsAside line → P w → P (telling w line)

-- a fact that crashes keep, too, and nodes that go on
pub record KeepsLives {S : Type 0} (course : Course S) (P : World S → Type 0) : Type 0 where
  pub live : KeepsLive course P
  -- the node of a host stops, and a crash leaves this of its devices
  pub crash : (w : World S) (i : ℕ) (h : Host S) (left : Images) → w.ending ≡ None → IsUp w h → slice_get w.hosts i ≡ Some h → MayLeave h.store.devices left → P w
      → P (with_host w i (host_crashed course h left))
  -- a node goes on from what its devices hold, and tells that
  pub resume : (w : World S) (i : ℕ) (h : Host S) → w.ending ≡ None → IsDown w h → slice_get w.hosts i ≡ Some h → P w
      → P (telling (with_host w i (host_resumed h (node_resumed course w h))) (resumed_line course w h))
  -- a new node is added
  pub add : (w : World S) (i member : ℕ) → w.ending ≡ None → IsNew w member → P w → P (added course w i member)

-- the same of what nodes and their stores do
pub record KeepsNodes {S : Type 0} (course : Course S) (P : World S → Type 0) : Type 0 where
  -- the node of a host takes an event
  pub event : (w : World S) (i : ℕ) (h : Host S) (event : NodeEvent) → w.ending ≡ None → IsUp w h → slice_get w.hosts i ≡ Some h → MayTake w h event → P w
      → P (stepped course w i h (course.step h.node event))
  -- texts are met
  pub meet : (w : World S) (texts : List (List ℕ)) → w.ending ≡ None → P w → P (meets w texts)
  -- the store of a host makes a device call
  pub disk : (w : World S) (i : ℕ) (h : Host S) → w.ending ≡ None → IsUp w h → slice_get w.hosts i ≡ Some h → P w → P (called course w i h)

-- the same of all that happens but that somebody is declared faulty or rogue, or a node is added
pub record KeepsCalm {S : Type 0} (course : Course S) (P : World S → Type 0) : Type 0 where
  -- the node of a host takes an event
  pub event : (w : World S) (i : ℕ) (h : Host S) (event : NodeEvent) → w.ending ≡ None → IsUp w h → slice_get w.hosts i ≡ Some h → MayTake w h event → P w
      → P (stepped course w i h (course.step h.node event))
  -- texts are met
  pub meet : (w : World S) (texts : List (List ℕ)) → w.ending ≡ None → P w → P (meets w texts)
  -- the store of a host makes a device call
  pub disk : (w : World S) (i : ℕ) (h : Host S) → w.ending ≡ None → IsUp w h → slice_get w.hosts i ≡ Some h → P w → P (called course w i h)
  -- a client hears the bytes of a content that are read as a member's word
  pub hear : (w : World S) (i : ℕ) (c : Client) (x : Content) (a : Word) → w.ending ≡ None → slice_get w.clients i ≡ Some c → HasContent w.sent x → word_read (decoded (bytes_of x)) ≡ Some a
      → P w → P (hearing w i c a (heard_word c a))
  -- a client asks
  pub ask : (w : World S) (i : ℕ) (c : Client) (op : List ℕ) → w.ending ≡ None → slice_get w.clients i ≡ Some c → c.waiting ≡ None → c.last + 1 < 2 ^ 63 → length op ≤ 4096 → P w
      → P (posts (asked_by w i c op) (from_client c (ask_of c op)))
  -- a client sends the request that waits once more
  pub again : (w : World S) (i : ℕ) (c : Client) (q : Request) → w.ending ≡ None → slice_get w.clients i ≡ Some c → c.waiting ≡ Some q → P w → P (posts w (from_client c (signed_by c q)))
  -- a client learns of the greatest place that another knows, and tells what it knows then
  pub learn : (w : World S) (i j : ℕ) (c d : Client) → w.ending ≡ None → slice_get w.clients i ≡ Some c → slice_get w.clients j ≡ Some d → P w
      → P (telling (learned_by w i c d.seen) (learned_line c d.seen))
  -- a script injects what is not forged
  pub inject : (w : World S) (x : Content) → w.ending ≡ None → IsRead x → is_forged w.faulty w.rogue w.sent x ≡ false → P w → P (posts w (from_script x))
  -- the play ends
  pub end : (w : World S) (ending : Ending) → w.ending ≡ None → P w → P (record w { ending = Some ending })
  -- a flow goes on to the message behind the mark
  pub mark : (w : World S) (s : Sent) → w.ending ≡ None → slice_get w.sent w.mark ≡ Some s → P w → P (record w { mark = w.mark + 1 })
  -- a line is told that tells of no place that a client knows, of no delivery and of no restart, and nothing else changes
  pub tell : (w : World S) (line : OutLine) → IsAside line → P w → P (telling w line)

pub record KeepsCalmLives {S : Type 0} (course : Course S) (P : World S → Type 0) : Type 0 where
  pub calm : KeepsCalm course P
  -- the node of a host stops, and a crash leaves this of its devices
  pub crash : (w : World S) (i : ℕ) (h : Host S) (left : Images) → w.ending ≡ None → IsUp w h → slice_get w.hosts i ≡ Some h → MayLeave h.store.devices left → P w
      → P (with_host w i (host_crashed course h left))
  -- a node goes on from what its devices hold, and tells that
  pub resume : (w : World S) (i : ℕ) (h : Host S) → w.ending ≡ None → IsDown w h → slice_get w.hosts i ≡ Some h → P w
      → P (telling (with_host w i (host_resumed h (node_resumed course w h))) (resumed_line course w h))

-- what is kept of all that happens, is of what nodes do
pub nodes_of : {S : Type 0} (course : Course S) (P : World S → Type 0) → KeepsCalm course P → KeepsNodes course P
nodes_of course P k = record { event = k.event; meet = k.meet; disk = k.disk }

-- few of one of some views are faulty, if few of each are
pub few_of : (faulty : List ℕ) (views : List View) (v : View) → too_many_in views faulty ≡ false → Among v views → too_many v faulty ≡ false
few_of faulty [] v few there = absurd there
few_of faulty (u ∷ us) v few there =
    let parts = or_parts (too_many u faulty) (too_many_in us faulty) few in
    elim there [ inl same ↦ subst (λ (x : View). too_many x faulty ≡ false) (sym same) parts.0 | inr later ↦ few_of faulty us v parts.1 later ]

-- the play ends
pub ends : {S : Type 0} (w : World S) (ending : Ending) → Declares w w.faulty w.rogue (Some ending)
ends w ending = record { more_faulty = λ member is. is; more_rogue = λ client is. is; few = λ v there is. is; over = λ none. absurd (some_none none) }
  where
    some_none : Some ending ≡ None → ⊥
    some_none same = cc

-- what is kept whoever is declared, is kept where nobody is
pub calm : {S : Type 0} (course : Course S) (P : World S → Type 0) → KeepsLive course P → KeepsCalm course P
calm course P k =
    record {
      event = k.event;
      meet = k.meet;
      disk = k.disk;
      hear = k.hear;
      ask = k.ask;
      again = k.again;
      learn = k.learn;
      inject = k.inject;
      end = λ w ending on p. k.declare w w.faulty w.rogue (Some ending) on (ends w ending) p;
      mark = k.mark;
      tell = k.tell;
    }

pub calm_lives : {S : Type 0} (course : Course S) (P : World S → Type 0) → KeepsLives course P → KeepsCalmLives course P
calm_lives course P k = record { calm = calm course P k.live; crash = k.crash; resume = k.resume }

-- what each event keeps whatever was said of the ending, it keeps while nothing has ended the play
pub live : {S : Type 0} (course : Course S) (P : World S → Type 0) → Keeps course P → KeepsLive course P
live course P k =
    record {
      event = λ w i h event on up at may p. k.event w i h event up at may p;
      meet = λ w texts on p. k.meet w texts on p;
      disk = λ w i h on up at p. k.disk w i h up at p;
      hear = λ w i c x a on at has read p. k.hear w i c x a on at has read p;
      ask = λ w i c op on at free low brief p. k.ask w i c op at free low brief p;
      again = λ w i c q on at is p. k.again w i c q at is p;
      learn = λ w i j c d on at other p. k.same (learned_by w i c d.seen) w.mark (w.told ++ learned_line c d.seen ∷ []) (k.learn w i j c d at other p);
      inject = λ w x on read fine p. k.inject w x read fine p;
      declare = λ w faulty rogue ending on how p. k.declare w faulty rogue ending how p;
      mark = λ w s on at p. k.same w (w.mark + 1) w.told p;
      tell = λ w line aside p. k.same w w.mark (w.told ++ line ∷ []) p;
    }

-- through all lives
pub lives : {S : Type 0} (course : Course S) (P : World S → Type 0) → KeepsAll course P → KeepsLives course P
lives course P k =
    record {
      live = live course P k.kept;
      crash = λ w i h left on up at may p. k.kept.crash w i h left up at may p;
      resume = λ w i h on down at p. k.kept.same (with_host w i (host_resumed h (node_resumed course w h))) w.mark (w.told ++ resumed_line course w h ∷ []) (k.resume w i h down at p);
      add = k.add;
    }

-- messages leave

-- the world with one more message
abbrev pub numbered : {S : Type 0} → World S → Sent → World S
numbered w s =
    record w {
      sent = w.sent ++ s ∷ [];
      told = w.told ++ outs.Sent (length w.sent + 1) s.origin (summary s.content) ∷ [];
    }

-- one of two is there where the second is
ended_or : (ending : Option Ending) (e : Ending) → or_else ending (Some e) ≡ None → ⊥
ended_or None e none = cc
ended_or (Some f) e none = cc

-- what is sent has left, and clashes with no text that was met; or the play has ended, and nothing else has changed
pub by-posts-ended : {S : Type 0} (P : World S → Type 0) (w : World S) (s : Sent) → ((ending : Option Ending) → (ending ≡ None → ⊥) → P (record w { ending = ending }))
    → (collides (texts_met w.sent w.marked) (texts_in s.content) ≡ false → nat_lt (length w.sent) (2 ^ 24) ≡ true → P (numbered w s)) → P (posts w s)
unfolding posts
by-posts-ended P w s over on =
    either_by P (collides (texts_met w.sent w.marked) (texts_in s.content)) _ _ (λ clashes. over (breaking Collision w.ending) (λ none. broken Collision w.ending none))
    (λ free. either_by P (nat_lt (length w.sent) (2 ^ 24)) _ _ (λ room. on free room) (λ full. over (or_else w.ending (Some Limit)) (λ none. ended_or w.ending Limit none)))

-- the same where it does not matter that the play has ended
pub by-posts : {S : Type 0} (P : World S → Type 0) (w : World S) (s : Sent) → ((ending : Option Ending) → P (record w { ending = ending }))
    → (collides (texts_met w.sent w.marked) (texts_in s.content) ≡ false → nat_lt (length w.sent) (2 ^ 24) ≡ true → P (numbered w s)) → P (posts w s)
by-posts P w s over on = by-posts-ended P w s (λ ending ended. over ending) on

-- what is kept where a node lets a message go, is kept where it lets many go
pub keeps-sends_all : {S : Type 0} (P : World S → Type 0) (id : ℕ) (view : View) → ((w : World S) (h : Held) → P w → P (posts w (from_node w id view h))) → (w : World S) (held : List Held)
    → P w → P (sends_all id view w held)
keeps-sends_all P id view keeps w [] p = p
keeps-sends_all P id view keeps w (h ∷ hs) p = keeps-sends_all P id view keeps (posts w (from_node w id view h)) hs (keeps w h p)

-- messages stay

pub has_end : (sent : List Sent) (s : Sent) (x : Content) → HasContent sent x → HasContent (sent ++ s ∷ []) x
has_end [] s x has = absurd has
has_end (t ∷ sent) s x has = elim has [ inl here ↦ inl here | inr later ↦ inr (has_end sent s x later) ]

-- what was sent stays so where more is
pub has-posts : {S : Type 0} (x : Content) (w : World S) (s : Sent) → HasContent w.sent x → HasContent (posts w s).sent x
has-posts {S = S} x w s has = by-posts (λ (v : World S). HasContent v.sent x) w s (λ ending. has) (λ free room. has_end w.sent s x has)

-- and where a node has taken an event
pub has-stepped : {S : Type 0} (course : Course S) (w : World S) (i : ℕ) (h : Host S) (o : Outcome S) (x : Content) → HasContent w.sent x → HasContent (stepped course w i h o).sent x
unfolding stepped
has-stepped {S = S} course w i h o x has = keeps-sends_all (λ (v : World S). HasContent v.sent x) h.node.id (view_of o.node) (λ v held. has-posts x v (from_node v h.node.id (view_of o.node) held)) _ (leaving o.node.firm o.node.held) has

-- and where a client has heard a reply
pub has-hearing : {S : Type 0} (w : World S) (i : ℕ) (c : Client) (a : Word) (h : Heard) (x : Content) → HasContent w.sent x → HasContent (hearing w i c a h).sent x
unfolding hearing
has-hearing w i c a h x has = has

-- the same while nothing has ended the play
pub live-carries : {S : Type 0} (course : Course S) (P : World S → Type 0) (x : Content) → KeepsCalm course P → KeepsCalm course (λ w. P w × HasContent w.sent x)
live-carries course P x k =
    record {
      event = λ w i h event on up at may p. (k.event w i h event on up at may p.0, has-stepped course w i h (course.step h.node event) x p.1);
      meet = λ w texts on p. (k.meet w texts on p.0, p.1);
      disk = λ w i h on up at p. (k.disk w i h on up at p.0, p.1);
      hear = λ w i c y a on at has read p. (k.hear w i c y a on at has read p.0, has-hearing w i c a (heard_word c a) x p.1);
      ask = λ w i c op on at free low brief p. (k.ask w i c op on at free low brief p.0, has-posts x (asked_by w i c op) (from_client c (ask_of c op)) p.1);
      again = λ w i c q on at waits p. (k.again w i c q on at waits p.0, has-posts x w (from_client c (signed_by c q)) p.1);
      learn = λ w i j c d on at other p. (k.learn w i j c d on at other p.0, p.1);
      inject = λ w y on read fine p. (k.inject w y on read fine p.0, has-posts x w (from_script y) p.1);
      end = λ w ending on p. (k.end w ending on p.0, p.1);
      mark = λ w s on at p. (k.mark w s on at p.0, p.1);
      tell = λ w line aside p. (k.tell w line aside p.0, p.1);
    }

-- what is not there is nothing
pub none_is : {A : Type 0} (found : Option A) → is_some found ≡ false → found ≡ None
none_is None none = refl
none_is (Some x) none = absurd (cc)

-- a world in which something may happen has not ended
halted_none : {S : Type 0} (w : World S) → is_halted w ≡ false → w.ending ≡ None
halted_none w on = none_is w.ending on

-- hosts

-- a host that is up
pub is-up : {S : Type 0} (w : World S) (h : Host S) → is_up w h ≡ true → IsUp w h
is-up w h is = let both = and_true h.up (not (is_gone w h.node.id)) is in (both.0, not_true (is_gone w h.node.id) both.1)

-- what may come, may where texts were met
may_meets : {S : Type 0} (w : World S) (texts : List (List ℕ)) (h : Host S) (event : NodeEvent) → MayCome w h event → MayCome (meets w texts) h event
may_meets w texts h (Arrive bytes) may = may
may_meets w texts h Tick may = tt
may_meets w texts h Deliver may = tt
may_meets w texts h (Firm count) may = may

-- the text that an event completes is met, and then a host takes it, unless the play has ended
live-takes_met : {S : Type 0} (course : Course S) (P : World S → Type 0) → KeepsNodes course P → (i : ℕ) (event : NodeEvent) (w : World S) (h : Host S)
    → w.ending ≡ None → IsUp w h → slice_get w.hosts i ≡ Some h → MayCome w h event → P w → P (takes_met course i event w h)
live-takes_met {S = S} course P k i event w h on up at may p =
    let texts : List (List ℕ) = completed_by h.node event in
    let v : World S = meets w texts in
    let q : P v = k.meet w texts on p in
    either_by P (is_halted v) v _ (λ over. q)
    (λ goes. k.event v i h event (halted_none v goes) up at
    (record { on = halted_none v goes; come = may_meets w texts h event may; met = all-met w.sent w.marked w.ending texts (halted_none v goes) }) q)

-- a host that is found takes an event
live-host_takes : {S : Type 0} (course : Course S) (P : World S → Type 0) → KeepsNodes course P → (i : ℕ) (event : NodeEvent) (w : World S) (found : Option (Host S))
    → w.ending ≡ None → slice_get w.hosts i ≡ found → ((h : Host S) → found ≡ Some h → MayCome w h event) → P w → P (host_takes course i event w found)
live-host_takes course P k i event w None on at may p = p
live-host_takes course P k i event w (Some h) on at may p =
    either_by P (not (is_up w h)) w _ (λ not_up. p) (λ up. live-takes_met course P k i event w h on (is-up w h (not_false (is_up w h) up)) at (may h refl) p)

-- the node at an index takes an event
live-node_takes : {S : Type 0} (course : Course S) (P : World S → Type 0) → KeepsNodes course P → (i : ℕ) (event : NodeEvent) (w : World S)
    → ((h : Host S) → slice_get w.hosts i ≡ Some h → MayCome w h event) → P w → P (node_takes course i event w)
unfolding node_takes
live-node_takes course P k i event w may p = either_by P (is_halted w) w _ (λ over. p) (λ on. live-host_takes course P k i event w (slice_get w.hosts i) (halted_none w on) refl may p)

-- device calls

-- what is set at an index is there
pub set_there : {A : Type 0} (xs : List A) (i : ℕ) (x y : A) → slice_get xs i ≡ Some x → slice_get (slice_set xs i y) i ≡ Some y
set_there [] i x y at = absurd (cc)
set_there (z ∷ xs) zero x y at = refl
set_there (z ∷ xs) (suc i) x y at = set_there xs i x y at

-- the last that is set at an index stays
pub set_again : {A : Type 0} (xs : List A) (i : ℕ) (x y : A) → slice_set (slice_set xs i x) i y ≡ slice_set xs i y
set_again [] i x y = refl
set_again (z ∷ xs) zero x y = refl
set_again {A = A} (z ∷ xs) (suc i) x y = ap (λ (ys : List A). z ∷ ys) (set_again xs i x y)

-- the host that steps takes the place of any other
pub stepped-set : {S : Type 0} (course : Course S) (w : World S) (i : ℕ) (g h : Host S) (o : Outcome S) → stepped course (record w { hosts = slice_set w.hosts i g }) i h o ≡ stepped course w i h o
unfolding stepped
stepped-set {S = S} course w i g h o =
    ap (λ (hosts : List (Host S)). sends_all h.node.id (view_of o.node)
    (meets
    (record w {
      hosts = hosts;
      chosen = chosen_with w.chosen (next_place o.node) o.node.waiting;
      told = w.told ++ (told_drop h.node.id o.dropped ++ flat_map (told_fired h.node.id) o.fired);
      ending = ending_few w.view (chosen_with w.chosen (next_place o.node) o.node.waiting) w.faulty w.ending;
    })
    (flat_map snapshot_in o.fired))
    (leaving o.node.firm o.node.held)) (set_again w.hosts i g (host_after course h o))

-- what is firm completes nothing
firm_completes : {S : Type 0} (w : World S) (h : Host S) (count : ℕ) → Each (λ text. Among text (texts_met w.sent w.marked)) (completed_by h.node (Firm count))
unfolding completed_by
firm_completes w h count = tt

-- a node hears what is firm behind a call
live-hears_firm : {S : Type 0} (course : Course S) (P : World S → Type 0) → KeepsNodes course P → (i : ℕ) (w : World S) (h : Host S) → w.ending ≡ None → IsUp w h
    → slice_get w.hosts i ≡ Some h → P w → P (hears_firm course i w (disk_called course h))
unfolding disk_called
live-hears_firm course P k i w h on up at p =
    let g = after_call course h in
    either_by P (nat_lt h.node.firm g.store.firm) _ _
    (λ more. subst P (stepped-set course w i g g (course.step h.node (Firm (g.store.firm - h.node.restored))))
    (k.event (called course w i h) i g (Firm (g.store.firm - h.node.restored)) on up (set_there w.hosts i h g at)
    (record { on = on; come = record { more = ltb-true h.node.firm g.store.firm more; life = refl }; met = firm_completes (called course w i h) g (g.store.firm - h.node.restored) })
    (k.disk w i h on up at p)))
    (λ known. k.disk w i h on up at p)

-- the store of a host that is found makes a call, if there is one
live-host_calls : {S : Type 0} (course : Course S) (P : World S → Type 0) → KeepsNodes course P → (i : ℕ) (w : World S) (found : Option (Host S)) → w.ending ≡ None → slice_get w.hosts i ≡ found
    → P w → P (host_calls course i w found)
live-host_calls course P k i w None on at p = p
live-host_calls course P k i w (Some h) on at p =
    either_by P (not (is_up w h)) w _ (λ not_up. p)
    (λ up. either P (is_due is_installed h.store) _ w (live-hears_firm course P k i w h on (is-up w h (not_false (is_up w h) up)) at p) p)

-- the store at an index does
pub live-calls_disk : {S : Type 0} (course : Course S) (P : World S → Type 0) → KeepsNodes course P → (i : ℕ) (w : World S) → P w → P (calls_disk course i w)
unfolding calls_disk
live-calls_disk course P k i w p = either_by P (is_halted w) w _ (λ over. p) (λ on. live-host_calls course P k i w (slice_get w.hosts i) (halted_none w on) refl p)

-- what is due

-- a host that is found takes what is due
live-takes_due : {S : Type 0} (course : Course S) (P : World S → Type 0) → KeepsNodes course P → (i : ℕ) (w : World S) (found : Option (Host S)) → P w → P (takes_due course i w found)
live-takes_due course P k i w None p = p
live-takes_due course P k i w (Some h) p =
    either P (is_due is_installed h.store) _ _ (live-calls_disk course P k i w p) (either P (is_some h.node.waiting) _ w (live-node_takes course P k i Deliver w (λ g at. tt) p) p)

-- a node settles once
pub live-settle_once : {S : Type 0} (course : Course S) (P : World S → Type 0) → KeepsNodes course P → (i : ℕ) (w : World S) → P w → P (settle_once course i w)
unfolding settle_once
live-settle_once course P k i w p = live-takes_due course P k i w (slice_get w.hosts i) p

-- a node settles
pub live-settle : {S : Type 0} (course : Course S) (P : World S → Type 0) → KeepsNodes course P → (i : ℕ) (w : World S) → P w → P (settle course i w)
live-settle course P k i w p = until_rest_keeps P (settle_once course i) (live-settle_once course P k i) w p

-- members that a line lists

-- what happens at each index keeps, it keeps where the member is listed
where_listed-keeps : {S : Type 0} (P : World S → Type 0) (members : List ℕ) (f : ℕ → World S → World S) → ((i : ℕ) (w : World S) → P w → P (f i w)) → (i : ℕ) (w : World S) (found : Option (Host S))
    → P w → P (where_listed members f i w found)
where_listed-keeps P members f keeps i w None p = p
where_listed-keeps P members f keeps i w (Some h) p = either P (is_listed members h.node.id) (f i w) w (keeps i w p) p

pub at_listed-keeps : {S : Type 0} (P : World S → Type 0) (members : List ℕ) (f : ℕ → World S → World S) → ((i : ℕ) (w : World S) → P w → P (f i w)) → (i : ℕ) (w : World S) → P w → P (at_listed members f i w)
at_listed-keeps P members f keeps i w p = where_listed-keeps P members f keeps i w (slice_get w.hosts i) p

-- and at all that are
pub each_listed-keeps : {S : Type 0} (P : World S → Type 0) (members : List ℕ) (f : ℕ → World S → World S) → ((i : ℕ) (w : World S) → P w → P (f i w)) → (w : World S) → P w → P (each_listed members f w)
each_listed-keeps P members f keeps w p = each_from_keeps P (at_listed members f) (at_listed-keeps P members f keeps) (length w.hosts) 0 w p

-- and at a member's host
at_index-keeps : {S : Type 0} (P : World S → Type 0) (f : ℕ → World S → World S) → ((i : ℕ) (w : World S) → P w → P (f i w)) → (w : World S) (found : Option ℕ) → P w → P (at_index f w found)
at_index-keeps P f keeps w None p = p
at_index-keeps P f keeps w (Some i) p = keeps i w p

-- unless its node does not run
at_host-keeps : {S : Type 0} (P : World S → Type 0) (f : ℕ → World S → World S) → ((i : ℕ) (w : World S) → P w → P (f i w)) → ((w : World S) (line : OutLine) → IsAside line → P w → P (telling w line))
    → (i : ℕ) (w : World S) (found : Option (Host S)) → P w → P (at_host f i w found)
at_host-keeps P f keeps tells i w None p = p
at_host-keeps P f keeps tells i w (Some h) p = either P (is_up w h) (f i w) _ (keeps i w p) (tells w (outs.Absent h.node.id) tt p)

pub at_member-keeps : {S : Type 0} (P : World S → Type 0) (f : ℕ → World S → World S) → ((i : ℕ) (w : World S) → P w → P (f i w)) → ((w : World S) (line : OutLine) → IsAside line → P w → P (telling w line))
    → (member : ℕ) (w : World S) → P w → P (at_member f member w)
at_member-keeps P f keeps tells member w p =
    at_index-keeps P (λ i v. at_host f i v (slice_get v.hosts i)) (λ i v q. at_host-keeps P f keeps tells i v (slice_get v.hosts i) q) w (host_index w.hosts member) p

-- lines that are told

pub live-telling_all : {S : Type 0} (course : Course S) (P : World S → Type 0) → KeepsCalm course P → (w : World S) (lines : List OutLine) → Each IsAside lines → P w → P (telling_all w lines)
live-telling_all course P k w [] aside p = subst (λ (told : List OutLine). P (record w { told = told })) (sym (append-nil w.told)) p
live-telling_all course P k w (l ∷ ls) aside p =
    subst (λ (told : List OutLine). P (record w { told = told })) (append_assoc w.told (l ∷ []) ls) (live-telling_all course P k (telling w l) ls aside.1 (k.tell w l aside.0 p))

-- who is absent accepts nothing
absent-aside : (members : List ℕ) (id : ℕ) → Each IsAside (told_absent members id)
absent-aside [] id = tt
absent-aside (m ∷ ms) id = (tt, tt)

-- a node that is found settles, unless it is gone
live-settle_present : {S : Type 0} (course : Course S) (P : World S → Type 0) → KeepsCalm course P → (members : List ℕ) (i : ℕ) (w : World S) (found : Option (Host S)) → P w
    → P (settle_present course members i w found)
live-settle_present course P k members i w None p = p
live-settle_present course P k members i w (Some h) p =
    either P (is_up w h) (settle course i w) _ (live-settle course P (nodes_of course P k) i w p) (live-telling_all course P k w (told_absent members h.node.id) (absent-aside members h.node.id) p)

pub live-settles_present : {S : Type 0} (course : Course S) (P : World S → Type 0) → KeepsCalm course P → (members : List ℕ) (i : ℕ) (w : World S) → P w
    → P (settle_present course members i w (slice_get w.hosts i))
live-settles_present course P k members i w p = live-settle_present course P k members i w (slice_get w.hosts i) p

-- all listed nodes settle
pub live-settle_all : {S : Type 0} (course : Course S) (P : World S → Type 0) → KeepsCalm course P → (members : List ℕ) (w : World S) → P w → P (settle_all course members w)
live-settle_all course P k members w p = each_listed-keeps P members (λ i v. settle_present course members i v (slice_get v.hosts i)) (live-settles_present course P k members) w p

-- the bytes of a content that was sent are given

-- a node takes the bytes of a content that was sent, and settles
live-gives : {S : Type 0} (course : Course S) (P : World S → Type 0) → KeepsCalm course P → (x : Content) (i : ℕ) (w : World S)
    → P w × HasContent w.sent x → P (gives course (bytes_of x) i w) × HasContent (gives course (bytes_of x) i w).sent x
unfolding gives
live-gives {S = S} course P k x i w p =
    let Q : World S → Type 0 = λ v. P v × HasContent v.sent x in
    let kq : KeepsCalm course Q = live-carries course P x k in
    live-settle course Q (nodes_of course Q kq) i (node_takes course i (Arrive (bytes_of x)) w)
    (live-node_takes course Q (nodes_of course Q kq) i (Arrive (bytes_of x)) w (λ h at. record { content = x; spelled = refl; has = p.1 }) p)

-- what each node keeps that takes bytes, the node of a listed member keeps
pub give_one-keeps : {S : Type 0} (course : Course S) (P : World S → Type 0) (members bytes : List ℕ) → ((i : ℕ) (w : World S) → P w → P (gives course bytes i w)) → (member : ℕ) (w : World S) → P w
    → P (give_one course members bytes member w)
give_one-keeps course P members bytes keeps member w p =
    at_index-keeps P (at_listed members (gives course bytes)) (at_listed-keeps P members (gives course bytes) keeps) w (host_index w.hosts member) p

-- clients

-- a client hears what its bytes are read as
live-client_hears : {S : Type 0} (course : Course S) (P : World S → Type 0) → KeepsCalm course P → (i : ℕ) (x : Content) (w : World S) (c : Client) (read : Option Word)
    → w.ending ≡ None → slice_get w.clients i ≡ Some c → HasContent w.sent x → word_read (decoded (bytes_of x)) ≡ read → P w → P (client_hears w i c read)
live-client_hears course P k i x w c None on here has is p = k.tell w _ tt p
live-client_hears course P k i x w c (Some word) on here has is p = k.hear w i c x word on here has is p

-- a client that is found hears bytes
live-hears_bytes : {S : Type 0} (course : Course S) (P : World S → Type 0) → KeepsCalm course P → (i : ℕ) (x : Content) (w : World S) (found : Option Client)
    → w.ending ≡ None → slice_get w.clients i ≡ found → HasContent w.sent x → P w → P (hears_bytes w i (bytes_of x) found)
live-hears_bytes course P k i x w None on at has p = p
live-hears_bytes course P k i x w (Some c) on at has p = live-client_hears course P k i x w c (word_read (decoded (bytes_of x))) on at has refl p

-- the client at an index hears bytes
live-client_takes : {S : Type 0} (course : Course S) (P : World S → Type 0) → KeepsCalm course P → (i : ℕ) (x : Content) (w : World S) → HasContent w.sent x → P w → P (client_takes i (bytes_of x) w)
unfolding client_takes
live-client_takes course P k i x w has p = either_by P (is_halted w) w _ (λ over. p) (λ on. live-hears_bytes course P k i x w (slice_get w.clients i) (halted_none w on) refl has p)

-- a client asks, or tells that it is busy
live-client_asks : {S : Type 0} (course : Course S) (P : World S → Type 0) → KeepsCalm course P → (w : World S) (i : ℕ) (c : Client) (op : List ℕ) (waiting : Option Request)
    → w.ending ≡ None → slice_get w.clients i ≡ Some c → c.waiting ≡ waiting → P w → P (client_asks w i c op waiting)
live-client_asks course P k w i c op (Some q) on at is p = k.tell w _ tt p
live-client_asks course P k w i c op None on at is p =
    either_by P (nat_lt (c.last + 1) (2 ^ 63) && nat_le (length op) 4096) _ w
    (λ may. let both = and_true (nat_lt (c.last + 1) (2 ^ 63)) (nat_le (length op) 4096) may in
    k.ask w i c op on at is (ltb-true (c.last + 1) (2 ^ 63) both.0) (leb-true (length op) 4096 both.1) p)
    (λ not_may. p)

-- a client that is found asks
live-ask_found : {S : Type 0} (course : Course S) (P : World S → Type 0) → KeepsCalm course P → (w : World S) (i : ℕ) (op : List ℕ) (found : Option Client)
    → w.ending ≡ None → slice_get w.clients i ≡ found → P w → P (ask_found w i op found)
live-ask_found course P k w i op None on at p = p
live-ask_found course P k w i op (Some c) on at p = either P (is_rogue w c.id) _ _ (k.tell w (outs.IdleClient c.id) tt p) (live-client_asks course P k w i c op c.waiting on at refl p)

-- the client at an index asks
live-asks : {S : Type 0} (course : Course S) (P : World S → Type 0) → KeepsCalm course P → (i : ℕ) (op : List ℕ) (w : World S) → P w → P (asks i op w)
unfolding asks
live-asks course P k i op w p = either_by P (is_halted w) w _ (λ over. p) (λ on. live-ask_found course P k w i op (slice_get w.clients i) (halted_none w on) refl p)

-- a client sends its request once more, or tells that it is idle
live-client_repeats : {S : Type 0} (course : Course S) (P : World S → Type 0) → KeepsCalm course P → (w : World S) (i : ℕ) (c : Client) (waiting : Option Request)
    → w.ending ≡ None → slice_get w.clients i ≡ Some c → c.waiting ≡ waiting → P w → P (client_repeats w c waiting)
live-client_repeats course P k w i c None on at is p = k.tell w _ tt p
live-client_repeats course P k w i c (Some q) on at is p = k.again w i c q on at is p

-- a client that is found does
live-repeat_found : {S : Type 0} (course : Course S) (P : World S → Type 0) → KeepsCalm course P → (w : World S) (i : ℕ) (found : Option Client)
    → w.ending ≡ None → slice_get w.clients i ≡ found → P w → P (repeat_found w found)
live-repeat_found course P k w i None on at p = p
live-repeat_found course P k w i (Some c) on at p = either P (is_rogue w c.id) _ _ (k.tell w (outs.IdleClient c.id) tt p) (live-client_repeats course P k w i c c.waiting on at refl p)

-- the client at an index does
live-repeats : {S : Type 0} (course : Course S) (P : World S → Type 0) → KeepsCalm course P → (i : ℕ) (w : World S) → P w → P (repeats i w)
unfolding repeats
live-repeats course P k i w p = either_by P (is_halted w) w _ (λ over. p) (λ on. live-repeat_found course P k w i (slice_get w.clients i) (halted_none w on) refl p)

-- a client that is found learns of the greatest place that another knows
live-learns : {S : Type 0} (course : Course S) (P : World S → Type 0) → KeepsCalm course P → (w : World S) (j : ℕ) (d : Client) (i : ℕ) (found : Option Client)
    → w.ending ≡ None → slice_get w.clients j ≡ Some d → slice_get w.clients i ≡ found → P w → P (learns w d.seen i found)
live-learns course P k w j d i None on other at p = p
live-learns course P k w j d i (Some c) on other at p = k.learn w i j c d on at other p

-- if the other is found
live-learns_from : {S : Type 0} (course : Course S) (P : World S → Type 0) → KeepsCalm course P → (w : World S) (j : ℕ) (found : Option Client) (i : ℕ)
    → w.ending ≡ None → slice_get w.clients j ≡ found → P w → P (learns_from w found i)
live-learns_from course P k w j None i on other p = p
live-learns_from course P k w j (Some d) i on other p = either P (is_rogue w d.id) _ _ (k.tell w (outs.IdleClient d.id) tt p) (live-learns course P k w j d i (slice_get w.clients i) on other refl p)

-- a client is told of the greatest place that another knows
live-tells : {S : Type 0} (course : Course S) (P : World S → Type 0) → KeepsCalm course P → (from to : ℕ) (w : World S) → P w → P (tells from to w)
unfolding tells
live-tells course P k from to w p = either_by P (is_halted w) w _ (λ over. p) (λ on. live-learns_from course P k w from (slice_get w.clients from) to (halted_none w on) refl p)

-- flow

-- the content at an index of those that were sent was sent
pub has_at : (sent : List Sent) (i : ℕ) (s : Sent) → slice_get sent i ≡ Some s → HasContent sent s.content
has_at [] i s at = absurd (cc)
has_at (t ∷ sent) zero s at = inl (ap (λ (x : Sent). x.content) (some_equal t s at))
has_at (t ∷ sent) (suc i) s at = inr (has_at sent i s at)

-- what each addressee keeps that bytes reach, they all keep
pub goes-keeps : {S : Type 0} (course : Course S) (P : World S → Type 0) (members bytes : List ℕ) → ((to : Party) (w : World S) → P w → P (reaches course members bytes to w)) → (w : World S) (tos : List Party)
    → P w → P (goes course members w bytes tos)
goes-keeps course P members bytes keeps w [] p = p
goes-keeps course P members bytes keeps w (to ∷ tos) p = goes-keeps course P members bytes keeps (reaches course members bytes to w) tos (keeps to w p)

-- a content that was sent reaches an addressee
live-reaches : {S : Type 0} (course : Course S) (P : World S → Type 0) → KeepsCalm course P → (members : List ℕ) (x : Content) (to : Party) (w : World S) → P w × HasContent w.sent x
    → P (reaches course members (bytes_of x) to w) × HasContent (reaches course members (bytes_of x) to w).sent x
live-reaches {S = S} course P k members x (parties.Member id) w p = give_one-keeps course (λ (v : World S). P v × HasContent v.sent x) members (bytes_of x) (live-gives course P k x) id w p
live-reaches {S = S} course P k members x (parties.Client id) w p = live-client_takes course (λ (v : World S). P v × HasContent v.sent x) (live-carries course P x k) id x w p.1 p

-- it goes to its addressees
pub live-goes : {S : Type 0} (course : Course S) (P : World S → Type 0) → KeepsCalm course P → (members : List ℕ) (w : World S) (x : Content) (tos : List Party) → HasContent w.sent x → P w
    → P (goes course members w (bytes_of x) tos)
live-goes {S = S} course P k members w x tos has p = (goes-keeps course (λ (v : World S). P v × HasContent v.sent x) members (bytes_of x) (live-reaches course P k members x) w tos (p, has)).0

-- the message behind the mark goes, if there is one
live-flow_sent : {S : Type 0} (course : Course S) (P : World S → Type 0) → KeepsCalm course P → (members : List ℕ) (w : World S) (found : Option Sent) → w.ending ≡ None → slice_get w.sent w.mark ≡ found → P w
    → P (flow_sent course members w found)
live-flow_sent course P k members w None on at p = p
live-flow_sent course P k members w (Some s) on at p =
    live-goes course P k members (record w { mark = w.mark + 1 }) s.content s.to (has_at w.sent w.mark s at) (k.mark w s on at p)

-- one turn of a flow
pub live-flow_once : {S : Type 0} (course : Course S) (P : World S → Type 0) → KeepsCalm course P → (members : List ℕ) (w : World S) → P w → P (flow_once course members w)
unfolding flow_once
live-flow_once course P k members w p = either_by P (is_halted w) w _ (λ over. p) (λ on. live-flow_sent course P k members w (slice_get w.sent w.mark) (halted_none w on) refl p)

-- deliveries one by one

-- the bytes of a content that was sent arrive at a member or a client
live-arrives : {S : Type 0} (course : Course S) (P : World S → Type 0) → KeepsCalm course P → (x : Content) (to : Party) (w : World S) → P w × HasContent w.sent x
    → P (arrives course (bytes_of x) to w) × HasContent (arrives course (bytes_of x) to w).sent x
live-arrives {S = S} course P k x (parties.Member id) w p =
    let Q : World S → Type 0 = λ v. P v × HasContent v.sent x in
    let kq : KeepsCalm course Q = live-carries course P x k in
    at_member-keeps Q (λ i v. node_takes course i (Arrive (bytes_of x)) v)
    (λ i v q. live-node_takes course Q (nodes_of course Q kq) i (Arrive (bytes_of x)) v (λ h at. record { content = x; spelled = refl; has = q.1 }) q) kq.tell id w p
live-arrives {S = S} course P k x (parties.Client id) w p = live-client_takes course (λ (v : World S). P v × HasContent v.sent x) (live-carries course P x k) id x w p.1 p

-- and at each of some
live-arrives_at : {S : Type 0} (course : Course S) (P : World S → Type 0) → KeepsCalm course P → (x : Content) (tos : List Party) (w : World S) → P w × HasContent w.sent x
    → P (arrives_at course (bytes_of x) tos w)
live-arrives_at course P k x [] w p = p.0
live-arrives_at course P k x (to ∷ tos) w p = live-arrives_at course P k x tos (arrives course (bytes_of x) to w) (live-arrives course P k x to w p)

live-sent_arrives : {S : Type 0} (course : Course S) (P : World S → Type 0) → KeepsCalm course P → (i : ℕ) (tos : List Party) (w : World S) (found : Option Sent) → slice_get w.sent i ≡ found → P w
    → P (sent_arrives course tos w found)
live-sent_arrives course P k i tos w None at p = p
live-sent_arrives course P k i tos w (Some s) at p = live-arrives_at course P k s.content tos w (p, has_at w.sent i s at)

-- the message of a number does
live-give_number : {S : Type 0} (course : Course S) (P : World S → Type 0) → KeepsCalm course P → (number : ℕ) (tos : List Party) (w : World S) → P w → P (give_number course number tos w)
live-give_number course P k number tos w p = live-sent_arrives course P k (number - 1) tos w (slice_get w.sent (number - 1)) refl p

-- who is idle accepts nothing
pub idle-aside : (id : ℕ) (fired : List Fired) → Each IsAside (told_idle id fired)
idle-aside id [] = (tt, tt)
idle-aside id (rule ∷ rules) = tt

-- delivery and a tick may always come
abbrev MayTry : NodeEvent → Type 0
MayTry (Arrive bytes) = ⊥
MayTry Tick = Unit {0}
MayTry Deliver = Unit {0}
MayTry (Firm count) = ⊥

try_may : {S : Type 0} (w : World S) (h : Host S) (event : NodeEvent) → MayTry event → MayCome w h event
try_may w h (Arrive bytes) may = absurd may
try_may w h Tick may = tt
try_may w h Deliver may = tt
try_may w h (Firm count) may = absurd may

try_completes : {S : Type 0} (w : World S) (h : Host S) (event : NodeEvent) → MayTry event → Each (λ text. Among text (texts_met w.sent w.marked)) (completed_by h.node event)
unfolding completed_by
try_completes w h (Arrive bytes) may = absurd may
try_completes w h Tick may = tt
try_completes w h Deliver may = tt
try_completes w h (Firm count) may = absurd may

-- a node delivers, or time passes there, or it tells that it is idle
live-host_tries : {S : Type 0} (course : Course S) (P : World S → Type 0) → KeepsCalm course P → (event : NodeEvent) → MayTry event → (i : ℕ) (w : World S) (found : Option (Host S)) → w.ending ≡ None
    → slice_get w.hosts i ≡ found → P w → P (host_tries course event i w found)
live-host_tries course P k event may i w None on at p = p
live-host_tries course P k event may i w (Some h) on at p =
    either_by P (not (is_up w h)) w _ (λ not_up. p)
    (λ up. live-telling_all course P k (stepped course w i h (course.step h.node event)) (told_idle h.node.id (course.step h.node event).fired) (idle-aside h.node.id (course.step h.node event).fired)
    (k.event w i h event on (is-up w h (not_false (is_up w h) up)) at (record { on = on; come = try_may w h event may; met = try_completes w h event may }) p))

live-tries_at : {S : Type 0} (course : Course S) (P : World S → Type 0) → KeepsCalm course P → (event : NodeEvent) → MayTry event → (i : ℕ) (w : World S) → P w → P (tries_at course event i w)
unfolding tries_at
live-tries_at course P k event may i w p = either_by P (is_halted w) w _ (λ over. p) (λ on. live-host_tries course P k event may i w (slice_get w.hosts i) (halted_none w on) refl p)

live-tries_each : {S : Type 0} (course : Course S) (P : World S → Type 0) → KeepsCalm course P → (event : NodeEvent) → MayTry event → (members : List ℕ) (w : World S) → P w
    → P (tries_each course event members w)
live-tries_each course P k event may [] w p = p
live-tries_each course P k event may (m ∷ ms) w p =
    live-tries_each course P k event may ms (at_member (tries_at course event) m w) (at_member-keeps P (tries_at course event) (live-tries_at course P k event may) k.tell m w p)

-- what a node tells

drop-beside : (id : ℕ) (why : Option Why) → Each IsBeside (told_drop id why)
drop-beside id None = tt
drop-beside id (Some why) = (tt, tt)

fired-beside : (id : ℕ) (fired : Fired) → Each IsBeside (told_fired id fired)
fired-beside id (fires.Installed place) = (tt, tt)
fired-beside id fires.Spoiled = tt
fired-beside id (fires.Delivered d) = (tt, tt)
fired-beside id (fires.Marked snapshot) = tt
fired-beside id (fires.Adopted s) = (tt, tt)
fired-beside id fires.Joined = tt
fired-beside id (fires.Viewed number) = (tt, tt)
fired-beside id (fires.Promised p) = (tt, tt)
fired-beside id fires.Led = tt
fired-beside id fires.Proposed = tt
fired-beside id fires.Wrote = tt
fired-beside id fires.Accepted = tt
fired-beside id (fires.Decided place) = (tt, tt)
fired-beside id fires.Timed = tt
fired-beside id fires.Answered = tt

all_fired-beside : (id : ℕ) (fired : List Fired) → Each IsBeside (flat_map (told_fired id) fired)
all_fired-beside id [] = tt
all_fired-beside id (f ∷ fired) = each_append IsBeside (told_fired id f) (flat_map (told_fired id) fired) (fired-beside id f) (all_fired-beside id fired)

-- a node's course tells a client no place
pub outcome-beside : {S : Type 0} (id : ℕ) (o : Outcome S) → Each IsBeside (told_drop id o.dropped ++ flat_map (told_fired id) o.fired)
outcome-beside id o = each_append IsBeside (told_drop id o.dropped) (flat_map (told_fired id) o.fired) (drop-beside id o.dropped) (all_fired-beside id o.fired)

-- what is shown

pub hosts-aside : {S : Type 0} (faulty : List ℕ) (hosts : List (Host S)) → Each IsAside (flat_map (shown_host faulty) hosts)
hosts-aside faulty [] = tt
hosts-aside faulty (h ∷ hs) =
    each_append IsAside (shown_host faulty h) (flat_map (shown_host faulty) hs)
    (either (λ (lines : List OutLine). Each IsAside lines) (is_among faulty h.node.id) [] _ tt (either (λ (lines : List OutLine). Each IsAside lines) h.up _ _ (tt, tt) (tt, tt))) (hosts-aside faulty hs)

pub clients-aside : (clients : List Client) → Each IsAside (flat_map shown_client clients)
clients-aside [] = tt
clients-aside (c ∷ cs) =
    each_append IsAside (shown_client c) (flat_map shown_client cs) (either (λ (lines : List OutLine). Each IsAside lines) (nat_lt 0 c.last) (outs.Seen c.id c.seen ∷ []) [] (tt, tt) tt) (clients-aside cs)

live-shows : {S : Type 0} (course : Course S) (P : World S → Type 0) → KeepsCalm course P → (w : World S) → P w → P (shows w)
live-shows course P k w p =
    live-telling_all course P k w (flat_map (shown_host w.faulty) w.hosts ++ flat_map shown_client w.clients)
    (each_append IsAside (flat_map (shown_host w.faulty) w.hosts) (flat_map shown_client w.clients) (hosts-aside w.faulty w.hosts) (clients-aside w.clients)) p

-- who breaks the rules

-- who is among some is among more
among-end : (ids : List ℕ) (more id : ℕ) → is_among ids id ≡ true → is_among (ids ++ more ∷ []) id ≡ true
among-end [] more id is = absurd (cc)
among-end (x ∷ ids) more id is = or_more (x == id) (is_among ids id) (is_among (ids ++ more ∷ []) id) (among-end ids more id) is
  where
    or_more : (t a b : Bool) → (a ≡ true → b ≡ true) → (t || a) ≡ true → (t || b) ≡ true
    or_more true a b more is = refl
    or_more false a b more is = more is

-- a member is declared faulty, or too many are
live-declares_faulty : {S : Type 0} (course : Course S) (P : World S → Type 0) → KeepsLive course P → (member : ℕ) (w : World S) → P w → P (declares_faulty member w)
unfolding declares_faulty
live-declares_faulty course P k member w p =
    let faulty : List ℕ = w.faulty ++ member ∷ [] in
    either_by P (is_halted w) w _ (λ over. p)
    (λ on. either P (is_gone w member) w _ p
    (either_by P (too_many_in (views_after w.view w.chosen) faulty) _ _
    (λ many. k.declare w w.faulty w.rogue (Some (Premise TooManyFaulty)) (halted_none w on) (ends w (Premise TooManyFaulty)) p)
    (λ few. k.declare w faulty w.rogue w.ending (halted_none w on)
    (record { more_faulty = among-end w.faulty member; more_rogue = λ client is. is; few = λ v there before. few_of faulty (views_after w.view w.chosen) v few there; over = λ is. is }) p)))

-- a client is declared rogue
live-declares_rogue : {S : Type 0} (course : Course S) (P : World S → Type 0) → KeepsLive course P → (client : ℕ) (w : World S) → P w → P (declares_rogue client w)
unfolding declares_rogue
live-declares_rogue course P k client w p =
    either_by P (is_halted w) w _ (λ over. p)
    (λ on. either P (is_rogue w client) w _ p
    (k.declare w w.faulty (w.rogue ++ client ∷ []) w.ending (halted_none w on)
    (record { more_faulty = λ member is. is; more_rogue = among-end w.rogue client; few = λ v there is. is; over = λ is. is }) p))

-- what is injected is read

are-bytes : (bytes : List ℕ) → are_bytes bytes ≡ true → (i : ℕ) → get_or bytes i 0 < 256
are-bytes [] are i = omega arith
are-bytes (b ∷ bs) are zero = ltb-true b 256 (and_true (nat_lt b 256) (are_bytes bs) are).0
are-bytes (b ∷ bs) are (suc i) = are-bytes bs (and_true (nat_lt b 256) (are_bytes bs) are).1 i

read-content : (bytes : List ℕ) (read : Result Message ℕ) → IsBytes bytes → decoded bytes ≡ read → IsRead (content_by bytes read)
read-content bytes (Ok message) are is = (decoded_is bytes message are is).0.content_fits
read-content bytes (Err at) are is = record { at = at; unread = is }

read-from : (bytes : List ℕ) (t : Bool) (x : Content) → are_bytes bytes ≡ t → cond t (Some (content_of bytes)) None ≡ Some x → IsRead x
unfolding content_of
read-from bytes true x are is = subst IsRead (some_equal (content_of bytes) x is) (read-content bytes (decoded bytes) (record { below = are-bytes bytes are }) refl)
read-from bytes false x are is = absurd (cc)

read-found : (found : Option (List ℕ)) (x : Content) → option_and_then content_from found ≡ Some x → IsRead x
read-found None x is = absurd (cc)
read-found (Some bytes) x is = read-from bytes (are_bytes bytes) x refl is

pub injected-read : (sent : List Sent) (form : Injection) (x : Content) → injected sent form ≡ Some x → IsRead x
injected-read sent form x is = read-found (injected_bytes sent form) x is

-- a content that is made is injected, unless it is forged
live-injects_content : {S : Type 0} (course : Course S) (P : World S → Type 0) → KeepsCalm course P → (w : World S) (found : Option Content) → w.ending ≡ None
    → ((x : Content) → found ≡ Some x → IsRead x) → P w → P (injects_content w found)
live-injects_content course P k w None on read p = p
live-injects_content course P k w (Some x) on read p =
    either_by P (is_forged w.faulty w.rogue w.sent x) _ _ (λ forged. k.end w (Premise Forged) on p) (λ fine. k.inject w x on (read x refl) fine p)

live-injects : {S : Type 0} (course : Course S) (P : World S → Type 0) → KeepsCalm course P → (form : Injection) (w : World S) → P w → P (injects form w)
unfolding injects
live-injects course P k form w p =
    either_by P (is_halted w) w _ (λ over. p) (λ on. live-injects_content course P k w (injected w.sent form) (halted_none w on) (injected-read w.sent form) p)

-- crashes

-- a node stops, or what is left is no image
live-crashes_with : {S : Type 0} (course : Course S) (P : World S → Type 0) → KeepsCalmLives course P → (i : ℕ) (w : World S) (h : Host S) (left : Images) (wrong : Option stores.NotAnImage) → wrong_images h.store left ≡ wrong
    → w.ending ≡ None → IsUp w h → slice_get w.hosts i ≡ Some h → P w → P (crashes_with course i w h left wrong)
live-crashes_with course P k i w h left None is on up at p = k.calm.tell (with_host w i (host_crashed course h left)) (outs.Crashed h.node.id) tt (k.crash w i h left on up at (may_leave h.store left is) p)
live-crashes_with course P k i w h left (Some wrong) is on up at p = k.calm.end w (Premise (NotAnImage wrong)) on p

live-host_crashes : {S : Type 0} (course : Course S) (P : World S → Type 0) → KeepsCalmLives course P → (image : Image) (patches : List Patch) (i : ℕ) (w : World S) (found : Option (Host S)) → w.ending ≡ None
    → slice_get w.hosts i ≡ found → P w → P (host_crashes course image patches i w found)
live-host_crashes course P k image patches i w None on at p = p
live-host_crashes course P k image patches i w (Some h) on at p =
    let left : Images = images_left image patches h.store in
    either_by P (is_up w h) _ w (λ up. live-crashes_with course P k i w h left (wrong_images h.store left) refl on (is-up w h up) at p) (λ not_up. p)

live-crashes : {S : Type 0} (course : Course S) (P : World S → Type 0) → KeepsCalmLives course P → (image : Image) (patches : List Patch) (i : ℕ) (w : World S) → P w → P (crashes course image patches i w)
unfolding crashes
live-crashes course P k image patches i w p =
    either_by P (is_halted w) w _ (λ over. p) (λ on. live-host_crashes course P k image patches i w (slice_get w.hosts i) (halted_none w on) refl p)

-- a node goes on, unless what its devices hold is damaged
live-resumes_from : {S : Type 0} (course : Course S) (P : World S → Type 0) → KeepsCalmLives course P → (i : ℕ) (w : World S) (h : Host S) (damage : Option ℕ) → w.ending ≡ None → IsDown w h
    → slice_get w.hosts i ≡ Some h → P w → P (resumes_from course i w h (parts_held h) damage)
live-resumes_from course P k i w h (Some part) on down at p = p
live-resumes_from course P k i w h None on down at p = k.resume w i h on down at p

live-host_resumes : {S : Type 0} (course : Course S) (P : World S → Type 0) → KeepsCalmLives course P → (i : ℕ) (w : World S) (found : Option (Host S)) → w.ending ≡ None → slice_get w.hosts i ≡ found → P w
    → P (host_resumes course i w found)
live-host_resumes course P k i w None on at p = p
live-host_resumes course P k i w (Some h) on at p =
    either_by P (h.up || is_gone w h.node.id) w _ (λ up. p)
    (λ down. live-resumes_from course P k i w h (damage_of course.meaning group_secret w.view (parts_held h)) on (or_parts h.up (is_gone w h.node.id) down) at p)

live-resumes : {S : Type 0} (course : Course S) (P : World S → Type 0) → KeepsCalmLives course P → (i : ℕ) (w : World S) → P w → P (resumes course i w)
unfolding resumes
live-resumes course P k i w p = either_by P (is_halted w) w _ (λ over. p) (λ on. live-host_resumes course P k i w (slice_get w.hosts i) (halted_none w on) refl p)

live-restart_at : {S : Type 0} (course : Course S) (P : World S → Type 0) → KeepsCalmLives course P → (i : ℕ) (w : World S) (found : Option (Host S)) → P w → P (restart_at course i w found)
live-restart_at course P k i w None p = p
live-restart_at course P k i w (Some h) p =
    either P (is_gone w h.node.id) _ _ (k.calm.tell w (outs.Absent h.node.id) tt p) (either P h.up _ _ (k.calm.tell w (outs.Idle h.node.id) tt p) (live-resumes course P k i w p))

-- new nodes

-- a new node is added, unless the member has one or its number is no member's
live-adds_unless : {S : Type 0} (course : Course S) (P : World S → Type 0) → KeepsLives course P → (member : ℕ) (w : World S) (found : Option ℕ) → w.ending ≡ None → host_index w.hosts member ≡ found → P w
    → P (adds_unless course member w found)
live-adds_unless course P k member w (Some i) on at p = p
live-adds_unless course P k member w None on at p =
    either_by P (is_name member) _ w
    (λ named. let both = and_true (nat_le 1 member) (nat_le member 65535) named in
    k.add w (hosts_below w.hosts member) member on (record { none = at; low = leb-true 1 member both.0; high = leb-true member 65535 both.1 }) p)
    (λ nameless. p)

live-adds_node : {S : Type 0} (course : Course S) (P : World S → Type 0) → KeepsLives course P → (member : ℕ) (w : World S) → P w → P (adds_node course member w)
unfolding adds_node
live-adds_node course P k member w p =
    either_by P (is_halted w) w _ (λ over. p) (λ on. live-adds_unless course P k member w (host_index w.hosts member) (halted_none w on) refl p)

-- lines

-- a line that declares nobody and adds no node
abbrev pub IsCalm : Line → Type 0
IsCalm lines.Nothing = Unit {0}
IsCalm (lines.Ask client op) = Unit {0}
IsCalm (lines.Change op) = Unit {0}
IsCalm (lines.Again client) = Unit {0}
IsCalm (lines.Tell from to) = Unit {0}
IsCalm (lines.Flow members) = Unit {0}
IsCalm (lines.Give number to) = Unit {0}
IsCalm (lines.Deliver members) = Unit {0}
IsCalm (lines.Tick members) = Unit {0}
IsCalm (lines.Settle member) = Unit {0}
IsCalm (lines.Disk member count) = Unit {0}
IsCalm (lines.Crash member image patches) = Unit {0}
IsCalm (lines.CrashAll image) = Unit {0}
IsCalm (lines.Restart member) = Unit {0}
IsCalm lines.RestartAll = Unit {0}
IsCalm lines.SettleAll = Unit {0}
IsCalm lines.Show = Unit {0}
IsCalm (lines.Node member) = ⊥
IsCalm (lines.Faulty member) = ⊥
IsCalm (lines.Rogue client) = ⊥
IsCalm (lines.Inject form) = Unit {0}

-- what happens by it
pub calm-line_played : {S : Type 0} (course : Course S) (P : World S → Type 0) → KeepsCalmLives course P → (w : World S) (line : Line) → IsCalm line → P w → P (line_played course w line)
unfolding line_played
calm-line_played course P k w lines.Nothing is p = p
calm-line_played course P k w (lines.Ask client op) is p = live-asks course P k.calm client op w p
calm-line_played course P k w (lines.Change op) is p = live-asks course P k.calm 0 op w p
calm-line_played course P k w (lines.Again client) is p = live-repeats course P k.calm client w p
calm-line_played course P k w (lines.Tell from to) is p = live-tells course P k.calm from to w p
calm-line_played course P k w (lines.Flow members) is p = until_rest_keeps P (flow_once course members) (live-flow_once course P k.calm members) (settle_all course members w) (live-settle_all course P k.calm members w p)
calm-line_played course P k w (lines.Give number to) is p = live-give_number course P k.calm number to w p
calm-line_played course P k w (lines.Deliver members) is p = live-tries_each course P k.calm Deliver tt members w p
calm-line_played course P k w (lines.Tick members) is p = live-tries_each course P k.calm Tick tt members w p
calm-line_played course P k w (lines.Settle member) is p = at_member-keeps P (settle course) (live-settle course P (nodes_of course P k.calm)) k.calm.tell member w p
calm-line_played course P k w (lines.Disk member count) is p =
    at_member-keeps P (λ i v. repeated (calls_disk course i) count v) (λ i v q. repeated_keeps P (calls_disk course i) (live-calls_disk course P (nodes_of course P k.calm) i) count v q) k.calm.tell member w p
calm-line_played course P k w (lines.Crash member image patches) is p = at_member-keeps P (crashes course image patches) (live-crashes course P k image patches) k.calm.tell member w p
calm-line_played course P k w (lines.CrashAll image) is p = each_from_keeps P (crashes course image []) (live-crashes course P k image []) (length w.hosts) 0 w p
calm-line_played course P k w (lines.Restart member) is p =
    at_index-keeps P (λ i v. restart_at course i v (slice_get v.hosts i)) (λ i v q. live-restart_at course P k i v (slice_get v.hosts i) q) w (host_index w.hosts member) p
calm-line_played course P k w lines.RestartAll is p = each_from_keeps P (resumes course) (live-resumes course P k) (length w.hosts) 0 w p
calm-line_played course P k w lines.SettleAll is p = live-settle_all course P k.calm [] w p
calm-line_played course P k w lines.Show is p = live-shows course P k.calm w p
calm-line_played course P k w (lines.Node member) is p = absurd is
calm-line_played course P k w (lines.Faulty member) is p = absurd is
calm-line_played course P k w (lines.Rogue client) is p = absurd is
calm-line_played course P k w (lines.Inject form) is p = live-injects course P k.calm form w p

-- a line of a script
pub live-line_played : {S : Type 0} (course : Course S) (P : World S → Type 0) → KeepsLives course P → (w : World S) (line : Line) → P w → P (line_played course w line)
unfolding line_played
live-line_played course P k w lines.Nothing p = calm-line_played course P (calm_lives course P k) w lines.Nothing tt p
live-line_played course P k w (lines.Ask client op) p = calm-line_played course P (calm_lives course P k) w (lines.Ask client op) tt p
live-line_played course P k w (lines.Change op) p = calm-line_played course P (calm_lives course P k) w (lines.Change op) tt p
live-line_played course P k w (lines.Again client) p = calm-line_played course P (calm_lives course P k) w (lines.Again client) tt p
live-line_played course P k w (lines.Tell from to) p = calm-line_played course P (calm_lives course P k) w (lines.Tell from to) tt p
live-line_played course P k w (lines.Flow members) p = calm-line_played course P (calm_lives course P k) w (lines.Flow members) tt p
live-line_played course P k w (lines.Give number to) p = calm-line_played course P (calm_lives course P k) w (lines.Give number to) tt p
live-line_played course P k w (lines.Deliver members) p = calm-line_played course P (calm_lives course P k) w (lines.Deliver members) tt p
live-line_played course P k w (lines.Tick members) p = calm-line_played course P (calm_lives course P k) w (lines.Tick members) tt p
live-line_played course P k w (lines.Settle member) p = calm-line_played course P (calm_lives course P k) w (lines.Settle member) tt p
live-line_played course P k w (lines.Disk member count) p = calm-line_played course P (calm_lives course P k) w (lines.Disk member count) tt p
live-line_played course P k w (lines.Crash member image patches) p = calm-line_played course P (calm_lives course P k) w (lines.Crash member image patches) tt p
live-line_played course P k w (lines.CrashAll image) p = calm-line_played course P (calm_lives course P k) w (lines.CrashAll image) tt p
live-line_played course P k w (lines.Restart member) p = calm-line_played course P (calm_lives course P k) w (lines.Restart member) tt p
live-line_played course P k w lines.RestartAll p = calm-line_played course P (calm_lives course P k) w lines.RestartAll tt p
live-line_played course P k w lines.SettleAll p = calm-line_played course P (calm_lives course P k) w lines.SettleAll tt p
live-line_played course P k w lines.Show p = calm-line_played course P (calm_lives course P k) w lines.Show tt p
live-line_played course P k w (lines.Node member) p = live-adds_node course P k member w p
live-line_played course P k w (lines.Faulty member) p = live-declares_faulty course P k.live member w p
live-line_played course P k w (lines.Rogue client) p = live-declares_rogue course P k.live client w p
live-line_played course P k w (lines.Inject form) p = calm-line_played course P (calm_lives course P k) w (lines.Inject form) tt p

-- all lines of a script
pub live-world_after : {S : Type 0} (course : Course S) (P : World S → Type 0) → KeepsLives course P → ((w : World S) → P w → P (rested w)) → (w : World S) (ls : List Line) → P w → P (world_after course w ls)
live-world_after course P k rests w [] p = p
live-world_after course P k rests w (l ∷ ls) p =
    live-world_after course P k rests (rested (line_played course w l)) ls (rests (line_played course w l) (live-line_played course P k w l p))

-- the same of what is kept whatever was said of the ending

-- all lines of a script
pub keeps-world_after : {S : Type 0} (course : Course S) (P : World S → Type 0) → KeepsAll course P → (w : World S) (ls : List Line) → P w → P (world_after course w ls)
keeps-world_after course P k w ls p = live-world_after course P (lives course P k) (λ v p. k.kept.same v v.mark [] p) w ls p

-- what holds where all that was sent is read

-- each content that was sent is read
abbrev pub ReadsSent : {S : Type 0} → World S → Type 0
ReadsSent w = (x : Content) → HasContent w.sent x → IsRead x

-- each request that waits is its client's own
abbrev pub OwnWaits : {S : Type 0} → World S → Type 0
OwnWaits w = (i : ℕ) (c : Client) (q : Request) → slice_get w.clients i ≡ Some c → c.waiting ≡ Some q → q.client ≡ c.id

-- what bytes are read as was sent
abbrev pub Comes : List Sent → List ℕ → Type 0
Comes sent bytes = (x : Message) → decoded bytes ≡ Ok x → HasMessage sent x

-- what may come to a node: bytes that are read as a message that was sent, or as none, and what is firm in its host's store
abbrev pub MayRead : {S : Type 0} → World S → Host S → NodeEvent → Type 0
MayRead w h (Arrive bytes) = Comes w.sent bytes
MayRead w h Tick = Unit {0}
MayRead w h Deliver = Unit {0}
MayRead w h (Firm count) = Hears h count

-- what holds of each message that was sent, holds of what bytes that come are read as
pub comes-as : (sent : List Sent) (bytes : List ℕ) (R : Result Message ℕ → Type 0) → ((x : Message) → HasMessage sent x → R (Ok x)) → ((at : ℕ) → R (Err at)) → Comes sent bytes → R (decoded bytes)
comes-as sent bytes R ok err comes = by (decoded bytes) comes
  where
    by : (read : Result Message ℕ) → ((x : Message) → read ≡ Ok x → HasMessage sent x) → R read
    by (Ok x) has = ok x (has x refl)
    by (Err at) has = err at

-- bytes past the limit are read as none

long_by : (bytes : List ℕ) → 1048576 < length bytes → (read : Result (Message × Cut) ℕ) → message_at (record { at = 0; left = take 1048576 bytes }) ≡ read → IsUnread bytes
unfolding decoded whole limited
long_by bytes long (Err e) is = record { at = e; unread = rw is refl }
long_by bytes long (Ok x) is =
    let k : ℕ = length (take 1048576 bytes) - length x.1.left in
    let most : length (take 1048576 bytes) ≤ 1048576 = take_most 1048576 bytes in
    let rest : length (drop k bytes) ≡ length bytes - k = length-drop k bytes in
    record { at = 0 + k; unread = rw (is, some_left (length (drop k bytes)) (omega (arith, long, most, rest))) refl }
  where
    some_left : (n : ℕ) → 0 < n → (n == 0) ≡ false
    some_left n some = by (n == 0) refl
      where
        by : (t : Bool) → (n == 0) ≡ t → t ≡ false
        by true is = let none : n ≡ 0 = eqb-true n 0 is in absurd (omega (arith, some, none))
        by false is = refl

    take_most : (n : ℕ) (xs : List ℕ) → length (take n xs) ≤ n
    take_most zero xs = omega arith
    take_most (suc n) [] = omega arith
    take_most (suc n) (x ∷ xs) = omega (arith, take_most n xs)

pub long_unread : (bytes : List ℕ) → 1048576 < length bytes → IsUnread bytes
long_unread bytes long = long_by bytes long (message_at (record { at = 0; left = take 1048576 bytes })) refl

-- a message whose parts have spellings has one, if its bytes are read
pub read_fits : (m y : Message) → FitsContent m → decoded (spelling m) ≡ Ok y → Fits m
read_fits m y fits read = by (nat_le (length (spelling m)) 1048576) refl
  where
    apart : (at : ℕ) → Err at ≡ Ok y → ⊥
    apart at same = cc

    by : (t : Bool) → nat_le (length (spelling m)) 1048576 ≡ t → Fits m
    by true is = record { content_fits = fits; bytes_fit = leb-true (length (spelling m)) 1048576 is }
    by false is = let none : IsUnread (spelling m) = long_unread (spelling m) (leb-false (length (spelling m)) 1048576 is) in absurd (apart none.at (sym none.unread ∙ read))

-- what the bytes of a content are read as is that content
pub read_is : (x : Content) (y : Message) → IsRead x → decoded (bytes_of x) ≡ Ok y → x ≡ contents.Message y
read_is (contents.Message x) y fits read =
    let own : decoded (spelling x) ≡ Ok x = spelling_is x (read_fits x y fits read) in
    let same : x ≡ y = cc in
    ap (λ (z : Message). contents.Message z) same
read_is (contents.Raw bytes) y is read = let none : decoded bytes ≡ Err is.at = is.unread in absurd (cc)

-- and it has a spelling
pub read_whole : (x : Content) (y : Message) → IsRead x → decoded (bytes_of x) ≡ Ok y → Fits y
read_whole (contents.Message x) y fits read =
    let whole : Fits x = read_fits x y fits read in
    let own : decoded (spelling x) ≡ Ok x = spelling_is x whole in
    let same : x ≡ y = cc in
    subst (λ (z : Message). Fits z) same whole
read_whole (contents.Raw bytes) y is read = let none : decoded bytes ≡ Err is.at = is.unread in absurd (cc)

-- so it was sent where the content was
pub read_has : {S : Type 0} (w : World S) (x : Content) (y : Message) → ReadsSent w → HasContent w.sent x → decoded (bytes_of x) ≡ Ok y → HasMessage w.sent y
read_has w x y reads has read = subst (λ (z : Content). HasContent w.sent z) (read_is x y (reads x has) read) has

-- the message that a member's word is
abbrev pub message_of : Word → Message
message_of (words.Reply a) = Reply a
message_of (words.View i) = changes.ViewTold i

-- bytes that are read as a word are read as that message
word_reads : (read : Result Message ℕ) (word : Word) → word_read read ≡ Some word → read ≡ Ok (message_of word)
word_reads (Err at) word is = absurd (cc)
word_reads (Ok (Reply a)) word is = ap (λ (x : Word). Ok (message_of x)) (some_equal (words.Reply a) word is)
word_reads (Ok (changes.ViewTold i)) word is = ap (λ (x : Word). Ok (message_of x)) (some_equal (words.View i) word is)
word_reads (Ok _) word is = absurd (cc)

-- so a word that was read was sent where the content was
pub word_has : {S : Type 0} (w : World S) (x : Content) (word : Word) → ReadsSent w → HasContent w.sent x → word_read (decoded (bytes_of x)) ≡ Some word → HasMessage w.sent (message_of word)
word_has w x word reads has read = read_has w x (message_of word) reads has (word_reads (decoded (bytes_of x)) word read)

-- what may come is read where what was sent is
pub may_read : {S : Type 0} (w : World S) (h : Host S) (event : NodeEvent) → ReadsSent w → MayCome w h event → MayRead w h event
may_read w h (Arrive bytes) reads may = λ x read. read_has w may.content x reads may.has (sym (ap (λ b. decoded b) may.spelled) ∙ read)
may_read w h Tick reads may = tt
may_read w h Deliver reads may = tt
may_read w h (Firm count) reads may = may
