-- The world of a play: hosts, clients, everything that was sent, and the chosen list of batches. An event makes a new world of it.
use Rattle.std.specs.Prelude.{ℕ, zero, suc, ◌+◌, ◌^◌, ◌==◌, nat_lt, take, not, ◌||◌, false, List, [], ◌∷◌, ◌++◌, length, map, filter, drop, if◌then◌else◌, Option, Some, None, is_some, option_map, slice_get, slice_set, insert, Result, Ok, Err, nat_le, ◌&&◌, ◌-◌, Bool, true}
use Rattle.std.specs.List.{flat_map, list_any, position}
use Rattle.smart_base.specs.Lists.{or_else}
use Rattle.smart_base.specs.Views.{View, present}
use Rattle.smart_statements.specs.Kinds.{requests}
use Rattle.smart_statements.specs.Batches.{Batch}
use Rattle.smart_messages.specs.Messages.{decoded}
use Rattle.smart_messages.specs.declared.message.Message.{Message}
use Rattle.message_words.specs.Words.{summary_of}
use Rattle.message_words.specs.declared.words.Summary.{Summary}
use Rattle.message_words.specs.declared.words.Summary.TheVariants as summaries
use Rattle.smart_statements.specs.declared.statement.Request.{Request}
use Rattle.smart_messages.specs.declared.message.Message.TheVariants.{Ask}
use Rattle.smart_statements.specs.declared.entry.NodeEvent.{NodeEvent}
use Rattle.smart_statements.specs.declared.entry.NodeEvent.TheVariants.{Arrive, Tick, Deliver, Firm}
use Rattle.smart_base.specs.declared.party.Party.{Party}
use Rattle.smart_base.specs.declared.party.Party.TheVariants as parties
use Rattle.smart_base.specs.declared.limits.TheConstants.{CLIENTS, MESSAGES, PAYLOAD_BYTES}
use Rattle.smart_service.specs.Services.{Meaning}
use Rattle.replica_rules.specs.Replicas.{views_after}
use Rattle.replica_rules.specs.Seals.{signed}
use Rattle.node_rules.specs.Nodes.{Node, next_place, view_of, regency_of}
use Rattle.node_rules.specs.Deliveries.{Segment, segment_after}
use Rattle.node_rules.specs.Steps.{Outcome, Outset, step_of, leaving, released, opened, outset}
use Rattle.node_rules.specs.Kept.{core_step}
use Rattle.node_rules.specs.Transfers.{completed_by}
use Rattle.node_rules.specs.Marks.{wanted}
use Rattle.vote_book.specs.Books.{number_or}
use Rattle.node_rules.specs.Tails.{tail_of}
use Rattle.node_rules.specs.declared.node.Why.{Why}
use Rattle.node_rules.specs.declared.node.Held.{Held}
use Rattle.node_rules.specs.declared.node.OwnSnapshot.{OwnSnapshot}
use Rattle.node_rules.specs.declared.node.Parts.{Parts}
use Rattle.node_rules.specs.declared.node.Target.{Target}
use Rattle.node_rules.specs.declared.node.Target.TheVariants as targets
use Rattle.node_rules.specs.declared.node.Delivery.{Delivery}
use Rattle.node_rules.specs.declared.node.Fired.{Fired}
use Rattle.node_rules.specs.declared.node.Fired.TheVariants as fires
use Rattle.vote_book.specs.Entries.{entry_text}
use Rattle.vote_book.specs.declared.entry.LogEntry.{LogEntry}
use Rattle.store_laws.specs.Restored.{Images, restores}
use Rattle.store_laws.specs.States.{StoreState, is_due, wants_tail, store_called, given, asked, store_opened}
use Rattle.store_laws.specs.Lives.{no_bytes}
use Rattle.store_laws.specs.Stops.{is_installed}
use Rattle.store_laws.specs.Unswitched.{no_tail}
use Rattle.store_laws.specs.declared.job.Kept.{Kept}
use Rattle.store_laws.specs.declared.job.Tail.{Tail}
use Rattle.world_rules.specs.Crashes.{images_left, wrong_images, bytes_held, written_book, still_aside}
use Rattle.world_rules.specs.Fronts.{count_kept}
use Rattle.world_rules.specs.declared.crash.Image.{Image}
use Rattle.world_rules.specs.declared.crash.Patch.{Patch}
use Rattle.world_rules.specs.declared.crash.NotAnImage as stores
use Rattle.node_rules.specs.Reopening.{damage_of, reopened_from}
use Rattle.world_rules.specs.Repeats.{until_rest, each_from}
use Rattle.world_rules.specs.Secrets.{group_secret}
use Rattle.world_rules.specs.Premises.{is_among, too_many_in, is_forged, texts_in, clash, collides, texts_met, marked_with, all_marked, bytes_of}
use Rattle.world_rules.specs.Injections.{injected}
use Rattle.client_quorum.specs.Clients.{fresh, request_of, asking, learning}
use Rattle.client_quorum.specs.Readings.{word_read, after_word}
use Rattle.client_quorum.specs.declared.client.Word.{Word}
use Rattle.world_rules.specs.Clients.{heard_word}
use Rattle.client_quorum.specs.declared.client.Client.{Client}
use Rattle.client_quorum.specs.declared.client.Acceptance.{Acceptance}
use Rattle.client_quorum.specs.declared.client.Ignored.TheVariants as reasons
use Rattle.client_quorum.specs.declared.client.Heard.{Heard}
use Rattle.client_quorum.specs.declared.client.Heard.TheVariants as hears
use Rattle.world_rules.specs.declared.message.Origin.{Origin}
use Rattle.world_rules.specs.declared.message.Origin.TheVariants as origins
use Rattle.world_rules.specs.declared.message.Sent.{Sent}
use Rattle.world_rules.specs.declared.message.Ending.{Ending}
use Rattle.world_rules.specs.declared.message.Ending.TheVariants.{Limit, Premise}
use Rattle.world_rules.specs.declared.message.Premise as premises
use Rattle.world_rules.specs.declared.message.Premise.TheVariants.{TooManyFaulty, Forged, Collision, NotAnImage}
use Rattle.world_rules.specs.declared.message.Content.{Content}
use Rattle.world_rules.specs.declared.message.Content.TheVariants as contents
use Rattle.world_rules.specs.declared.line.Header.{Header}
use Rattle.world_rules.specs.declared.line.Injection.{Injection}
use Rattle.world_rules.specs.declared.line.OutLine.{OutLine}
use Rattle.world_rules.specs.declared.line.OutLine.TheVariants as outs

-- The way in which a world moves: what an event makes of a node, which service the nodes run, and whether members' lives are written down.
-- No node keeps the lives, and a program need not write them down.
pub record Course (S : Type 0) : Type 0 where
  pub step : Node S → NodeEvent → Outcome S
  pub meaning : Meaning S
  pub remembers : Bool

-- the course of whole nodes, as the definitions state them
abbrev pub course_of : {S : Type 0} → Meaning S → Course S
course_of m = record { step = step_of m; meaning = m; remembers = true }

-- the course of cores, which keep only what they still need and write no lives down
abbrev pub core_course : {S : Type 0} → Meaning S → Course S
core_course m = record { step = core_step m; meaning = m; remembers = false }

-- what the world writes down of a member's lives, and no node keeps
pub record Life : Type 0 where
  -- the diary: all entries that became firm in any life, and those that crashes brought back
  pub diary : List LogEntry
  -- what the life had written that wrote past a gate which a crash left torn; empty if no gate is torn
  pub aside : List LogEntry

-- the host of a member: its node, its store, and its lives
pub record Host (S : Type 0) : Type 0 where
  -- the node; after a crash, as it was when it crashed
  pub node : Node S
  -- whether the node runs
  pub up : Bool
  -- the store of what the node writes: its newest checkpoint, and the entries of its log
  pub store : StoreState
  -- the place of the checkpoint to which the store switches, or last did in this life; 0 before the first
  pub switching : ℕ
  -- what is written down of the member's lives
  pub life : Life
  -- the present segment of deliveries: the place at which this life began or last took over a replica, the batches that its steps delivered
  -- since, and those that earlier steps delivered
  pub resumed : ℕ
  pub delivered : List Delivery
  pub earlier : List Delivery

-- the world after some lines of a script
pub record World (S : Type 0) : Type 0 where
  -- the view that the group begins with
  pub view : View
  -- the period: in so many places each member takes one checkpoint
  pub period : ℕ
  -- the members' hosts, by ascending number
  pub hosts : List (Host S)
  -- the clients: client i is at index i
  pub clients : List Client
  -- everything that was sent or injected: message i is at index i - 1
  pub sent : List Sent
  -- the snapshots that were met as nodes marked them, or as their last part came, each once
  pub marked : List (List ℕ)
  -- the number of the last message that a flow has given
  pub mark : ℕ
  -- the chosen list: the batch that was decided first at each place, from 1
  pub chosen : List Batch
  -- the replies that clients accepted, in order
  pub accepted : List Acceptance
  -- the transcript of the present script line
  pub told : List OutLine
  -- the members that were declared faulty, and the clients that were declared rogue
  pub faulty : List ℕ
  pub rogue : List ℕ
  -- the reason for which the play has ended, if it has
  pub ending : Option Ending

-- nothing more happens in the present line
abbrev pub is_halted : {S : Type 0} → World S → Bool
is_halted w = is_some w.ending

-- The ending of a play in which a premise is broken: the first one that was broken is told. A limit that was met before gives way.
abbrev pub breaking : premises.Premise → Option Ending → Option Ending
breaking premise (Some (Premise first)) = Some (Premise first)
breaking premise (Some Limit) = Some (Premise premise)
breaking premise None = Some (Premise premise)

-- the ending of a play whose chosen list grew: if too many members of one of its views are faulty, a premise is broken
abbrev pub ending_few : View → List Batch → List ℕ → Option Ending → Option Ending
ending_few view chosen faulty ending = if too_many_in (views_after view chosen) faulty then breaking TooManyFaulty ending else ending

-- messages that leave

-- a transcript line added to those of the present script line
abbrev pub telling : {S : Type 0} → World S → OutLine → World S
telling w line = record w { told = w.told ++ line ∷ [] }

-- the transcript's words for what was sent
abbrev pub summary : Content → Summary
summary (contents.Message m) = summary_of m
summary (contents.Raw bytes) = summaries.Raw

-- The world after something was sent: it gets the next number, up to 2^24. A text in it that clashes with one that was met ends the play,
-- also if no number is left.
unfoldable pub posts : {S : Type 0} → World S → Sent → World S
posts w s =
    if collides (texts_met w.sent w.marked) (texts_in s.content) then record w { ending = breaking Collision w.ending }
    else if nat_lt (length w.sent) MESSAGES
    then record w {
      sent = w.sent ++ s ∷ [];
      told = w.told ++ outs.Sent (length w.sent + 1) s.origin (summary s.content) ∷ [];
    }
    else record w { ending = or_else w.ending (Some Limit) }

-- a client that has asked
abbrev pub has_asked : Client → Bool
has_asked c = nat_lt 0 c.last

-- the number of a client, if it has asked
abbrev pub asked_by : Client → List ℕ
asked_by c = if has_asked c then c.id ∷ [] else []

-- the clients that have asked, by ascending number
abbrev pub asked_in : List Client → List ℕ
asked_in clients = flat_map asked_by clients

-- the parties that hear a message for a target: the members of its sender's view, one member, a client, or all clients that have asked
abbrev pub heard_by : View → List ℕ → Target → List Party
heard_by view asked targets.View = map (λ (id : ℕ). parties.Member id) view.members
heard_by view asked (targets.Node id) = parties.Member id ∷ []
heard_by view asked (targets.Client id) = parties.Client id ∷ []
heard_by view asked targets.Clients = map (λ (id : ℕ). parties.Client id) asked

-- the world after a message was sent for a target, from a sender in a view
abbrev pub sends : {S : Type 0} → World S → Origin → View → Target → Message → World S
sends w origin view to message = posts w (record { origin = origin; to = heard_by view (asked_in w.clients) to; content = contents.Message message })

-- the world after a node's messages left, in order
abbrev pub sends_all : {S : Type 0} → ℕ → View → World S → List Held → World S
sends_all id view w [] = w
sends_all id view w (h ∷ hs) = sends_all id view (sends w (origins.Node id) view h.to h.message) hs

-- snapshots that are marked, or that parts complete

-- the ending of a play in which one more snapshot is met: one that clashes with a text that was met before it ends the play
abbrev pub ending_with : List Sent → List (List ℕ) → Option Ending → List ℕ → Option Ending
ending_with sent marked ending snapshot = if list_any (clash snapshot) (texts_met sent marked) then breaking Collision ending else ending

-- the ending of a play in which several more are met, in order
abbrev pub all_ending : List Sent → List (List ℕ) → Option Ending → List (List ℕ) → Option Ending
all_ending sent marked ending [] = ending
all_ending sent marked ending (s ∷ ss) = all_ending sent (marked_with sent marked s) (ending_with sent marked ending s) ss

-- the world after snapshots were met, in order
abbrev pub meets : {S : Type 0} → World S → List (List ℕ) → World S
meets w snapshots = record w { marked = all_marked w.sent w.marked snapshots; ending = all_ending w.sent w.marked w.ending snapshots }

-- the snapshot that a rule reports as marked, if it is one
abbrev pub snapshot_in : Fired → List (List ℕ)
snapshot_in (fires.Installed place) = []
snapshot_in fires.Spoiled = []
snapshot_in (fires.Delivered d) = []
snapshot_in (fires.Viewed number) = []
snapshot_in (fires.Marked snapshot) = snapshot ∷ []
snapshot_in (fires.Adopted s) = []
snapshot_in fires.Joined = []
snapshot_in (fires.Promised p) = []
snapshot_in fires.Led = []
snapshot_in fires.Proposed = []
snapshot_in fires.Wrote = []
snapshot_in fires.Accepted = []
snapshot_in (fires.Decided place) = []
snapshot_in fires.Timed = []
snapshot_in fires.Answered = []

-- events of a node

-- the transcript line of a dropped message
abbrev pub told_drop : ℕ → Option Why → List OutLine
told_drop id None = []
told_drop id (Some why) = outs.Dropped id why ∷ []

-- the transcript lines of an event that a rule reported
abbrev pub told_fired : ℕ → Fired → List OutLine
told_fired id (fires.Installed place) = outs.Installed id place ∷ []
told_fired id fires.Spoiled = []
told_fired id (fires.Delivered d) = outs.Delivered id d.place d.executed ∷ []
told_fired id (fires.Viewed number) = outs.View id number ∷ []
told_fired id (fires.Marked snapshot) = []
told_fired id (fires.Adopted s) = outs.Synced id s.view s.regency s.base (is_some s.bound) ∷ []
told_fired id fires.Joined = []
told_fired id (fires.Promised p) = outs.Promised id p.view p.regency ∷ []
told_fired id fires.Led = []
told_fired id fires.Proposed = []
told_fired id fires.Wrote = []
told_fired id fires.Accepted = []
told_fired id (fires.Decided place) = outs.Decided id place ∷ []
told_fired id fires.Timed = []
told_fired id fires.Answered = []

-- the chosen list, with a node's waiting batch if no node had decided that place before
abbrev pub chosen_with : List Batch → ℕ → Option Batch → List Batch
chosen_with chosen place None = chosen
chosen_with chosen place (Some batch) = if place == length chosen + 1 then chosen ++ batch ∷ [] else chosen

-- the bytes of the entries after the first ones
abbrev pub spelled_behind : ℕ → List LogEntry → List (List ℕ)
spelled_behind count entries = map entry_text (drop count entries)

-- the entries of a book after so many first ones, up to a count
abbrev pub from_to : ℕ → ℕ → List LogEntry → List LogEntry
from_to low high book = take (high - low) (drop low book)

-- the life of a node's member after a later node of it: the diary goes on with the entries that became firm between
abbrev pub life_firm : {S : Type 0} → Life → Node S → Node S → Life
life_firm l n later = record { diary = l.diary ++ from_to n.firm later.firm later.entries; aside = l.aside }

-- the new life, if the course writes lives down; else the old one
abbrev pub remembered : {S : Type 0} → Course S → Life → Life → Life
remembered course old new = if course.remembers then new else old

-- the snapshot to which a node wants its store to switch since a step: the last that it took, if it took one in that step
abbrev pub newly_wanted : {S : Type 0} → Node S → Node S → Option OwnSnapshot
newly_wanted before later = if nat_lt (length before.taken) (length later.taken) then wanted later else None

-- a store that is asked to switch to a snapshot, if there is one
abbrev pub asking_for : Option OwnSnapshot → StoreState → StoreState
asking_for None s = s
asking_for (Some own) s = asked own.snapshot s

-- the present segment of a host's deliveries
abbrev pub segment_of : {S : Type 0} → Host S → Segment
segment_of h = record { began = h.resumed; delivered = h.delivered; earlier = h.earlier }

-- the host after a step: the node lets go what may leave, and its new entries wait in the store. If it took a checkpoint, be it its own or that
-- of others, the store is asked to switch to it.
abbrev pub host_after : {S : Type 0} → Course S → Host S → Outcome S → Host S
host_after course h o = record h {
  node = released o.node;
  store = asking_for (newly_wanted h.node o.node) (given (spelled_behind (length h.node.entries) o.node.entries) h.store);
  life = remembered course h.life (life_firm h.life h.node o.node);
  resumed = (segment_after (segment_of h) o.fired).began;
  delivered = (segment_after (segment_of h) o.fired).delivered;
  earlier = (segment_after (segment_of h) o.fired).earlier;
}

-- The world after a step of a node. Its transcript tells the step's events first, and then the messages that leave. The view is the node's
-- after the step. A decision may make a view of which too many are faulty, and what the step marks is met: both come before the messages get
-- their numbers.
unfoldable pub stepped : {S : Type 0} → Course S → World S → ℕ → Host S → Outcome S → World S
stepped course w i h o =
    sends_all h.node.id (view_of o.node)
    (meets
    (record w {
      hosts = slice_set w.hosts i (host_after course h o);
      chosen = chosen_with w.chosen (next_place o.node) o.node.waiting;
      told = w.told ++ (told_drop h.node.id o.dropped ++ flat_map (told_fired h.node.id) o.fired);
      ending = ending_few w.view (chosen_with w.chosen (next_place o.node) o.node.waiting) w.faulty w.ending;
    })
    (flat_map snapshot_in o.fired))
    (leaving o.node.firm o.node.held)

-- a member that is faulty, whose node is gone
abbrev pub is_gone : {S : Type 0} → World S → ℕ → Bool
is_gone w member = is_among w.faulty member

-- a client that is rogue
abbrev pub is_rogue : {S : Type 0} → World S → ℕ → Bool
is_rogue w client = is_among w.rogue client

-- a node that runs: its member has not crashed, and is not faulty
abbrev pub is_up : {S : Type 0} → World S → Host S → Bool
is_up w h = h.up && not (is_gone w h.node.id)

-- The world after an event at a host whose node runs. The text that the event completes is met first. If it clashes with one that was met, the
-- play ends, and the node does not take the event.
abbrev pub steps_unless : {S : Type 0} → Course S → ℕ → NodeEvent → World S → Host S → World S
steps_unless course i event w h = if is_halted w then w else stepped course w i h (course.step h.node event)

abbrev pub takes_met : {S : Type 0} → Course S → ℕ → NodeEvent → World S → Host S → World S
takes_met course i event w h = steps_unless course i event (meets w (completed_by h.node event)) h

-- the world after an event at a host; nothing happens if its node does not run
abbrev pub host_takes : {S : Type 0} → Course S → ℕ → NodeEvent → World S → Option (Host S) → World S
host_takes course i event w None = w
host_takes course i event w (Some h) = if not (is_up w h) then w else takes_met course i event w h

-- the world after an event at the node at an index; nothing happens after the play has ended
unfoldable pub node_takes : {S : Type 0} → Course S → ℕ → NodeEvent → World S → World S
node_takes course i event w = if is_halted w then w else host_takes course i event w (slice_get w.hosts i)

-- a life after a device call: what was written past a torn gate is lost when the gate is closed
abbrev pub life_called : Life → StoreState → Life
life_called l s = record { diary = l.diary; aside = still_aside s l.aside }

-- the tail that a node's store writes beside a checkpoint of a place
abbrev pub log_tail : {S : Type 0} → Node S → ℕ → Tail
log_tail n place = record { made = (tail_of n place).made; entries = (tail_of n place).entries }

-- the tail that a host's store writes at its next device call, if that call writes one
abbrev pub tail_due : {S : Type 0} → Host S → Tail
tail_due h = if wants_tail h.store then log_tail h.node h.switching else no_tail

-- the place of an own snapshot; 0 if there is none
abbrev pub place_of_own : Option OwnSnapshot → ℕ
place_of_own own = number_or (option_map (λ x. x.place) own) 0

-- The place of the checkpoint to which a host's store switches, after a device call. If a switch waited and waits no more, it has begun: it is
-- that of the snapshot which the node wants.
abbrev pub switching_after : {S : Type 0} → Host S → StoreState → ℕ
switching_after h s = if is_some h.store.asked && not (is_some s.asked) then place_of_own (wanted h.node) else h.switching

-- the store of a host after its next device call
abbrev pub store_after : {S : Type 0} → Host S → StoreState
store_after h = store_called is_installed (tail_due h) h.store

-- the host after its store has made its next device call
unfoldable pub disk_called : {S : Type 0} → Course S → Host S → Host S
disk_called course h = record h { store = store_after h; switching = switching_after h (store_after h); life = remembered course h.life (life_called h.life (store_after h)) }

-- the world after a device call: the node hears how many entries of its life are firm, if they are more than it knows
abbrev pub hears_firm : {S : Type 0} → Course S → ℕ → World S → Host S → World S
hears_firm course i w h =
    if nat_lt h.node.firm h.store.firm
    then stepped course w i h (course.step h.node (Firm (h.store.firm - h.node.restored)))
    else record w { hosts = slice_set w.hosts i h }

-- the world after a host's next device call, if its node runs and a call is due
abbrev pub host_calls : {S : Type 0} → Course S → ℕ → World S → Option (Host S) → World S
host_calls course i w None = w
host_calls course i w (Some h) =
    if not (is_up w h) then w
    else if is_due is_installed h.store then hears_firm course i w (disk_called course h)
    else w

-- the world after the store at an index made its next device call, if one is due; its node hears what is firm then
unfoldable pub calls_disk : {S : Type 0} → Course S → ℕ → World S → World S
calls_disk course i w = if is_halted w then w else host_calls course i w (slice_get w.hosts i)

-- the world after one thing that is due at a host without another message: a device call, or else a delivery
abbrev pub takes_due : {S : Type 0} → Course S → ℕ → World S → Option (Host S) → World S
takes_due course i w None = w
takes_due course i w (Some h) =
    if is_due is_installed h.store then calls_disk course i w
    else if is_some h.node.waiting then node_takes course i Deliver w
    else w

-- the world after one thing that is due at the host at an index
unfoldable pub settle_once : {S : Type 0} → Course S → ℕ → World S → World S
settle_once course i w = takes_due course i w (slice_get w.hosts i)

-- the world after the host at an index did all that was due
abbrev pub settle : {S : Type 0} → Course S → ℕ → World S → World S
settle course i w = until_rest (settle_once course i) w

-- a member that a line lists; an empty list lists all members
abbrev pub is_listed : List ℕ → ℕ → Bool
is_listed [] member = true
is_listed (m ∷ ms) member = list_any (λ x. x == member) (m ∷ ms)

-- the world after something at a host, if its member is listed
abbrev pub where_listed : {S : Type 0} → List ℕ → (ℕ → World S → World S) → ℕ → World S → Option (Host S) → World S
where_listed members f i w None = w
where_listed members f i w (Some h) = if is_listed members h.node.id then f i w else w

-- the world after something at the host at an index, if its member is listed
abbrev pub at_listed : {S : Type 0} → List ℕ → (ℕ → World S → World S) → ℕ → World S → World S
at_listed members f i w = where_listed members f i w (slice_get w.hosts i)

-- the world after something at each host whose member is listed, by ascending number
abbrev pub each_listed : {S : Type 0} → List ℕ → (ℕ → World S → World S) → World S → World S
each_listed members f w = each_from (at_listed members f) (length w.hosts) 0 w

-- the transcript line of a member whose node does not run, if the script line names members
abbrev pub told_absent : List ℕ → ℕ → List OutLine
told_absent [] member = []
told_absent (m ∷ ms) member = outs.Absent member ∷ []

-- transcript lines added to those of the present script line
abbrev pub telling_all : {S : Type 0} → World S → List OutLine → World S
telling_all w lines = record w { told = w.told ++ lines }

-- the world after a host settled, if its node runs; else the transcript tells that the named member is absent
abbrev pub settle_present : {S : Type 0} → Course S → List ℕ → ℕ → World S → Option (Host S) → World S
settle_present course members i w None = w
settle_present course members i w (Some h) =
    if is_up w h then settle course i w else telling_all w (told_absent members h.node.id)

-- the world after each listed node settled, by ascending number
abbrev pub settle_all : {S : Type 0} → Course S → List ℕ → World S → World S
settle_all course members w = each_listed members (λ i v. settle_present course members i v (slice_get v.hosts i)) w

-- the world after the node at an index took the bytes of a message and settled
unfoldable pub gives : {S : Type 0} → Course S → List ℕ → ℕ → World S → World S
gives course bytes i w = settle course i (node_takes course i (Arrive bytes) w)

-- the index of a member's host, if the member has one
abbrev pub host_index : {S : Type 0} → List (Host S) → ℕ → Option ℕ
host_index hosts member = position (λ h. h.node.id == member) hosts

-- the world after something at an index, if there is one
abbrev pub at_index : {S : Type 0} → (ℕ → World S → World S) → World S → Option ℕ → World S
at_index f w None = w
at_index f w (Some i) = f i w

-- the world after a member's node took bytes and settled, if the member is listed
abbrev pub give_one : {S : Type 0} → Course S → List ℕ → List ℕ → ℕ → World S → World S
give_one course members bytes member w = at_index (at_listed members (gives course bytes)) w (host_index w.hosts member)

-- clients

-- the transcript line of what a client made of a member's word
abbrev pub told_heard : ℕ → Heard → OutLine
told_heard id (hears.Counted count need) = outs.Counted id count need
told_heard id (hears.Accepted a) = outs.Accepted id a.request.seq a.place a.index a.reply
told_heard id (hears.Viewed count need) = outs.Viewed id count need
told_heard id (hears.Moved number) = outs.Moved id number
told_heard id (hears.Ignored why) = outs.Ignored id why

-- the acceptance that a client made of a member's word, if it made one
abbrev pub acceptance_in : Heard → List Acceptance
acceptance_in (hears.Counted count need) = []
acceptance_in (hears.Accepted a) = a ∷ []
acceptance_in (hears.Viewed count need) = []
acceptance_in (hears.Moved number) = []
acceptance_in (hears.Ignored why) = []

-- the world after a client made something of a member's word
unfoldable pub hearing : {S : Type 0} → World S → ℕ → Client → Word → Heard → World S
hearing w i c word h =
    record w {
      clients = slice_set w.clients i (after_word c word h);
      accepted = w.accepted ++ acceptance_in h;
      told = w.told ++ told_heard c.id h ∷ [];
    }

-- the world after a client heard bytes that were read; a client ignores everything but members' words
abbrev pub client_hears : {S : Type 0} → World S → ℕ → Client → Option Word → World S
client_hears w i c None = telling w (outs.Ignored c.id reasons.Unread)
client_hears w i c (Some word) = hearing w i c word (heard_word c word)

abbrev pub hears_bytes : {S : Type 0} → World S → ℕ → List ℕ → Option Client → World S
hears_bytes w i bytes None = w
hears_bytes w i bytes (Some c) = client_hears w i c (word_read (decoded bytes))

-- the world after a client heard the bytes of a message
unfoldable pub client_takes : {S : Type 0} → ℕ → List ℕ → World S → World S
client_takes i bytes w = if is_halted w then w else hears_bytes w i bytes (slice_get w.clients i)

-- The world after a client asked the members of its present view, if none of its requests waits. It has at most 2^63 - 1 requests, and an
-- operation has at most 4,096 bytes.
abbrev pub client_asks : {S : Type 0} → World S → ℕ → Client → List ℕ → Option Request → World S
client_asks w i c op (Some q) = telling w (outs.Busy c.id q.seq)
client_asks w i c op None =
    if nat_lt (c.last + 1) (2 ^ 63) && nat_le (length op) PAYLOAD_BYTES
    then sends (record w { clients = slice_set w.clients i (asking c (request_of c op)) }) (origins.Client c.id) (present c.views) targets.View
    (Ask (signed requests group_secret c.id (request_of c op)))
    else w

-- the world after a client was told to ask; a rogue client does nothing
abbrev pub ask_found : {S : Type 0} → World S → ℕ → List ℕ → Option Client → World S
ask_found w i op None = w
ask_found w i op (Some c) = if is_rogue w c.id then telling w (outs.IdleClient c.id) else client_asks w i c op c.waiting

unfoldable pub asks : {S : Type 0} → ℕ → List ℕ → World S → World S
asks i op w = if is_halted w then w else ask_found w i op (slice_get w.clients i)

-- the world after a client sent its waiting request again
abbrev pub client_repeats : {S : Type 0} → World S → Client → Option Request → World S
client_repeats w c None = telling w (outs.IdleClient c.id)
client_repeats w c (Some q) = sends w (origins.Client c.id) (present c.views) targets.View (Ask (signed requests group_secret c.id q))

abbrev pub repeat_found : {S : Type 0} → World S → Option Client → World S
repeat_found w None = w
repeat_found w (Some c) = if is_rogue w c.id then telling w (outs.IdleClient c.id) else client_repeats w c c.waiting

unfoldable pub repeats : {S : Type 0} → ℕ → World S → World S
repeats i w = if is_halted w then w else repeat_found w (slice_get w.clients i)

-- the world after a client was told of a place
abbrev pub learns : {S : Type 0} → World S → ℕ → ℕ → Option Client → World S
learns w place i None = w
learns w place i (Some c) = telling (record w { clients = slice_set w.clients i (learning c place) }) (outs.Learned c.id (learning c place).seen)

abbrev pub learns_from : {S : Type 0} → World S → Option Client → ℕ → World S
learns_from w None i = w
learns_from w (Some c) i = if is_rogue w c.id then telling w (outs.IdleClient c.id) else learns w c.seen i (slice_get w.clients i)

-- the world after a client was told of the greatest place that another one knows
unfoldable pub tells : {S : Type 0} → ℕ → ℕ → World S → World S
tells from to w = if is_halted w then w else learns_from w (slice_get w.clients from) to

-- flow

-- the world after bytes reached an addressee: a member, if the line lists it, or a client
abbrev pub reaches : {S : Type 0} → Course S → List ℕ → List ℕ → Party → World S → World S
reaches course members bytes (parties.Member id) w = give_one course members bytes id w
reaches course members bytes (parties.Client id) w = client_takes id bytes w

-- the world after bytes went to addressees, in order
abbrev pub goes : {S : Type 0} → Course S → List ℕ → World S → List ℕ → List Party → World S
goes course members w bytes [] = w
goes course members w bytes (to ∷ tos) = goes course members (reaches course members bytes to w) bytes tos

abbrev pub flow_sent : {S : Type 0} → Course S → List ℕ → World S → Option Sent → World S
flow_sent course members w None = w
flow_sent course members w (Some s) = goes course members (record w { mark = w.mark + 1 }) (bytes_of s.content) s.to

-- the world after the next message past the mark went to its addressees: listed members, and clients
unfoldable pub flow_once : {S : Type 0} → Course S → List ℕ → World S → World S
flow_once course members w = if is_halted w then w else flow_sent course members w (slice_get w.sent w.mark)

-- the world after a flow: the listed nodes settle, and each message past the mark goes to its addressees until none is left
abbrev pub flows : {S : Type 0} → Course S → List ℕ → World S → World S
flows course members w = until_rest (flow_once course members) (settle_all course members w)

-- deliveries one by one

-- the world after something at a host, if its node runs
abbrev pub at_host : {S : Type 0} → (ℕ → World S → World S) → ℕ → World S → Option (Host S) → World S
at_host f i w None = w
at_host f i w (Some h) = if is_up w h then f i w else telling w (outs.Absent h.node.id)

-- the world after something at a member's host, if its node runs
abbrev pub at_member : {S : Type 0} → (ℕ → World S → World S) → ℕ → World S → World S
at_member f member w = at_index (λ i v. at_host f i v (slice_get v.hosts i)) w (host_index w.hosts member)

-- the world after bytes arrived at a member's node or at a client
abbrev pub arrives : {S : Type 0} → Course S → List ℕ → Party → World S → World S
arrives course bytes (parties.Member id) w = at_member (λ i v. node_takes course i (Arrive bytes) v) id w
arrives course bytes (parties.Client id) w = client_takes id bytes w

abbrev pub arrives_at : {S : Type 0} → Course S → List ℕ → List Party → World S → World S
arrives_at course bytes [] w = w
arrives_at course bytes (to ∷ tos) w = arrives_at course bytes tos (arrives course bytes to w)

abbrev pub sent_arrives : {S : Type 0} → Course S → List Party → World S → Option Sent → World S
sent_arrives course to w None = w
sent_arrives course to w (Some s) = arrives_at course (bytes_of s.content) to w

-- the world after the message of a number arrived at each of some parties, in order
abbrev pub give_number : {S : Type 0} → Course S → ℕ → List Party → World S → World S
give_number course number to w = sent_arrives course to w (slice_get w.sent (number - 1))

-- the transcript line of a node at which an event fired no rule
abbrev pub told_idle : ℕ → List Fired → List OutLine
told_idle id [] = outs.Idle id ∷ []
told_idle id (rule ∷ rules) = []

abbrev pub host_tries : {S : Type 0} → Course S → NodeEvent → ℕ → World S → Option (Host S) → World S
host_tries course event i w None = w
host_tries course event i w (Some h) =
    if not (is_up w h) then w else telling_all (stepped course w i h (course.step h.node event)) (told_idle h.node.id (course.step h.node event).fired)

-- the world after the node at an index was to deliver, or time passed there
unfoldable pub tries_at : {S : Type 0} → Course S → NodeEvent → ℕ → World S → World S
tries_at course event i w = if is_halted w then w else host_tries course event i w (slice_get w.hosts i)

-- the world after the nodes of some members were to deliver, or time passed there, in order
abbrev pub tries_each : {S : Type 0} → Course S → NodeEvent → List ℕ → World S → World S
tries_each course event [] w = w
tries_each course event (m ∷ ms) w = tries_each course event ms (at_member (tries_at course event) m w)

abbrev pub deliver_each : {S : Type 0} → Course S → List ℕ → World S → World S
deliver_each course members w = tries_each course Deliver members w

abbrev pub tick_each : {S : Type 0} → Course S → List ℕ → World S → World S
tick_each course members w = tries_each course Tick members w

-- crashes

-- a diary, with what a book has after it among so many first entries
abbrev pub with_front : List LogEntry → ℕ → List LogEntry → List LogEntry
with_front diary count book = diary ++ drop (length diary) (take count book)

-- The life of a member after a crash. The bytes left restore a front of one book, cut at the place of a checkpoint: of what this life has
-- written, or of an earlier one until no gate is torn. The diary gains what it lacks of this front. If a gate is torn now, that book is put
-- aside.
abbrev pub life_left : Life → List LogEntry → Images → Life
life_left l book left = record { diary = with_front l.diary (count_kept left book) book; aside = still_aside (store_opened left) book }

-- what the diary of a host's member would be, if all entries of its node became firm
abbrev pub written : {S : Type 0} → Host S → List LogEntry
written h = h.life.diary ++ drop h.node.firm h.node.entries

-- the life of a host's member after a crash that leaves given bytes
abbrev pub life_crashed : {S : Type 0} → Host S → Images → Life
life_crashed h left = life_left h.life (written_book h.store (written h) h.life.aside) left

-- the host after a crash that leaves given bytes
abbrev pub host_crashed : {S : Type 0} → Course S → Host S → Images → Host S
host_crashed course h left = record h { up = false; store = store_opened left; life = remembered course h.life (life_crashed h left) }

-- the world after a crash of a host, if the bytes may be left; else a premise is broken
abbrev pub crashes_with : {S : Type 0} → Course S → ℕ → World S → Host S → Images → Option stores.NotAnImage → World S
crashes_with course i w h left None = telling (record w { hosts = slice_set w.hosts i (host_crashed course h left) }) (outs.Crashed h.node.id)
crashes_with course i w h left (Some wrong) = record w { ending = Some (Premise (NotAnImage wrong)) }

-- the world after a crash of a host, if its node runs
abbrev pub host_crashes : {S : Type 0} → Course S → Image → List Patch → ℕ → World S → Option (Host S) → World S
host_crashes course image patches i w None = w
host_crashes course image patches i w (Some h) =
    if is_up w h
    then crashes_with course i w h (images_left image patches h.store) (wrong_images h.store (images_left image patches h.store))
    else w

-- the world after a crash of the member at an index, which leaves an image of its devices with patches
unfoldable pub crashes : {S : Type 0} → Course S → Image → List Patch → ℕ → World S → World S
crashes course image patches i w = if is_halted w then w else host_crashes course image patches i w (slice_get w.hosts i)

-- the world after a crash of each member whose node runs
abbrev pub crash_all : {S : Type 0} → Course S → Image → World S → World S
crash_all course image w = each_from (crashes course image []) (length w.hosts) 0 w

-- restart: a node starts again from what its devices hold (recovery: Dura-SMaRt, USENIX ATC 2013)

-- what a member of a play begins from, at the first opening of its book
abbrev pub outset_of : {S : Type 0} → Meaning S → View → ℕ → ℕ → Outset S
outset_of m view period id = outset m group_secret id view period

-- what devices give a node: the snapshot of their newest checkpoint, if there is one, and the entries of the log after it
abbrev pub parts_of : Kept → Parts
parts_of kept = record { snapshot = option_map (λ x. x.snapshot) kept.present; entries = kept.entries }

-- what a host's devices give its node at a restart
abbrev pub parts_held : {S : Type 0} → Host S → Parts
parts_held h = parts_of (restores (bytes_held h.store))

-- the host after a restart; if nothing was restored, the node opens a new book
abbrev pub host_resumed : {S : Type 0} → Host S → Node S → Host S
host_resumed h n = record h {
  node = n;
  up = true;
  store = given (spelled_behind n.restored n.entries) h.store;
  switching = 0;
  resumed = n.replica.place;
  delivered = [];
  earlier = h.earlier ++ h.delivered;
}

-- the world after a restart from restored parts. Damaged ones change nothing; a member's own store never holds any.
abbrev pub resumes_from : {S : Type 0} → Course S → ℕ → World S → Host S → Parts → Option ℕ → World S
resumes_from course i w h parts (Some damage) = w
resumes_from course i w h parts None =
    let n : Node _ = reopened_from course.meaning group_secret h.node.id w.view w.period parts in
    telling (record w { hosts = slice_set w.hosts i (host_resumed h n) }) (outs.Restarted h.node.id n.replica.place (length parts.entries))

-- the world after a restart at a host, if its node does not run and its member is not faulty
abbrev pub host_resumes : {S : Type 0} → Course S → ℕ → World S → Option (Host S) → World S
host_resumes course i w None = w
host_resumes course i w (Some h) =
    if h.up || is_gone w h.node.id then w
    else resumes_from course i w h (parts_held h) (damage_of course.meaning group_secret w.view (parts_held h))

-- the world after a restart of the member at an index
unfoldable pub resumes : {S : Type 0} → Course S → ℕ → World S → World S
resumes course i w = if is_halted w then w else host_resumes course i w (slice_get w.hosts i)

-- the world after a restart of each member that has crashed
abbrev pub restart_all : {S : Type 0} → Course S → World S → World S
restart_all course w = each_from (resumes course) (length w.hosts) 0 w

-- the world after a line that restarts one member. A faulty member is told absent, and a running one idle.
abbrev pub restart_at : {S : Type 0} → Course S → ℕ → World S → Option (Host S) → World S
restart_at course i w None = w
restart_at course i w (Some h) =
    if is_gone w h.node.id then telling w (outs.Absent h.node.id)
    else if h.up then telling w (outs.Idle h.node.id)
    else resumes course i w

abbrev pub restart_member : {S : Type 0} → Course S → ℕ → World S → World S
restart_member course member w = at_index (λ i v. restart_at course i v (slice_get v.hosts i)) w (host_index w.hosts member)

-- what is shown

-- the line that shows a host, unless its member is faulty
abbrev pub shown_host : {S : Type 0} → List ℕ → Host S → List OutLine
shown_host faulty h =
    if is_among faulty h.node.id then []
    else if h.up then outs.Stands h.node.id h.node.replica.place (view_of h.node).number (regency_of h.node) ∷ []
    else outs.Down h.node.id ∷ []

-- the line that shows a client, if it has asked
abbrev pub shown_client : Client → List OutLine
shown_client c = if has_asked c then outs.Seen c.id c.seen ∷ [] else []

-- the world after all hosts and clients were shown
abbrev pub shows : {S : Type 0} → World S → World S
shows w = telling_all w (flat_map (shown_host w.faulty) w.hosts ++ flat_map shown_client w.clients)

-- members and clients that break the rules

-- the world with more faulty members, unless they are more than f in one of the views behind the chosen list
abbrev pub with_faulty : {S : Type 0} → World S → List ℕ → World S
with_faulty w faulty = if too_many_in (views_after w.view w.chosen) faulty then record w { ending = Some (Premise TooManyFaulty) } else record w { faulty = faulty }

abbrev pub turns_faulty : {S : Type 0} → World S → ℕ → World S
turns_faulty w member = if is_gone w member then w else with_faulty w (w.faulty ++ member ∷ [])

-- the world after a member was declared faulty
unfoldable pub declares_faulty : {S : Type 0} → ℕ → World S → World S
declares_faulty member w = if is_halted w then w else turns_faulty w member

-- the world in which a client is rogue from now on
abbrev pub turns_rogue : {S : Type 0} → World S → ℕ → World S
turns_rogue w client = if is_rogue w client then w else record w { rogue = w.rogue ++ client ∷ [] }

unfoldable pub declares_rogue : {S : Type 0} → ℕ → World S → World S
declares_rogue client w = if is_halted w then w else turns_rogue w client

-- the world after an injection: a forged one ends the play, and any other gets a number and is for nobody
abbrev pub injects_content : {S : Type 0} → World S → Option Content → World S
injects_content w None = w
injects_content w (Some content) =
    if is_forged w.faulty w.rogue w.sent content then record w { ending = Some (Premise Forged) }
    else posts w (record { origin = origins.Script; to = []; content = content })

unfoldable pub injects : {S : Type 0} → Injection → World S → World S
injects form w = if is_halted w then w else injects_content w (injected w.sent form)

-- the host of a member, if it has one
abbrev pub host_of : {S : Type 0} → List (Host S) → ℕ → Option (Host S)
host_of [] id = None
host_of (h ∷ hs) id = if h.node.id == id then Some h else host_of hs id

-- the beginning

-- the host of a node with a new book, over empty devices
abbrev pub host_of_node : {S : Type 0} → Node S → Host S
host_of_node n = record {
  node = n;
  up = true;
  store = given (spelled_behind 0 n.entries) (store_opened no_bytes);
  switching = 0;
  life = record { diary = []; aside = [] };
  resumed = 0;
  delivered = [];
  earlier = [];
}

-- the hosts of new nodes, for some members
abbrev pub hosts_from : {S : Type 0} → Meaning S → View → ℕ → List ℕ → List (Host S)
hosts_from m view period [] = []
hosts_from m view period (id ∷ ids) = host_of_node (opened (outset_of m view period id)) ∷ hosts_from m view period ids

-- new nodes

-- a number that a member may have
abbrev pub is_name : ℕ → Bool
is_name id = nat_le 1 id && nat_le id 65535

-- how many hosts are of members with lower numbers
abbrev pub hosts_below : {S : Type 0} → List (Host S) → ℕ → ℕ
hosts_below hosts member = length (filter (λ h. nat_lt h.node.id member) hosts)

-- the hosts with one more, behind those of members with lower numbers
abbrev pub with_new : {S : Type 0} → List (Host S) → Host S → List (Host S)
with_new hosts h = insert hosts (hosts_below hosts h.node.id) h

-- the host of a new node of a member, in the view that the group begins with
abbrev pub new_host : {S : Type 0} → Meaning S → World S → ℕ → Host S
new_host m w member = host_of_node (opened (outset_of m w.view w.period member))

-- the world with a new node of a member, by the index of the member's host; nothing happens if the member has one, or the number is no member's
abbrev pub adds_unless : {S : Type 0} → Course S → ℕ → World S → Option ℕ → World S
adds_unless course member w (Some i) = w
adds_unless course member w None = if is_name member then record w { hosts = with_new w.hosts (new_host course.meaning w member) } else w

-- the world after a new node of a member was added
unfoldable pub adds_node : {S : Type 0} → Course S → ℕ → World S → World S
adds_node course member w = if is_halted w then w else adds_unless course member w (host_index w.hosts member)

-- the first clients

-- clients that have not asked, and know a first view: so many, from a number on
unfoldable pub clients_from : View → ℕ → ℕ → List Client
clients_from view zero i = []
clients_from view (suc count) i = fresh view i ∷ clients_from view count (i + 1)

-- the world before the first line of a script
abbrev pub begun : {S : Type 0} → Meaning S → Header → World S
begun m g =
    record {
      view = g.view;
      period = g.period;
      hosts = hosts_from m g.view g.period g.view.members;
      clients = clients_from g.view CLIENTS 0;
      sent = [];
      marked = [];
      mark = 0;
      chosen = [];
      accepted = [];
      told = [];
      faulty = [];
      rogue = [];
      ending = None;
    }
