-- The node of one member, and the terms in which its rules are stated.
use Rattle.std.specs.Prelude.{ℕ, ◌+◌, ◌^◌, ◌==◌, nat_lt, nat_le, max, Bool, false, true, ◌&&◌, List, [], ◌∷◌, ◌++◌, length, if◌then◌else◌, Option, Some, None, is_some, is_none}
use Rattle.smart_base.specs.Lists.{same_bytes}
use Rattle.smart_base.specs.Views.{View, is_member, present}
use Rattle.smart_statements.specs.Forms.{Form, SignedBy}
use Rattle.smart_statements.specs.Batches.{Batch}
use Rattle.smart_statements.specs.declared.statement.Request.{Request}
use Rattle.smart_statements.specs.declared.statement.Slot.{Slot}
use Rattle.smart_statements.specs.declared.report.Mark.{Mark}
use Rattle.smart_messages.specs.declared.regency.Stop.{Stop}
use Rattle.smart_messages.specs.declared.regency.Sync.{Sync}
use Rattle.smart_messages.specs.declared.regency.Reported.{Reported}
use Rattle.smart_messages.specs.Regencies.{view_infos}
use Rattle.smart_messages.specs.declared.message.Message.{Message}
use Rattle.smart_messages.specs.declared.message.Message.TheVariants.{ViewTold}
use Rattle.transfer_form.specs.declared.transfer.ProvenBatch.{ProvenBatch}
use Rattle.transfer_form.specs.declared.transfer.StateOffer.{StateOffer}
use Rattle.state_transfer.specs.declared.fetch.Fetch.{Fetch}
use Rattle.smart_service.specs.declared.replica.Replica.{Replica}
use Rattle.vote_book.specs.Standing.{first_start}
use Rattle.vote_book.specs.declared.entry.Start.{Start}
use Rattle.vote_book.specs.declared.entry.LogEntry.{LogEntry}
use Rattle.vote_book.specs.declared.entry.LogEntry.TheVariants.{Opened, Wrote, Accepted, Promised, Synced, Decided, Installed, Marked}
use Rattle.regency_sync.specs.Synchronizers.{Synchronizer}
use Rattle.replica_rules.specs.Seals.{signed}
use Rattle.node_rules.specs.declared.node.Held.{Held}
use Rattle.node_rules.specs.declared.node.OwnSnapshot.{OwnSnapshot}
use Rattle.node_rules.specs.declared.node.Target.{Target}
use Rattle.node_rules.specs.declared.node.Target.TheVariants as targets

-- a member's node: its replica, what came and is still needed, its book, and what waits to be sent
pub record Node (S : Type 0) : Type 0 where
  -- the member's number
  pub id : ℕ
  -- the secret of the group: members and clients sign with it
  pub secret : List ℕ
  -- the number of places in which each member takes one checkpoint; 0 if none does
  pub period : ℕ
  -- the service, the table of clients and the views, after the delivered places
  pub replica : Replica S
  -- the place of the checkpoint with which this life began, 0 without one
  pub opening : ℕ
  -- the batch that is decided and not yet delivered
  pub waiting : Option Batch
  -- the pool: requests that wait to be proposed, in the order in which their clients came
  pub pool : List (SignedBy Request)
  -- proposals and votes that were kept in this life, in the order in which they came
  pub arrivals : List Message
  -- decided batches that others showed, and that were kept in this life
  pub decisions : List ProvenBatch
  -- STOPs that were kept in this life: members' wishes for a next regency
  pub stops : List (SignedBy Stop)
  -- STOPDATA that were kept in this life: members' reports to a new leader, each with the batch of its lock
  pub reports : List Reported
  -- SYNCs that were kept in this life: the reports with which leaders begin their regencies
  pub syncs : List (SignedBy Sync)
  -- marks that were kept in this life: what members state of their replicas. Of each member there is one of each place, and of those the 64
  -- greatest places.
  pub marks : List (SignedBy Mark)
  -- offers of snapshots that were kept since a tick at which the node lagged, each without the marks whose tags do not verify
  pub offers : List StateOffer
  -- the plan of a snapshot to take over, if there is one, and the parts that came for it
  pub fetch : Option Fetch
  -- the book of this life: the entries that were restored, and then those that the node made
  pub entries : List LogEntry
  -- the snapshot of the checkpoint with which this life began, if there was one
  pub checkpoint : Option OwnSnapshot
  -- the snapshots that the node took in this life, each at its own turn or from others, oldest first
  pub taken : List OwnSnapshot
  -- the number of entries that were restored at the start of this life
  pub restored : ℕ
  -- the number of entries that are firm, which means that every crash leaves them, or what stands for them
  pub firm : ℕ
  -- the outbox: messages that wait until entries are firm, in the order in which they leave
  pub held : List Held
  -- the slots for which the node made a proposal in this life
  pub proposed : List Slot
  -- whether the node has asked in this life for the regency after the one in force
  pub stop_made : Bool
  -- whether the node, as leader, has sent the SYNC of the regency in force in this life
  pub sync_made : Bool
  -- whether a wait has begun: time passed under pressure, or a regency was promised; a delivery and an adoption clear it
  pub impatient : Bool
  -- whether the node lags: it restarted, or it heard of a view or a place that votes do not lead it to
  pub behind : Bool

-- ---- where a node stands

-- the view in force: the last one of the replica
abbrev pub view_of : {S : Type 0} → Node S → View
view_of n = present n.replica.views

-- the next place that is delivered
abbrev pub next_place : {S : Type 0} → Node S → ℕ
next_place n = n.replica.place + 1

-- the last place that is decided, delivered or not
abbrev pub decided_place : {S : Type 0} → Node S → ℕ
decided_place n = if is_some n.waiting then n.replica.place + 1 else n.replica.place

-- a free node: no batch waits for delivery, and the next place is below 2^63
abbrev pub is_free : {S : Type 0} → Node S → Bool
is_free n = is_none n.waiting && nat_lt (next_place n) (2 ^ 63)

-- ---- the regency in force, by the book

-- the regency that an entry promises in a view; 0 if it promises none there
abbrev pub regency_in : ℕ → LogEntry → ℕ
regency_in view (Opened o) = 0
regency_in view (Wrote w) = 0
regency_in view (Accepted a) = 0
regency_in view (Promised p) = if p.view == view then p.regency else 0
regency_in view (Synced s) = 0
regency_in view (Decided d) = 0
regency_in view (Installed i) = 0
regency_in view (Marked m) = 0

-- the greatest regency that entries promise in a view; 0 if they promise none
abbrev pub greatest_regency : ℕ → List LogEntry → ℕ
greatest_regency view [] = 0
greatest_regency view (e ∷ es) = max (regency_in view e) (greatest_regency view es)

-- the regency in force: the greatest that the book promises in the view in force
unfoldable pub regency_of : {S : Type 0} → Node S → ℕ
regency_of n = greatest_regency (view_of n).number n.entries

-- the beginning of regency 0: it begins at the first place of its view, and no digest binds there
abbrev pub view_start : View → Start
view_start v = record { view = v.number; regency = 0; base = v.start; bound = None }

-- the beginning of a regency of a view, if the book states it; regency 0 needs no entry
abbrev pub start_at : View → ℕ → List LogEntry → Option Start
start_at v regency entries = if regency == 0 then Some (view_start v) else first_start v.number regency entries

-- the beginning of the regency in force; none until the node has adopted it
unfoldable pub start_of : {S : Type 0} → Node S → Option Start
start_of n = start_at (view_of n) (regency_of n) n.entries

-- a regency of the view in force that has begun, by the book
abbrev pub is_begun : {S : Type 0} → Node S → ℕ → Bool
is_begun n regency = is_some (start_at (view_of n) regency n.entries)

-- a node that takes part in the regency in force, because that regency has begun
abbrev pub is_synced : {S : Type 0} → Node S → Bool
is_synced n = is_some (start_of n)

-- a place at which members vote: the regency has begun, and its base is this place or an earlier one
abbrev pub has_begun : ℕ → Option Start → Bool
has_begun place None = false
has_begun place (Some start) = nat_le start.base place

-- the bound of a place, if it has one: the only digest that may get votes there. A beginning has at most one bound, at its base.
abbrev pub bound_at : ℕ → Option Start → Option (List ℕ)
bound_at place None = None
bound_at place (Some start) = if start.base == place then start.bound else None

-- a digest that may get votes under a bound: there is no bound, or it is the bound
abbrev pub is_within : Option (List ℕ) → List ℕ → Bool
is_within None digest = true
is_within (Some bound) digest = same_bytes bound digest

-- the slot in which the node takes part: the view and regency in force, and the next place
abbrev pub open_slot : {S : Type 0} → Node S → Slot
open_slot n = record { view = (view_of n).number; place = next_place n; regency = regency_of n }

-- an open slot: the node is a member, no batch waits, and the regency in force has begun at the next place
abbrev pub is_open : {S : Type 0} → Node S → Bool
is_open n = is_member (view_of n) n.id && is_free n && has_begun (next_place n) (start_of n)

-- the node's part in a leader change: what it has promised, heard and done
abbrev pub synchronizer_of : {S : Type 0} → Node S → Synchronizer
synchronizer_of n = record {
  id = n.id;
  view = view_of n;
  regency = regency_of n;
  synced = is_some (first_start (view_of n).number (regency_of n) n.entries);
  stop_made = n.stop_made;
  sync_made = n.sync_made;
  stops = n.stops;
  reports = n.reports;
  syncs = n.syncs;
}

-- ---- what it signs and checks

-- what the node checks tags by: the secret of the group, as its ring of keys holds it
abbrev pub ring_of : {S : Type 0} → Node S → List ℕ
ring_of n = n.secret

-- a statement that the node signs
abbrev pub signs : {S A : Type 0} → Node S → Form A → A → SignedBy A
signs n form s = signed form n.secret n.id s

-- ---- what it does

-- a message put into the outbox; it leaves after all entries that the book has now are firm
abbrev pub holding : {S : Type 0} → Node S → Target → Message → Node S
holding n to message = record n { held = n.held ++ record { to = to; message = message; needs = length n.entries } ∷ [] }

-- messages put into the outbox for one party, in order
abbrev pub holding_all : {S : Type 0} → Node S → Target → List Message → Node S
holding_all n to [] = n
holding_all n to (m ∷ ms) = holding_all (holding n to m) to ms

-- a message around a statement that the node signs, put into the outbox. Each message that a rule makes around a statement of its own goes
-- this way.
abbrev pub sending : {S A : Type 0} → Node S → Target → Form A → A → (SignedBy A → Message) → Node S
sending n to form s around = holding n to (around (signs n form s))

-- a later node in the view of an earlier one
abbrev pub stays_in_view : {S : Type 0} → Node S → Node S → Bool
stays_in_view n n' = (view_of n).number == (view_of n').number

-- The node in its view, or in one that has just begun. What it kept is of views that are over, and so is what it did in a regency: nothing of it is
-- used again. What it kept of other members' places and replicas stays.
abbrev pub entered : {S : Type 0} → Bool → Node S → Node S
entered stays n = record n {
  arrivals = if stays then n.arrivals else [];
  stops = if stays then n.stops else [];
  reports = if stays then n.reports else [];
  syncs = if stays then n.syncs else [];
  proposed = if stays then n.proposed else [];
  stop_made = n.stop_made && stays;
  sync_made = n.sync_made && stays;
}

-- a later node, in the view of an earlier one or in a later view
abbrev pub enters : {S : Type 0} → Node S → Node S → Node S
enters n n' = entered (stays_in_view n n') n'

-- what a node states of its view in force
abbrev pub view_told : {S : Type 0} → Node S → Message
view_told n = ViewTold (signs n view_infos (record { view = view_of n }))

-- a node that tells its view, unless it is known
abbrev pub telling : {S : Type 0} → Bool → Target → Node S → Node S
telling known to n = record n { held = if known then n.held else n.held ++ record { to = to; message = view_told n; needs = length n.entries } ∷ [] }

-- a node that tells its view to the clients that have asked, unless it stayed in it
abbrev pub informed : {S : Type 0} → Bool → Node S → Node S
informed stays n = telling stays targets.Clients n

-- a later node, which tells its view if that is not the earlier one's
abbrev pub informs : {S : Type 0} → Node S → Node S → Node S
informs n n' = informed (stays_in_view n n') n'

-- an entry added to the book
abbrev pub recording : {S : Type 0} → Node S → LogEntry → Node S
recording n entry = record n { entries = n.entries ++ entry ∷ [] }
