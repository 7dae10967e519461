-- The restart of a node after a crash, from the checkpoint and the entries that its disks restored (recovery from checkpoint and log:
-- Dura-SMaRt, USENIX ATC 2013).
use Rattle.std.specs.Prelude.{ℕ, ◌+◌, ◌==◌, Bool, true, false, ◌&&◌, List, [], ◌∷◌, ◌++◌, length, filter_map, if◌then◌else◌, Option, Some, None, is_none, Result, Ok, Err}
use Rattle.smart_base.specs.Lists.{or_else}
use Rattle.smart_base.specs.Views.{View, present}
use Rattle.smart_service.specs.Services.{Meaning}
use Rattle.smart_service.specs.declared.replica.Replica.{Replica}
use Rattle.snapshot_form.specs.Snapshots as snapshots
use Rattle.certificates.specs.Certificates.{votes_fault, marks_fault, write_of, accept_of}
use Rattle.certificates.specs.Collects.{view_holding, view_numbered}
use Rattle.vote_book.specs.Admission.{admits}
pub use Rattle.node_rules.specs.Decisions.{batch_past, decided_of}
use Rattle.vote_book.specs.Entries.{entry_decoded}
use Rattle.vote_book.specs.declared.entry.LogEntry.{LogEntry}
use Rattle.vote_book.specs.declared.entry.LogEntry.TheVariants.{Opened, Wrote, Accepted, Promised, Synced, Decided, Installed, Marked}
use Rattle.replica_rules.specs.Replicas.{empty, after_batches, Managed, managed_from, managed_of}
use Rattle.replica_rules.specs.Seals.{digest_of}
use Rattle.node_rules.specs.Nodes.{Node, recording}
use Rattle.node_rules.specs.Arrivals.{is_batch_for}
use Rattle.node_rules.specs.Steps.{Outset, opened}
use Rattle.node_rules.specs.declared.node.OwnSnapshot.{OwnSnapshot}
use Rattle.node_rules.specs.declared.node.Parts.{Parts}

-- ---- which entries are lawful

-- an entry that opens a book
abbrev pub is_opening : LogEntry → Bool
is_opening (Opened o) = true
is_opening (Wrote w) = false
is_opening (Accepted a) = false
is_opening (Promised p) = false
is_opening (Synced s) = false
is_opening (Decided d) = false
is_opening (Installed i) = false
is_opening (Marked m) = false

-- An entry whose evidence holds in a view, as members of the view signed it. An accept has its certificate of WRITEs, a decision its proof, and each
-- batch may stand at its place. An installation has a certificate of marks.
abbrev pub rests_in : List ℕ → View → LogEntry → Bool
rests_in secret view (Opened o) = true
rests_in secret view (Wrote w) = true
rests_in secret view (Accepted a) =
    (a.slot.view == view.number)
    && is_none (votes_fault secret view (write_of a.slot a.digest) a.writes)
    && is_batch_for secret a.slot.place a.digest a.batch
rests_in secret view (Promised p) = true
rests_in secret view (Synced s) = true
rests_in secret view (Decided d) =
    (d.slot.view == view.number)
    && is_none (votes_fault secret view (accept_of d.slot (digest_of d.batch)) d.accepts)
    && is_batch_for secret d.slot.place (digest_of d.batch) d.batch
rests_in secret view (Installed i) = (i.view == view.number) && is_none (marks_fault secret view i.place i.digest i.marks)
rests_in secret view (Marked m) = true

-- the view that holds a place: the last that starts there or earlier, or else the first of the list, from whatever place that starts
abbrev pub view_for : List View → ℕ → Option View
view_for [] place = None
view_for (v ∷ views) place = or_else (view_holding views place) (Some v)

-- The view in which the evidence of an entry has to hold, if there is one: the view that holds its place, or the one that an installation names.
abbrev pub judging : List View → LogEntry → Option View
judging views (Opened o) = Some (present views)
judging views (Wrote w) = Some (present views)
judging views (Accepted a) = view_for views a.slot.place
judging views (Promised p) = Some (present views)
judging views (Synced s) = Some (present views)
judging views (Decided d) = view_for views d.slot.place
judging views (Installed i) = view_numbered views i.view
judging views (Marked m) = Some (present views)

abbrev pub rests_by : List ℕ → Option View → LogEntry → Bool
rests_by secret None entry = false
rests_by secret (Some view) entry = rests_in secret view entry

-- an entry whose evidence holds in the view of some known ones that has to judge it
abbrev pub rests : List ℕ → List View → LogEntry → Bool
rests secret views entry = rests_by secret (judging views entry) entry

-- The views that are known behind entries, which go on from what the view manager's requests have made up to an opening's place.
abbrev pub known_behind : ℕ → Managed → List LogEntry → List View
known_behind opening g entries = (managed_from (opening + 1) g (decided_of opening entries)).views

-- a book's first entry opens it
abbrev pub opens_first : List LogEntry → LogEntry → Bool
opens_first [] entry = is_opening entry
opens_first (e ∷ es) entry = true

-- an entry that may be restored after others: the book admits it, by its opening's place, and its evidence holds by the views that they make
abbrev pub may_restore : List ℕ → ℕ → Managed → List LogEntry → LogEntry → Bool
may_restore secret opening g before entry = opens_first before entry && admits opening (length before + 1) before entry && rests secret (known_behind opening g before) entry

-- the number, from 1, of the first damaged entry, by what the next bytes read as. Bytes are damaged if they are no entry, or one that may
-- not be restored there. Otherwise later entries decide.
abbrev pub damage_at : List ℕ → ℕ → Managed → List LogEntry → (LogEntry → Option ℕ) → Result LogEntry ℕ → Option ℕ
damage_at secret opening g before behind (Err at) = Some (length before + 1)
damage_at secret opening g before behind (Ok entry) = if may_restore secret opening g before entry then behind entry else Some (length before + 1)

-- the number, from 1, of the first damaged entry among bytes restored after other entries, if there is one
abbrev pub damaged_from : List ℕ → ℕ → Managed → List LogEntry → List (List ℕ) → Option ℕ
damaged_from secret opening g before [] = None
damaged_from secret opening g before (bytes ∷ rest) =
    damage_at secret opening g before (λ entry. damaged_from secret opening g (before ++ entry ∷ []) rest) (entry_decoded bytes)

-- the number, from 1, of the first damaged entry of a restored book, if there is one
abbrev pub damaged : List ℕ → ℕ → Managed → List (List ℕ) → Option ℕ
damaged secret opening g restored = damaged_from secret opening g [] restored

-- the entry that bytes read as, if they are one
abbrev pub entry_of : Result LogEntry ℕ → Option LogEntry
entry_of (Ok entry) = Some entry
entry_of (Err at) = None

-- the entries that restored bytes read as, in order
abbrev pub entries_in : List (List ℕ) → List LogEntry
entries_in restored = filter_map (λ bytes. entry_of (entry_decoded bytes)) restored

-- ---- what they make of a node

-- The node of a restart, after one more entry was read, by the place of its outset's replica. A batch that is decided past that place is
-- delivered, and no reply is sent.
abbrev pub takes_back : {S : Type 0} → Meaning S → ℕ → Node S → LogEntry → Node S
takes_back m past n e = record (recording n e) { replica = after_batches m n.replica (decided_of past (e ∷ [])) }

-- the node of a restart, after more entries were read, in order
abbrev pub takes_all_back : {S : Type 0} → Meaning S → ℕ → Node S → List LogEntry → Node S
takes_all_back m past n [] = n
takes_all_back m past n (e ∷ es) = takes_all_back m past (takes_back m past n e) es

-- a node before a restart reads its first entry: its book is empty, and it lags
abbrev pub stopped : {S : Type 0} → Outset S → Node S
stopped o = record (opened o) { entries = []; behind = true }

-- the node after a restart from entries. All of them are firm, and nothing else of the earlier life is left. With no entry the node opens a
-- new book. It lags in both cases (the log is executed again: Dura-SMaRt, USENIX ATC 2013).
unfoldable pub reopened : {S : Type 0} → Meaning S → Outset S → List LogEntry → Node S
reopened m o [] = record (opened o) { behind = true }
reopened m o (e ∷ es) = record (takes_all_back m o.replica.place (stopped o) (e ∷ es)) { restored = length (e ∷ es); firm = length (e ∷ es) }

-- ---- from a checkpoint and the entries behind it

-- The replica with which a restart begins: that of the checkpoint, or the empty one if there is no checkpoint. None if the checkpoint's bytes are
-- the snapshot of no replica.
abbrev pub replica_from : {S : Type 0} → Meaning S → View → Option (List ℕ) → Option (Replica S)
replica_from m view None = Some (empty m view)
replica_from m view (Some snapshot) = snapshots.restored m snapshot

-- the number of the first damaged part, if there is one: 0 if the checkpoint holds no replica, else that of the first damaged entry, from 1
abbrev pub damaged_behind : {S : Type 0} → List ℕ → List (List ℕ) → Option (Replica S) → Option ℕ
damaged_behind secret entries None = Some 0
damaged_behind secret entries (Some r) = damaged secret r.place (managed_of r) entries

-- the number of the first damaged one of a restart's parts, if there is one
unfoldable pub damage_of : {S : Type 0} → Meaning S → List ℕ → View → Parts → Option ℕ
damage_of m secret view parts = damaged_behind secret parts.entries (replica_from m view parts.snapshot)

-- a replica, or the empty one if there is none
abbrev pub or_empty : {S : Type 0} → Meaning S → View → Option (Replica S) → Replica S
or_empty m view None = empty m view
or_empty m view (Some r) = r

-- the snapshot of a checkpoint that holds a replica; it is firm
abbrev pub checkpoint_of : {S : Type 0} → Option (Replica S) → Option (List ℕ) → Option OwnSnapshot
checkpoint_of None snapshot = None
checkpoint_of (Some r) None = None
checkpoint_of (Some r) (Some snapshot) = Some (record { place = r.place; snapshot = snapshot; needs = 0 })

-- what a restart begins from. If the checkpoint holds no replica, the empty one stands for it.
abbrev pub outset_from : {S : Type 0} → Meaning S → List ℕ → ℕ → View → ℕ → Option (List ℕ) → Outset S
outset_from m secret id view period snapshot = record {
  member = id;
  secret = secret;
  period = period;
  replica = or_empty m view (replica_from m view snapshot);
  checkpoint = checkpoint_of (replica_from m view snapshot) snapshot;
}

-- the node after a restart from parts
unfoldable pub reopened_from : {S : Type 0} → Meaning S → List ℕ → ℕ → View → ℕ → Parts → Node S
reopened_from m secret id view period parts = reopened m (outset_from m secret id view period parts.snapshot) (entries_in parts.entries)
