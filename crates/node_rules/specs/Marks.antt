-- The marks of a node. After the delivery of a mark place it writes down and states the digest of its snapshot there. At its own turn it takes
-- its checkpoint. That members take turns is Dura-SMaRt's (USENIX ATC 2013); that all mark, and sign it, is this project's own rule.
use Rattle.std.specs.Prelude.{ℕ, ◌==◌, nat_lt, nat_le, Bool, false, ◌&&◌, List, [], ◌∷◌, ◌++◌, length, filter, find, if◌then◌else◌, Option, Some, None}
use Rattle.std.specs.Option.{option_to_list}
use Rattle.smart_base.specs.Lists.{or_else}
use Rattle.smart_base.specs.Views.{View}
use Rattle.smart_statements.specs.Forms.{SignedBy}
use Rattle.smart_statements.specs.Reports.{marks}
use Rattle.smart_statements.specs.declared.report.Mark.{Mark}
use Rattle.smart_messages.specs.declared.message.Message.TheVariants as changes
use Rattle.smart_view.specs.Sizes.{index_of}
use Rattle.smart_service.specs.Services.{Meaning}
use Rattle.certificates.specs.Collects.{view_holding, of_view}
use Rattle.state_marks.specs.Places.{is_checkpoint_of, is_mark}
use Rattle.smart_keys.specs.Keys.{digest}
use Rattle.snapshot_form.specs.Snapshots.{snapshot_text}
use Rattle.vote_book.specs.declared.entry.LogEntry.TheVariants.{Marked}
use Rattle.node_rules.specs.Nodes.{Node, sending, recording}
use Rattle.node_rules.specs.Changes.{fired_when}
use Rattle.node_rules.specs.declared.node.Fired.{Fired}
use Rattle.node_rules.specs.declared.node.Fired.TheVariants as fires
use Rattle.node_rules.specs.declared.node.OwnSnapshot.{OwnSnapshot}
use Rattle.node_rules.specs.declared.node.Target.TheVariants as targets

-- ---- places

-- a place that a node marks: some member of the view that holds it takes its checkpoint after it
abbrev pub is_mark_at : {S : Type 0} → Node S → ℕ → Bool
is_mark_at n place = of_view (view_holding n.replica.views place) (λ v. nat_lt 0 n.period && is_mark v n.period place)

-- a place after which the member at an index takes its checkpoint, if there is an index
abbrev pub is_turn_of : View → ℕ → ℕ → Option ℕ → Bool
is_turn_of v period place None = false
is_turn_of v period place (Some index) = is_checkpoint_of v period index place

-- a place after which the node itself takes its checkpoint
abbrev pub is_own_turn : {S : Type 0} → Node S → ℕ → Bool
is_own_turn n place = of_view (view_holding n.replica.views place) (λ v. nat_lt 0 n.period && is_turn_of v n.period place (index_of v n.id))

-- ---- the rule

-- what the node states of its replica
abbrev pub mark_of : {S : Type 0} → Meaning S → Node S → Mark
mark_of m n = record { place = n.replica.place; digest = digest (snapshot_text m n.replica) }

-- the node's snapshot; it is firm once all entries that the book has now are
abbrev pub own_snapshot : {S : Type 0} → Meaning S → Node S → OwnSnapshot
own_snapshot m n = record { place = n.replica.place; snapshot = snapshot_text m n.replica; needs = length n.entries }

-- the snapshot that the node takes: its own if it is its turn, else none
abbrev pub snapshots_due : {S : Type 0} → Meaning S → Node S → List OwnSnapshot
snapshots_due m n = if is_own_turn n n.replica.place then own_snapshot m n ∷ [] else []

-- the node with it
abbrev pub takes_snapshot : {S : Type 0} → Meaning S → Node S → Node S
takes_snapshot m n = record n { taken = n.taken ++ snapshots_due m n }

-- a mark: it is recorded and sent to the view, and a snapshot is taken at the node's own turn
unfoldable pub mark_place : {S : Type 0} → Meaning S → Node S → Node S
mark_place m n =
    takes_snapshot m (sending (recording n (Marked (mark_of m n))) targets.View marks (mark_of m n) (λ (s : SignedBy Mark). changes.Mark s))

-- a mark is due: the node has delivered, and the place is one that it marks
abbrev pub marking : {S : Type 0} → Bool → Node S → Bool
marking delivered n = delivered && is_mark_at n n.replica.place

-- the rule that marks, behind the one that delivers
abbrev pub marks_place : {S : Type 0} → Meaning S → Bool → Node S → Node S
marks_place m delivered n = if marking delivered n then mark_place m n else n

-- the event that it reports
abbrev pub marked : {S : Type 0} → Meaning S → Bool → Node S → List Fired
marked m delivered n = fired_when (fires.Marked (snapshot_text m n.replica)) (marking delivered n)

-- ---- own snapshots

-- an own snapshot that is firm
abbrev pub is_firm_snapshot : {S : Type 0} → Node S → OwnSnapshot → Bool
is_firm_snapshot n s = nat_le s.needs n.firm

-- the last of some snapshots
abbrev pub last_taken : List OwnSnapshot → Option OwnSnapshot
last_taken [] = None
last_taken (s ∷ ss) = or_else (last_taken ss) (Some s)

-- the snapshot to which the node wants its store to switch: the last that it took in this life, if it took one
abbrev pub wanted : {S : Type 0} → Node S → Option OwnSnapshot
wanted n = last_taken n.taken

-- all snapshots of a node, oldest first: that of its checkpoint, and those that it took
abbrev pub own_snapshots : {S : Type 0} → Node S → List OwnSnapshot
own_snapshots n = option_to_list n.checkpoint ++ n.taken

-- the newest of them that is firm
unfoldable pub newest_firm : {S : Type 0} → Node S → Option OwnSnapshot
newest_firm n = last_taken (filter (is_firm_snapshot n) (own_snapshots n))

-- a firm one of a place
unfoldable pub firm_at : {S : Type 0} → Node S → ℕ → Option OwnSnapshot
firm_at n place = find (λ (s : OwnSnapshot). is_firm_snapshot n s && (s.place == place)) (own_snapshots n)
