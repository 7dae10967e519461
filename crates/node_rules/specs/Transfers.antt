-- The rules by which a node takes over a replica, and gives its own to others (collaborative state transfer: Dura-SMaRt, USENIX ATC 2013).
use Rattle.std.specs.Prelude.{ℕ, zero, suc, ◌+◌, ◌-◌, ◌==◌, nat_lt, nat_le, Bool, false, not, ◌&&◌, List, [], ◌∷◌, ◌++◌, length, map, filter, filter_map, drop, find, if◌then◌else◌, Option, Some, None, is_none, option_map, Result, Ok, Err}
use Rattle.std.specs.Option.{option_to_list}
use Rattle.std.specs.List.{list_all}
use Rattle.smart_base.specs.Lists.{or_else, same_bytes}
use Rattle.smart_base.specs.Views.{View, is_view}
use Rattle.smart_base.specs.declared.limits.TheConstants.{MARKS}
use Rattle.smart_statements.specs.Forms.{SignedBy}
use Rattle.smart_statements.specs.Reports.{marks}
use Rattle.smart_statements.specs.declared.report.Mark.{Mark}
use Rattle.smart_statements.specs.declared.entry.NodeEvent.{NodeEvent}
use Rattle.smart_statements.specs.declared.entry.NodeEvent.TheVariants.{Arrive, Tick, Deliver, Firm}
use Rattle.smart_messages.specs.Messages.{decoded}
use Rattle.smart_messages.specs.declared.message.Message.{Message}
use Rattle.smart_messages.specs.declared.message.Message.TheVariants as changes
use Rattle.smart_service.specs.Services.{Meaning}
use Rattle.smart_service.specs.declared.replica.Replica.{Replica}
use Rattle.replica_rules.specs.Pools.{settled}
use Rattle.transfer_form.specs.declared.transfer.ProvenBatch.{ProvenBatch}
use Rattle.transfer_form.specs.declared.transfer.StateAsk.{StateAsk}
use Rattle.transfer_form.specs.declared.transfer.StateOffer.{StateOffer}
use Rattle.transfer_form.specs.declared.transfer.StatePart.{StatePart}
use Rattle.state_transfer.specs.Plans.{planned}
use Rattle.state_transfer.specs.Fetches.{are_all_there, joined_of, completed, finished}
use Rattle.state_transfer.specs.Seeds.{seeds}
use Rattle.state_transfer.specs.declared.fetch.Fetch.{Fetch}
use Rattle.state_transfer.specs.declared.fetch.Spoiled.{Spoiled}
use Rattle.state_transfer.specs.declared.choice.NotYet.{NotYet}
use Rattle.state_transfer.specs.declared.choice.Plan.{Plan}
use Rattle.vote_book.specs.declared.entry.Decision.{Decision}
use Rattle.vote_book.specs.declared.entry.LogEntry.{LogEntry}
use Rattle.vote_book.specs.declared.entry.LogEntry.TheVariants.{Opened, Wrote, Accepted, Promised, Synced, Decided, Installed, Marked}
use Rattle.node_rules.specs.Nodes.{Node, view_of, next_place, enters, signs, holding, holding_all, recording}
use Rattle.node_rules.specs.Changes.{state_ask}
use Rattle.node_rules.specs.Marks.{newest_firm, firm_at}
use Rattle.node_rules.specs.Rules.{fired_if, answering, answers_again, begun_in}
use Rattle.node_rules.specs.declared.node.Called.{Called}
use Rattle.node_rules.specs.declared.node.Called.TheVariants as calls
use Rattle.node_rules.specs.declared.node.Fired.{Fired}
use Rattle.node_rules.specs.declared.node.Fired.TheVariants as fires
use Rattle.node_rules.specs.declared.node.OwnSnapshot.{OwnSnapshot}
use Rattle.node_rules.specs.declared.node.Target.TheVariants as targets

-- install: the parts of the plan are there, and their replica takes the place of the node's

-- a plan that is due: all of its parts are there, no batch waits, and its place is past the node's
abbrev pub is_ready : {S : Type 0} → Node S → Fetch → Bool
is_ready n f = are_all_there f && is_none n.waiting && nat_lt n.replica.place f.plan.place

abbrev pub ready : {S : Type 0} → Node S → Option Fetch → Option Fetch
ready n None = None
ready n (Some f) = if is_ready n f then Some f else None

-- the plan to install, if one is due
unfoldable pub installing : {S : Type 0} → Node S → Option Fetch
installing n = ready n n.fetch

-- the entry of a plan's replica, with the marks that certify it
abbrev pub installed_by : Plan → LogEntry
installed_by p = Installed (record { place = p.place; digest = p.digest; view = p.view; marks = p.marks })

-- the snapshot that was taken over; it is firm once all entries that the book has now are
abbrev pub taken_over : {S : Type 0} → Node S → Fetch → OwnSnapshot
taken_over n f = record { place = f.plan.place; snapshot = joined_of f; needs = length n.entries }

-- the node with its own snapshot of it
abbrev pub keeps_over : {S : Type 0} → Node S → Fetch → Node S
keeps_over n f = record n { taken = n.taken ++ taken_over n f ∷ [] }

-- what an installation does: it is recorded, the replica is the plan's, the snapshot is an own one, and all members are asked for more
unfoldable pub install_replica : {S : Type 0} → Node S → Fetch → Replica S → Node S
install_replica n f r =
    let installed = keeps_over (enters n (record (recording n (installed_by f.plan)) { replica = r; pool = settled r.table n.pool; fetch = None })) f in
    holding installed targets.View (state_ask installed 0)

-- an offer that is not the plan's
abbrev pub is_other_offer : Plan → StateOffer → Bool
is_other_offer p o = not ((o.member == p.seeder) && (o.place == p.place))

-- what parts do that make no such replica: the plan goes, and the offer that it follows
unfoldable pub spoil : {S : Type 0} → Node S → Fetch → Node S
spoil n f = record n { fetch = None; offers = filter (is_other_offer f.plan) n.offers }

-- views alike
abbrev pub same_view : View → View → Bool
same_view a b = (a.number == b.number) && (a.start == b.start) && (a.f == b.f) && same_bytes a.members b.members

-- views that go on from those that are known: they begin with these, and each further one is valid and starts past a place
abbrev pub go_on : ℕ → List View → List View → Bool
go_on place [] more = list_all (λ v. is_view v && nat_lt place v.start) more
go_on place (v ∷ views) [] = false
go_on place (v ∷ views) (w ∷ more) = same_view v w && go_on place views more

-- A replica of the node's group: its views go on from those that the node knows. The node has not voted past its next place, and the view in force
-- there is known. So each further view starts past that place.
abbrev pub is_of_group : {S : Type 0} → Node S → Replica S → Bool
is_of_group n r = go_on (next_place n) n.replica.views r.views

abbrev pub install_by : {S : Type 0} → Node S → Fetch → Result (Replica S) Spoiled → Node S
install_by n f (Ok r) = if is_of_group n r then install_replica n f r else spoil n f
install_by n f (Err why) = spoil n f

unfoldable pub install_fetch : {S : Type 0} → Meaning S → Node S → Option Fetch → Node S
install_fetch m n None = n
install_fetch m n (Some f) = install_by n f (finished m f)

abbrev pub told_install : {S : Type 0} → Node S → Fetch → Result (Replica S) Spoiled → List Fired
told_install n f (Ok r) = if is_of_group n r then fires.Installed f.plan.place ∷ begun_in n.replica r else fires.Spoiled ∷ []
told_install n f (Err why) = fires.Spoiled ∷ []

-- the events of an installation, with the view that it began, or of parts that make none
unfoldable pub install_told : {S : Type 0} → Meaning S → Node S → Option Fetch → List Fired
install_told m n None = []
install_told m n (Some f) = told_install n f (finished m f)

-- the rule that installs: a replica that enough members certify is taken over (Dura-SMaRt, USENIX ATC 2013)
unfoldable pub installs : {S : Type 0} → Meaning S → Node S → Node S
installs m n = install_fetch m n (installing n)

-- what a part completes

abbrev pub completed_for : Option Fetch → StatePart → List (List ℕ)
completed_for None p = []
completed_for (Some f) p = option_to_list (completed f p)

abbrev pub completed_in : {S : Type 0} → Node S → Result Message ℕ → List (List ℕ)
completed_in n (Ok (changes.StatePart p)) = completed_for n.fetch p
completed_in n _ = []

-- the text that an event completes: what the parts of the plan are joined to, if the event brings the last one
unfoldable pub completed_by : {S : Type 0} → Node S → NodeEvent → List (List ℕ)
completed_by n (Arrive bytes) = completed_in n (decoded bytes)
completed_by n Tick = []
completed_by n Deliver = []
completed_by n (Firm count) = []

-- answer: a member that asks for state is given an offer and decided batches, or the parts of a snapshot

-- the mark that an entry is, if it is one
abbrev pub mark_made : LogEntry → Option Mark
mark_made (Opened o) = None
mark_made (Wrote w) = None
mark_made (Accepted a) = None
mark_made (Promised p) = None
mark_made (Synced s) = None
mark_made (Decided d) = None
mark_made (Installed i) = None
mark_made (Marked m) = Some m

-- the marks of a book past a place
abbrev pub marks_past : ℕ → List LogEntry → List Mark
marks_past place entries = filter (λ (m : Mark). nat_lt place m.place) (filter_map mark_made entries)

-- the last values of a list, at most so many
abbrev pub last_few : {A : Type 0} → ℕ → List A → List A
last_few most xs = drop (length xs - most) xs

-- the marks of an offer: the node's last 64 past a place, signed anew
abbrev pub offered_marks : {S : Type 0} → Node S → ℕ → List (SignedBy Mark)
offered_marks n place = map (λ (m : Mark). signs n marks m) (last_few MARKS (marks_past place n.entries))

abbrev pub place_of_snapshot : Option OwnSnapshot → ℕ
place_of_snapshot None = 0
place_of_snapshot (Some s) = s.place

abbrev pub size_of_snapshot : Option OwnSnapshot → ℕ
size_of_snapshot None = 0
size_of_snapshot (Some s) = length s.snapshot

-- the offer to a member at a place: the newest firm snapshot, and marks
unfoldable pub offer_for : {S : Type 0} → Node S → ℕ → StateOffer
offer_for n place = record {
  member = n.id;
  place = place_of_snapshot (newest_firm n);
  size = size_of_snapshot (newest_firm n);
  marks = offered_marks n place;
}

-- the decision of a place that an entry is, if it is one
abbrev pub decides_at : ℕ → LogEntry → Option Decision
decides_at place (Opened o) = None
decides_at place (Wrote w) = None
decides_at place (Accepted a) = None
decides_at place (Promised p) = None
decides_at place (Synced s) = None
decides_at place (Decided d) = if d.slot.place == place then Some d else None
decides_at place (Installed i) = None
decides_at place (Marked m) = None

-- the first decision of a place in a book
abbrev pub decided_at : ℕ → List LogEntry → Option Decision
decided_at place [] = None
decided_at place (e ∷ es) = or_else (decides_at place e) (decided_at place es)

-- a decision as it is shown to others
abbrev pub shown_as : Decision → ProvenBatch
shown_as d = record { place = d.slot.place; batch = d.batch; accepts = d.accepts }

-- a place that is shown to a member: past the offered snapshot's, and delivered
abbrev pub is_shown_place : {S : Type 0} → Node S → ℕ → Bool
is_shown_place n k = nat_lt (place_of_snapshot (newest_firm n)) k && nat_le k n.replica.place

-- the places after one, so many
abbrev pub places_after : ℕ → ℕ → List ℕ
places_after place zero = []
places_after place (suc count) = places_after place count ++ (place + suc count) ∷ []

-- the decision of a place that is shown, if the book has it
abbrev pub shown_at : {S : Type 0} → Node S → ℕ → Option Message
shown_at n k = if is_shown_place n k then option_map (λ d. changes.Decision (shown_as d)) (decided_at k n.entries) else None

-- the decisions that are shown to a member at a place: of its next eight places
unfoldable pub shown_after : {S : Type 0} → Node S → ℕ → List Message
shown_after n place = filter_map (shown_at n) (places_after place 8)

-- what an ask without a place to fetch does
unfoldable pub offers_state : {S : Type 0} → Node S → StateAsk → Node S
offers_state n a = holding_all n (targets.Node a.member) (changes.StateOffer (offer_for n a.place) ∷ shown_after n a.place)

-- the parts of a snapshot, as messages
abbrev pub part_messages : Option OwnSnapshot → List Message
part_messages None = []
part_messages (Some s) = map (λ (p : StatePart). changes.StatePart p) (seeds s.place s.snapshot)

-- what an ask for the parts of a snapshot does
unfoldable pub gives_parts : {S : Type 0} → Node S → StateAsk → Node S
gives_parts n a = holding_all n (targets.Node a.member) (part_messages (firm_at n a.fetch))

-- the rule that answers a member
unfoldable pub answers_state : {S : Type 0} → Node S → StateAsk → Node S
answers_state n a = if a.fetch == 0 then offers_state n a else gives_parts n a

-- plan: an offer may make a plan possible

abbrev pub made_of : Result Plan NotYet → Option Plan
made_of (Ok p) = Some p
made_of (Err why) = None

-- the plan that is made, if none stands and one is possible
unfoldable pub planning : {S : Type 0} → Node S → Option Plan
planning n = if is_none n.fetch then made_of (planned n.offers n.marks n.replica.place (view_of n)) else None

-- what a plan does: its seeder is asked for the parts
unfoldable pub follow_plan : {S : Type 0} → Node S → Option Plan → Node S
follow_plan n None = n
follow_plan n (Some p) = holding (record n { fetch = Some (record { plan = p; parts = [] }) }) (targets.Node p.seeder) (state_ask n p.place)

unfoldable pub plans : {S : Type 0} → Node S → Node S
plans n = follow_plan n (planning n)

-- the rules that answer what came

abbrev pub answers_call : {S : Type 0} → Node S → Called → Node S
answers_call n calls.Nobody = n
answers_call n (calls.Request asked) = answers_again n asked
answers_call n (calls.State a) = answers_state n a
answers_call n calls.Offered = plans n

abbrev pub answered_call : {S : Type 0} → Node S → Called → List Fired
answered_call n calls.Nobody = []
answered_call n (calls.Request asked) = fired_if fires.Answered (answering n asked)
answered_call n (calls.State a) = fires.Answered ∷ []
answered_call n calls.Offered = fired_if fires.Answered (planning n)
