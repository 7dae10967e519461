-- The reasons for which a node drops an arriving message, and what it keeps of the others.
use Rattle.std.specs.Prelude.{ℕ, ◌+◌, ◌==◌, nat_lt, nat_le, Bool, true, false, not, ◌&&◌, ◌||◌, List, [], ◌∷◌, ◌++◌, if◌then◌else◌, Option, Some, None, is_some, is_none, option_map}
use Rattle.std.specs.List.{list_any, list_all}
use Rattle.smart_base.specs.Lists.{or_else, same_bytes}
use Rattle.smart_base.specs.Views.{is_member, leader}
use Rattle.smart_base.specs.declared.limits.TheConstants.{LAST_CLIENT}
use Rattle.smart_statements.specs.Equality.{same_slot, same_kind}
use Rattle.smart_statements.specs.Forms.{Form, SignedBy}
use Rattle.smart_statements.specs.Kinds.{requests, proposals, ballots, answers}
use Rattle.smart_statements.specs.Batches.{Batch}
use Rattle.smart_statements.specs.Reports.{reports, marks}
use Rattle.smart_messages.specs.Regencies.{stops, syncs, view_infos}
use Rattle.smart_statements.specs.declared.statement.Request.{Request}
use Rattle.smart_statements.specs.declared.statement.Slot.{Slot}
use Rattle.smart_statements.specs.declared.statement.Ballot.{Ballot}
use Rattle.smart_statements.specs.declared.report.LockCertificate.{LockCertificate}
use Rattle.smart_statements.specs.declared.report.Mark.{Mark}
use Rattle.smart_messages.specs.declared.regency.Stop.{Stop}
use Rattle.smart_messages.specs.declared.regency.Sync.{Sync}
use Rattle.smart_messages.specs.declared.regency.Reported.{Reported}
use Rattle.smart_messages.specs.Messages.{proposal_in, vote_in, some_of}
use Rattle.smart_messages.specs.declared.message.Message.{Message}
use Rattle.smart_messages.specs.declared.message.Message.TheVariants as changes
use Rattle.smart_messages.specs.declared.message.Message.TheVariants.{Ask, Propose, Vote, Reply}
use Rattle.smart_messages.specs.declared.message.Proposed.{Proposed}
use Rattle.smart_service.specs.Tables as tables
use Rattle.certificates.specs.Certificates.{votes_fault, accept_of}
use Rattle.certificates.specs.Collects.{evidence_holds, has_no_false_lock, collect_fault}
use Rattle.state_marks.specs.Tables as tables_of_marks
use Rattle.regency_sync.specs.Choices.{choice}
use Rattle.regency_sync.specs.Synchronizers.{repeats_stop, repeats_report, repeats_sync}
use Rattle.replica_rules.specs.Replicas.{is_next}
use Rattle.replica_rules.specs.Seals.{is_verified, digest_of, fits}
use Rattle.replica_rules.specs.Pools.{offered}
use Rattle.node_rules.specs.Nodes.{Node, view_of, regency_of, start_of, is_begun, bound_at, is_within, decided_place, synchronizer_of, ring_of}
use Rattle.transfer_form.specs.declared.transfer.ProvenBatch.{ProvenBatch}
use Rattle.transfer_form.specs.declared.transfer.StateAsk.{StateAsk}
use Rattle.transfer_form.specs.declared.transfer.StateOffer.{StateOffer}
use Rattle.transfer_form.specs.declared.transfer.StatePart.{StatePart}
use Rattle.state_transfer.specs.Plans.{verified_offer}
use Rattle.state_transfer.specs.Fetches.{part_fault, kept_unless}
use Rattle.state_transfer.specs.declared.fetch.Fetch.{Fetch}
use Rattle.state_transfer.specs.declared.fetch.Ignored.{Ignored}
use Rattle.state_transfer.specs.declared.fetch.Ignored.TheVariants as ignored
use Rattle.node_rules.specs.Marks.{firm_at}
use Rattle.node_rules.specs.declared.node.Why.{Why}
use Rattle.node_rules.specs.declared.node.Why.TheVariants.{NotMember, BadTag, Stranger, OldView, NewView, OldPlace, FarPlace, OldRegency, NewRegency, OldSeq, FarSeq, NotLeader, InvalidBatch, BadProof, Unbound, Unasked, Repeated}

-- ---- reasons that several kinds of messages share

-- the first reason to drop by signer: the node is no member, the tag is bad, or the signer is no member
unfoldable pub signer_why : {S : Type 0} → Node S → Bool → ℕ → Option Why
signer_why n verified signer =
    if not (is_member (view_of n) n.id) then Some NotMember
    else if not verified then Some BadTag
    else if not (is_member (view_of n) signer) then Some Stranger
    else None

-- the reason to drop a message by its view: it is earlier or later than the one in force
abbrev pub view_why : {S : Type 0} → Node S → ℕ → Option Why
view_why n view =
    if nat_lt view (view_of n).number then Some OldView
    else if nat_lt (view_of n).number view then Some NewView
    else None

-- the reason to drop a message by its place: it is decided, or more than two past the last decided one
abbrev pub place_why : {S : Type 0} → Node S → ℕ → Option Why
place_why n place =
    if nat_le place (decided_place n) then Some OldPlace
    else if nat_lt (decided_place n + 2) place then Some FarPlace
    else None

-- the reason to drop a message by its regency: it is over, or later than the next one
abbrev pub regency_why : {S : Type 0} → Node S → ℕ → Option Why
regency_why n regency =
    if nat_lt regency (regency_of n) then Some OldRegency
    else if nat_lt (regency_of n + 1) regency then Some NewRegency
    else None

-- the first reason to drop a message by its slot: by its view, then its place, then its regency
unfoldable pub slot_why : {S : Type 0} → Node S → Slot → Option Why
slot_why n slot = or_else (view_why n slot.view) (or_else (place_why n slot.place) (regency_why n slot.regency))

-- ---- what repeats another

-- a message that is a proposal of the same signer for the same slot
abbrev pub is_same_proposal : Proposed → Message → Bool
is_same_proposal p m = some_of (λ (o : Proposed). (o.head.signer == p.head.signer) && same_slot o.head.statement.slot p.head.statement.slot) (proposal_in m)

-- a message that is a vote of the same kind and signer for the same slot
abbrev pub is_same_vote : SignedBy Ballot → Message → Bool
is_same_vote b m =
    some_of (λ (o : SignedBy Ballot). same_kind o.statement.kind b.statement.kind && (o.signer == b.signer) && same_slot o.statement.slot b.statement.slot) (vote_in m)

-- ---- what orders requests

-- the first reason to drop a request
unfoldable pub why_ask : {S : Type 0} → Node S → SignedBy Request → Option Why
why_ask n q =
    if not (is_member (view_of n) n.id) then Some NotMember
    else if not (is_verified requests (ring_of n) q) then Some BadTag
    else if nat_lt LAST_CLIENT q.signer then Some Stranger
    else if tables.is_executed n.replica.table q.statement.client q.statement.seq && is_none (tables.kept_reply n.replica.table q.statement.client q.statement.seq) then Some OldSeq
    else if tables.is_beyond n.replica.table q.statement.client q.statement.seq then Some FarSeq
    else None

-- a batch that may stand at a place, and that a digest names
unfoldable pub is_batch_for : List ℕ → ℕ → List ℕ → Batch → Bool
is_batch_for secret place digest batch = fits secret batch place && same_bytes (digest_of batch) digest

-- a proposal in the regency in force whose digest is not the one that binds at its place
abbrev pub is_unbound : {S : Type 0} → Node S → Proposed → Bool
is_unbound n p =
    (p.head.statement.slot.regency == regency_of n)
    && not (is_within (bound_at p.head.statement.slot.place (start_of n)) p.head.statement.digest)

-- the first reason to drop a PROPOSE
unfoldable pub why_propose : {S : Type 0} → Node S → Proposed → Option Why
why_propose n p =
    or_else (signer_why n (is_verified proposals (ring_of n) p.head) p.head.signer)
    (or_else (slot_why n p.head.statement.slot)
    (if not (p.head.signer == leader (view_of n) p.head.statement.slot.regency) then Some NotLeader
    else if not (is_batch_for (ring_of n) p.head.statement.slot.place p.head.statement.digest p.batch) then Some InvalidBatch
    else if is_unbound n p then Some Unbound
    else if list_any (is_same_proposal p) n.arrivals then Some Repeated
    else None))

-- the first reason to drop a vote
unfoldable pub why_vote : {S : Type 0} → Node S → SignedBy Ballot → Option Why
why_vote n b =
    or_else (signer_why n (is_verified ballots (ring_of n) b) b.signer)
    (or_else (slot_why n b.statement.slot)
    (if list_any (is_same_vote b) n.arrivals then Some Repeated else None))

-- the first reason to drop a member's message of a kind for which no member waits; each such message is dropped
unfoldable pub why_unasked : {S A : Type 0} → Form A → Node S → SignedBy A → Option Why
why_unasked form n x = or_else (signer_why n (is_verified form (ring_of n) x) x.signer) (Some Unasked)

-- ---- what changes the regency

-- the reason to drop a STOP by its regency: it is in force or over, or later than the next one
abbrev pub wish_why : {S : Type 0} → Node S → ℕ → Option Why
wish_why n regency =
    if nat_le regency (regency_of n) then Some OldRegency
    else if nat_lt (regency_of n + 1) regency then Some NewRegency
    else None

-- the first reason to drop a STOP
unfoldable pub why_stop : {S : Type 0} → Node S → SignedBy Stop → Option Why
why_stop n s =
    or_else (signer_why n (is_verified stops (ring_of n) s) s.signer)
    (or_else (view_why n s.statement.view)
    (or_else (wish_why n s.statement.regency)
    (if repeats_stop (synchronizer_of n) s then Some Repeated else None)))

-- a report that brings the batch of its lock, if it has a lock; the batch may stand at the place after its last one
abbrev pub bears_lock : List ℕ → ℕ → Option LockCertificate → Option Batch → Bool
bears_lock secret place None batch = true
bears_lock secret place (Some lock) None = false
bears_lock secret place (Some lock) (Some batch) = is_batch_for secret place lock.digest batch

-- a report whose evidence, lock and batch hold
unfoldable pub is_proven : {S : Type 0} → Node S → Reported → Bool
is_proven n r =
    evidence_holds (ring_of n) n.replica.views r.head.statement.last r.head.statement.evidence
    && has_no_false_lock (ring_of n) (view_of n) r.head.statement.last r.head.statement.regency r.head.statement.lock
    && bears_lock (ring_of n) (r.head.statement.last + 1) r.head.statement.lock r.batch

-- the first reason to drop a STOPDATA
unfoldable pub why_report : {S : Type 0} → Node S → Reported → Option Why
why_report n r =
    or_else (signer_why n (is_verified reports (ring_of n) r.head) r.head.signer)
    (or_else (view_why n r.head.statement.view)
    (or_else (regency_why n r.head.statement.regency)
    (if not (leader (view_of n) r.head.statement.regency == n.id) then Some NotLeader
    else if not (is_proven n r) then Some BadProof
    else if repeats_report (synchronizer_of n) r.head then Some Repeated
    else None)))

-- the reports of a SYNC that are a valid collect
unfoldable pub is_collect : {S : Type 0} → Node S → Sync → Bool
is_collect n s = is_none (collect_fault (ring_of n) n.replica.views s.regency s.collect)

-- the first reason to drop a SYNC
unfoldable pub why_sync : {S : Type 0} → Node S → SignedBy Sync → Option Why
why_sync n s =
    or_else (signer_why n (is_verified syncs (ring_of n) s) s.signer)
    (or_else (view_why n s.statement.view)
    (if nat_lt s.statement.regency (regency_of n) then Some OldRegency
    else if not (s.signer == leader (view_of n) s.statement.regency) then Some NotLeader
    else if not (is_collect n s.statement) then Some BadProof
    else if is_begun n s.statement.regency || repeats_sync (synchronizer_of n) s then Some Repeated
    else None))

-- ---- what is stated of replicas

-- The first reason to drop a mark. A node that is no member keeps marks, too.
unfoldable pub why_mark : {S : Type 0} → Node S → SignedBy Mark → Option Why
why_mark n m =
    if not (is_verified marks (ring_of n) m) then Some BadTag
    else if not (is_member (view_of n) m.signer) then Some Stranger
    else if nat_le m.statement.place n.replica.place then Some OldPlace
    else if tables_of_marks.repeats n.marks m then Some Repeated
    else None

-- ---- what members exchange to take over a replica

-- the regency of votes: that of the first
abbrev pub regency_by : List (SignedBy Ballot) → ℕ
regency_by [] = 0
regency_by (b ∷ bs) = b.statement.slot.regency

-- the slot in which a batch was decided, in the view in force
abbrev pub slot_shown : {S : Type 0} → Node S → ProvenBatch → Slot
slot_shown n d = record { view = (view_of n).number; place = d.place; regency = regency_by d.accepts }

-- a decided batch whose ACCEPTs prove it in the view in force
unfoldable pub is_proven_batch : {S : Type 0} → Node S → ProvenBatch → Bool
is_proven_batch n d = is_none (votes_fault (ring_of n) (view_of n) (accept_of (slot_shown n d) (digest_of d.batch)) d.accepts)

-- The first reason to drop a DECISION. It may be of the next place alone, while no batch waits.
unfoldable pub why_decision : {S : Type 0} → Node S → ProvenBatch → Option Why
why_decision n d =
    if nat_le d.place (decided_place n) then Some OldPlace
    else if nat_lt (decided_place n + 1) d.place || is_some n.waiting then Some FarPlace
    else if not (is_batch_for (ring_of n) d.place (digest_of d.batch) d.batch) then Some InvalidBatch
    else if not (is_proven_batch n d) then Some BadProof
    else if list_any (λ (o : ProvenBatch). o.place == d.place) n.decisions then Some Repeated
    else None

-- The first reason to drop an ask for state. The asker has to be at an earlier place. An ask for parts needs a firm snapshot of that place.
unfoldable pub why_state_ask : {S : Type 0} → Node S → StateAsk → Option Why
why_state_ask n a =
    if a.fetch == 0
    then (if nat_le n.replica.place a.place then Some FarPlace else None)
    else (if is_none (firm_at n a.fetch) then Some OldPlace else None)

-- an offer of a place and of marks that are all delivered
abbrev pub is_old_offer : {S : Type 0} → Node S → StateOffer → Bool
is_old_offer n o = nat_le o.place n.replica.place && list_all (λ (m : SignedBy Mark). nat_le m.statement.place n.replica.place) o.marks

-- offers of one member and place
abbrev pub is_same_offer : StateOffer → StateOffer → Bool
is_same_offer a b = (b.member == a.member) && (b.place == a.place)

-- the first reason to drop an offer
unfoldable pub why_offer : {S : Type 0} → Node S → StateOffer → Option Why
why_offer n o =
    if is_old_offer n o then Some OldPlace
    else if list_any (is_same_offer o) n.offers then Some Repeated
    else None

-- why a part is ignored, as a reason to drop it
abbrev pub why_ignored : Ignored → Why
why_ignored ignored.Unasked = Unasked
why_ignored ignored.Repeated = Repeated

-- the reason to drop a part, by the plan that stands
abbrev pub part_why : Option Fetch → StatePart → Option Why
part_why None p = Some Unasked
part_why (Some f) p = option_map why_ignored (part_fault f p)

-- the first reason to drop a part
unfoldable pub why_part : {S : Type 0} → Node S → StatePart → Option Why
why_part n p = part_why n.fetch p

-- ---- messages

-- the first reason to drop a message; none if it is kept
abbrev pub why_dropped : {S : Type 0} → Node S → Message → Option Why
why_dropped n (Ask q) = why_ask n q
why_dropped n (Propose p) = why_propose n p
why_dropped n (Vote b) = why_vote n b
why_dropped n (changes.Stop s) = why_stop n s
why_dropped n (changes.StopData r) = why_report n r
why_dropped n (changes.Sync s) = why_sync n s
why_dropped n (changes.Decision d) = why_decision n d
why_dropped n (Reply a) = why_unasked answers n a
why_dropped n (changes.Mark m) = why_mark n m
why_dropped n (changes.StateAsk a) = why_state_ask n a
why_dropped n (changes.StateOffer o) = why_offer n o
why_dropped n (changes.StatePart p) = why_part n p
why_dropped n (changes.ViewTold i) = why_unasked view_infos n i

-- ---- what tells a node that it is behind

-- a view later than the one in force
abbrev pub is_newer : {S : Type 0} → Node S → ℕ → Bool
is_newer n view = nat_lt (view_of n).number view

-- a slot that votes do not lead the node to: of a newer view, or more than one place past the last decided one
abbrev pub is_beyond : {S : Type 0} → Node S → Slot → Bool
is_beyond n slot = is_newer n slot.view || ((slot.view == (view_of n).number) && nat_lt (decided_place n + 1) slot.place)

-- a member's message that shows that the node lags, whether the message is dropped for a later reason or not
abbrev pub tells_behind : {S : Type 0} → Node S → Message → Bool
tells_behind n (Propose p) = is_none (signer_why n (is_verified proposals (ring_of n) p.head) p.head.signer) && is_beyond n p.head.statement.slot
tells_behind n (Vote b) = is_none (signer_why n (is_verified ballots (ring_of n) b) b.signer) && is_beyond n b.statement.slot
tells_behind n (changes.Stop s) = is_none (signer_why n (is_verified stops (ring_of n) s) s.signer) && is_newer n s.statement.view
tells_behind n (changes.StopData r) = is_none (signer_why n (is_verified reports (ring_of n) r.head) r.head.signer) && is_newer n r.head.statement.view
tells_behind n (changes.Sync s) = is_none (signer_why n (is_verified syncs (ring_of n) s) s.signer) && is_newer n s.statement.view
tells_behind n (changes.Mark m) =
    is_verified marks (ring_of n) m && is_member (view_of n) m.signer && nat_lt (decided_place n + 1) m.statement.place
tells_behind n (changes.Decision d) = nat_lt (decided_place n + 1) d.place
tells_behind n (changes.StateAsk a) = nat_lt (decided_place n + 1) a.place
tells_behind n (changes.StateOffer o) = nat_lt (decided_place n + 1) o.place
tells_behind n _ = false

-- the node with its note that it lags, if the message shows it or the note stands
unfoldable pub noted : {S : Type 0} → Node S → Message → Node S
noted n message = record n { behind = n.behind || tells_behind n message }

-- ---- what is kept

-- the node after it keeps a message that was not dropped. A SYNC whose regency begins past the next place shows that the node lags.
unfoldable pub kept : {S : Type 0} → Node S → Message → Node S
kept n (Ask q) = if is_next n.replica.table q.statement then record n { pool = offered n.pool q } else n
kept n (Propose p) = record n { arrivals = n.arrivals ++ Propose p ∷ [] }
kept n (Vote b) = record n { arrivals = n.arrivals ++ Vote b ∷ [] }
kept n (changes.Stop s) = record n { stops = n.stops ++ s ∷ [] }
kept n (changes.StopData r) = record n { reports = n.reports ++ r ∷ [] }
kept n (changes.Sync s) = record n {
  syncs = n.syncs ++ s ∷ [];
  behind = n.behind || nat_lt (decided_place n + 1) (choice s.statement.collect).base;
}
kept n (changes.Decision d) = record n { decisions = n.decisions ++ d ∷ [] }
kept n (Reply a) = n
kept n (changes.Mark m) = record n { marks = tables_of_marks.noted m n.marks }
kept n (changes.StateAsk a) = n
kept n (changes.StateOffer o) = record n { offers = n.offers ++ verified_offer (ring_of n) o ∷ [] }
kept n (changes.StatePart p) = record n { fetch = option_map (λ (f : Fetch). kept_unless None f p) n.fetch }
kept n (changes.ViewTold i) = n
