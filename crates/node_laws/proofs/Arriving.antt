-- A node that keeps what comes stays sound.
use Rattle.std.proofs.Common.{Bool, List, None, Option, Some, arith, cond, false, filter, is_some, nat_le, nat_lt, not, refl, subst, sym, true, ℕ, ⊎_elim, ◌≡◌, ◌≤◌, [], ◌∷◌, ◌==◌, ◌++◌, ◌||◌, ◌+◌}
use Rattle.std.specs.List.{flat_map}
use Rattle.std.specs.Prelude.{map, option_map}
use Rattle.std.proofs.lemmas.Bool.{eqb-true, ltb-false, or_parts}
use Rattle.replica_rules.specs.Pools.{offered}
use Rattle.replica_rules.specs.Replicas.{is_next}
use Rattle.replica_rules.specs.Seals.{digest_of, is_verified}
use Rattle.agreement_laws.specs.Statements.{Statement}
use Rattle.node_rules.specs.Arrivals.{is_batch_for, is_collect, is_proven, kept, noted, regency_why, signer_why, slot_why, tells_behind, view_why, why_ask, why_dropped, why_propose, why_report, why_stop, why_sync, why_vote, why_mark, why_decision, is_proven_batch, slot_shown}
use Rattle.node_rules.specs.Nodes.{Node, decided_place, next_place, regency_of, view_of}
use Rattle.node_rules.specs.declared.node.Why.TheVariants.{BadProof, BadTag, FarPlace, InvalidBatch, NewView, NotLeader, NotMember, OldPlace, OldRegency, OldView, Stranger}
use Rattle.regency_sync.specs.Choices.{choice}
use Rattle.smart_base.specs.Lists.{Each}
use Rattle.smart_base.specs.Views.{View, is_member, leader}
use Rattle.smart_statements.specs.Forms.{SignedBy}
use Rattle.smart_statements.specs.Kinds.{ballots, proposals, requests}
use Rattle.smart_messages.specs.Regencies.{stops, syncs}
use Rattle.smart_statements.specs.Reports.{reports, marks}
use Rattle.smart_statements.specs.declared.report.Mark.{Mark}
use Rattle.smart_base.specs.declared.limits.TheConstants.{MARKS}
use Rattle.certificates.proofs.Equal.{votes-exact}
use Rattle.certificates.specs.Certificates.{IsDecisionProof, accept_of, votes_fault}
use Rattle.transfer_form.specs.declared.transfer.ProvenBatch.{ProvenBatch}
use Rattle.transfer_form.specs.declared.transfer.StateOffer.{StateOffer}
use Rattle.transfer_form.specs.declared.transfer.StatePart.{StatePart}
use Rattle.state_transfer.specs.Plans.{verified_offer}
use Rattle.state_transfer.specs.Fetches.{kept_unless}
use Rattle.state_transfer.specs.declared.fetch.Fetch.{Fetch}
use Rattle.vote_book.specs.Books.{Among}
use Rattle.agreement_laws.specs.Statements as says
use Rattle.regency_sync.proofs.Lists.{each_filter}
use Rattle.node_laws.proofs.Lists.{each_passes}
use Rattle.node_laws.proofs.Stated.{Covers, covered, covers}
use Rattle.smart_messages.specs.declared.message.Message.{Message}
use Rattle.smart_messages.specs.declared.message.Message.TheVariants.{Ask, Propose, Vote}
use Rattle.smart_messages.specs.declared.message.Proposed.{Proposed}
use Rattle.smart_messages.specs.declared.regency.Reported.{Reported}
use Rattle.smart_messages.specs.declared.regency.Stop.{Stop}
use Rattle.smart_messages.specs.declared.regency.Sync.{Sync}
use Rattle.smart_statements.specs.declared.statement.Ballot.{Ballot}
use Rattle.smart_statements.specs.declared.statement.Request.{Request}
use Rattle.smart_statements.specs.declared.statement.Slot.{Slot}
use Rattle.node_laws.proofs.Nodes.{Arrived, DecisionKept, MarkKept, OfferKept, PlanKept, ReportKept, StopKept, SyncKept, aside, keeps, transfers}
use Rattle.state_marks.specs.Tables as tables_of_marks
use Rattle.node_laws.specs.Sound.{InForce, IsMembers, IsProposal, IsShownIn, IsSound, IsStated}
use Rattle.smart_messages.specs.declared.message.Message.TheVariants as changes
use Rattle.agreement_laws.proofs.Lists.{among_either, among_filtered, among_flat, among_left, among_map, each_end, either, given, not_false, within_one}
use Rattle.node_rules.proofs.Options.{else_none, no_reason, none_is}

-- ---- reasons that are none

pub record Signs {S : Type 0} (n : Node S) (verified : Bool) (signer : ℕ) : Type 0 where
  pub tagged : verified ≡ true
  pub member : is_member (view_of n) signer ≡ true

signs : {S : Type 0} (n : Node S) (verified : Bool) (signer : ℕ) → signer_why n verified signer ≡ None → Signs n verified signer
unfolding signer_why
signs n verified signer none =
    let own = no_reason (not (is_member (view_of n) n.id)) NotMember
    (cond (not verified) (Some BadTag) (cond (not (is_member (view_of n) signer)) (Some Stranger) None)) none in
    let tag = no_reason (not verified) BadTag (cond (not (is_member (view_of n) signer)) (Some Stranger) None) own.1 in
    let name = no_reason (not (is_member (view_of n) signer)) Stranger None tag.1 in
    record { tagged = not_false verified tag.0; member = not_false (is_member (view_of n) signer) name.0 }

members_of : {S : Type 0} (n : Node S) (verified : Bool) (signer : ℕ) → signer_why n verified signer ≡ None → IsMembers (view_of n) verified signer
members_of n verified signer none = let s = signs n verified signer none in record { tagged = s.tagged; member = s.member }

-- what is not of another view is of none later
not_newer : {S : Type 0} (n : Node S) (number : ℕ) → view_why n number ≡ None → number ≤ (view_of n).number
not_newer n number none =
    let old = no_reason (nat_lt number (view_of n).number) OldView _ none in
    let new = no_reason (nat_lt (view_of n).number number) NewView _ old.1 in
    ltb-false (view_of n).number number new.0

slot_not_newer : {S : Type 0} (n : Node S) (slot : Slot) → slot_why n slot ≡ None → slot.view ≤ (view_of n).number
unfolding slot_why
slot_not_newer n slot none = not_newer n slot.view (else_none (view_why n slot.view) _ none).0

-- ---- requests, proposals and votes

each_offered : (P : SignedBy Request → Type 0) (pool : List (SignedBy Request)) (q : SignedBy Request) → Each P pool → P q → Each P (offered pool q)
each_offered P [] q each is = (is, tt)
each_offered P (old ∷ olds) q each is =
    either (λ (qs : List (SignedBy Request)). Each P qs) (old.statement.client == q.statement.client) (q ∷ olds) (old ∷ offered olds q) (is, each.1)
    (each.0, each_offered P olds q each.1 is)

pub ask_tagged : {S : Type 0} (n : Node S) (q : SignedBy Request) → why_ask n q ≡ None → is_verified requests n.secret q ≡ true
unfolding why_ask
ask_tagged n q none =
    let own = no_reason (not (is_member (view_of n) n.id)) NotMember _ none in
    not_false (is_verified requests n.secret q) (no_reason (not (is_verified requests n.secret q)) BadTag _ own.1).0

propose_kept : {S : Type 0} (n : Node S) (p : Proposed) → why_propose n p ≡ None → InForce (view_of n) p.head.statement.slot.view (IsProposal n.secret (view_of n) p)
unfolding why_propose
propose_kept n p none =
    let slot : Slot = p.head.statement.slot in
    let lead : Bool = p.head.signer == leader (view_of n) slot.regency in
    let batch : Bool = is_batch_for n.secret slot.place p.head.statement.digest p.batch in
    let first = else_none (signer_why n (is_verified proposals n.secret p.head) p.head.signer) _ none in
    let second = else_none (slot_why n slot) _ first.1 in
    let third = no_reason (not lead) NotLeader _ second.1 in
    let fourth = no_reason (not batch) InvalidBatch _ third.1 in (
      slot_not_newer n slot second.0,
      λ of. record {
        members = members_of n (is_verified proposals n.secret p.head) p.head.signer first.0;
        leaders = eqb-true p.head.signer (leader (view_of n) slot.regency) (not_false lead third.0);
        batch = not_false batch fourth.0;
      },
    )

vote_kept : {S : Type 0} (n : Node S) (b : SignedBy Ballot) → why_vote n b ≡ None → InForce (view_of n) b.statement.slot.view (IsMembers (view_of n) (is_verified ballots n.secret b) b.signer)
unfolding why_vote
vote_kept n b none =
    let first = else_none (signer_why n (is_verified ballots n.secret b) b.signer) _ none in
    let second = else_none (slot_why n b.statement.slot) _ first.1 in
    (slot_not_newer n b.statement.slot second.0, λ of. members_of n (is_verified ballots n.secret b) b.signer first.0)

-- ---- what changes the regency

stop_kept : {S : Type 0} (n : Node S) (s : SignedBy Stop) → why_stop n s ≡ None → InForce (view_of n) s.statement.view (IsMembers (view_of n) (is_verified stops n.secret s) s.signer)
unfolding why_stop
stop_kept n s none =
    let first = else_none (signer_why n (is_verified stops n.secret s) s.signer) _ none in
    let second = else_none (view_why n s.statement.view) _ first.1 in
    (not_newer n s.statement.view second.0, λ of. members_of n (is_verified stops n.secret s) s.signer first.0)

report_kept : {S : Type 0} (n : Node S) (r : Reported) → why_report n r ≡ None
    → InForce (view_of n) r.head.statement.view (IsMembers (view_of n) (is_verified reports n.secret r.head) r.head.signer × (is_proven n r ≡ true))
unfolding why_report
report_kept n r none =
    let lead : Bool = leader (view_of n) r.head.statement.regency == n.id in
    let first = else_none (signer_why n (is_verified reports n.secret r.head) r.head.signer) _ none in
    let second = else_none (view_why n r.head.statement.view) _ first.1 in
    let third = else_none (regency_why n r.head.statement.regency) _ second.1 in
    let fourth = no_reason (not lead) NotLeader _ third.1 in
    let fifth = no_reason (not (is_proven n r)) BadProof _ fourth.1 in
    (not_newer n r.head.statement.view second.0, λ of. (members_of n (is_verified reports n.secret r.head) r.head.signer first.0, not_false (is_proven n r) fifth.0))

sync_kept : {S : Type 0} (n : Node S) (s : SignedBy Sync) → why_sync n s ≡ None
    → InForce (view_of n) s.statement.view (IsMembers (view_of n) (is_verified syncs n.secret s) s.signer × (is_collect n s.statement ≡ true))
unfolding why_sync
sync_kept n s none =
    let lead : Bool = s.signer == leader (view_of n) s.statement.regency in
    let first = else_none (signer_why n (is_verified syncs n.secret s) s.signer) _ none in
    let second = else_none (view_why n s.statement.view) _ first.1 in
    let third = no_reason (nat_lt s.statement.regency (regency_of n)) OldRegency _ second.1 in
    let fourth = no_reason (not lead) NotLeader _ third.1 in
    let fifth = no_reason (not (is_collect n s.statement)) BadProof _ fourth.1 in
    (not_newer n s.statement.view second.0, λ of. (members_of n (is_verified syncs n.secret s) s.signer first.0, not_false (is_collect n s.statement) fifth.0))

-- ---- what members exchange to take over a replica

pub proven_is : {S : Type 0} (n : Node S) (d : ProvenBatch) → is_proven_batch n d ≡ true → IsDecisionProof n.secret (view_of n) (slot_shown n d) (digest_of d.batch) d.accepts
unfolding is_proven_batch
proven_is n d is =
    (votes-exact n.secret (view_of n) (accept_of (slot_shown n d) (digest_of d.batch)) d.accepts).0
    (none_is (votes_fault n.secret (view_of n) (accept_of (slot_shown n d) (digest_of d.batch)) d.accepts) is)

free_next : {A : Type 0} (waiting : Option A) (place : ℕ) → is_some waiting ≡ false → cond (is_some waiting) (place + 1) place + 1 ≡ place + 1
free_next None place free = refl
free_next (Some x) place free = absurd (cc)

-- it is of the next place, and proven there
decision_kept : {S : Type 0} (n : Node S) (d : ProvenBatch) → why_decision n d ≡ None → (d.place ≤ next_place n) × (d.place ≡ next_place n → IsShownIn n.secret (view_of n) d)
unfolding why_decision
decision_kept n d none =
    let batch : Bool = is_batch_for n.secret d.place (digest_of d.batch) d.batch in
    let first = no_reason (nat_le d.place (decided_place n)) OldPlace _ none in
    let second = no_reason (nat_lt (decided_place n + 1) d.place || is_some n.waiting) FarPlace _ first.1 in
    let third = no_reason (not batch) InvalidBatch _ second.1 in
    let fourth = no_reason (not (is_proven_batch n d)) BadProof _ third.1 in
    let near = or_parts (nat_lt (decided_place n + 1) d.place) (is_some n.waiting) second.0 in
    let low = ltb-false (decided_place n + 1) d.place near.0 in
    let next = free_next n.waiting n.replica.place near.1 in (
      omega (arith, low, next),
      λ at. record { accepts = proven_is n d (not_false (is_proven_batch n d) fourth.0); batch = not_false batch third.0 },
    )

mark_kept : {S : Type 0} (n : Node S) (m : SignedBy Mark) → why_mark n m ≡ None → is_verified marks n.secret m ≡ true
unfolding why_mark
mark_kept n m none = not_false (is_verified marks n.secret m) (no_reason (not (is_verified marks n.secret m)) BadTag _ none).0

each_noted : (P : SignedBy Mark → Type 0) (m : SignedBy Mark) (table : List (SignedBy Mark)) → Each P table → P m → Each P (tables_of_marks.noted m table)
unfolding tables_of_marks.noted
each_noted P m table each is =
    let more : Each P (table ++ m ∷ []) = each_end P table m each is in
    either (λ (ms : List (SignedBy Mark)). Each P ms) (tables_of_marks.repeats table m) table _ each
    (either (λ (ms : List (SignedBy Mark)). Each P ms) (nat_le MARKS (tables_of_marks.count_of m.signer table)) _ (table ++ m ∷ [])
    (each_filter P (λ k. not (tables_of_marks.is_at m.signer (tables_of_marks.least_of m.signer m.statement.place table) k)) (table ++ m ∷ []) more) more)

-- what an offer has stated without some of its marks, it has stated
offer_fewer : (secret : List ℕ) (stated : List Statement) (member place size : ℕ) (p : SignedBy Mark → Bool) (ms : List (SignedBy Mark))
    → Covers secret stated (flat_map says.within (map says.Marked ms ++ [])) → Covers secret stated (flat_map says.within (map says.Marked (filter p ms) ++ []))
offer_fewer secret stated member place size p ms all s there ok =
    let one = within_one says.within (map says.Marked (filter p ms) ++ []) s there in
    ⊎_elim
    (λ (listed : Among one.value (map says.Marked (filter p ms))).
    let g = given says.Marked (filter p ms) one.value listed in
    all s (among_flat says.within (map says.Marked ms ++ []) one.value s
    (subst (λ (x : Statement). Among x (map says.Marked ms ++ [])) (sym g.is) (among_left (says.Marked g.value) (map says.Marked ms) [] (among_map says.Marked ms g.value (among_filtered p ms g.value g.there)))) one.within) ok)
    (λ none. absurd none)
    (among_either one.value (map says.Marked (filter p ms)) [] one.there)

offer_kept : (secret : List ℕ) (stated : List Statement) (o : StateOffer) → IsStated secret stated (changes.StateOffer o) → OfferKept secret stated (verified_offer secret o)
offer_kept secret stated o was = (
  covered secret stated (flat_map says.within (says.said (changes.StateOffer (verified_offer secret o))))
      (offer_fewer secret stated o.member o.place o.size (is_verified marks secret) o.marks (covers secret stated (changes.StateOffer o) was)),
  each_passes (is_verified marks secret) o.marks,
)

part_kept : (secret : List ℕ) (stated : List Statement) (views : List View) (planned : Option Fetch) (p : StatePart) → PlanKept secret stated views planned
    → PlanKept secret stated views (option_map (λ (f : Fetch). kept_unless None f p) planned)
part_kept secret stated views None p is = tt
part_kept secret stated views (Some f) p is = is

-- ---- what comes

sound_arrived : {S : Type 0} (stated : List Statement) (view : View) (n : Node S) (message : Message) (behind : Bool) → IsSound stated view n → why_dropped n message ≡ None
    → IsStated n.secret stated message → IsSound stated view (kept (record n { behind = behind }) message)
unfolding kept
sound_arrived {S = S} stated view n (Ask q) behind is none was =
    let tagged = ask_tagged n q none in
    let IsAsked : SignedBy Request → Type 0 = λ r. (is_verified requests n.secret r ≡ true) × IsStated n.secret stated (Ask r) in
    either (λ (m : Node S). IsSound stated view m) (is_next n.replica.table q.statement) (record n { pool = offered n.pool q; behind = behind }) (record n { behind = behind })
    (keeps stated view n (offered n.pool q) n.arrivals n.stops n.reports n.syncs behind is (each_offered IsAsked n.pool q is.pool (tagged, was)) is.arrivals is.stops is.reports is.syncs)
    (aside stated view n n.firm n.held n.proposed n.stop_made n.sync_made n.impatient behind is is.held is.late)
sound_arrived stated view n (Propose p) behind is none was =
    keeps stated view n n.pool (n.arrivals ++ Propose p ∷ []) n.stops n.reports n.syncs behind is is.pool
    (each_end (Arrived n.secret stated (view_of n)) n.arrivals (Propose p) is.arrivals (propose_kept n p none, was)) is.stops is.reports is.syncs
sound_arrived stated view n (Vote b) behind is none was =
    keeps stated view n n.pool (n.arrivals ++ Vote b ∷ []) n.stops n.reports n.syncs behind is is.pool
    (each_end (Arrived n.secret stated (view_of n)) n.arrivals (Vote b) is.arrivals (vote_kept n b none, was)) is.stops is.reports is.syncs
sound_arrived stated view n (changes.Stop s) behind is none was =
    keeps stated view n n.pool n.arrivals (n.stops ++ s ∷ []) n.reports n.syncs behind is is.pool is.arrivals
    (each_end (StopKept n.secret stated (view_of n)) n.stops s is.stops (stop_kept n s none, was)) is.reports is.syncs
sound_arrived stated view n (changes.StopData r) behind is none was =
    keeps stated view n n.pool n.arrivals n.stops (n.reports ++ r ∷ []) n.syncs behind is is.pool is.arrivals is.stops
    (each_end (ReportKept n stated) n.reports r is.reports (report_kept n r none, was)) is.syncs
sound_arrived stated view n (changes.Sync s) behind is none was =
    keeps stated view n n.pool n.arrivals n.stops n.reports (n.syncs ++ s ∷ []) (behind || nat_lt (decided_place n + 1) (choice s.statement.collect).base) is is.pool is.arrivals is.stops is.reports
    (each_end (SyncKept n stated) n.syncs s is.syncs (sync_kept n s none, was))
sound_arrived stated view n (changes.Decision d) behind is none was =
    transfers stated view n (n.decisions ++ d ∷ []) n.offers n.marks n.fetch behind is
    (each_end (DecisionKept n.secret stated (next_place n) (view_of n)) n.decisions d is.decisions
    (let shown = decision_kept n d none in (was, shown.0, shown.1))) is.offers is.marked is.fetch
sound_arrived stated view n (changes.Mark m) behind is none was =
    transfers stated view n n.decisions n.offers (tables_of_marks.noted m n.marks) n.fetch behind is is.decisions is.offers
    (each_noted (MarkKept n.secret stated) m n.marks is.marked (mark_kept n m none, was)) is.fetch
sound_arrived stated view n (changes.StateOffer o) behind is none was =
    transfers stated view n n.decisions (n.offers ++ verified_offer n.secret o ∷ []) n.marks n.fetch behind is is.decisions
    (each_end (OfferKept n.secret stated) n.offers (verified_offer n.secret o) is.offers (offer_kept n.secret stated o was)) is.marked is.fetch
sound_arrived stated view n (changes.StatePart p) behind is none was =
    transfers stated view n n.decisions n.offers n.marks (option_map (λ (f : Fetch). kept_unless None f p) n.fetch) behind is is.decisions is.offers is.marked
    (part_kept n.secret stated n.replica.views n.fetch p is.fetch)
sound_arrived stated view n _ behind is none was = aside stated view n n.firm n.held n.proposed n.stop_made n.sync_made n.impatient behind is is.held is.late

pub sound_noted : {S : Type 0} (stated : List Statement) (view : View) (n : Node S) (message : Message) → IsSound stated view n → IsSound stated view (noted n message)
unfolding noted
sound_noted stated view n message is = aside stated view n n.firm n.held n.proposed n.stop_made n.sync_made n.impatient (n.behind || tells_behind n message) is is.held is.late

pub sound_kept : {S : Type 0} (stated : List Statement) (view : View) (n : Node S) (message : Message) → IsSound stated view n → why_dropped n message ≡ None
    → IsStated n.secret stated message → IsSound stated view (kept (noted n message) message)
unfolding noted
sound_kept stated view n message is none was = sound_arrived stated view n message (n.behind || tells_behind n message) is none was
