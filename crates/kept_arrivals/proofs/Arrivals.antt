-- Arrivals, on what is needed.
use Rattle.std.proofs.Common.{◌≡◌, ℕ, ◌+◌, ◌++◌, ◌≤◌, ◌<◌, Bool, true, false, not, ◌||◌, ◌==◌, nat_lt, nat_le, List, [], ◌∷◌, refl, ap, ◌∙◌, cond, arith, Option, Some, None, is_some}
use Rattle.std.proofs.lemmas.Bool.{leb-false, le-leb, ltb-false, lt-ltb, eq-eqb, eqb-true}
use Rattle.std.specs.Prelude.{filter}
use Rattle.std.specs.List.{list_any}
use Rattle.smart_base.specs.Lists.{or_else}
use Rattle.smart_base.specs.Views.{leader}
use Rattle.smart_statements.specs.Forms.{SignedBy}
use Rattle.smart_statements.specs.Kinds.{proposals, ballots}
use Rattle.smart_statements.specs.Reports.{reports}
use Rattle.smart_messages.specs.Regencies.{stops, syncs}
use Rattle.smart_statements.specs.declared.statement.Request.{Request}
use Rattle.smart_statements.specs.declared.statement.Slot.{Slot}
use Rattle.smart_statements.specs.declared.statement.Ballot.{Ballot}
use Rattle.smart_statements.specs.declared.report.Mark.{Mark}
use Rattle.smart_messages.specs.declared.regency.Stop.{Stop}
use Rattle.smart_messages.specs.declared.regency.Sync.{Sync}
use Rattle.smart_messages.specs.declared.regency.Reported.{Reported}
use Rattle.smart_messages.specs.declared.message.Message.TheVariants as changes
use Rattle.smart_messages.specs.declared.message.Message.{Message}
use Rattle.smart_messages.specs.declared.message.Message.TheVariants.{Ask, Propose, Vote}
use Rattle.smart_messages.specs.declared.message.Proposed.{Proposed}
use Rattle.regency_sync.specs.Choices.{choice}
use Rattle.regency_sync.specs.Synchronizers.{is_needed, needs_stop, needs_report, needs_sync, repeats_stop, repeats_report, repeats_sync}
use Rattle.regency_sync.proofs.Lists.{any_filter, filter_end}
use Rattle.regency_sync.proofs.Needs.{stop_repeats, report_repeats, sync_repeats}
use Rattle.replica_rules.specs.Replicas.{is_next}
use Rattle.replica_rules.specs.Seals.{is_verified, digest_of}
use Rattle.transfer_form.specs.declared.transfer.ProvenBatch.{ProvenBatch}
use Rattle.transfer_form.specs.declared.transfer.StateAsk.{StateAsk}
use Rattle.transfer_form.specs.declared.transfer.StateOffer.{StateOffer}
use Rattle.transfer_form.specs.declared.transfer.StatePart.{StatePart}
use Rattle.node_rules.specs.Arrivals.{is_same_proposal, is_same_vote, signer_why, view_why, place_why, regency_why, wish_why, slot_why, why_ask, is_batch_for, is_unbound, why_propose, why_vote, why_unasked, why_stop, is_proven, why_report, is_collect, why_sync, why_mark, is_proven_batch, why_decision, why_state_ask, why_offer, why_part, why_dropped, noted, kept}
use Rattle.replica_rules.specs.Pools.{offered}
use Rattle.node_rules.specs.Nodes.{Node, view_of, regency_of, start_of, is_begun, decided_place, synchronizer_of}
use Rattle.node_rules.specs.declared.node.Why.{Why}
use Rattle.node_rules.specs.declared.node.Why.TheVariants.{OldView, NewView, OldPlace, FarPlace, OldRegency, NewRegency, NotLeader, InvalidBatch, BadProof, Unbound, Repeated}
use Rattle.node_rules.specs.Marks.{firm_at}
use Rattle.node_rules.specs.Kept.{ahead_of, needed_by, is_later, trimmed}
use Rattle.kept_arrivals.proofs.Filters.{or_else_where}
use Rattle.kept_arrivals.proofs.Needed.{ahead_from, same_vote_needed, same_proposal_needed}
use Rattle.kept_arrivals.proofs.Rules.{synchronizer_same}
use Rattle.kept_arrivals.proofs.Changes.{trimmed-if}
use Rattle.node_rules.proofs.Options.{no_reason, else_none}

-- ---- what gives no reason is needed

neither : (a b : Bool) (x y : Why) → cond a (Some x) (cond b (Some y) None) ≡ None → (a ≡ false) × (b ≡ false)
neither true b x y none = absurd (cc)
neither false true x y none = absurd (cc)
neither false false x y none = (refl, refl)

view_is : {S : Type 0} (n : Node S) (view : ℕ) → view_why n view ≡ None → view ≡ (view_of n).number
view_is n view none =
    let no = neither (nat_lt view (view_of n).number) (nat_lt (view_of n).number view) OldView NewView none in
    omega (arith, ltb-false view (view_of n).number no.0, ltb-false (view_of n).number view no.1)

place_is : {S : Type 0} (n : Node S) (place : ℕ) → place_why n place ≡ None → decided_place n < place
place_is n place none = leb-false place (decided_place n) (neither (nat_le place (decided_place n)) (nat_lt (decided_place n + 2) place) OldPlace FarPlace none).0

regency_is : {S : Type 0} (n : Node S) (regency : ℕ) → regency_why n regency ≡ None → regency_of n ≤ regency
regency_is n regency none = ltb-false regency (regency_of n) (neither (nat_lt regency (regency_of n)) (nat_lt (regency_of n + 1) regency) OldRegency NewRegency none).0

wish_is : {S : Type 0} (n : Node S) (regency : ℕ) → wish_why n regency ≡ None → regency_of n ≤ regency
wish_is n regency none =
    let above = leb-false regency (regency_of n) (neither (nat_le regency (regency_of n)) (nat_lt (regency_of n + 1) regency) OldRegency NewRegency none).0 in
    omega (arith, above)

-- a slot that gives no reason is ahead
pub ahead_where : {S : Type 0} (n : Node S) (slot : Slot) → slot_why n slot ≡ None → ahead_of n slot ≡ true
unfolding slot_why
ahead_where n slot none =
    let outer = else_none (view_why n slot.view) (or_else (place_why n slot.place) (regency_why n slot.regency)) none in
    let inner = else_none (place_why n slot.place) (regency_why n slot.regency) outer.1 in
    let same = view_is n slot.view outer.0 in
    ahead_from (view_of n).number (decided_place n) (regency_of n) slot same (place_is n slot.place inner.0) (regency_is n slot.regency inner.1)

-- ---- why an arrival is dropped

vote_repeats : {S : Type 0} (n : Node S) (b : SignedBy Ballot) → slot_why n b.statement.slot ≡ None → list_any (is_same_vote b) (filter (needed_by n) n.arrivals) ≡ list_any (is_same_vote b) n.arrivals
vote_repeats n b none =
    any_filter (is_same_vote b) (needed_by n) (same_vote_needed (view_of n).number (decided_place n) (regency_of n) b (ahead_where n b.statement.slot none)) n.arrivals

proposal_repeats : {S : Type 0} (n : Node S) (p : Proposed) → slot_why n p.head.statement.slot ≡ None → list_any (is_same_proposal p) (filter (needed_by n) n.arrivals) ≡ list_any (is_same_proposal p) n.arrivals
proposal_repeats n p none =
    any_filter (is_same_proposal p) (needed_by n) (same_proposal_needed (view_of n).number (decided_place n) (regency_of n) p (ahead_where n p.head.statement.slot none)) n.arrivals

why_ask_same : {S : Type 0} (n : Node S) (q : SignedBy Request) → why_ask (trimmed n) q ≡ why_ask n q
unfolding why_ask trimmed
why_ask_same n q = refl

why_propose_same : {S : Type 0} (n : Node S) (p : Proposed) → why_propose (trimmed n) p ≡ why_propose n p
unfolding why_propose signer_why slot_why trimmed regency_of start_of
why_propose_same n p =
    ap (λ (why : Option Why). or_else (signer_why n (is_verified proposals n.secret p.head) p.head.signer) why)
    (or_else_where (slot_why n p.head.statement.slot) _ _ (λ none.
    ap (λ (again : Bool).
    cond (not (p.head.signer == leader (view_of n) p.head.statement.slot.regency)) (Some NotLeader)
    (cond (not (is_batch_for n.secret p.head.statement.slot.place p.head.statement.digest p.batch)) (Some InvalidBatch)
    (cond (is_unbound n p) (Some Unbound) (cond again (Some Repeated) None))))
    (proposal_repeats n p none)))

why_vote_same : {S : Type 0} (n : Node S) (b : SignedBy Ballot) → why_vote (trimmed n) b ≡ why_vote n b
unfolding why_vote signer_why slot_why trimmed regency_of
why_vote_same n b =
    ap (λ (why : Option Why). or_else (signer_why n (is_verified ballots n.secret b) b.signer) why)
    (or_else_where (slot_why n b.statement.slot) _ _ (λ none. ap (λ (again : Bool). cond again (Some Repeated) None) (vote_repeats n b none)))

-- of the view in force, and of the regency in force or a later one
needed_here : {S : Type 0} (n : Node S) (view regency : ℕ) → view ≡ (view_of n).number → regency_of n ≤ regency
    → is_needed (view_of n).number (regency_of n) view regency ≡ true
needed_here n view regency here later = rw (eq-eqb view (view_of n).number here, le-leb (regency_of n) regency later) refl

stop_repeats_same : {S : Type 0} (n : Node S) (s : SignedBy Stop) → needs_stop (view_of n).number (regency_of n) s ≡ true
    → repeats_stop (synchronizer_of (trimmed n)) s ≡ repeats_stop (synchronizer_of n) s
stop_repeats_same n s needed = ap (λ x. repeats_stop x s) (synchronizer_same n) ∙ stop_repeats (view_of n) (synchronizer_of n) s needed

report_repeats_same : {S : Type 0} (n : Node S) (r : Reported) → needs_report (view_of n).number (regency_of n) r ≡ true
    → repeats_report (synchronizer_of (trimmed n)) r.head ≡ repeats_report (synchronizer_of n) r.head
report_repeats_same n r needed = ap (λ x. repeats_report x r.head) (synchronizer_same n) ∙ report_repeats (view_of n) (synchronizer_of n) r needed

sync_repeats_same : {S : Type 0} (n : Node S) (s : SignedBy Sync) → needs_sync (view_of n).number (regency_of n) s ≡ true
    → repeats_sync (synchronizer_of (trimmed n)) s ≡ repeats_sync (synchronizer_of n) s
sync_repeats_same n s needed = ap (λ x. repeats_sync x s) (synchronizer_same n) ∙ sync_repeats (view_of n) (synchronizer_of n) s needed

why_stop_same : {S : Type 0} (n : Node S) (s : SignedBy Stop) → why_stop (trimmed n) s ≡ why_stop n s
unfolding why_stop signer_why trimmed regency_of
why_stop_same n s =
    ap (λ (why : Option Why). or_else (signer_why n (is_verified stops n.secret s) s.signer) why)
    (or_else_where (view_why n s.statement.view) _ _ (λ here.
    or_else_where (wish_why n s.statement.regency) _ _ (λ later.
    ap (λ (again : Bool). cond again (Some Repeated) None)
    (stop_repeats_same n s (needed_here n s.statement.view s.statement.regency (view_is n s.statement.view here) (wish_is n s.statement.regency later))))))

why_report_same : {S : Type 0} (n : Node S) (r : Reported) → why_report (trimmed n) r ≡ why_report n r
unfolding why_report is_proven signer_why trimmed regency_of
why_report_same n r =
    ap (λ (why : Option Why). or_else (signer_why n (is_verified reports n.secret r.head) r.head.signer) why)
    (or_else_where (view_why n r.head.statement.view) _ _ (λ here.
    or_else_where (regency_why n r.head.statement.regency) _ _ (λ later.
    ap (λ (again : Bool).
    cond (not (leader (view_of n) r.head.statement.regency == n.id)) (Some NotLeader)
    (cond (not (is_proven n r)) (Some BadProof) (cond again (Some Repeated) None)))
    (report_repeats_same n r (needed_here n r.head.statement.view r.head.statement.regency (view_is n r.head.statement.view here) (regency_is n r.head.statement.regency later))))))

-- a choice that matters only where its test fails
where_false : {A : Type 0} (test : Bool) (first x y : A) → (test ≡ false → x ≡ y) → cond test first x ≡ cond test first y
where_false true first x y same = refl
where_false false first x y same = same refl

why_sync_same : {S : Type 0} (n : Node S) (s : SignedBy Sync) → why_sync (trimmed n) s ≡ why_sync n s
unfolding why_sync is_collect signer_why trimmed regency_of
why_sync_same n s =
    ap (λ (why : Option Why). or_else (signer_why n (is_verified syncs n.secret s) s.signer) why)
    (or_else_where (view_why n s.statement.view) _ _ (λ here.
    where_false (nat_lt s.statement.regency (regency_of n)) (Some OldRegency) _ _ (λ later.
    ap (λ (again : Bool).
    cond (not (s.signer == leader (view_of n) s.statement.regency)) (Some NotLeader)
    (cond (not (is_collect n s.statement)) (Some BadProof) (cond (is_begun n s.statement.regency || again) (Some Repeated) None)))
    (sync_repeats_same n s (needed_here n s.statement.view s.statement.regency (view_is n s.statement.view here) (ltb-false s.statement.regency (regency_of n) later))))))

why_mark_same : {S : Type 0} (n : Node S) (m : SignedBy Mark) → why_mark (trimmed n) m ≡ why_mark n m
unfolding why_mark trimmed
why_mark_same n m = refl

decision_repeats : {S : Type 0} (n : Node S) (d : ProvenBatch) → nat_le d.place (decided_place n) ≡ false
    → list_any (λ (o : ProvenBatch). o.place == d.place) (filter (is_later n) n.decisions) ≡ list_any (λ (o : ProvenBatch). o.place == d.place) n.decisions
decision_repeats n d later =
    any_filter (λ (o : ProvenBatch). o.place == d.place) (is_later n)
    (λ o is. lt-ltb (decided_place n) o.place (omega (arith, eqb-true o.place d.place is, leb-false d.place (decided_place n) later))) n.decisions

why_decision_same : {S : Type 0} (n : Node S) (d : ProvenBatch) → why_decision (trimmed n) d ≡ why_decision n d
unfolding why_decision is_proven_batch trimmed regency_of
why_decision_same n d =
    where_false (nat_le d.place (decided_place n)) (Some OldPlace) _ _ (λ later.
    ap (λ (again : Bool).
    cond (nat_lt (decided_place n + 1) d.place || is_some n.waiting) (Some FarPlace)
    (cond (not (is_batch_for n.secret d.place (digest_of d.batch) d.batch)) (Some InvalidBatch)
    (cond (not (is_proven_batch n d)) (Some BadProof) (cond again (Some Repeated) None))))
    (decision_repeats n d later))

why_state_ask_same : {S : Type 0} (n : Node S) (a : StateAsk) → why_state_ask (trimmed n) a ≡ why_state_ask n a
unfolding why_state_ask firm_at trimmed
why_state_ask_same n a = refl

why_offer_same : {S : Type 0} (n : Node S) (o : StateOffer) → why_offer (trimmed n) o ≡ why_offer n o
unfolding why_offer trimmed
why_offer_same n o = refl

why_part_same : {S : Type 0} (n : Node S) (p : StatePart) → why_part (trimmed n) p ≡ why_part n p
unfolding why_part trimmed
why_part_same n p = refl

pub why_same : {S : Type 0} (n : Node S) (message : Message) → why_dropped (trimmed n) message ≡ why_dropped n message
unfolding why_unasked signer_why trimmed
why_same n (Ask q) = why_ask_same n q
why_same n (Propose p) = why_propose_same n p
why_same n (Vote b) = why_vote_same n b
why_same n (changes.Stop s) = why_stop_same n s
why_same n (changes.StopData r) = why_report_same n r
why_same n (changes.Sync s) = why_sync_same n s
why_same n (changes.Decision d) = why_decision_same n d
why_same n (changes.Mark m) = why_mark_same n m
why_same n (changes.StateAsk a) = why_state_ask_same n a
why_same n (changes.StateOffer o) = why_offer_same n o
why_same n (changes.StatePart p) = why_part_same n p
why_same n _ = refl

-- ---- what an arrival tells

pub noted_same : {S : Type 0} (n : Node S) (message : Message) → noted (trimmed n) message ≡ trimmed (noted n message)
unfolding noted signer_why trimmed regency_of
noted_same n (Ask q) = refl
noted_same n _ = refl

-- ---- what is kept

vote_ahead : {S : Type 0} (n : Node S) (b : SignedBy Ballot) → why_vote n b ≡ None → ahead_of n b.statement.slot ≡ true
unfolding why_vote
vote_ahead n b none = ahead_where n b.statement.slot (else_none (slot_why n b.statement.slot) _ (else_none (signer_why n (is_verified ballots n.secret b) b.signer) _ none).1).0

propose_ahead : {S : Type 0} (n : Node S) (p : Proposed) → why_propose n p ≡ None → ahead_of n p.head.statement.slot ≡ true
unfolding why_propose
propose_ahead n p none = ahead_where n p.head.statement.slot (else_none (slot_why n p.head.statement.slot) _ (else_none (signer_why n (is_verified proposals n.secret p.head) p.head.signer) _ none).1).0

stop_needed : {S : Type 0} (n : Node S) (s : SignedBy Stop) → why_stop n s ≡ None → needs_stop (view_of n).number (regency_of n) s ≡ true
unfolding why_stop
stop_needed n s none =
    let first = else_none (signer_why n (is_verified stops n.secret s) s.signer) _ none in
    let second = else_none (view_why n s.statement.view) _ first.1 in
    let third = else_none (wish_why n s.statement.regency) _ second.1 in
    needed_here n s.statement.view s.statement.regency (view_is n s.statement.view second.0) (wish_is n s.statement.regency third.0)

report_needed : {S : Type 0} (n : Node S) (r : Reported) → why_report n r ≡ None → needs_report (view_of n).number (regency_of n) r ≡ true
unfolding why_report
report_needed n r none =
    let first = else_none (signer_why n (is_verified reports n.secret r.head) r.head.signer) _ none in
    let second = else_none (view_why n r.head.statement.view) _ first.1 in
    let third = else_none (regency_why n r.head.statement.regency) _ second.1 in
    needed_here n r.head.statement.view r.head.statement.regency (view_is n r.head.statement.view second.0) (regency_is n r.head.statement.regency third.0)

sync_needed : {S : Type 0} (n : Node S) (s : SignedBy Sync) → why_sync n s ≡ None → needs_sync (view_of n).number (regency_of n) s ≡ true
unfolding why_sync
sync_needed n s none =
    let first = else_none (signer_why n (is_verified syncs n.secret s) s.signer) _ none in
    let second = else_none (view_why n s.statement.view) _ first.1 in
    let third = no_reason (nat_lt s.statement.regency (regency_of n)) OldRegency _ second.1 in
    needed_here n s.statement.view s.statement.regency (view_is n s.statement.view second.0) (ltb-false s.statement.regency (regency_of n) third.0)

-- what is needed comes to the needed ones
added : {S : Type 0} (n : Node S) (message : Message) → needed_by n message ≡ true
    → record (trimmed n) { arrivals = filter (needed_by n) n.arrivals ++ message ∷ [] } ≡ trimmed (record n { arrivals = n.arrivals ++ message ∷ [] })
unfolding trimmed regency_of
added n message needed = ap (λ (ms : List Message). record (trimmed n) { arrivals = ms }) (filter_end (needed_by n) n.arrivals message needed)

kept_ask : {S : Type 0} (n : Node S) (q : SignedBy Request) → kept (trimmed n) (Ask q) ≡ trimmed (kept n (Ask q))
unfolding kept trimmed regency_of
kept_ask n q = trimmed-if (is_next n.replica.table q.statement) (record n { pool = offered n.pool q }) n

kept_propose : {S : Type 0} (n : Node S) (p : Proposed) → ahead_of n p.head.statement.slot ≡ true → kept (trimmed n) (Propose p) ≡ trimmed (kept n (Propose p))
unfolding kept trimmed
kept_propose n p ahead = added n (Propose p) ahead

kept_vote : {S : Type 0} (n : Node S) (b : SignedBy Ballot) → ahead_of n b.statement.slot ≡ true → kept (trimmed n) (Vote b) ≡ trimmed (kept n (Vote b))
unfolding kept trimmed
kept_vote n b ahead = added n (Vote b) ahead

kept_stop : {S : Type 0} (n : Node S) (s : SignedBy Stop) → needs_stop (view_of n).number (regency_of n) s ≡ true
    → kept (trimmed n) (changes.Stop s) ≡ trimmed (kept n (changes.Stop s))
unfolding kept trimmed regency_of
kept_stop n s needed =
    ap (λ (kept_ones : List (SignedBy Stop)). record (trimmed n) { stops = kept_ones }) (filter_end (needs_stop (view_of n).number (regency_of n)) n.stops s needed)

kept_report : {S : Type 0} (n : Node S) (r : Reported) → needs_report (view_of n).number (regency_of n) r ≡ true
    → kept (trimmed n) (changes.StopData r) ≡ trimmed (kept n (changes.StopData r))
unfolding kept trimmed regency_of
kept_report n r needed =
    ap (λ (kept_ones : List Reported). record (trimmed n) { reports = kept_ones }) (filter_end (needs_report (view_of n).number (regency_of n)) n.reports r needed)

kept_sync : {S : Type 0} (n : Node S) (s : SignedBy Sync) → needs_sync (view_of n).number (regency_of n) s ≡ true
    → kept (trimmed n) (changes.Sync s) ≡ trimmed (kept n (changes.Sync s))
unfolding kept trimmed regency_of
kept_sync n s needed =
    ap (λ (kept_ones : List (SignedBy Sync)). record (trimmed n) { syncs = kept_ones; behind = n.behind || nat_lt (decided_place n + 1) (choice s.statement.collect).base })
    (filter_end (needs_sync (view_of n).number (regency_of n)) n.syncs s needed)

kept_mark : {S : Type 0} (n : Node S) (m : SignedBy Mark) → kept (trimmed n) (changes.Mark m) ≡ trimmed (kept n (changes.Mark m))
unfolding kept trimmed regency_of
kept_mark n m = refl

decision_needed : {S : Type 0} (n : Node S) (d : ProvenBatch) → why_decision n d ≡ None → is_later n d ≡ true
unfolding why_decision
decision_needed n d none =
    lt-ltb (decided_place n) d.place (leb-false d.place (decided_place n) (no_reason (nat_le d.place (decided_place n)) OldPlace _ none).0)

kept_decision : {S : Type 0} (n : Node S) (d : ProvenBatch) → is_later n d ≡ true → kept (trimmed n) (changes.Decision d) ≡ trimmed (kept n (changes.Decision d))
unfolding kept trimmed regency_of
kept_decision n d later = ap (λ (kept_ones : List ProvenBatch). record (trimmed n) { decisions = kept_ones }) (filter_end (is_later n) n.decisions d later)

kept_offer : {S : Type 0} (n : Node S) (o : StateOffer) → kept (trimmed n) (changes.StateOffer o) ≡ trimmed (kept n (changes.StateOffer o))
unfolding kept trimmed regency_of
kept_offer n o = refl

kept_part : {S : Type 0} (n : Node S) (p : StatePart) → kept (trimmed n) (changes.StatePart p) ≡ trimmed (kept n (changes.StatePart p))
unfolding kept trimmed regency_of
kept_part n p = refl

pub kept_same : {S : Type 0} (n : Node S) (message : Message) → why_dropped n message ≡ None → kept (trimmed n) message ≡ trimmed (kept n message)
unfolding kept trimmed
kept_same n (Ask q) none = kept_ask n q
kept_same n (Propose p) none = kept_propose n p (propose_ahead n p none)
kept_same n (Vote b) none = kept_vote n b (vote_ahead n b none)
kept_same n (changes.Stop s) none = kept_stop n s (stop_needed n s none)
kept_same n (changes.StopData r) none = kept_report n r (report_needed n r none)
kept_same n (changes.Sync s) none = kept_sync n s (sync_needed n s none)
kept_same n (changes.Decision d) none = kept_decision n d (decision_needed n d none)
kept_same n (changes.Mark m) none = kept_mark n m
kept_same n (changes.StateOffer o) none = kept_offer n o
kept_same n (changes.StatePart p) none = kept_part n p
kept_same n _ none = refl
