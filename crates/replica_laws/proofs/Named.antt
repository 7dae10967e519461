-- Each message that a node holds names no later view than its present one, and no place past its own.
use Rattle.std.proofs.Common.{◌≡◌, ℕ, ◌≤◌, ◌==◌, nat_le, Bool, true, false, cond, List, [], ◌∷◌, length, Option, Some, None, is_some, Result, Ok, Err, subst, arith}
use Rattle.std.specs.Prelude.{map, option_map}
use Rattle.std.specs.List.{filter_map}
use Rattle.smart_base.specs.Lists.{Each}
use Rattle.smart_base.specs.Views.{present}
use Rattle.smart_statements.specs.Forms.{SignedBy}
use Rattle.smart_statements.specs.Batches.{Batch}
use Rattle.smart_statements.specs.declared.statement.Request.{Request}
use Rattle.smart_statements.specs.declared.report.Report.{Report}
use Rattle.smart_statements.specs.declared.entry.NodeEvent.{NodeEvent}
use Rattle.smart_messages.specs.declared.regency.Sync.{Sync}
use Rattle.smart_messages.specs.declared.message.Proposed.{Proposed}
use Rattle.smart_messages.specs.declared.message.Message.{Message}
use Rattle.smart_messages.specs.declared.message.Message.TheVariants.{Ask, Propose, Vote, Reply}
use Rattle.smart_messages.specs.declared.message.Message.TheVariants as changes
use Rattle.transfer_form.specs.declared.transfer.StateAsk.{StateAsk}
use Rattle.transfer_form.specs.declared.transfer.StatePart.{StatePart}
use Rattle.state_transfer.specs.Fetches.{finished}
use Rattle.state_transfer.specs.Seeds.{seeds}
use Rattle.state_transfer.specs.declared.choice.Plan.{Plan}
use Rattle.state_transfer.specs.declared.fetch.Fetch.{Fetch}
use Rattle.state_transfer.specs.declared.fetch.Spoiled.{Spoiled}
use Rattle.smart_service.specs.Services.{Meaning}
use Rattle.smart_service.specs.declared.replica.Replica.{Replica}
use Rattle.smart_service.specs.declared.table.Execution.{Execution}
use Rattle.vote_book.specs.declared.entry.Decision.{Decision}
use Rattle.replica_rules.specs.Pools.{offered, settled}
use Rattle.replica_rules.specs.Replicas.{is_next, delivered}
use Rattle.node_rules.specs.Arrivals.{noted, kept}
use Rattle.node_rules.specs.Changes.{report_of, reported_by, adopts_by, adoption, adopts, asks_next, joining, joins, promising, promise_next, promises, leading, lead_with, leads, lags, asks_state, timing, passes_on, presses, times}
use Rattle.node_rules.specs.Marks.{firm_at, mark_place}
use Rattle.node_rules.specs.Nodes.{Node, view_of, enters, stays_in_view, telling, holding, holding_all}
use Rattle.node_rules.specs.Rules.{reply_of, replying, lines_to_answer, deliver_batch, delivers, proposing, propose_batch, proposes, writing, write_batch, writes, accepting, accept_batch, accepts, deciding, decide_batch, decides, replies_with, answering, answer_line, answers_again}
use Rattle.node_rules.specs.Steps.{step_of, takes_in}
use Rattle.node_rules.specs.Transfers.{installing, install_replica, is_of_group, spoil, install_by, install_fetch, installs, decided_at, shown_as, is_shown_place, places_after, shown_at, shown_after, offers_state, part_messages, gives_parts, answers_state, planning, follow_plan, plans, offer_for}
use Rattle.node_rules.specs.declared.node.Asked.{Asked}
use Rattle.node_rules.specs.declared.node.Held.{Held}
use Rattle.node_rules.specs.declared.node.OwnSnapshot.{OwnSnapshot}
use Rattle.node_rules.specs.declared.node.Target.{Target}
use Rattle.node_rules.specs.declared.node.Target.TheVariants as targets
use Rattle.node_rules.proofs.Rulewise.{KeptByRules, by_mark, free-event, keeps_from, takes_in_as}
use Rattle.agreement_laws.proofs.Lists.{either, each_end, some_equal}
use Rattle.node_laws.proofs.Lists.{each_filter_map_in}
use Rattle.node_laws.proofs.MovedViews.{grown-delivered}
use Rattle.replica_rules.proofs.Places.{place_delivered}
use Rattle.replica_laws.proofs.Entered.{each-telling}
use Rattle.replica_laws.proofs.Leaves.{leaves-adopts, leaves-joins, leaves-promises, leaves-leads, leaves-proposes, leaves-writes, leaves-accepts, leaves-times, leaves-answers_again, leaves-answers_state, leaves-plans, leaves-mark}
use Rattle.replica_laws.proofs.Replying.{replica-decides, replica-replying}
use Rattle.replica_laws.specs.Sending.{NamesUpTo, HoldsUpTo}

-- a node whose view in force is of no later number than one, and whose place is not past one
abbrev pub Stands : {S : Type 0} → ℕ → ℕ → Node S → Type 0
Stands number place n = ((view_of n).number ≤ number) × (n.replica.place ≤ place)

stands-as : {S : Type 0} (k p : ℕ) (n n' : Node S) → n'.replica ≡ n.replica → Stands k p n' → Stands k p n
stands-as {S = S} k p n n' same stands = subst (λ (r : Replica S). ((present r.views).number ≤ k) × (r.place ≤ p)) same stands

-- one message more
holds-one : {S : Type 0} (k p : ℕ) (n : Node S) (to : Target) (message : Message) → NamesUpTo k p message → HoldsUpTo k p n → HoldsUpTo k p (holding n to message)
holds-one k p n to message names held = each_end (λ (h : Held). NamesUpTo k p h.message) n.held (record { to = to; message = message; needs = length n.entries }) held names

-- ---- rules

holds-adopts_by : {S : Type 0} (k p : ℕ) (n : Node S) (sync : Option (SignedBy Sync)) → HoldsUpTo k p n → HoldsUpTo k p (adopts_by n sync)
unfolding adopts_by
holds-adopts_by k p n None held = held
holds-adopts_by k p n (Some sync) held = held

holds-adopts : {S : Type 0} (k p : ℕ) (n : Node S) → HoldsUpTo k p n → HoldsUpTo k p (adopts n)
unfolding adopts
holds-adopts k p n held = holds-adopts_by k p n (adoption n) held

holds-asks_next : {S : Type 0} (k p : ℕ) (n : Node S) → Stands k p n → HoldsUpTo k p n → HoldsUpTo k p (asks_next n)
holds-asks_next k p n stands held = each_end (λ (h : Held). NamesUpTo k p h.message) n.held _ held stands.0

holds-joins : {S : Type 0} (k p : ℕ) (n : Node S) → Stands k p n → HoldsUpTo k p n → HoldsUpTo k p (joins n)
unfolding joins
holds-joins k p n stands held = either (HoldsUpTo k p) (joining n) (asks_next n) n (holds-asks_next k p n stands held) held

holds-promises : {S : Type 0} (k p : ℕ) (n : Node S) → Stands k p n → HoldsUpTo k p n → HoldsUpTo k p (promises n)
unfolding promises promise_next reported_by report_of
holds-promises k p n stands held =
    either (HoldsUpTo k p) (promising n) (promise_next n) n (each_end (λ (h : Held). NamesUpTo k p h.message) n.held _ held stands.0) held

holds-lead_with : {S : Type 0} (k p : ℕ) (n : Node S) (collect : Option (List (SignedBy Report))) → Stands k p n → HoldsUpTo k p n → HoldsUpTo k p (lead_with n collect)
unfolding lead_with
holds-lead_with k p n None stands held = held
holds-lead_with k p n (Some collect) stands held = each_end (λ (h : Held). NamesUpTo k p h.message) n.held _ held stands.0

holds-leads : {S : Type 0} (k p : ℕ) (n : Node S) → Stands k p n → HoldsUpTo k p n → HoldsUpTo k p (leads n)
unfolding leads
holds-leads k p n stands held = holds-lead_with k p n (leading n) stands held

holds-passes_on : {S : Type 0} (k p : ℕ) (n : Node S) (pool : List (SignedBy Request)) → HoldsUpTo k p n → HoldsUpTo k p (passes_on n pool)
holds-passes_on k p n [] held = held
holds-passes_on k p n (q ∷ qs) held = each_end (λ (h : Held). NamesUpTo k p h.message) n.held _ held tt

holds-asks_state : {S : Type 0} (k p : ℕ) (n : Node S) → Stands k p n → HoldsUpTo k p n → HoldsUpTo k p (asks_state n)
unfolding asks_state
holds-asks_state k p n stands held = each_end (λ (h : Held). NamesUpTo k p h.message) n.held _ held stands.1

holds-times : {S : Type 0} (k p : ℕ) (n : Node S) → Stands k p n → HoldsUpTo k p n → HoldsUpTo k p (times n)
unfolding times presses
holds-times {S = S} k p n stands held =
    either (HoldsUpTo k p) (lags n) (asks_state n) _ (holds-asks_state k p n stands held)
    (either (HoldsUpTo k p) (timing n) _ n
    (either (HoldsUpTo k p) n.impatient (asks_next n) (passes_on (record n { impatient = true }) n.pool) (holds-asks_next k p n stands held)
    (holds-passes_on k p (record n { impatient = true }) n.pool held)) held)

holds-propose_batch : {S : Type 0} (k p : ℕ) (n : Node S) (batch : Option Batch) → Stands k p n → HoldsUpTo k p n → HoldsUpTo k p (propose_batch n batch)
unfolding propose_batch
holds-propose_batch k p n None stands held = held
holds-propose_batch k p n (Some batch) stands held = each_end (λ (h : Held). NamesUpTo k p h.message) n.held _ held stands.0

holds-proposes : {S : Type 0} (k p : ℕ) (n : Node S) → Stands k p n → HoldsUpTo k p n → HoldsUpTo k p (proposes n)
unfolding proposes
holds-proposes k p n stands held = holds-propose_batch k p n (proposing n) stands held

holds-write_batch : {S : Type 0} (k p : ℕ) (n : Node S) (o : Option Proposed) → Stands k p n → HoldsUpTo k p n → HoldsUpTo k p (write_batch n o)
unfolding write_batch
holds-write_batch k p n None stands held = held
holds-write_batch k p n (Some o) stands held = each_end (λ (h : Held). NamesUpTo k p h.message) n.held _ held stands.0

holds-writes : {S : Type 0} (k p : ℕ) (n : Node S) → Stands k p n → HoldsUpTo k p n → HoldsUpTo k p (writes n)
unfolding writes
holds-writes k p n stands held = holds-write_batch k p n (writing n) stands held

holds-accept_batch : {S : Type 0} (k p : ℕ) (n : Node S) (o : Option Proposed) → Stands k p n → HoldsUpTo k p n → HoldsUpTo k p (accept_batch n o)
unfolding accept_batch
holds-accept_batch k p n None stands held = held
holds-accept_batch k p n (Some o) stands held = each_end (λ (h : Held). NamesUpTo k p h.message) n.held _ held stands.0

holds-accepts : {S : Type 0} (k p : ℕ) (n : Node S) → Stands k p n → HoldsUpTo k p n → HoldsUpTo k p (accepts n)
unfolding accepts
holds-accepts k p n stands held = holds-accept_batch k p n (accepting n) stands held

holds-decide_batch : {S : Type 0} (k p : ℕ) (n : Node S) (d : Option Decision) → HoldsUpTo k p n → HoldsUpTo k p (decide_batch n d)
unfolding decide_batch
holds-decide_batch k p n None held = held
holds-decide_batch k p n (Some d) held = held

holds-decides : {S : Type 0} (k p : ℕ) (n : Node S) → HoldsUpTo k p n → HoldsUpTo k p (decides n)
unfolding decides
holds-decides k p n held = holds-decide_batch k p n (deciding n) held

-- the view in force is told
holds-telling : {S : Type 0} (k p : ℕ) (n : Node S) (known : Bool) (to : Target) → Stands k p n → HoldsUpTo k p n → HoldsUpTo k p (telling known to n)
holds-telling k p n known to stands held = each-telling (λ (h : Held). NamesUpTo k p h.message) n known to held (λ new. stands.0)

holds-answer_line : {S : Type 0} (k p : ℕ) (n : Node S) (line : Option Execution) → Stands k p n → HoldsUpTo k p n → HoldsUpTo k p (answer_line n line)
unfolding answer_line
holds-answer_line k p n None stands held = held
holds-answer_line k p n (Some line) stands held =
    holds-telling k p (replies_with n line) (nat_le (length n.replica.views) 1) (targets.Client line.client) stands
    (holds-one k p n (targets.Client line.client) (reply_of n.secret n.id line) tt held)

holds-answers_again : {S : Type 0} (k p : ℕ) (n : Node S) (asked : Asked) → Stands k p n → HoldsUpTo k p n → HoldsUpTo k p (answers_again n asked)
unfolding answers_again
holds-answers_again k p n asked stands held = holds-answer_line k p n (answering n asked) stands held

-- ---- what members exchange to take over a replica

holds-all : {S : Type 0} (k p : ℕ) (n : Node S) (to : Target) (messages : List Message) → Each (NamesUpTo k p) messages → HoldsUpTo k p n → HoldsUpTo k p (holding_all n to messages)
holds-all k p n to [] each held = held
holds-all k p n to (x ∷ xs) each held = holds-all k p (holding n to x) to xs each.1 (holds-one k p n to x each.0 held)

shown-none : {S : Type 0} (k p : ℕ) (n : Node S) (place : ℕ) (message : Message) → shown_at n place ≡ Some message → NamesUpTo k p message
shown-none {S = S} k p n place message at = by (is_shown_place n place) at
  where
    decided : (o : Option Decision) → option_map (λ (d : Decision). changes.Decision (shown_as d)) o ≡ Some message → NamesUpTo k p message
    decided None said = absurd cc
    decided (Some d) said = subst (λ (x : Message). NamesUpTo k p x) (some_equal (changes.Decision (shown_as d)) message said) tt

    by : (t : Bool) → cond t (option_map (λ (d : Decision). changes.Decision (shown_as d)) (decided_at place n.entries)) None ≡ Some message → NamesUpTo k p message
    by true said = decided (decided_at place n.entries) said
    by false said = absurd cc

holds-offers_state : {S : Type 0} (k p : ℕ) (n : Node S) (a : StateAsk) → HoldsUpTo k p n → HoldsUpTo k p (offers_state n a)
unfolding offers_state shown_after
holds-offers_state k p n a held =
    holds-all k p n (targets.Node a.member) (changes.StateOffer (offer_for n a.place) ∷ filter_map (shown_at n) (places_after a.place 8))
    (tt, each_filter_map_in (NamesUpTo k p) (shown_at n) (places_after a.place 8) (λ place message there at. shown-none k p n place message at)) held

parts-none : (k p : ℕ) (ps : List StatePart) → Each (NamesUpTo k p) (map (λ (part : StatePart). changes.StatePart part) ps)
parts-none k p [] = tt
parts-none k p (part ∷ ps) = (tt, parts-none k p ps)

part_messages-none : (k p : ℕ) (o : Option OwnSnapshot) → Each (NamesUpTo k p) (part_messages o)
part_messages-none k p None = tt
part_messages-none k p (Some s) = parts-none k p (seeds s.place s.snapshot)

holds-gives_parts : {S : Type 0} (k p : ℕ) (n : Node S) (a : StateAsk) → HoldsUpTo k p n → HoldsUpTo k p (gives_parts n a)
unfolding gives_parts
holds-gives_parts k p n a held = holds-all k p n (targets.Node a.member) (part_messages (firm_at n a.fetch)) (part_messages-none k p (firm_at n a.fetch)) held

holds-answers_state : {S : Type 0} (k p : ℕ) (n : Node S) (a : StateAsk) → HoldsUpTo k p n → HoldsUpTo k p (answers_state n a)
unfolding answers_state
holds-answers_state {S = S} k p n a held =
    either (HoldsUpTo k p) (a.fetch == 0) (offers_state n a) (gives_parts n a) (holds-offers_state k p n a held) (holds-gives_parts k p n a held)

holds-follow_plan : {S : Type 0} (k p : ℕ) (n : Node S) (plan : Option Plan) → Stands k p n → HoldsUpTo k p n → HoldsUpTo k p (follow_plan n plan)
unfolding follow_plan
holds-follow_plan k p n None stands held = held
holds-follow_plan k p n (Some plan) stands held = each_end (λ (h : Held). NamesUpTo k p h.message) n.held _ held stands.1

holds-plans : {S : Type 0} (k p : ℕ) (n : Node S) → Stands k p n → HoldsUpTo k p n → HoldsUpTo k p (plans n)
unfolding plans
holds-plans k p n stands held = holds-follow_plan k p n (planning n) stands held

holds-install_replica : {S : Type 0} (k p : ℕ) (n : Node S) (f : Fetch) (r : Replica S) → Stands k p (install_replica n f r) → HoldsUpTo k p n → HoldsUpTo k p (install_replica n f r)
unfolding install_replica
holds-install_replica k p n f r stands held = each_end (λ (h : Held). NamesUpTo k p h.message) n.held _ held stands.1

holds-spoil : {S : Type 0} (k p : ℕ) (n : Node S) (f : Fetch) → HoldsUpTo k p n → HoldsUpTo k p (spoil n f)
unfolding spoil
holds-spoil k p n f held = held

holds-install_by : {S : Type 0} (k p : ℕ) (n : Node S) (f : Fetch) (made : Result (Replica S) Spoiled) → Stands k p (install_by n f made) → HoldsUpTo k p n → HoldsUpTo k p (install_by n f made)
holds-install_by {S = S} k p n f (Ok r) stands held =
    either (λ (x : Node S). Stands k p x → HoldsUpTo k p x) (is_of_group n r) (install_replica n f r) (spoil n f) (λ s. holds-install_replica k p n f r s held) (λ s. holds-spoil k p n f held) stands
holds-install_by k p n f (Err why) stands held = holds-spoil k p n f held

holds-install_fetch : {S : Type 0} (k p : ℕ) (m : Meaning S) (n : Node S) (due : Option Fetch) → Stands k p (install_fetch m n due) → HoldsUpTo k p n → HoldsUpTo k p (install_fetch m n due)
unfolding install_fetch
holds-install_fetch k p m n None stands held = held
holds-install_fetch k p m n (Some f) stands held = holds-install_by k p n f (finished m f) stands held

holds-installs : {S : Type 0} (k p : ℕ) (m : Meaning S) (n : Node S) → Stands k p (installs m n) → HoldsUpTo k p n → HoldsUpTo k p (installs m n)
unfolding installs
holds-installs k p m n stands held = holds-install_fetch k p m n (installing n) stands held

-- ---- deliveries

holds-replying : {S : Type 0} (k p : ℕ) (n : Node S) (lines : List Execution) → HoldsUpTo k p n → HoldsUpTo k p (replying n lines)
holds-replying k p n [] held = held
holds-replying k p n (l ∷ ls) held =
    holds-replying k p (holding n (targets.Client l.client) (reply_of n.secret n.id l)) ls (holds-one k p n (targets.Client l.client) (reply_of n.secret n.id l) tt held)

-- a node stands no further before a batch than behind it
stands-deliver_batch : {S : Type 0} (k p : ℕ) (m : Meaning S) (n : Node S) (batch : Option Batch) → Stands k p (deliver_batch m n batch) → Stands k p n
unfolding deliver_batch
stands-deliver_batch k p m n None stands = stands
stands-deliver_batch {S = S} k p m n (Some batch) stands =
    let r : Replica S = delivered m n.replica batch in
    let x : Node S = enters n (record n { replica = r; waiting = None; pool = settled r.table n.pool; impatient = false }) in
    let behind = subst (λ (s : Replica S). ((present s.views).number ≤ k) × (s.place ≤ p)) (replica-replying x (lines_to_answer m n batch)) stands in
    let later = (grown-delivered m n.replica batch).later in
    let number = behind.0 in
    let place = behind.1 in
    let next = place_delivered m n.replica batch in
    (omega (arith, later, number), omega (arith, next, place))

stands-delivers : {S : Type 0} (k p : ℕ) (m : Meaning S) (n : Node S) → Stands k p (delivers m n) → Stands k p n
unfolding delivers
stands-delivers k p m n stands = stands-deliver_batch k p m n n.waiting stands

holds-deliver_batch : {S : Type 0} (k p : ℕ) (m : Meaning S) (n : Node S) (batch : Option Batch) → Stands k p (deliver_batch m n batch) → HoldsUpTo k p n → HoldsUpTo k p (deliver_batch m n batch)
unfolding deliver_batch
holds-deliver_batch k p m n None stands held = held
holds-deliver_batch {S = S} k p m n (Some batch) stands held =
    let r : Replica S = delivered m n.replica batch in
    let x : Node S = enters n (record n { replica = r; waiting = None; pool = settled r.table n.pool; impatient = false }) in
    let y : Node S = replying x (lines_to_answer m n batch) in
    holds-telling k p y (stays_in_view n y) targets.Clients stands (holds-replying k p x (lines_to_answer m n batch) held)

holds-delivers : {S : Type 0} (k p : ℕ) (m : Meaning S) (n : Node S) → Stands k p (delivers m n) → HoldsUpTo k p n → HoldsUpTo k p (delivers m n)
unfolding delivers
holds-delivers k p m n stands held = holds-deliver_batch k p m n n.waiting stands held

holds-mark : {S : Type 0} (k p : ℕ) (m : Meaning S) (n : Node S) → Stands k p n → HoldsUpTo k p n → HoldsUpTo k p (mark_place m n)
unfolding mark_place
holds-mark k p m n stands held = each_end (λ (h : Held). NamesUpTo k p h.message) n.held _ held stands.1

-- ---- what comes

holds-noted : {S : Type 0} (k p : ℕ) (n : Node S) (x : Message) → HoldsUpTo k p n → HoldsUpTo k p (noted n x)
unfolding noted
holds-noted k p n x held = held

holds-kept : {S : Type 0} (k p : ℕ) (n : Node S) (x : Message) → HoldsUpTo k p n → HoldsUpTo k p (kept n x)
unfolding kept
holds-kept k p n (Ask q) held = either (HoldsUpTo k p) (is_next n.replica.table q.statement) (record n { pool = offered n.pool q }) n held held
holds-kept k p n _ held = held

holds-takes_in : {S : Type 0} (k p : ℕ) (n : Node S) (event : NodeEvent) → HoldsUpTo k p n → HoldsUpTo k p (takes_in n event).node
holds-takes_in {S = S} k p n event held =
    takes_in_as (λ (x : Node S). HoldsUpTo k p x) (λ message. Unit {0}) n event (λ message. holds-noted k p n message held)
    (λ message none may. holds-kept k p (noted n message) message (holds-noted k p n message held)) (λ count. held) (free-event event) held

-- ---- a step

-- a node that stands no further names nothing further
abbrev NamesIfStands : {S : Type 0} → ℕ → ℕ → Node S → Type 0
NamesIfStands k p n = Stands k p n → HoldsUpTo k p n

-- each rule leaves where the node stands
holds-rules : {S : Type 0} (k p : ℕ) → KeptByRules {S = S} (λ n. NamesIfStands k p n)
holds-rules k p = record {
  by_adopts = λ n held stands. holds-adopts k p n (held (stands-as k p n (adopts n) (leaves-adopts n).replica_is stands));
  by_joins = λ n held stands. let before = stands-as k p n (joins n) (leaves-joins n).replica_is stands in holds-joins k p n before (held before);
  by_promises = λ n held stands. let before = stands-as k p n (promises n) (leaves-promises n).replica_is stands in holds-promises k p n before (held before);
  by_leads = λ n held stands. let before = stands-as k p n (leads n) (leaves-leads n).replica_is stands in holds-leads k p n before (held before);
  by_proposes = λ n held stands. let before = stands-as k p n (proposes n) (leaves-proposes n).replica_is stands in holds-proposes k p n before (held before);
  by_writes = λ n held stands. let before = stands-as k p n (writes n) (leaves-writes n).replica_is stands in holds-writes k p n before (held before);
  by_accepts = λ n held stands. let before = stands-as k p n (accepts n) (leaves-accepts n).replica_is stands in holds-accepts k p n before (held before);
  by_decides = λ n held stands. holds-decides k p n (held (stands-as k p n (decides n) (replica-decides n) stands));
  by_times = λ n held stands. let before = stands-as k p n (times n) (leaves-times n).replica_is stands in holds-times k p n before (held before);
  by_answers = λ n asked held stands. let before = stands-as k p n (answers_again n asked) (leaves-answers_again n asked).replica_is stands in holds-answers_again k p n asked before (held before);
  by_states = λ n a held stands. holds-answers_state k p n a (held (stands-as k p n (answers_state n a) (leaves-answers_state n a).replica_is stands));
  by_plans = λ n held stands. let before = stands-as k p n (plans n) (leaves-plans n).replica_is stands in holds-plans k p n before (held before);
}

-- What a node holds behind a step names nothing further than where the node stands then, if what it held before does not.
pub names-step : {S : Type 0} (k p : ℕ) (m : Meaning S) (n : Node S) (event : NodeEvent) → Stands k p (step_of m n event).node → HoldsUpTo k p n → HoldsUpTo k p (step_of m n event).node
names-step {S = S} k p m n event stands held =
    let taken : HoldsUpTo k p (takes_in n event).node = holds-takes_in k p n event held in
    let t : Node S = installs m (takes_in n event).node in
    let installed : NamesIfStands k p t = λ there. holds-installs k p m (takes_in n event).node there taken in
    let sent : NamesIfStands k p (delivers m t) = λ there. holds-delivers k p m t there (installed (stands-delivers k p m t there)) in
    keeps_from m (λ (x : Node S). NamesIfStands k p x) n event (holds-rules k p) (λ there. taken) installed
    (by_mark m (λ (x : Node S). NamesIfStands k p x) (is_some t.waiting) (delivers m t) sent
    (λ due there.
    let before = stands-as k p (delivers m t) (mark_place m (delivers m t)) (leaves-mark m (delivers m t)).replica_is there in
    holds-mark k p m (delivers m t) before (sent before))) stands

-- what names no further than a place names no further than a later one
pub names-more : (k p number place : ℕ) → k ≤ number → p ≤ place → (x : Message) → NamesUpTo k p x → NamesUpTo number place x
names-more k p number place later past (Propose q) is = omega (arith, later, is)
names-more k p number place later past (Vote b) is = omega (arith, later, is)
names-more k p number place later past (changes.Stop s) is = omega (arith, later, is)
names-more k p number place later past (changes.StopData r) is = omega (arith, later, is)
names-more k p number place later past (changes.Sync s) is = omega (arith, later, is)
names-more k p number place later past (changes.Mark m) is = omega (arith, past, is)
names-more k p number place later past (changes.StateAsk a) is = omega (arith, past, is)
names-more k p number place later past (changes.ViewTold i) is = omega (arith, later, is)
names-more k p number place later past (Ask q) is = tt
names-more k p number place later past (Reply a) is = tt
names-more k p number place later past (changes.Decision d) is = tt
names-more k p number place later past (changes.StateOffer o) is = tt
names-more k p number place later past (changes.StatePart q) is = tt
