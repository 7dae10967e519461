-- Each view that a node holds for clients is one of those that it knows.
use Rattle.std.proofs.Common.{◌≡◌, ℕ, ◌+◌, ◌==◌, nat_le, Bool, true, false, cond, List, [], ◌∷◌, length, Option, Some, None, is_some, Result, Ok, Err, subst, sym}
use Rattle.std.specs.Prelude.{map, option_map}
use Rattle.std.specs.List.{filter_map}
use Rattle.smart_base.specs.Lists.{Each}
use Rattle.smart_base.specs.Views.{View, present}
use Rattle.smart_statements.specs.Forms.{SignedBy}
use Rattle.smart_statements.specs.Batches.{Batch}
use Rattle.smart_statements.specs.declared.statement.Request.{Request}
use Rattle.smart_statements.specs.declared.report.Report.{Report}
use Rattle.smart_statements.specs.declared.entry.NodeEvent.{NodeEvent}
use Rattle.smart_messages.specs.declared.regency.Sync.{Sync}
use Rattle.smart_messages.specs.declared.message.Proposed.{Proposed}
use Rattle.smart_messages.specs.declared.message.Message.{Message}
use Rattle.smart_messages.specs.declared.message.Message.TheVariants.{Ask}
use Rattle.smart_messages.specs.declared.message.Message.TheVariants as changes
use Rattle.transfer_form.specs.declared.transfer.StateAsk.{StateAsk}
use Rattle.transfer_form.specs.declared.transfer.StatePart.{StatePart}
use Rattle.state_transfer.specs.Fetches.{finished}
use Rattle.state_transfer.specs.Seeds.{seeds}
use Rattle.state_transfer.specs.declared.choice.Plan.{Plan}
use Rattle.state_transfer.specs.declared.fetch.Fetch.{Fetch}
use Rattle.state_transfer.specs.declared.fetch.Spoiled.{Spoiled}
use Rattle.smart_service.specs.Services.{Meaning}
use Rattle.smart_service.specs.declared.replica.Replica.{Replica}
use Rattle.smart_service.specs.declared.table.Execution.{Execution}
use Rattle.vote_book.specs.Books.{Among}
use Rattle.vote_book.specs.declared.entry.Decision.{Decision}
use Rattle.replica_rules.specs.Pools.{offered, settled}
use Rattle.replica_rules.specs.Replicas.{is_next, delivered}
use Rattle.node_rules.specs.Arrivals.{noted, kept}
use Rattle.node_rules.specs.Changes.{adopts_by, adoption, adopts, asks_next, joining, joins, promising, promise_next, promises, leading, lead_with, leads, lags, asks_state, timing, passes_on, presses, times}
use Rattle.node_rules.specs.Marks.{firm_at, mark_place}
use Rattle.node_rules.specs.Nodes.{Node, view_of, enters, stays_in_view, telling, holding, holding_all}
use Rattle.node_rules.specs.Rules.{reply_of, replying, lines_to_answer, deliver_batch, delivers, proposing, propose_batch, proposes, writing, write_batch, writes, accepting, accept_batch, accepts, deciding, decide_batch, decides, replies_with, answering, answer_line, answers_again}
use Rattle.node_rules.specs.Steps.{step_of, takes_in}
use Rattle.node_rules.specs.Transfers.{installing, install_replica, is_of_group, spoil, install_by, install_fetch, installs, decided_at, shown_as, is_shown_place, places_after, shown_at, shown_after, offers_state, part_messages, gives_parts, answers_state, planning, follow_plan, plans, offer_for}
use Rattle.node_rules.specs.declared.node.Asked.{Asked}
use Rattle.node_rules.specs.declared.node.Held.{Held}
use Rattle.node_rules.specs.declared.node.OwnSnapshot.{OwnSnapshot}
use Rattle.node_rules.specs.declared.node.Target.{Target}
use Rattle.node_rules.specs.declared.node.Target.TheVariants as targets
use Rattle.node_rules.proofs.Rulewise.{KeptByRules, by_mark, free-event, keeps_from, takes_in_as}
use Rattle.agreement_laws.proofs.Lists.{either, each_end, some_equal}
use Rattle.node_laws.proofs.Lists.{each_filter_map_in}
use Rattle.node_laws.proofs.MovedViews.{GrownAt, grown-delivered, moved-there}
use Rattle.node_laws.proofs.Views.{present_among}
use Rattle.replica_laws.proofs.Entered.{each-telling}
use Rattle.replica_laws.proofs.Leaves.{leaves-adopts, leaves-joins, leaves-promises, leaves-leads, leaves-proposes, leaves-writes, leaves-accepts, leaves-times, leaves-answers_again, leaves-answers_state, leaves-plans, leaves-mark}
use Rattle.replica_laws.proofs.Replying.{replica-decides, replica-replying}
use Rattle.replica_laws.specs.Lines.{ViewAmong, HoldsViews}

-- one message more that tells no view, or one of these
holds-one : {S : Type 0} (views : List View) (n : Node S) (to : Target) (message : Message) → ViewAmong views message → HoldsViews views n → HoldsViews views (holding n to message)
holds-one views n to message among held = each_end (λ (h : Held). ViewAmong views h.message) n.held (record { to = to; message = message; needs = length n.entries }) held among

-- a node that knows no other views
abbrev Knows : {S : Type 0} → List View → Node S → Type 0
Knows views n = (v : View) → Among v n.replica.views → Among v views

knows-as : {S : Type 0} (views : List View) (n n' : Node S) → n'.replica ≡ n.replica → Knows views n' → Knows views n
knows-as {S = S} views n n' same known v there = known v (subst (λ (r : Replica S). Among v r.views) (sym same) there)

-- the view in force is told, if it is one of these
holds-telling : {S : Type 0} (views : List View) (n : Node S) (known : Bool) (to : Target) → (known ≡ false → Among (view_of n) views) → HoldsViews views n → HoldsViews views (telling known to n)
holds-telling views n known to among held = each-telling (λ (h : Held). ViewAmong views h.message) n known to held among

-- ---- rules

holds-adopts_by : {S : Type 0} (views : List View) (n : Node S) (sync : Option (SignedBy Sync)) → HoldsViews views n → HoldsViews views (adopts_by n sync)
unfolding adopts_by
holds-adopts_by views n None held = held
holds-adopts_by views n (Some sync) held = held

holds-adopts : {S : Type 0} (views : List View) (n : Node S) → HoldsViews views n → HoldsViews views (adopts n)
unfolding adopts
holds-adopts views n held = holds-adopts_by views n (adoption n) held

holds-asks_next : {S : Type 0} (views : List View) (n : Node S) → HoldsViews views n → HoldsViews views (asks_next n)
holds-asks_next views n held = each_end (λ (h : Held). ViewAmong views h.message) n.held _ held tt

holds-joins : {S : Type 0} (views : List View) (n : Node S) → HoldsViews views n → HoldsViews views (joins n)
unfolding joins
holds-joins views n held = either (HoldsViews views) (joining n) (asks_next n) n (holds-asks_next views n held) held

holds-promises : {S : Type 0} (views : List View) (n : Node S) → HoldsViews views n → HoldsViews views (promises n)
unfolding promises promise_next
holds-promises views n held =
    either (HoldsViews views) (promising n) (promise_next n) n (each_end (λ (h : Held). ViewAmong views h.message) n.held _ held tt) held

holds-lead_with : {S : Type 0} (views : List View) (n : Node S) (collect : Option (List (SignedBy Report))) → HoldsViews views n → HoldsViews views (lead_with n collect)
unfolding lead_with
holds-lead_with views n None held = held
holds-lead_with views n (Some collect) held = each_end (λ (h : Held). ViewAmong views h.message) n.held _ held tt

holds-leads : {S : Type 0} (views : List View) (n : Node S) → HoldsViews views n → HoldsViews views (leads n)
unfolding leads
holds-leads views n held = holds-lead_with views n (leading n) held

holds-passes_on : {S : Type 0} (views : List View) (n : Node S) (pool : List (SignedBy Request)) → HoldsViews views n → HoldsViews views (passes_on n pool)
holds-passes_on views n [] held = held
holds-passes_on views n (q ∷ qs) held = each_end (λ (h : Held). ViewAmong views h.message) n.held _ held tt

holds-asks_state : {S : Type 0} (views : List View) (n : Node S) → HoldsViews views n → HoldsViews views (asks_state n)
unfolding asks_state
holds-asks_state views n held = each_end (λ (h : Held). ViewAmong views h.message) n.held _ held tt

holds-times : {S : Type 0} (views : List View) (n : Node S) → HoldsViews views n → HoldsViews views (times n)
unfolding times presses
holds-times {S = S} views n held =
    either (HoldsViews views) (lags n) (asks_state n) _ (holds-asks_state views n held)
    (either (HoldsViews views) (timing n) _ n
    (either (HoldsViews views) n.impatient (asks_next n) (passes_on (record n { impatient = true }) n.pool) (holds-asks_next views n held)
    (holds-passes_on views (record n { impatient = true }) n.pool held)) held)

holds-propose_batch : {S : Type 0} (views : List View) (n : Node S) (batch : Option Batch) → HoldsViews views n → HoldsViews views (propose_batch n batch)
unfolding propose_batch
holds-propose_batch views n None held = held
holds-propose_batch views n (Some batch) held = each_end (λ (h : Held). ViewAmong views h.message) n.held _ held tt

holds-proposes : {S : Type 0} (views : List View) (n : Node S) → HoldsViews views n → HoldsViews views (proposes n)
unfolding proposes
holds-proposes views n held = holds-propose_batch views n (proposing n) held

holds-write_batch : {S : Type 0} (views : List View) (n : Node S) (p : Option Proposed) → HoldsViews views n → HoldsViews views (write_batch n p)
unfolding write_batch
holds-write_batch views n None held = held
holds-write_batch views n (Some p) held = each_end (λ (h : Held). ViewAmong views h.message) n.held _ held tt

holds-writes : {S : Type 0} (views : List View) (n : Node S) → HoldsViews views n → HoldsViews views (writes n)
unfolding writes
holds-writes views n held = holds-write_batch views n (writing n) held

holds-accept_batch : {S : Type 0} (views : List View) (n : Node S) (p : Option Proposed) → HoldsViews views n → HoldsViews views (accept_batch n p)
unfolding accept_batch
holds-accept_batch views n None held = held
holds-accept_batch views n (Some p) held = each_end (λ (h : Held). ViewAmong views h.message) n.held _ held tt

holds-accepts : {S : Type 0} (views : List View) (n : Node S) → HoldsViews views n → HoldsViews views (accepts n)
unfolding accepts
holds-accepts views n held = holds-accept_batch views n (accepting n) held

holds-decide_batch : {S : Type 0} (views : List View) (n : Node S) (d : Option Decision) → HoldsViews views n → HoldsViews views (decide_batch n d)
unfolding decide_batch
holds-decide_batch views n None held = held
holds-decide_batch views n (Some d) held = held

holds-decides : {S : Type 0} (views : List View) (n : Node S) → HoldsViews views n → HoldsViews views (decides n)
unfolding decides
holds-decides views n held = holds-decide_batch views n (deciding n) held

-- of more views than one the last is one of them
last-there : (views : List View) → nat_le (length views) 1 ≡ false → Among (present views) views
last-there [] more = absurd (cc)
last-there (v ∷ vs) more = present_among v vs

holds-answer_line : {S : Type 0} (views : List View) (n : Node S) (line : Option Execution) → Knows views n → HoldsViews views n → HoldsViews views (answer_line n line)
unfolding answer_line
holds-answer_line views n None known held = held
holds-answer_line views n (Some line) known held =
    holds-telling views (replies_with n line) (nat_le (length n.replica.views) 1) (targets.Client line.client) (λ more. known (view_of n) (last-there n.replica.views more))
    (holds-one views n (targets.Client line.client) (reply_of n.secret n.id line) tt held)

holds-answers_again : {S : Type 0} (views : List View) (n : Node S) (asked : Asked) → Knows views n → HoldsViews views n → HoldsViews views (answers_again n asked)
unfolding answers_again
holds-answers_again views n asked known held = holds-answer_line views n (answering n asked) known held

-- ---- what members exchange to take over a replica

holds-all : {S : Type 0} (views : List View) (n : Node S) (to : Target) (messages : List Message) → Each (ViewAmong views) messages → HoldsViews views n → HoldsViews views (holding_all n to messages)
holds-all views n to [] each held = held
holds-all views n to (x ∷ xs) each held = holds-all views (holding n to x) to xs each.1 (holds-one views n to x each.0 held)

shown-none : {S : Type 0} (views : List View) (n : Node S) (k : ℕ) (message : Message) → shown_at n k ≡ Some message → ViewAmong views message
shown-none {S = S} views n k message at = by (is_shown_place n k) at
  where
    decided : (o : Option Decision) → option_map (λ (d : Decision). changes.Decision (shown_as d)) o ≡ Some message → ViewAmong views message
    decided None said = absurd cc
    decided (Some d) said = subst (λ (x : Message). ViewAmong views x) (some_equal (changes.Decision (shown_as d)) message said) tt

    by : (t : Bool) → cond t (option_map (λ (d : Decision). changes.Decision (shown_as d)) (decided_at k n.entries)) None ≡ Some message → ViewAmong views message
    by true said = decided (decided_at k n.entries) said
    by false said = absurd cc

holds-offers_state : {S : Type 0} (views : List View) (n : Node S) (a : StateAsk) → HoldsViews views n → HoldsViews views (offers_state n a)
unfolding offers_state shown_after
holds-offers_state views n a held =
    holds-all views n (targets.Node a.member) (changes.StateOffer (offer_for n a.place) ∷ filter_map (shown_at n) (places_after a.place 8))
    (tt, each_filter_map_in (ViewAmong views) (shown_at n) (places_after a.place 8) (λ k message there at. shown-none views n k message at)) held

parts-none : (views : List View) (ps : List StatePart) → Each (ViewAmong views) (map (λ (p : StatePart). changes.StatePart p) ps)
parts-none views [] = tt
parts-none views (p ∷ ps) = (tt, parts-none views ps)

part_messages-none : (views : List View) (o : Option OwnSnapshot) → Each (ViewAmong views) (part_messages o)
part_messages-none views None = tt
part_messages-none views (Some s) = parts-none views (seeds s.place s.snapshot)

holds-gives_parts : {S : Type 0} (views : List View) (n : Node S) (a : StateAsk) → HoldsViews views n → HoldsViews views (gives_parts n a)
unfolding gives_parts
holds-gives_parts views n a held = holds-all views n (targets.Node a.member) (part_messages (firm_at n a.fetch)) (part_messages-none views (firm_at n a.fetch)) held

holds-answers_state : {S : Type 0} (views : List View) (n : Node S) (a : StateAsk) → HoldsViews views n → HoldsViews views (answers_state n a)
unfolding answers_state
holds-answers_state {S = S} views n a held =
    either (HoldsViews views) (a.fetch == 0) (offers_state n a) (gives_parts n a) (holds-offers_state views n a held) (holds-gives_parts views n a held)

holds-follow_plan : {S : Type 0} (views : List View) (n : Node S) (plan : Option Plan) → HoldsViews views n → HoldsViews views (follow_plan n plan)
unfolding follow_plan
holds-follow_plan views n None held = held
holds-follow_plan views n (Some p) held = each_end (λ (h : Held). ViewAmong views h.message) n.held _ held tt

holds-plans : {S : Type 0} (views : List View) (n : Node S) → HoldsViews views n → HoldsViews views (plans n)
unfolding plans
holds-plans views n held = holds-follow_plan views n (planning n) held

holds-install_replica : {S : Type 0} (views : List View) (n : Node S) (f : Fetch) (r : Replica S) → HoldsViews views n → HoldsViews views (install_replica n f r)
unfolding install_replica
holds-install_replica views n f r held = each_end (λ (h : Held). ViewAmong views h.message) n.held _ held tt

holds-spoil : {S : Type 0} (views : List View) (n : Node S) (f : Fetch) → HoldsViews views n → HoldsViews views (spoil n f)
unfolding spoil
holds-spoil views n f held = held

holds-install_by : {S : Type 0} (views : List View) (n : Node S) (f : Fetch) (made : Result (Replica S) Spoiled) → HoldsViews views n → HoldsViews views (install_by n f made)
holds-install_by {S = S} views n f (Ok r) held =
    either (HoldsViews views) (is_of_group n r) (install_replica n f r) (spoil n f) (holds-install_replica views n f r held) (holds-spoil views n f held)
holds-install_by views n f (Err why) held = holds-spoil views n f held

holds-install_fetch : {S : Type 0} (views : List View) (m : Meaning S) (n : Node S) (due : Option Fetch) → HoldsViews views n → HoldsViews views (install_fetch m n due)
unfolding install_fetch
holds-install_fetch views m n None held = held
holds-install_fetch views m n (Some f) held = holds-install_by views n f (finished m f) held

holds-installs : {S : Type 0} (views : List View) (m : Meaning S) (n : Node S) → HoldsViews views n → HoldsViews views (installs m n)
unfolding installs
holds-installs views m n held = holds-install_fetch views m n (installing n) held

-- ---- deliveries

holds-replying : {S : Type 0} (views : List View) (n : Node S) (lines : List Execution) → HoldsViews views n → HoldsViews views (replying n lines)
holds-replying views n [] held = held
holds-replying views n (l ∷ ls) held =
    holds-replying views (holding n (targets.Client l.client) (reply_of n.secret n.id l)) ls (holds-one views n (targets.Client l.client) (reply_of n.secret n.id l) tt held)

-- the view that a batch began is one that the node knows behind it
begun-there : {S : Type 0} (m : Meaning S) (n a : Node S) (batch : Batch) → a.replica ≡ delivered m n.replica batch → stays_in_view n a ≡ false → Among (view_of a) a.replica.views
begun-there {S = S} m n a batch at moved =
    moved-there (n.replica.place + 1) n.replica.views a.replica.views
    (subst (λ (r : Replica S). GrownAt (n.replica.place + 1) n.replica.views r.views) (sym at) (grown-delivered m n.replica batch)) moved

holds-deliver_batch : {S : Type 0} (views : List View) (m : Meaning S) (n : Node S) (batch : Option Batch) → Knows views (deliver_batch m n batch) → HoldsViews views n
    → HoldsViews views (deliver_batch m n batch)
unfolding deliver_batch
holds-deliver_batch views m n None known held = held
holds-deliver_batch {S = S} views m n (Some batch) known held =
    let r : Replica S = delivered m n.replica batch in
    let x : Node S = enters n (record n { replica = r; waiting = None; pool = settled r.table n.pool; impatient = false }) in
    let y : Node S = replying x (lines_to_answer m n batch) in
    holds-telling views y (stays_in_view n y) targets.Clients (λ moved. known (view_of y) (begun-there m n y batch (replica-replying x (lines_to_answer m n batch)) moved))
    (holds-replying views x (lines_to_answer m n batch) held)

holds-delivers : {S : Type 0} (views : List View) (m : Meaning S) (n : Node S) → Knows views (delivers m n) → HoldsViews views n → HoldsViews views (delivers m n)
unfolding delivers
holds-delivers views m n known held = holds-deliver_batch views m n n.waiting known held

holds-mark : {S : Type 0} (views : List View) (m : Meaning S) (n : Node S) → HoldsViews views n → HoldsViews views (mark_place m n)
unfolding mark_place
holds-mark views m n held = each_end (λ (h : Held). ViewAmong views h.message) n.held _ held tt

-- ---- what comes

holds-noted : {S : Type 0} (views : List View) (n : Node S) (x : Message) → HoldsViews views n → HoldsViews views (noted n x)
unfolding noted
holds-noted views n x held = held

holds-kept : {S : Type 0} (views : List View) (n : Node S) (x : Message) → HoldsViews views n → HoldsViews views (kept n x)
unfolding kept
holds-kept views n (Ask q) held = either (HoldsViews views) (is_next n.replica.table q.statement) (record n { pool = offered n.pool q }) n held held
holds-kept views n _ held = held

holds-takes_in : {S : Type 0} (views : List View) (n : Node S) (event : NodeEvent) → HoldsViews views n → HoldsViews views (takes_in n event).node
holds-takes_in {S = S} views n event held =
    takes_in_as (λ (x : Node S). HoldsViews views x) (λ message. Unit {0}) n event (λ message. holds-noted views n message held)
    (λ message none may. holds-kept views (noted n message) message (holds-noted views n message held)) (λ count. held) (free-event event) held

-- ---- a step

-- a node that holds no others if it knows no others
abbrev TellsKnown : {S : Type 0} → List View → Node S → Type 0
TellsKnown views n = Knows views n → HoldsViews views n

-- each rule leaves what the node knows
holds-rules : {S : Type 0} (views : List View) → KeptByRules {S = S} (λ n. TellsKnown views n)
holds-rules views = record {
  by_adopts = λ n held known. holds-adopts views n (held (knows-as views n (adopts n) (leaves-adopts n).replica_is known));
  by_joins = λ n held known. holds-joins views n (held (knows-as views n (joins n) (leaves-joins n).replica_is known));
  by_promises = λ n held known. holds-promises views n (held (knows-as views n (promises n) (leaves-promises n).replica_is known));
  by_leads = λ n held known. holds-leads views n (held (knows-as views n (leads n) (leaves-leads n).replica_is known));
  by_proposes = λ n held known. holds-proposes views n (held (knows-as views n (proposes n) (leaves-proposes n).replica_is known));
  by_writes = λ n held known. holds-writes views n (held (knows-as views n (writes n) (leaves-writes n).replica_is known));
  by_accepts = λ n held known. holds-accepts views n (held (knows-as views n (accepts n) (leaves-accepts n).replica_is known));
  by_decides = λ n held known. holds-decides views n (held (knows-as views n (decides n) (replica-decides n) known));
  by_times = λ n held known. holds-times views n (held (knows-as views n (times n) (leaves-times n).replica_is known));
  by_answers = λ n asked held known.
      let before = knows-as views n (answers_again n asked) (leaves-answers_again n asked).replica_is known in
      holds-answers_again views n asked before (held before);
  by_states = λ n a held known. holds-answers_state views n a (held (knows-as views n (answers_state n a) (leaves-answers_state n a).replica_is known));
  by_plans = λ n held known. holds-plans views n (held (knows-as views n (plans n) (leaves-plans n).replica_is known));
}

-- A node that holds no views for clients but some holds no others behind a step, if those that it knows then are among them.
pub views-step : {S : Type 0} (views : List View) (m : Meaning S) (n : Node S) (event : NodeEvent) → ((v : View) → Among v (step_of m n event).node.replica.views → Among v views)
    → HoldsViews views n → HoldsViews views (step_of m n event).node
views-step {S = S} views m n event known held =
    let taken : HoldsViews views (takes_in n event).node = holds-takes_in views n event held in
    let t : Node S = installs m (takes_in n event).node in
    let installed : HoldsViews views t = holds-installs views m (takes_in n event).node taken in
    let delivered : TellsKnown views (delivers m t) = λ knows. holds-delivers views m t knows installed in
    keeps_from m (λ (x : Node S). TellsKnown views x) n event (holds-rules views) (λ knows. taken) (λ knows. installed)
    (by_mark m (λ (x : Node S). TellsKnown views x) (is_some t.waiting) (delivers m t) delivered
    (λ due knows. holds-mark views m (delivers m t) (delivered (knows-as views (delivers m t) (mark_place m (delivers m t)) (leaves-mark m (delivers m t)).replica_is knows)))) known
