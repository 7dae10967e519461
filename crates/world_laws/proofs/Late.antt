-- The reports that a node holds in its own name are of later regencies than the entries that it restored promise, whatever comes to it.
use Rattle.std.proofs.Common.{◌≡◌, ℕ, zero, suc, ◌+◌, ◌<◌, ◌≤◌, ◌++◌, Bool, true, false, cond, List, [], ◌∷◌, length, take, sym, subst, arith, Option, Some, None, Result, Ok, Err, refl, length-append, nat_le}
use Rattle.std.proofs.lemmas.List.{take-append-le}
use Rattle.std.specs.Prelude.{if◌then◌else◌, map, filter_map, ◌==◌, option_map}
use Rattle.std.specs.List.{cons_option}
use Rattle.smart_statements.specs.declared.report.Mark.{Mark}
use Rattle.smart_service.specs.declared.replica.Replica.{Replica}
use Rattle.smart_base.specs.Lists.{Each}
use Rattle.smart_base.specs.Views.{leader}
use Rattle.smart_statements.specs.Forms.{SignedBy}
use Rattle.smart_statements.specs.Batches.{Batch}
use Rattle.smart_statements.specs.Kinds.{proposals}
use Rattle.smart_statements.specs.Reports.{marks}
use Rattle.smart_statements.specs.declared.report.Report.{Report}
use Rattle.smart_statements.specs.declared.statement.Request.{Request}
use Rattle.smart_statements.specs.declared.statement.VoteKind.TheVariants.{Accept, Write}
use Rattle.smart_statements.specs.declared.entry.NodeEvent.{NodeEvent}
use Rattle.smart_messages.specs.Regencies.{stops, syncs}
use Rattle.smart_messages.specs.declared.regency.Sync.{Sync}
use Rattle.smart_messages.specs.declared.message.Message.TheVariants.{Ask, Propose, Reply}
use Rattle.smart_messages.specs.declared.message.Message.TheVariants as changes
use Rattle.smart_messages.specs.declared.message.Proposed.{Proposed}
use Rattle.smart_messages.specs.declared.message.Message.{Message}
use Rattle.smart_service.specs.Services.{Meaning}
use Rattle.smart_service.specs.declared.table.Execution.{Execution}
use Rattle.vote_book.specs.declared.entry.Decision.{Decision}
use Rattle.vote_book.specs.declared.entry.LogEntry.{LogEntry}
use Rattle.vote_book.specs.declared.entry.LogEntry.TheVariants as entries
use Rattle.replica_rules.specs.Pools.{offered, settled}
use Rattle.replica_rules.specs.Replicas.{delivered, is_next}
use Rattle.replica_rules.specs.Seals.{digest_of, signed}
use Rattle.replica_laws.proofs.Entered.{each-telling}
use Rattle.agreement_laws.specs.Statements.{own}
use Rattle.node_rules.specs.Transfers.{answers_state, decided_at, follow_plan, gives_parts, install_by, install_fetch, install_replica, installed_by, installing, installs, is_of_group, is_shown_place, keeps_over, offer_for, offered_marks, offers_state, part_messages, places_after, planning, plans, shown_after, shown_as, shown_at, spoil}
use Rattle.state_transfer.specs.Fetches.{finished}
use Rattle.state_transfer.specs.Seeds.{seeds}
use Rattle.state_transfer.specs.declared.choice.Plan.{Plan}
use Rattle.state_transfer.specs.declared.fetch.Fetch.{Fetch}
use Rattle.state_transfer.specs.declared.fetch.Spoiled.{Spoiled}
use Rattle.transfer_form.specs.declared.transfer.StateAsk.{StateAsk}
use Rattle.transfer_form.specs.declared.transfer.StatePart.{StatePart}
use Rattle.node_rules.specs.declared.node.OwnSnapshot.{OwnSnapshot}
use Rattle.agreement_laws.specs.Statements as says
use Rattle.agreement_laws.proofs.Lists.{either, each_end}
use Rattle.node_rules.specs.Nodes.{Node, view_of, regency_of, greatest_regency, open_slot, holding, holding_all, recording, enters, stays_in_view, telling}
use Rattle.node_rules.specs.Arrivals.{kept, noted}
use Rattle.node_rules.specs.Marks.{firm_at, mark_of, mark_place}
use Rattle.node_rules.specs.Rules.{reply_of, lines_to_answer, replying, deliver_batch, delivers, proposing, propose_batch, proposes, ballot, writing, write_batch, writes, accepting, accept_batch, accepts, deciding, decide_batch, decides, replies_with, answering, answer_line, answers_again}
use Rattle.node_rules.specs.Votes.{certificate_votes}
use Rattle.node_rules.specs.Changes.{report_of, reported_by, start_by_sync, promised_for, adopts_by, adoption, adopts, wish_of, asks_next, joining, joins, next_promise, promising, promise_next, promises, leading, lead_with, leads, timing, passes_on, presses, times, asks_state, lags, state_ask}
use Rattle.node_rules.specs.Steps.{step_of, released}
use Rattle.node_rules.specs.declared.node.Asked.{Asked}
use Rattle.node_rules.specs.declared.node.Held.{Held}
use Rattle.node_rules.specs.declared.node.Target.{Target}
use Rattle.node_rules.specs.declared.node.Target.TheVariants as targets
use Rattle.node_rules.proofs.Rulewise.{KeptByRules, free-event, keeps_step}
use Rattle.node_laws.specs.Sound.{IsPast}
use Rattle.node_laws.proofs.Passes.{each_staying}

-- what a message's sender states with it is past given entries
abbrev pub AllPast : List LogEntry → Message → Type 0
AllPast entries message = Each (λ x. IsPast entries x) (own message)

-- A node that holds no report in its own name, or only such that tell a later regency of a view than the restored entries promise.
pub record HeldLate {S : Type 0} (n : Node S) : Type 0 where
  pub few : n.restored ≤ length n.entries
  pub late : Each (λ h. AllPast (take n.restored n.entries) h.message) n.held

-- more entries are recorded
late-more : {S : Type 0} (n : Node S) (more : List LogEntry) → HeldLate n → HeldLate (record n { entries = n.entries ++ more })
late-more n more is =
    let few = is.few in
    let long = length-append n.entries more in
    record {
      few = omega (arith, few, long);
      late = subst (λ (es : List LogEntry). Each (λ (h : Held). AllPast es h.message) n.held) (sym (take-append-le n.restored n.entries more is.few)) is.late;
    }

-- one more message is held
late-holding : {S : Type 0} (n : Node S) (to : Target) (message : Message) → AllPast (take n.restored n.entries) message → HeldLate n → HeldLate (holding n to message)
late-holding n to message past is = record {
  few = is.few;
  late = each_end (λ (h : Held). AllPast (take n.restored n.entries) h.message) n.held (record { to = to; message = message; needs = length n.entries }) is.late past;
}

-- ---- rules

late-promised_for : {S : Type 0} (n : Node S) (sync : Sync) → HeldLate n → HeldLate (record n { entries = n.entries ++ promised_for n sync })
late-promised_for {S = S} n sync is = late-more n (promised_for n sync) is

late-adopts_by : {S : Type 0} (n : Node S) (sync : Option (SignedBy Sync)) → HeldLate n → HeldLate (adopts_by n sync)
unfolding adopts_by
late-adopts_by n None is = is
late-adopts_by {S = S} n (Some sync) is =
    let x : Node S = record n { entries = n.entries ++ promised_for n sync.statement } in
    let f : HeldLate x = late-promised_for n sync.statement is in
    let g = late-more x (entries.Synced (start_by_sync sync.statement) ∷ []) f in
    record { few = g.few; late = g.late }

late-adopts : {S : Type 0} (n : Node S) → HeldLate n → HeldLate (adopts n)
unfolding adopts
late-adopts n is = late-adopts_by n (adoption n) is

late-asks_next : {S : Type 0} (n : Node S) → HeldLate n → HeldLate (asks_next n)
late-asks_next n is =
    late-holding (record n { stop_made = true }) targets.View (changes.Stop (signed stops n.secret n.id (wish_of n))) (tt, tt) (record { few = is.few; late = is.late })

late-joins : {S : Type 0} (n : Node S) → HeldLate n → HeldLate (joins n)
unfolding joins
late-joins {S = S} n is = either (λ (x : Node S). HeldLate x) (joining n) (asks_next n) n (late-asks_next n is) is

-- the promised regency is past all that the book has promised
taken_regency : (view k : ℕ) (es : List LogEntry) → greatest_regency view (take k es) ≤ greatest_regency view es
taken_regency view zero [] = omega arith
taken_regency view zero (x ∷ xs) = omega arith
taken_regency view (suc k) [] = omega arith
taken_regency view (suc k) (x ∷ xs) = let rest = taken_regency view k xs in omega (arith, rest)

next_past : {S : Type 0} (n : Node S) → greatest_regency (view_of n).number (take n.restored n.entries) < regency_of n + 1
unfolding regency_of
next_past n = let least = taken_regency (view_of n).number n.restored n.entries in omega (arith, least)

late-promise_next : {S : Type 0} (n : Node S) → HeldLate n → HeldLate (promise_next n)
unfolding promise_next reported_by report_of
late-promise_next {S = S} n is =
    let e : LogEntry = entries.Promised (next_promise n) in
    let x : Node S = record (recording n e) { stop_made = false; sync_made = false; impatient = true } in
    let r = late-more n (e ∷ []) is in
    let past : greatest_regency (view_of n).number (take n.restored (n.entries ++ e ∷ [])) < regency_of n + 1 =
    subst (λ (es : List LogEntry). greatest_regency (view_of n).number es < regency_of n + 1) (sym (take-append-le n.restored n.entries (e ∷ []) is.few)) (next_past n) in
    let f = late-holding x (targets.Node (leader (view_of n) (regency_of n + 1))) (changes.StopData (reported_by n (regency_of n + 1))) (past, tt) (record { few = r.few; late = r.late }) in
    record { few = f.few; late = f.late }

late-promises : {S : Type 0} (n : Node S) → HeldLate n → HeldLate (promises n)
unfolding promises
late-promises {S = S} n is = either (λ (x : Node S). HeldLate x) (promising n) (promise_next n) n (late-promise_next n is) is

late-lead_with : {S : Type 0} (n : Node S) (collect : Option (List (SignedBy Report))) → HeldLate n → HeldLate (lead_with n collect)
unfolding lead_with
late-lead_with n None is = is
late-lead_with n (Some collect) is =
    late-holding (record n { sync_made = true }) targets.View
    (changes.Sync (signed syncs n.secret n.id (record { view = (view_of n).number; regency = regency_of n; collect = collect }))) (tt, tt) (record { few = is.few; late = is.late })

late-leads : {S : Type 0} (n : Node S) → HeldLate n → HeldLate (leads n)
unfolding leads
late-leads n is = late-lead_with n (leading n) is

late-propose_batch : {S : Type 0} (n : Node S) (batch : Option Batch) → HeldLate n → HeldLate (propose_batch n batch)
unfolding propose_batch
late-propose_batch n None is = is
late-propose_batch n (Some batch) is =
    late-holding (record n { proposed = n.proposed ++ open_slot n ∷ [] }) targets.View
    (Propose (record { head = signed proposals n.secret n.id (record { slot = open_slot n; digest = digest_of batch }); batch = batch })) (tt, tt) (record { few = is.few; late = is.late })

late-proposes : {S : Type 0} (n : Node S) → HeldLate n → HeldLate (proposes n)
unfolding proposes
late-proposes n is = late-propose_batch n (proposing n) is

late-write_batch : {S : Type 0} (n : Node S) (p : Option Proposed) → HeldLate n → HeldLate (write_batch n p)
unfolding write_batch
late-write_batch n None is = is
late-write_batch n (Some p) is =
    let entry : LogEntry = entries.Wrote (record { slot = open_slot n; digest = p.head.statement.digest }) in
    let f = late-holding (recording n entry) targets.View (ballot n Write p.head.statement.digest) (tt, tt) (late-more n (entry ∷ []) is) in
    record { few = f.few; late = f.late }

late-writes : {S : Type 0} (n : Node S) → HeldLate n → HeldLate (writes n)
unfolding writes
late-writes n is = late-write_batch n (writing n) is

late-accept_batch : {S : Type 0} (n : Node S) (p : Option Proposed) → HeldLate n → HeldLate (accept_batch n p)
unfolding accept_batch
late-accept_batch n None is = is
late-accept_batch n (Some p) is =
    let entry : LogEntry = entries.Accepted (record {
      slot = open_slot n;
      digest = p.head.statement.digest;
      writes = certificate_votes n.arrivals (view_of n) Write (open_slot n) p.head.statement.digest;
      batch = p.batch;
    }) in
    let f = late-holding (recording n entry) targets.View (ballot n Accept p.head.statement.digest) (tt, tt) (late-more n (entry ∷ []) is) in
    record { few = f.few; late = f.late }

late-accepts : {S : Type 0} (n : Node S) → HeldLate n → HeldLate (accepts n)
unfolding accepts
late-accepts n is = late-accept_batch n (accepting n) is

late-decide_batch : {S : Type 0} (n : Node S) (d : Option Decision) → HeldLate n → HeldLate (decide_batch n d)
unfolding decide_batch
late-decide_batch n None is = is
late-decide_batch n (Some d) is = let r = late-more n (entries.Decided d ∷ []) is in record { few = r.few; late = r.late }

late-decides : {S : Type 0} (n : Node S) → HeldLate n → HeldLate (decides n)
unfolding decides
late-decides n is = late-decide_batch n (deciding n) is

late-passes_on : {S : Type 0} (n : Node S) (pool : List (SignedBy Request)) → HeldLate n → HeldLate (passes_on n pool)
late-passes_on n [] is = is
late-passes_on n (q ∷ qs) is = late-holding n (targets.Node (leader (view_of n) (regency_of n))) (Ask q) (tt, tt) is

late-asks_state : {S : Type 0} (n : Node S) → HeldLate n → HeldLate (asks_state n)
unfolding asks_state
late-asks_state {S = S} n is =
    late-holding (record n { offers = []; fetch = None; behind = false }) targets.View (state_ask n 0) tt (record { few = is.few; late = is.late })

late-times : {S : Type 0} (n : Node S) → HeldLate n → HeldLate (times n)
unfolding times presses
late-times {S = S} n is =
    either (λ (x : Node S). HeldLate x) (lags n) (asks_state n) _ (late-asks_state n is)
    (either (λ (x : Node S). HeldLate x) (timing n) _ n
    (either (λ (x : Node S). HeldLate x) n.impatient (asks_next n) (passes_on (record n { impatient = true }) n.pool) (late-asks_next n is)
    (late-passes_on (record n { impatient = true }) n.pool (record { few = is.few; late = is.late }))) is)

-- a view that is told is no report
late-telling : {S : Type 0} (n : Node S) (known : Bool) (to : Target) → HeldLate n → HeldLate (telling known to n)
late-telling n known to is =
    record { few = is.few; late = each-telling (λ (h : Held). AllPast (take n.restored n.entries) h.message) n known to is.late (λ new. (tt, tt)) }

late-answer_line : {S : Type 0} (n : Node S) (line : Option Execution) → HeldLate n → HeldLate (answer_line n line)
unfolding answer_line
late-answer_line n None is = is
late-answer_line n (Some line) is =
    late-telling (replies_with n line) (nat_le (length n.replica.views) 1) (targets.Client line.client) (late-holding n (targets.Client line.client) (reply_of n.secret n.id line) (tt, tt) is)

late-answers_again : {S : Type 0} (n : Node S) (asked : Asked) → HeldLate n → HeldLate (answers_again n asked)
unfolding answers_again
late-answers_again n asked is = late-answer_line n (answering n asked) is

late-replying : {S : Type 0} (n : Node S) (lines : List Execution) → HeldLate n → HeldLate (replying n lines)
late-replying n [] is = is
late-replying n (l ∷ ls) is =
    late-replying (holding n (targets.Client l.client) (reply_of n.secret n.id l)) ls (late-holding n (targets.Client l.client) (reply_of n.secret n.id l) (tt, tt) is)

late-deliver_batch : {S : Type 0} (m : Meaning S) (n : Node S) (batch : Option Batch) → HeldLate n → HeldLate (deliver_batch m n batch)
unfolding deliver_batch
late-deliver_batch m n None is = is
late-deliver_batch {S = S} m n (Some batch) is =
    let x : Node S = enters n (record n { replica = delivered m n.replica batch; waiting = None; pool = settled (delivered m n.replica batch).table n.pool; impatient = false }) in
    let y : Node S = replying x (lines_to_answer m n batch) in
    late-telling y (stays_in_view n y) targets.Clients (late-replying x (lines_to_answer m n batch) (record { few = is.few; late = is.late }))

late-delivers : {S : Type 0} (m : Meaning S) (n : Node S) → HeldLate n → HeldLate (delivers m n)
unfolding delivers
late-delivers m n is = late-deliver_batch m n n.waiting is

late-mark : {S : Type 0} (m : Meaning S) (n : Node S) → HeldLate n → HeldLate (mark_place m n)
unfolding mark_place
late-mark m n is =
    let entry : LogEntry = entries.Marked (mark_of m n) in
    let f = late-holding (recording n entry) targets.View (changes.Mark (signed marks n.secret n.id (mark_of m n))) (tt, tt) (late-more n (entry ∷ []) is) in
    record { few = f.few; late = f.late }

-- marks are no reports
past_marks : (entries : List LogEntry) (ms : List (SignedBy Mark)) → Each (λ x. IsPast entries x) (map says.Marked ms)
past_marks entries [] = tt
past_marks entries (x ∷ xs) = (tt, past_marks entries xs)

-- messages that state nothing of a regency
late-holding_all : {S : Type 0} (messages : List Message) (n : Node S) (to : Target) → Each (λ x. AllPast (take n.restored n.entries) x) messages → HeldLate n
    → HeldLate (holding_all n to messages)
late-holding_all [] n to past is = is
late-holding_all (x ∷ xs) n to past is = late-holding_all xs (holding n to x) to past.1 (late-holding n to x past.0 is)

-- the decisions that are shown
past_of : {S : Type 0} (entries : List LogEntry) (n : Node S) (k : ℕ) (d : Option Decision) (rest : List Message) → Each (λ x. AllPast entries x) rest
    → Each (λ x. AllPast entries x) (cons_option (if is_shown_place n k then option_map (λ d. changes.Decision (shown_as d)) d else None) rest)
past_of entries n k None rest are = by (is_shown_place n k)
  where
    by : (b : Bool) → Each (λ x. AllPast entries x) (cons_option (cond b None None) rest)
    by true = are
    by false = are
past_of entries n k (Some d) rest are = by (is_shown_place n k)
  where
    by : (b : Bool) → Each (λ x. AllPast entries x) (cons_option (cond b (Some (changes.Decision (shown_as d))) None) rest)
    by true = (tt, are)
    by false = are

past_shown : {S : Type 0} (entries : List LogEntry) (n : Node S) (ks : List ℕ) → Each (λ x. AllPast entries x) (filter_map (shown_at n) ks)
past_shown entries n [] = tt
past_shown entries n (k ∷ ks) = past_of entries n k (decided_at k n.entries) (filter_map (shown_at n) ks) (past_shown entries n ks)

past_parts : (entries : List LogEntry) (ps : List StatePart) → Each (λ x. AllPast entries x) (map (λ (p : StatePart). changes.StatePart p) ps)
past_parts entries [] = tt
past_parts entries (p ∷ ps) = (tt, past_parts entries ps)

past_snapshot : (entries : List LogEntry) (o : Option OwnSnapshot) → Each (λ x. AllPast entries x) (part_messages o)
past_snapshot entries None = tt
past_snapshot entries (Some s) = past_parts entries (seeds s.place s.snapshot)

late-answers_state : {S : Type 0} (n : Node S) (a : StateAsk) → HeldLate n → HeldLate (answers_state n a)
unfolding answers_state offers_state gives_parts offer_for shown_after
late-answers_state {S = S} n a is =
    either (λ (x : Node S). HeldLate x) (a.fetch == 0) (offers_state n a) (gives_parts n a)
    (late-holding_all (changes.StateOffer (offer_for n a.place) ∷ shown_after n a.place) n (targets.Node a.member)
    (past_marks (take n.restored n.entries) (offered_marks n a.place), past_shown (take n.restored n.entries) n (places_after a.place 8)) is)
    (late-holding_all (part_messages (firm_at n a.fetch)) n (targets.Node a.member) (past_snapshot (take n.restored n.entries) (firm_at n a.fetch)) is)

late-follow_plan : {S : Type 0} (n : Node S) (plan : Option Plan) → HeldLate n → HeldLate (follow_plan n plan)
unfolding follow_plan
late-follow_plan n None is = is
late-follow_plan {S = S} n (Some p) is =
    let x : Node S = record n { fetch = Some (record { plan = p; parts = [] }) } in
    late-holding x (targets.Node p.seeder) (state_ask n p.place) tt (record { few = is.few; late = is.late })

late-plans : {S : Type 0} (n : Node S) → HeldLate n → HeldLate (plans n)
unfolding plans
late-plans n is = late-follow_plan n (planning n) is

late-install_by : {S : Type 0} (n : Node S) (f : Fetch) (made : Result (Replica S) Spoiled) → HeldLate n → HeldLate (install_by n f made)
unfolding install_replica spoil
late-install_by n f (Err why) is = record { few = is.few; late = is.late }
late-install_by {S = S} n f (Ok r) is = by (is_of_group n r) refl
  where
    by : (t : Bool) → is_of_group n r ≡ t → HeldLate (cond t (install_replica n f r) (spoil n f))
    by true of =
        let e : LogEntry = installed_by f.plan in
        let more = late-more n (e ∷ []) is in
        let x : Node S = keeps_over (enters n (record (recording n e) { replica = r; pool = settled r.table n.pool; fetch = None })) f in
        late-holding x targets.View (state_ask x 0) tt (record { few = more.few; late = more.late })
    by false of = record { few = is.few; late = is.late }

late-install_fetch : {S : Type 0} (m : Meaning S) (n : Node S) (due : Option Fetch) → HeldLate n → HeldLate (install_fetch m n due)
unfolding install_fetch
late-install_fetch m n None is = is
late-install_fetch m n (Some f) is = late-install_by n f (finished m f) is

late-installs : {S : Type 0} (m : Meaning S) (n : Node S) → HeldLate n → HeldLate (installs m n)
unfolding installs
late-installs m n is = late-install_fetch m n (installing n) is

late-noted : {S : Type 0} (n : Node S) (message : Message) → HeldLate n → HeldLate (noted n message)
unfolding noted
late-noted n message is = record { few = is.few; late = is.late }

late-kept : {S : Type 0} (n : Node S) (message : Message) → HeldLate n → HeldLate (kept n message)
unfolding kept
late-kept {S = S} n (Ask q) is =
    either (λ (x : Node S). HeldLate x) (is_next n.replica.table q.statement) (record n { pool = offered n.pool q }) n (record { few = is.few; late = is.late }) is
late-kept n (Reply a) is = is
late-kept n _ is = record { few = is.few; late = is.late }

late-rules : {S : Type 0} → KeptByRules {S = S} (λ n. HeldLate n)
late-rules = record {
  by_adopts = λ n is. late-adopts n is;
  by_joins = λ n is. late-joins n is;
  by_promises = λ n is. late-promises n is;
  by_leads = λ n is. late-leads n is;
  by_proposes = λ n is. late-proposes n is;
  by_writes = λ n is. late-writes n is;
  by_accepts = λ n is. late-accepts n is;
  by_decides = λ n is. late-decides n is;
  by_times = λ n is. late-times n is;
  by_answers = λ n asked is. late-answers_again n asked is;
  by_states = λ n a is. late-answers_state n a is;
  by_plans = λ n is. late-plans n is;
}

-- whatever comes, a step keeps that
pub late-step : {S : Type 0} (m : Meaning S) (n : Node S) (event : NodeEvent) → HeldLate n → HeldLate (step_of m n event).node
late-step {S = S} m n event is =
    keeps_step m (λ (x : Node S). HeldLate x) (λ message. Unit {0}) n event
    (record {
      by_rules = late-rules;
      by_noted = λ n message is. late-noted n message is;
      by_kept = λ n message fine may is. late-kept n message is;
      by_installs = λ n is. late-installs m n is;
      by_delivers = λ n is. late-delivers m n is;
      by_marks = λ n waits is delivered. late-mark m (delivers m n) delivered;
      by_firm = λ n count is. record { few = is.few; late = is.late };
    })
    (free-event event) is

-- a node that holds nothing
pub late-none : {S : Type 0} (n : Node S) → n.restored ≤ length n.entries → n.held ≡ [] → HeldLate n
late-none {S = S} n few none = record { few = few; late = subst (λ (hs : List Held). Each (λ (h : Held). AllPast (take n.restored n.entries) h.message) hs) (sym none) tt }

-- nor does it matter what leaves
pub late-released : {S : Type 0} (n : Node S) → HeldLate n → HeldLate (released n)
late-released n is = record { few = is.few; late = each_staying (λ (h : Held). AllPast (take n.restored n.entries) h.message) n.firm n.held is.late }
