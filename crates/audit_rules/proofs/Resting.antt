-- What a node holds waits for entries that its book has. So if all entries are firm and no message leaves, none is held.
use Rattle.std.proofs.Common.{◌≡◌, ◌≤◌, ◌++◌, ◌∙◌, ◌&&◌, ℕ, Bool, true, false, cond, List, [], ◌∷◌, length, Option, Some, None, Result, Ok, Err, refl, ap, sym, subst, arith, length-append}
use Rattle.std.proofs.lemmas.Bool.{leb-true, le-leb, ne_eqb}
use Rattle.std.specs.Prelude.{◌==◌, nat_le, is_none}
use Rattle.smart_base.specs.Lists.{Each}
use Rattle.smart_base.proofs.ViewFacts.{each-weaken}
use Rattle.smart_statements.specs.Forms.{SignedBy}
use Rattle.smart_statements.specs.Batches.{Batch}
use Rattle.smart_statements.specs.declared.report.Report.{Report}
use Rattle.smart_statements.specs.declared.statement.Request.{Request}
use Rattle.smart_statements.specs.declared.entry.NodeEvent.{NodeEvent}
use Rattle.smart_messages.specs.declared.message.Message.{Message}
use Rattle.smart_messages.specs.declared.message.Message.TheVariants.{Ask, Reply}
use Rattle.smart_messages.specs.declared.message.Message.TheVariants as changes
use Rattle.smart_messages.specs.declared.message.Proposed.{Proposed}
use Rattle.smart_messages.specs.declared.regency.Sync.{Sync}
use Rattle.smart_service.specs.Services.{Meaning}
use Rattle.smart_service.specs.declared.replica.Replica.{Replica}
use Rattle.smart_service.specs.declared.table.Execution.{Execution}
use Rattle.vote_book.specs.declared.entry.Decision.{Decision}
use Rattle.vote_book.specs.declared.entry.LogEntry.{LogEntry}
use Rattle.replica_rules.specs.Pools.{offered, settled}
use Rattle.replica_rules.specs.Replicas.{delivered, is_next}
use Rattle.transfer_form.specs.declared.transfer.StateAsk.{StateAsk}
use Rattle.state_transfer.specs.Fetches.{finished}
use Rattle.state_transfer.specs.declared.choice.Plan.{Plan}
use Rattle.state_transfer.specs.declared.fetch.Fetch.{Fetch}
use Rattle.state_transfer.specs.declared.fetch.Spoiled.{Spoiled}
use Rattle.node_rules.specs.Arrivals.{kept, noted}
use Rattle.node_rules.specs.Changes.{promised_for, adopts_by, adoption, adopts, asks_next, joining, joins, promising, promise_next, promises, leading, lead_with, leads, lags, asks_state, timing, passes_on, presses, times}
use Rattle.node_rules.specs.Kept.{trimmed}
use Rattle.node_rules.specs.Marks.{firm_at, mark_place}
use Rattle.node_rules.specs.Nodes.{Node, holding, holding_all, enters, stays_in_view, telling}
use Rattle.node_rules.specs.Reopening.{reopened, reopened_from, outset_from, entries_in}
use Rattle.node_rules.specs.Rules.{replies_with, replying, lines_to_answer, deliver_batch, delivers, proposing, propose_batch, proposes, writing, write_batch, writes, accepting, accept_batch, accepts, deciding, decide_batch, decides, answering, answer_line, answers_again}
use Rattle.node_rules.specs.Steps.{Outset, step_of, first_leaving, after_first}
use Rattle.node_rules.specs.Transfers.{is_of_group, spoil, install_replica, install_by, installing, install_fetch, installs, offer_for, shown_after, offers_state, part_messages, gives_parts, answers_state, planning, follow_plan, plans}
use Rattle.node_rules.specs.declared.node.Asked.{Asked}
use Rattle.node_rules.specs.declared.node.Held.{Held}
use Rattle.node_rules.specs.declared.node.Target.{Target}
use Rattle.node_rules.specs.declared.node.Target.TheVariants as targets
use Rattle.node_rules.proofs.Rulewise.{KeptByRules, free-event, keeps_step}
use Rattle.node_laws.proofs.Reopened.{reopened_is}
use Rattle.trail.specs.declared.event.TrailEvent.{TrailEvent}
use Rattle.trail.specs.declared.event.TrailEvent.TheVariants.{Happens, Send, Lost, Polls, End}
use Rattle.trail_rules.specs.Replays.{node_step, core_steps, after, replay}
use Rattle.trail_rules.proofs.Grows.{replay-stands}
use Rattle.audit_rules.specs.declared.recorded.Recorded.{Recorded}
use Rattle.audit_rules.specs.Audits.{first_node, parts_in}
use Rattle.audit_rules.specs.Quiets.{is_at_rest, seems_at_rest}
use Rattle.audit_rules.proofs.Cores.{first_stands}

-- ---- held messages that wait for so many entries at most

abbrev AreWithin : ℕ → List Held → Type 0
AreWithin most held = Each (λ (h : Held). h.needs ≤ most) held

-- a longer book has them too
within-more : (es more : List LogEntry) (held : List Held) → AreWithin (length es) held → AreWithin (length (es ++ more)) held
within-more es more held within =
    each-weaken (λ (h : Held). h.needs ≤ length es) (λ (h : Held). h.needs ≤ length (es ++ more)) (λ h few. omega (arith, few, length-append es more)) held within

-- one more that waits for all entries
within-end : (most : ℕ) (held : List Held) (to : Target) (message : Message) → AreWithin most held → AreWithin most (held ++ record { to = to; message = message; needs = most } ∷ [])
within-end most [] to message within = (omega arith, tt)
within-end most (h ∷ hs) to message within = (within.0, within-end most hs to message within.1)

-- the first of them leaves
without-first : (most : ℕ) (h : Held) (hs : List Held) (leaves : Bool) → AreWithin most (h ∷ hs) → AreWithin most (cond leaves hs (h ∷ hs))
without-first most h hs true within = within.1
without-first most h hs false within = within

within-first : (most firm : ℕ) (held : List Held) → AreWithin most held → AreWithin most (after_first firm held)
within-first most firm [] within = tt
within-first most firm (h ∷ hs) within = without-first most h hs (nat_le h.needs firm) within

-- a node whose held messages wait for entries that its book has
abbrev WaitsWithin : {S : Type 0} → Node S → Type 0
WaitsWithin n = AreWithin (length n.entries) n.held

one-of : {S : Type 0} (t : Bool) (x y : Node S) → WaitsWithin x → WaitsWithin y → WaitsWithin (cond t x y)
one-of true x y within other = within
one-of false x y within other = other

within-holding : {S : Type 0} (n : Node S) (to : Target) (message : Message) → WaitsWithin n → WaitsWithin (holding n to message)
within-holding n to message within = within-end (length n.entries) n.held to message within

within-holding_all : {S : Type 0} (messages : List Message) (n : Node S) (to : Target) → WaitsWithin n → WaitsWithin (holding_all n to messages)
within-holding_all [] n to within = within
within-holding_all (x ∷ xs) n to within = within-holding_all xs (holding n to x) to (within-holding n to x within)

-- ---- rules

within-adopts_by : {S : Type 0} (n : Node S) (sync : Option (SignedBy Sync)) → WaitsWithin n → WaitsWithin (adopts_by n sync)
unfolding adopts_by
within-adopts_by n None within = within
within-adopts_by n (Some s) within = within-more (n.entries ++ promised_for n s.statement) _ n.held (within-more n.entries (promised_for n s.statement) n.held within)

within-adopts : {S : Type 0} (n : Node S) → WaitsWithin n → WaitsWithin (adopts n)
unfolding adopts
within-adopts n within = within-adopts_by n (adoption n) within

within-asks_next : {S : Type 0} (n : Node S) → WaitsWithin n → WaitsWithin (asks_next n)
within-asks_next n within = within-end (length n.entries) n.held _ _ within

within-joins : {S : Type 0} (n : Node S) → WaitsWithin n → WaitsWithin (joins n)
unfolding joins
within-joins n within = one-of (joining n) (asks_next n) n (within-asks_next n within) within

within-promise_next : {S : Type 0} (n : Node S) → WaitsWithin n → WaitsWithin (promise_next n)
unfolding promise_next
within-promise_next n within = within-end _ n.held _ _ (within-more n.entries _ n.held within)

within-promises : {S : Type 0} (n : Node S) → WaitsWithin n → WaitsWithin (promises n)
unfolding promises
within-promises n within = one-of (promising n) (promise_next n) n (within-promise_next n within) within

within-lead_with : {S : Type 0} (n : Node S) (collect : Option (List (SignedBy Report))) → WaitsWithin n → WaitsWithin (lead_with n collect)
unfolding lead_with
within-lead_with n None within = within
within-lead_with n (Some collect) within = within-end (length n.entries) n.held _ _ within

within-leads : {S : Type 0} (n : Node S) → WaitsWithin n → WaitsWithin (leads n)
unfolding leads
within-leads n within = within-lead_with n (leading n) within

within-propose_batch : {S : Type 0} (n : Node S) (batch : Option Batch) → WaitsWithin n → WaitsWithin (propose_batch n batch)
unfolding propose_batch
within-propose_batch n None within = within
within-propose_batch n (Some batch) within = within-end (length n.entries) n.held _ _ within

within-proposes : {S : Type 0} (n : Node S) → WaitsWithin n → WaitsWithin (proposes n)
unfolding proposes
within-proposes n within = within-propose_batch n (proposing n) within

within-write_batch : {S : Type 0} (n : Node S) (p : Option Proposed) → WaitsWithin n → WaitsWithin (write_batch n p)
unfolding write_batch
within-write_batch n None within = within
within-write_batch n (Some p) within = within-end _ n.held _ _ (within-more n.entries _ n.held within)

within-writes : {S : Type 0} (n : Node S) → WaitsWithin n → WaitsWithin (writes n)
unfolding writes
within-writes n within = within-write_batch n (writing n) within

within-accept_batch : {S : Type 0} (n : Node S) (p : Option Proposed) → WaitsWithin n → WaitsWithin (accept_batch n p)
unfolding accept_batch
within-accept_batch n None within = within
within-accept_batch n (Some p) within = within-end _ n.held _ _ (within-more n.entries _ n.held within)

within-accepts : {S : Type 0} (n : Node S) → WaitsWithin n → WaitsWithin (accepts n)
unfolding accepts
within-accepts n within = within-accept_batch n (accepting n) within

within-decide_batch : {S : Type 0} (n : Node S) (d : Option Decision) → WaitsWithin n → WaitsWithin (decide_batch n d)
unfolding decide_batch
within-decide_batch n None within = within
within-decide_batch n (Some d) within = within-more n.entries _ n.held within

within-decides : {S : Type 0} (n : Node S) → WaitsWithin n → WaitsWithin (decides n)
unfolding decides
within-decides n within = within-decide_batch n (deciding n) within

within-passes_on : {S : Type 0} (n : Node S) (pool : List (SignedBy Request)) → WaitsWithin n → WaitsWithin (passes_on n pool)
within-passes_on n [] within = within
within-passes_on n (q ∷ qs) within = within-end (length n.entries) n.held _ _ within

within-asks_state : {S : Type 0} (n : Node S) → WaitsWithin n → WaitsWithin (asks_state n)
unfolding asks_state
within-asks_state n within = within-end (length n.entries) n.held _ _ within

within-presses : {S : Type 0} (n : Node S) → WaitsWithin n → WaitsWithin (presses n)
unfolding presses
within-presses n within =
    one-of n.impatient (asks_next n) (passes_on (record n { impatient = true }) n.pool) (within-asks_next n within) (within-passes_on (record n { impatient = true }) n.pool within)

within-times : {S : Type 0} (n : Node S) → WaitsWithin n → WaitsWithin (times n)
unfolding times
within-times n within = one-of (lags n) (asks_state n) _ (within-asks_state n within) (one-of (timing n) (presses n) n (within-presses n within) within)

-- the view in force is told, unless it is known
within-telling : {S : Type 0} (known : Bool) (to : Target) (n : Node S) → WaitsWithin n → WaitsWithin (telling known to n)
within-telling true to n within = within
within-telling false to n within = within-end (length n.entries) n.held _ _ within

within-answer_line : {S : Type 0} (n : Node S) (line : Option Execution) → WaitsWithin n → WaitsWithin (answer_line n line)
unfolding answer_line
within-answer_line n None within = within
within-answer_line {S = S} n (Some line) within =
    let answered : Node S = replies_with n line in
    within-telling (nat_le (length answered.replica.views) 1) (targets.Client line.client) answered (within-end (length n.entries) n.held _ _ within)

within-answers_again : {S : Type 0} (n : Node S) (asked : Asked) → WaitsWithin n → WaitsWithin (answers_again n asked)
unfolding answers_again
within-answers_again n asked within = within-answer_line n (answering n asked) within

within-replying : {S : Type 0} (n : Node S) (lines : List Execution) → WaitsWithin n → WaitsWithin (replying n lines)
within-replying n [] within = within
within-replying n (l ∷ ls) within = within-replying (replies_with n l) ls (within-end (length n.entries) n.held _ _ within)

within-deliver_batch : {S : Type 0} (m : Meaning S) (n : Node S) (batch : Option Batch) → WaitsWithin n → WaitsWithin (deliver_batch m n batch)
unfolding deliver_batch
within-deliver_batch m n None within = within
within-deliver_batch {S = S} m n (Some batch) within =
    let n' : Node S = enters n (record n { replica = delivered m n.replica batch; waiting = None; pool = settled (delivered m n.replica batch).table n.pool; impatient = false }) in
    let answered : Node S = replying n' (lines_to_answer m n batch) in
    within-telling (stays_in_view n answered) targets.Clients answered (within-replying n' (lines_to_answer m n batch) within)

within-delivers : {S : Type 0} (m : Meaning S) (n : Node S) → WaitsWithin n → WaitsWithin (delivers m n)
unfolding delivers
within-delivers m n within = within-deliver_batch m n n.waiting within

within-mark : {S : Type 0} (m : Meaning S) (n : Node S) → WaitsWithin n → WaitsWithin (mark_place m n)
unfolding mark_place
within-mark m n within = within-end _ n.held _ _ (within-more n.entries _ n.held within)

within-answers_state : {S : Type 0} (n : Node S) (a : StateAsk) → WaitsWithin n → WaitsWithin (answers_state n a)
unfolding answers_state offers_state gives_parts
within-answers_state n a within =
    one-of (a.fetch == 0) (offers_state n a) (gives_parts n a) (within-holding_all (changes.StateOffer (offer_for n a.place) ∷ shown_after n a.place) n (targets.Node a.member) within)
    (within-holding_all (part_messages (firm_at n a.fetch)) n (targets.Node a.member) within)

within-follow_plan : {S : Type 0} (n : Node S) (plan : Option Plan) → WaitsWithin n → WaitsWithin (follow_plan n plan)
unfolding follow_plan
within-follow_plan n None within = within
within-follow_plan n (Some p) within = within-end (length n.entries) n.held _ _ within

within-plans : {S : Type 0} (n : Node S) → WaitsWithin n → WaitsWithin (plans n)
unfolding plans
within-plans n within = within-follow_plan n (planning n) within

within-install_replica : {S : Type 0} (n : Node S) (f : Fetch) (r : Replica S) → WaitsWithin n → WaitsWithin (install_replica n f r)
unfolding install_replica
within-install_replica n f r within = within-end _ n.held _ _ (within-more n.entries _ n.held within)

within-install_by : {S : Type 0} (n : Node S) (f : Fetch) (made : Result (Replica S) Spoiled) → WaitsWithin n → WaitsWithin (install_by n f made)
unfolding spoil
within-install_by n f (Err why) within = within
within-install_by n f (Ok r) within = one-of (is_of_group n r) (install_replica n f r) (spoil n f) (within-install_replica n f r within) within

within-install_fetch : {S : Type 0} (m : Meaning S) (n : Node S) (due : Option Fetch) → WaitsWithin n → WaitsWithin (install_fetch m n due)
unfolding install_fetch
within-install_fetch m n None within = within
within-install_fetch m n (Some f) within = within-install_by n f (finished m f) within

within-installs : {S : Type 0} (m : Meaning S) (n : Node S) → WaitsWithin n → WaitsWithin (installs m n)
unfolding installs
within-installs m n within = within-install_fetch m n (installing n) within

within-noted : {S : Type 0} (n : Node S) (message : Message) → WaitsWithin n → WaitsWithin (noted n message)
unfolding noted
within-noted n message within = within

within-kept : {S : Type 0} (n : Node S) (message : Message) → WaitsWithin n → WaitsWithin (kept n message)
unfolding kept
within-kept n (Ask q) within = one-of (is_next n.replica.table q.statement) (record n { pool = offered n.pool q }) n within within
within-kept n _ within = within

within-rules : {S : Type 0} → KeptByRules {S = S} (λ n. WaitsWithin n)
within-rules = record {
  by_adopts = λ n within. within-adopts n within;
  by_joins = λ n within. within-joins n within;
  by_promises = λ n within. within-promises n within;
  by_leads = λ n within. within-leads n within;
  by_proposes = λ n within. within-proposes n within;
  by_writes = λ n within. within-writes n within;
  by_accepts = λ n within. within-accepts n within;
  by_decides = λ n within. within-decides n within;
  by_times = λ n within. within-times n within;
  by_answers = λ n asked within. within-answers_again n asked within;
  by_states = λ n a within. within-answers_state n a within;
  by_plans = λ n within. within-plans n within;
}

-- whatever comes, a step keeps that
within-step : {S : Type 0} (m : Meaning S) (n : Node S) (event : NodeEvent) → WaitsWithin n → WaitsWithin (step_of m n event).node
within-step {S = S} m n event within =
    keeps_step m (λ (x : Node S). WaitsWithin x) (λ message. Unit {0}) n event
    (record {
      by_rules = within-rules;
      by_noted = λ n message is. within-noted n message is;
      by_kept = λ n message fine may is. within-kept n message is;
      by_installs = λ n is. within-installs m n is;
      by_delivers = λ n is. within-delivers m n is;
      by_marks = λ n waits is delivered. within-mark m (delivers m n) delivered;
      by_firm = λ n count is. is;
    })
    (free-event event) within

-- ---- the replay of a trail

within-after : {S : Type 0} (m : Meaning S) (n : Node S) (e : TrailEvent) → WaitsWithin n → WaitsWithin (after (node_step m) n e)
within-after m n (Happens event) within = within-step m n event within
within-after m n (Send a) within = within-first (length n.entries) n.firm n.held within
within-after m n (Lost a) within = within
within-after m n (Polls count) within = within
within-after m n End within = within

within-replay : {S : Type 0} (m : Meaning S) (n : Node S) (events : List TrailEvent) → WaitsWithin n → WaitsWithin (replay (node_step m) n events)
within-replay m n [] within = within
within-replay m n (e ∷ events) within = within-replay m (after (node_step m) n e) events (within-after m n e within)

-- the node with which a trail begins holds nothing
none-reopened : {S : Type 0} (m : Meaning S) (o : Outset S) (es : List LogEntry) → (reopened m o es).held ≡ []
unfolding reopened
none-reopened m o [] = refl
none-reopened {S = S} m o (e ∷ es) = ap (λ (n : Node S). n.held) (reopened_is m o e es)

none-first : {S : Type 0} (m : Meaning S) (t : Recorded) → (first_node m t).held ≡ []
unfolding first_node reopened_from
none-first m t =
    none-reopened m (outset_from m t.opening.secret t.opening.member t.opening.view t.opening.period (parts_in m t).snapshot) (entries_in t.entries)

within-begun : {S : Type 0} (m : Meaning S) (t : Recorded) → WaitsWithin (first_node m t)
within-begun m t = subst (λ (held : List Held). AreWithin (length (first_node m t).entries) held) (sym (none-first m t)) tt

-- ---- at rest

some-held : (h : Held) (hs : List Held) → (length (h ∷ hs) == 0) ≡ false
some-held h hs = ne_eqb (length (h ∷ hs)) 0 (λ is. absurd (omega (arith, is)))

-- the first of several leaves if all entries are firm
first-leaves : (h : Held) (hs : List Held) (count firm : ℕ) (all : Bool) → nat_le count firm ≡ all → h.needs ≤ count → (all && is_none (first_leaving firm (h ∷ hs))) ≡ (all && (length (h ∷ hs) == 0))
first-leaves h hs count firm false is few = refl
first-leaves h hs count firm true is few =
    let least = leb-true count firm is in
    rw (le-leb h.needs firm (omega (arith, least, few)), some-held h hs) refl

held-seen : (count firm : ℕ) (held : List Held) → AreWithin count held → (nat_le count firm && is_none (first_leaving firm held)) ≡ (nat_le count firm && (length held == 0))
held-seen count firm [] within = refl
held-seen count firm (h ∷ hs) within = first-leaves h hs count firm (nat_le count firm) refl within.0

rest-seen : {S : Type 0} (n : Node S) → WaitsWithin n → seems_at_rest n ≡ is_at_rest n
rest-seen n within = ap (λ (t : Bool). is_none n.waiting && t) (held-seen (length n.entries) n.firm n.held within)

seems_trimmed : {S : Type 0} (n : Node S) → seems_at_rest (trimmed n) ≡ seems_at_rest n
unfolding trimmed
seems_trimmed n = refl

-- what the core of a trail tells behind its events is whether its node is at rest
pub seen_at_rest : {S : Type 0} (m : Meaning S) (t : Recorded) → seems_at_rest (replay (core_steps m) (first_node m t) t.events) ≡ is_at_rest (replay (node_step m) (first_node m t) t.events)
seen_at_rest {S = S} m t =
    let last : Node S = replay (node_step m) (first_node m t) t.events in
    let stands = replay-stands m (first_node m t) (first_node m t) t.events (first_stands m t) in
    ap (λ (c : Node S). seems_at_rest c) stands.same ∙ (seems_trimmed last ∙ rest-seen last (within-replay m (first_node m t) t.events (within-begun m t)))
