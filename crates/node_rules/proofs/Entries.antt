-- How many entries each rule adds to the book of a node, and an event with all of them.
use Rattle.std.proofs.Common.{◌≡◌, ℕ, ◌+◌, ◌==◌, ◌≤◌, ◌++◌, Bool, true, false, List, [], ◌∷◌, length, refl, subst, ap, sym, ◌∙◌, cond, arith, Option, Some, None, is_some, Result, Ok, Err}
use Rattle.std.proofs.lemmas.List.{append-nil, append_assoc, length-append}
use Rattle.smart_statements.specs.Forms.{SignedBy}
use Rattle.smart_statements.specs.Batches.{Batch}
use Rattle.smart_messages.specs.Messages.{decoded}
use Rattle.smart_statements.specs.declared.statement.Request.{Request}
use Rattle.smart_messages.specs.declared.regency.Sync.{Sync}
use Rattle.smart_statements.specs.declared.report.Report.{Report}
use Rattle.smart_messages.specs.declared.message.Proposed.{Proposed}
use Rattle.smart_messages.specs.declared.message.Message.TheVariants.{Ask}
use Rattle.smart_messages.specs.declared.message.Message.TheVariants as changes
use Rattle.smart_messages.specs.declared.message.Message.{Message}
use Rattle.smart_statements.specs.declared.entry.NodeEvent.{NodeEvent}
use Rattle.smart_statements.specs.declared.entry.NodeEvent.TheVariants.{Arrive, Deliver, Firm, Tick}
use Rattle.smart_service.specs.Services.{Meaning}
use Rattle.smart_service.specs.declared.table.Execution.{Execution}
use Rattle.vote_book.specs.declared.entry.Decision.{Decision}
use Rattle.vote_book.specs.declared.entry.LogEntry.{LogEntry}
use Rattle.vote_book.specs.declared.entry.LogEntry.TheVariants.{Synced, Marked}
use Rattle.replica_rules.specs.Replicas.{is_next}
use Rattle.replica_rules.specs.Pools.{offered}
use Rattle.node_rules.specs.Nodes.{Node, holding, holding_all}
use Rattle.node_rules.specs.Marks.{firm_at, mark_of, mark_place, marks_place}
use Rattle.node_rules.specs.Arrivals.{why_dropped, noted, kept}
use Rattle.node_rules.specs.Rules.{lines_to_answer, replying, deliver_batch, delivers, proposing, propose_batch, proposes, writing, write_batch, writes, accepting, accept_batch, accepts, deciding, decide_batch, decides, answering, answer_line, answers_again}
use Rattle.node_rules.specs.Changes.{start_by_sync, promised_for, adopts_by, adoption, adopts, asks_next, joining, joins, promising, promise_next, promises, leading, lead_with, leads, lags, asks_state, timing, passes_on, presses, times}
use Rattle.node_rules.specs.Steps.{Taken, judged, reads, takes_in, Row, deliver_row, time_row, answer_row, turn_rows, vote_rows, end_rows, rules, pass, step_of}
use Rattle.node_rules.specs.Kept.{trimmed, core_step}
use Rattle.node_rules.specs.declared.node.Why.{Why}
use Rattle.node_rules.specs.declared.node.Asked.{Asked}
use Rattle.node_rules.specs.declared.node.Called.{Called}
use Rattle.node_rules.specs.declared.node.Called.TheVariants as calls
use Rattle.node_rules.specs.declared.node.Target.{Target}
use Rattle.node_rules.specs.declared.node.Target.TheVariants as targets
use Rattle.node_rules.specs.Transfers.{installing, installed_by, install_replica, is_of_group, spoil, install_by, install_fetch, installs, offer_for, shown_after, part_messages, offers_state, gives_parts, answers_state, planning, follow_plan, plans, answers_call}
use Rattle.transfer_form.specs.declared.transfer.StateAsk.{StateAsk}
use Rattle.state_transfer.specs.Fetches.{finished}
use Rattle.state_transfer.specs.declared.choice.Plan.{Plan}
use Rattle.state_transfer.specs.declared.fetch.Fetch.{Fetch}
use Rattle.state_transfer.specs.declared.fetch.Spoiled.{Spoiled}
use Rattle.smart_service.specs.declared.replica.Replica.{Replica}
use Rattle.node_rules.specs.declared.node.Cause.{Cause}
use Rattle.node_rules.specs.declared.node.Fired.{Fired}
use Rattle.node_rules.proofs.Rulewise.{by_mark, by_delivery, by_time, by_answer, by_step}
use Rattle.node_rules.specs.Entries.{AddsAtMost}

-- ---- additions

pub adds_none : (before after : List LogEntry) → after ≡ before → AddsAtMost 0 before after
adds_none before after same = record { more = []; is = same ∙ sym (append-nil before); few = omega arith }

pub adds : (most : ℕ) (before more : List LogEntry) → length more ≤ most → AddsAtMost most before (before ++ more)
adds most before more few = record { more = more; is = refl; few = few }

pub adds_then : (one two : ℕ) (before now after : List LogEntry) → AddsAtMost one before now → AddsAtMost two now after → AddsAtMost (one + two) before after
adds_then one two before now after first next =
    let few = first.few in
    let others = next.few in
    record {
      more = first.more ++ next.more;
      is = next.is ∙ (ap (λ (es : List LogEntry). es ++ next.more) first.is ∙ append_assoc before first.more next.more);
      few = rw (length-append first.more next.more) (omega (arith, few, others));
    }

pub adds_fewer : (one two : ℕ) (before after : List LogEntry) → one ≤ two → AddsAtMost one before after → AddsAtMost two before after
adds_fewer one two before after least adding = let few = adding.few in record { more = adding.more; is = adding.is; few = omega (arith, few, least) }

-- ---- rules

-- a promise, where there is one, and the beginning of a regency
two_at_most : (t : Bool) (promise start : LogEntry) → length (cond t (promise ∷ []) [] ++ start ∷ []) ≤ 2
two_at_most true promise start = omega arith
two_at_most false promise start = omega arith

by_adoption : {S : Type 0} (n : Node S) (o : Option (SignedBy Sync)) → AddsAtMost 2 n.entries (adopts_by n o).entries
unfolding adopts_by
by_adoption n None = adds_fewer 0 2 n.entries n.entries (omega arith) (adds_none n.entries n.entries refl)
by_adoption n (Some s) = record {
  more = promised_for n s.statement ++ Synced (start_by_sync s.statement) ∷ [];
  is = append_assoc n.entries (promised_for n s.statement) (Synced (start_by_sync s.statement) ∷ []);
  few = two_at_most _ _ _;
}

pub adopts_adds : {S : Type 0} (n : Node S) → AddsAtMost 2 n.entries (adopts n).entries
unfolding adopts
adopts_adds n = by_adoption n (adoption n)

by_joining : {S : Type 0} (n : Node S) (t : Bool) → (cond t (asks_next n) n).entries ≡ n.entries
by_joining n true = refl
by_joining n false = refl

pub joins_same : {S : Type 0} (n : Node S) → (joins n).entries ≡ n.entries
unfolding joins
joins_same n = by_joining n (joining n)

by_promising : {S : Type 0} (n : Node S) (t : Bool) → AddsAtMost 1 n.entries (cond t (promise_next n) n).entries
unfolding promise_next
by_promising n true = adds 1 n.entries _ (omega arith)
by_promising n false = adds_fewer 0 1 n.entries n.entries (omega arith) (adds_none n.entries n.entries refl)

pub promises_adds : {S : Type 0} (n : Node S) → AddsAtMost 1 n.entries (promises n).entries
unfolding promises
promises_adds n = by_promising n (promising n)

pub by_leading : {S : Type 0} (n : Node S) (o : Option (List (SignedBy Report))) → (lead_with n o).entries ≡ n.entries
unfolding lead_with
by_leading n None = refl
by_leading n (Some collect) = refl

pub leads_same : {S : Type 0} (n : Node S) → (leads n).entries ≡ n.entries
unfolding leads
leads_same n = by_leading n (leading n)

pub by_proposing : {S : Type 0} (n : Node S) (o : Option Batch) → (propose_batch n o).entries ≡ n.entries
unfolding propose_batch
by_proposing n None = refl
by_proposing n (Some batch) = refl

pub proposes_same : {S : Type 0} (n : Node S) → (proposes n).entries ≡ n.entries
unfolding proposes
proposes_same n = by_proposing n (proposing n)

by_writing : {S : Type 0} (n : Node S) (o : Option Proposed) → AddsAtMost 1 n.entries (write_batch n o).entries
unfolding write_batch
by_writing n None = adds_fewer 0 1 n.entries n.entries (omega arith) (adds_none n.entries n.entries refl)
by_writing n (Some p) = adds 1 n.entries _ (omega arith)

pub writes_adds : {S : Type 0} (n : Node S) → AddsAtMost 1 n.entries (writes n).entries
unfolding writes
writes_adds n = by_writing n (writing n)

by_accepting : {S : Type 0} (n : Node S) (o : Option Proposed) → AddsAtMost 1 n.entries (accept_batch n o).entries
unfolding accept_batch
by_accepting n None = adds_fewer 0 1 n.entries n.entries (omega arith) (adds_none n.entries n.entries refl)
by_accepting n (Some p) = adds 1 n.entries _ (omega arith)

pub accepts_adds : {S : Type 0} (n : Node S) → AddsAtMost 1 n.entries (accepts n).entries
unfolding accepts
accepts_adds n = by_accepting n (accepting n)

by_deciding : {S : Type 0} (n : Node S) (o : Option Decision) → AddsAtMost 1 n.entries (decide_batch n o).entries
unfolding decide_batch
by_deciding n None = adds_fewer 0 1 n.entries n.entries (omega arith) (adds_none n.entries n.entries refl)
by_deciding n (Some d) = adds 1 n.entries _ (omega arith)

pub decides_adds : {S : Type 0} (n : Node S) → AddsAtMost 1 n.entries (decides n).entries
unfolding decides
decides_adds n = by_deciding n (deciding n)

-- ---- arrivals and time

pub noted_same : {S : Type 0} (n : Node S) (m : Message) → (noted n m).entries ≡ n.entries
unfolding noted
noted_same n m = refl

by_next : {S : Type 0} (n : Node S) (pool : List (SignedBy Request)) (t : Bool) → (cond t (record n { pool = pool }) n).entries ≡ n.entries
by_next n pool true = refl
by_next n pool false = refl

pub kept_same : {S : Type 0} (n : Node S) (m : Message) → (kept n m).entries ≡ n.entries
unfolding kept
kept_same n (Ask q) = by_next n (offered n.pool q) (is_next n.replica.table q.statement)
kept_same n _ = refl

pub by_answering : {S : Type 0} (n : Node S) (o : Option Execution) → (answer_line n o).entries ≡ n.entries
unfolding answer_line
by_answering n None = refl
by_answering n (Some line) = refl

pub answers_again_same : {S : Type 0} (n : Node S) (asked : Asked) → (answers_again n asked).entries ≡ n.entries
unfolding answers_again
answers_again_same n asked = by_answering n (answering n asked)

pub by_oldest : {S : Type 0} (n : Node S) (pool : List (SignedBy Request)) → (passes_on n pool).entries ≡ n.entries
by_oldest n [] = refl
by_oldest n (q ∷ qs) = refl

by_patience : {S : Type 0} (n : Node S) (t : Bool) → (cond t (asks_next n) (passes_on (record n { impatient = true }) n.pool)).entries ≡ n.entries
by_patience n true = refl
by_patience n false = by_oldest (record n { impatient = true }) n.pool

by_timing : {S : Type 0} (n : Node S) (t : Bool) → (cond t (presses n) n).entries ≡ n.entries
unfolding presses
by_timing n true = by_patience n n.impatient
by_timing n false = refl

by_lagging : {S : Type 0} (n : Node S) (t : Bool) → (cond t (asks_state n) (cond (timing n) (presses n) n)).entries ≡ n.entries
unfolding asks_state
by_lagging n true = refl
by_lagging n false = by_timing n (timing n)

pub times_same : {S : Type 0} (n : Node S) → (times n).entries ≡ n.entries
unfolding times
times_same n = by_lagging n (lags n)

-- ---- what members exchange

pub held_all_same : {S : Type 0} (messages : List Message) (n : Node S) (to : Target) → (holding_all n to messages).entries ≡ n.entries
held_all_same [] n to = refl
held_all_same (m ∷ ms) n to = held_all_same ms (holding n to m) to

by_asking : {S : Type 0} (n : Node S) (a : StateAsk) (t : Bool) → (cond t (offers_state n a) (gives_parts n a)).entries ≡ n.entries
unfolding offers_state gives_parts
by_asking n a true = held_all_same (changes.StateOffer (offer_for n a.place) ∷ shown_after n a.place) n (targets.Node a.member)
by_asking n a false = held_all_same (part_messages (firm_at n a.fetch)) n (targets.Node a.member)

pub answers_state_same : {S : Type 0} (n : Node S) (a : StateAsk) → (answers_state n a).entries ≡ n.entries
unfolding answers_state
answers_state_same n a = by_asking n a (a.fetch == 0)

by_planning : {S : Type 0} (n : Node S) (plan : Option Plan) → (follow_plan n plan).entries ≡ n.entries
unfolding follow_plan
by_planning n None = refl
by_planning n (Some p) = refl

pub plans_same : {S : Type 0} (n : Node S) → (plans n).entries ≡ n.entries
unfolding plans
plans_same n = by_planning n (planning n)

pub answers_call_same : {S : Type 0} (n : Node S) (called : Called) → (answers_call n called).entries ≡ n.entries
answers_call_same n calls.Nobody = refl
answers_call_same n (calls.Request asked) = answers_again_same n asked
answers_call_same n (calls.State a) = answers_state_same n a
answers_call_same n calls.Offered = plans_same n

by_group : {S : Type 0} (n : Node S) (f : Fetch) (r : Replica S) (t : Bool) → AddsAtMost 1 n.entries (cond t (install_replica n f r) (spoil n f)).entries
unfolding install_replica spoil
by_group n f r true = adds 1 n.entries (installed_by f.plan ∷ []) (omega arith)
by_group n f r false = adds_fewer 0 1 n.entries n.entries (omega arith) (adds_none n.entries n.entries refl)

pub by_finishing : {S : Type 0} (n : Node S) (f : Fetch) (made : Result (Replica S) Spoiled) → AddsAtMost 1 n.entries (install_by n f made).entries
unfolding spoil
by_finishing n f (Ok r) = by_group n f r (is_of_group n r)
by_finishing n f (Err why) = adds_fewer 0 1 n.entries n.entries (omega arith) (adds_none n.entries n.entries refl)

by_installing : {S : Type 0} (m : Meaning S) (n : Node S) (due : Option Fetch) → AddsAtMost 1 n.entries (install_fetch m n due).entries
unfolding install_fetch
by_installing m n None = adds_fewer 0 1 n.entries n.entries (omega arith) (adds_none n.entries n.entries refl)
by_installing m n (Some f) = by_finishing n f (finished m f)

-- an installation adds one entry at most
pub installs_adds : {S : Type 0} (m : Meaning S) (n : Node S) → AddsAtMost 1 n.entries (installs m n).entries
unfolding installs
installs_adds m n = by_installing m n (installing n)

-- ---- delivery

replying_same : {S : Type 0} (lines : List Execution) (n : Node S) → (replying n lines).entries ≡ n.entries
replying_same [] n = refl
replying_same (line ∷ lines) n = replying_same lines _

pub by_waiting : {S : Type 0} (m : Meaning S) (n : Node S) (o : Option Batch) → (deliver_batch m n o).entries ≡ n.entries
unfolding deliver_batch
by_waiting m n None = refl
by_waiting m n (Some batch) = replying_same (lines_to_answer m n batch) _

pub delivers_same : {S : Type 0} (m : Meaning S) (n : Node S) → (delivers m n).entries ≡ n.entries
unfolding delivers
delivers_same m n = by_waiting m n n.waiting

-- ---- rows

-- a row that adds at most so many entries
abbrev pub RowAdds : {S : Type 0} → ℕ → Row S → Type 0
RowAdds {S} most r = (n : Node S) (cause : Cause) (fired : List Fired) → AddsAtMost most n.entries (r n cause fired).0.entries

-- rows that each add at most their number of entries
abbrev pub RowsAdd : {S : Type 0} → List ℕ → List (Row S) → Type 0
RowsAdd [] [] = Unit {0}
RowsAdd (most ∷ mosts) (r ∷ rows) = RowAdds most r × RowsAdd mosts rows
RowsAdd _ _ = ⊥

-- all of them together
abbrev all_of : List ℕ → ℕ
all_of [] = 0
all_of (most ∷ mosts) = most + all_of mosts

-- a pass adds at most so many
pass_adds : {S : Type 0} (mosts : List ℕ) (rows : List (Row S)) → RowsAdd mosts rows → (n : Node S) (cause : Cause) (fired : List Fired)
    → AddsAtMost (all_of mosts) n.entries (pass rows n cause fired).0.entries
unfolding pass
pass_adds [] [] each n cause fired = adds_none n.entries n.entries refl
pass_adds [] (r ∷ rows) each n cause fired = absurd each
pass_adds (most ∷ mosts) [] each n cause fired = absurd each
pass_adds (most ∷ mosts) (r ∷ rows) each n cause fired =
    adds_then most (all_of mosts) n.entries (r n cause fired).0.entries _ (each.0 n cause fired) (pass_adds mosts rows each.1 (r n cause fired).0 cause (r n cause fired).1)

-- a row that leaves the book
same_adds : (before after : List LogEntry) → after ≡ before → AddsAtMost 0 before after
same_adds before after same = adds_none before after same

-- a mark is one entry
pub mark_place_adds : {S : Type 0} (m : Meaning S) (n : Node S) → (mark_place m n).entries ≡ n.entries ++ Marked (mark_of m n) ∷ []
unfolding mark_place
mark_place_adds m n = refl

marks_adds : {S : Type 0} (m : Meaning S) (n x : Node S) (delivered : Bool) → x.entries ≡ n.entries → AddsAtMost 1 n.entries (marks_place m delivered x).entries
marks_adds {S = S} m n x delivered same =
    by_mark m (λ (y : Node S). AddsAtMost 1 n.entries y.entries) delivered x
    (record { more = []; is = same ∙ sym (append-nil n.entries); few = omega arith })
    (λ due. record { more = Marked (mark_of m x) ∷ []; is = mark_place_adds m x ∙ ap (λ (es : List LogEntry). es ++ Marked (mark_of m x) ∷ []) same; few = omega arith })

-- the row that delivers, and marks
pub deliver_adds : {S : Type 0} (m : Meaning S) → RowAdds 1 (deliver_row m)
deliver_adds {S = S} m n cause fired =
    by_delivery m (λ (x : Node S) (told : List Fired). AddsAtMost 1 n.entries x.entries) n cause fired (record { more = []; is = sym (append-nil n.entries); few = omega arith })
    (marks_adds m n (delivers m n) (is_some n.waiting) (delivers_same m n))

-- those of time and of answers
pub time_adds : (S : Type 0) → RowAdds {S = S} 0 time_row
time_adds S n cause fired =
    by_time (λ (x : Node S) (told : List Fired). AddsAtMost 0 n.entries x.entries) n cause fired (same_adds n.entries n.entries refl) (same_adds n.entries (times n).entries (times_same n))

pub answer_adds : (S : Type 0) → RowAdds {S = S} 0 answer_row
answer_adds S n cause fired =
    by_answer (λ (x : Node S) (told : List Fired). AddsAtMost 0 n.entries x.entries) n cause fired (same_adds n.entries n.entries refl)
    (λ called. same_adds n.entries (answers_call n called).entries (answers_call_same n called))

-- a change of the regency adds at most three entries
pub turns_add : (S : Type 0) → RowsAdd {S = S} (2 ∷ 0 ∷ 1 ∷ 0 ∷ []) turn_rows
unfolding turn_rows
turns_add S = (
  λ n cause fired. adopts_adds n,
  (
    λ n cause fired. same_adds n.entries (joins n).entries (joins_same n),
    (λ n cause fired. promises_adds n, (λ n cause fired. same_adds n.entries (leads n).entries (leads_same n), tt)),
  ),
)

-- votes add at most two
pub votes_add : (S : Type 0) → RowsAdd {S = S} (0 ∷ 1 ∷ 1 ∷ []) vote_rows
unfolding vote_rows
votes_add S =
    (λ n cause fired. same_adds n.entries (proposes n).entries (proposes_same n), (λ n cause fired. writes_adds n, (λ n cause fired. accepts_adds n, tt)))

-- and a decision one
pub end_adds : (S : Type 0) → RowsAdd {S = S} (1 ∷ 0 ∷ 0 ∷ []) end_rows
unfolding end_rows
end_adds S = (λ n cause fired. decides_adds n, (λ n cause fired. time_adds S n cause fired, (λ n cause fired. answer_adds S n cause fired, tt)))

adds_append : {S : Type 0} (some others : List ℕ) (first last : List (Row S)) → RowsAdd some first → RowsAdd others last → RowsAdd (some ++ others) (first ++ last)
adds_append [] others [] last one two = two
adds_append [] others (r ∷ first) last one two = absurd one
adds_append (most ∷ some) others [] last one two = absurd one
adds_append (most ∷ some) others (r ∷ first) last one two = (one.0, adds_append some others first last one.1 two)

pub rules_add : {S : Type 0} (m : Meaning S) → RowsAdd (1 ∷ 1 ∷ 2 ∷ 0 ∷ 1 ∷ 0 ∷ 0 ∷ 1 ∷ 1 ∷ 1 ∷ 0 ∷ 0 ∷ []) (rules m)
unfolding rules
rules_add {S = S} m = (
  λ n cause fired. installs_adds m n,
  (
    λ n cause fired. deliver_adds m n cause fired,
    adds_append (2 ∷ 0 ∷ 1 ∷ 0 ∷ []) (0 ∷ 1 ∷ 1 ∷ 1 ∷ 0 ∷ 0 ∷ []) turn_rows (vote_rows ++ end_rows) (turns_add S)
        (adds_append (0 ∷ 1 ∷ 1 ∷ []) (1 ∷ 0 ∷ 0 ∷ []) vote_rows end_rows (votes_add S) (end_adds S)),
  ),
)

-- ---- an event

judged_same : {S : Type 0} (n : Node S) (m : Message) (why : Option Why) → (judged n m why).node.entries ≡ n.entries
judged_same n m None = kept_same (noted n m) m ∙ noted_same n m
judged_same n m (Some why) = noted_same n m

reads_same : {S : Type 0} (n : Node S) (read : Result Message ℕ) → (reads n read).node.entries ≡ n.entries
reads_same n (Ok m) = judged_same n m (why_dropped n m)
reads_same n (Err at) = refl

-- what takes an event in adds nothing
pub takes_in_same : {S : Type 0} (n : Node S) (event : NodeEvent) → (takes_in n event).node.entries ≡ n.entries
unfolding takes_in
takes_in_same n (Arrive bytes) = reads_same n (decoded bytes)
takes_in_same n Tick = refl
takes_in_same n Deliver = refl
takes_in_same n (Firm count) = refl

pub event_adds : {S : Type 0} (m : Meaning S) (n : Node S) (event : NodeEvent) → AddsAtMost 8 n.entries (step_of m n event).node.entries
event_adds {S = S} m n event =
    let t : Taken S = takes_in n event in
    let same : t.node.entries ≡ n.entries = takes_in_same n event in
    by_step m n event (λ (x : Node S) (told : List Fired). AddsAtMost 8 n.entries x.entries) (adds_fewer 0 8 n.entries t.node.entries (omega arith) (adds_none n.entries t.node.entries same))
    (subst (λ (es : List LogEntry). AddsAtMost 8 es (pass (rules m) t.node t.cause []).0.entries) same
    (pass_adds (1 ∷ 1 ∷ 2 ∷ 0 ∷ 1 ∷ 0 ∷ 0 ∷ 1 ∷ 1 ∷ 1 ∷ 0 ∷ 0 ∷ []) (rules m) (rules_add m) t.node t.cause []))

pub few_by_step : {S : Type 0} (m : Meaning S) (n : Node S) (event : NodeEvent) → AddsAtMost 8 n.entries (step_of m n event).node.entries
few_by_step m n event = event_adds m n event

pub few_by_core : {S : Type 0} (m : Meaning S) (core : Node S) (event : NodeEvent) → AddsAtMost 8 core.entries (core_step m core event).node.entries
unfolding core_step trimmed
few_by_core m core event = few_by_step m core event
