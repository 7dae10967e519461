-- The parts that a node keeps for a plan are of bytes, if those that come are.
use Rattle.std.proofs.Common.{◌==◌, true, false, List, [], ◌∷◌, Option, Some, None, Result, Ok, Err}
use Rattle.std.specs.Prelude.{IfSome, option_map}
use Rattle.smart_base.specs.Cuts.{IsBytes}
use Rattle.smart_base.specs.Lists.{Each}
use Rattle.smart_statements.specs.Forms.{SignedBy}
use Rattle.smart_statements.specs.Batches.{Batch}
use Rattle.smart_statements.specs.declared.statement.Request.{Request}
use Rattle.smart_statements.specs.declared.entry.NodeEvent.{NodeEvent}
use Rattle.smart_statements.specs.declared.report.Report.{Report}
use Rattle.smart_messages.specs.declared.regency.Sync.{Sync}
use Rattle.smart_messages.specs.declared.message.Proposed.{Proposed}
use Rattle.smart_messages.specs.declared.message.Message.{Message}
use Rattle.smart_messages.specs.declared.message.Message.TheVariants.{Ask, Reply}
use Rattle.smart_messages.specs.declared.message.Message.TheVariants as changes
use Rattle.smart_service.specs.Services.{Meaning}
use Rattle.smart_service.specs.declared.replica.Replica.{Replica}
use Rattle.smart_service.specs.declared.table.Execution.{Execution}
use Rattle.replica_rules.specs.Pools.{offered, settled}
use Rattle.replica_rules.specs.Replicas.{is_next, delivered}
use Rattle.state_transfer.specs.Fetches.{finished, kept_unless}
use Rattle.state_transfer.specs.declared.choice.Plan.{Plan}
use Rattle.state_transfer.specs.declared.fetch.Fetch.{Fetch}
use Rattle.state_transfer.specs.declared.fetch.Spoiled.{Spoiled}
use Rattle.transfer_form.specs.declared.transfer.StateAsk.{StateAsk}
use Rattle.transfer_form.specs.declared.transfer.StatePart.{StatePart}
use Rattle.vote_book.specs.declared.entry.Decision.{Decision}
use Rattle.node_rules.specs.Arrivals.{kept, noted}
use Rattle.node_rules.specs.Changes.{adopts_by, adoption, adopts, asks_next, joining, joins, promising, promise_next, promises, leading, lead_with, leads, lags, asks_state, timing, passes_on, presses, times}
use Rattle.node_rules.specs.Marks.{mark_place, firm_at}
use Rattle.node_rules.specs.Nodes.{Node, holding, holding_all, enters}
use Rattle.node_rules.specs.Rules.{reply_of, replying, lines_to_answer, deliver_batch, delivers, proposing, propose_batch, proposes, writing, write_batch, writes, accepting, accept_batch, accepts, deciding, decide_batch, decides, answering, answer_line, answers_again}
use Rattle.node_rules.specs.Steps.{step_of, takes_in}
use Rattle.node_rules.specs.Transfers.{install_by, install_fetch, install_replica, installing, installs, is_of_group, spoil, offers_state, gives_parts, answers_state, planning, follow_plan, plans, offer_for, part_messages, shown_after}
use Rattle.node_rules.specs.declared.node.Asked.{Asked}
use Rattle.node_rules.specs.declared.node.Target.{Target}
use Rattle.node_rules.specs.declared.node.Target.TheVariants as targets
use Rattle.node_rules.proofs.Rulewise.{KeptByRules, ForEvent, keeps_step, takes_in_as}
use Rattle.agreement_laws.proofs.Lists.{either, each_end}

-- a part of bytes, if a message is one
abbrev pub IsBytesIn : Message → Type 0
IsBytesIn (changes.StatePart p) = IsBytes p.bytes
IsBytesIn m = Unit {0}

-- parts of bytes, for a plan if there is one
abbrev pub ArePartsBytes : Option Fetch → Type 0
ArePartsBytes fetch = IfSome fetch (λ (f : Fetch). Each (λ (p : StatePart). IsBytes p.bytes) f.parts)

abbrev Bytes : {S : Type 0} → Node S → Type 0
Bytes n = ArePartsBytes n.fetch

-- ---- rules

bytes-adopts_by : {S : Type 0} (n : Node S) (sync : Option (SignedBy Sync)) → Bytes n → Bytes (adopts_by n sync)
unfolding adopts_by
bytes-adopts_by n None is = is
bytes-adopts_by n (Some sync) is = is

bytes-adopts : {S : Type 0} (n : Node S) → Bytes n → Bytes (adopts n)
unfolding adopts
bytes-adopts n is = bytes-adopts_by n (adoption n) is

bytes-joins : {S : Type 0} (n : Node S) → Bytes n → Bytes (joins n)
unfolding joins
bytes-joins {S = S} n is = either (λ (x : Node S). Bytes x) (joining n) (asks_next n) n is is

bytes-promises : {S : Type 0} (n : Node S) → Bytes n → Bytes (promises n)
unfolding promises promise_next
bytes-promises {S = S} n is = either (λ (x : Node S). Bytes x) (promising n) (promise_next n) n is is

bytes-lead_with : {S : Type 0} (n : Node S) (collect : Option (List (SignedBy Report))) → Bytes n → Bytes (lead_with n collect)
unfolding lead_with
bytes-lead_with n None is = is
bytes-lead_with n (Some collect) is = is

bytes-leads : {S : Type 0} (n : Node S) → Bytes n → Bytes (leads n)
unfolding leads
bytes-leads n is = bytes-lead_with n (leading n) is

bytes-propose_batch : {S : Type 0} (n : Node S) (batch : Option Batch) → Bytes n → Bytes (propose_batch n batch)
unfolding propose_batch
bytes-propose_batch n None is = is
bytes-propose_batch n (Some batch) is = is

bytes-proposes : {S : Type 0} (n : Node S) → Bytes n → Bytes (proposes n)
unfolding proposes
bytes-proposes n is = bytes-propose_batch n (proposing n) is

bytes-write_batch : {S : Type 0} (n : Node S) (p : Option Proposed) → Bytes n → Bytes (write_batch n p)
unfolding write_batch
bytes-write_batch n None is = is
bytes-write_batch n (Some p) is = is

bytes-writes : {S : Type 0} (n : Node S) → Bytes n → Bytes (writes n)
unfolding writes
bytes-writes n is = bytes-write_batch n (writing n) is

bytes-accept_batch : {S : Type 0} (n : Node S) (p : Option Proposed) → Bytes n → Bytes (accept_batch n p)
unfolding accept_batch
bytes-accept_batch n None is = is
bytes-accept_batch n (Some p) is = is

bytes-accepts : {S : Type 0} (n : Node S) → Bytes n → Bytes (accepts n)
unfolding accepts
bytes-accepts n is = bytes-accept_batch n (accepting n) is

bytes-decide_batch : {S : Type 0} (n : Node S) (d : Option Decision) → Bytes n → Bytes (decide_batch n d)
unfolding decide_batch
bytes-decide_batch n None is = is
bytes-decide_batch n (Some d) is = is

bytes-decides : {S : Type 0} (n : Node S) → Bytes n → Bytes (decides n)
unfolding decides
bytes-decides n is = bytes-decide_batch n (deciding n) is

bytes-passes_on : {S : Type 0} (n : Node S) (pool : List (SignedBy Request)) → Bytes n → Bytes (passes_on n pool)
bytes-passes_on n [] is = is
bytes-passes_on n (q ∷ qs) is = is

bytes-times : {S : Type 0} (n : Node S) → Bytes n → Bytes (times n)
unfolding times presses asks_state
bytes-times {S = S} n is =
    either (λ (x : Node S). Bytes x) (lags n) (asks_state n) _ tt
    (either (λ (x : Node S). Bytes x) (timing n) _ n
    (either (λ (x : Node S). Bytes x) n.impatient (asks_next n) (passes_on (record n { impatient = true }) n.pool) is (bytes-passes_on (record n { impatient = true }) n.pool is)) is)

bytes-answer_line : {S : Type 0} (n : Node S) (line : Option Execution) → Bytes n → Bytes (answer_line n line)
unfolding answer_line
bytes-answer_line n None is = is
bytes-answer_line n (Some line) is = is

bytes-answers_again : {S : Type 0} (n : Node S) (asked : Asked) → Bytes n → Bytes (answers_again n asked)
unfolding answers_again
bytes-answers_again n asked is = bytes-answer_line n (answering n asked) is

bytes-holding_all : {S : Type 0} (messages : List Message) (n : Node S) (to : Target) → Bytes n → Bytes (holding_all n to messages)
bytes-holding_all [] n to is = is
bytes-holding_all (m ∷ ms) n to is = bytes-holding_all ms (holding n to m) to is

bytes-answers_state : {S : Type 0} (n : Node S) (a : StateAsk) → Bytes n → Bytes (answers_state n a)
unfolding answers_state offers_state gives_parts
bytes-answers_state {S = S} n a is =
    either (λ (x : Node S). Bytes x) (a.fetch == 0) (offers_state n a) (gives_parts n a)
    (bytes-holding_all (changes.StateOffer (offer_for n a.place) ∷ shown_after n a.place) n (targets.Node a.member) is)
    (bytes-holding_all (part_messages (firm_at n a.fetch)) n (targets.Node a.member) is)

bytes-follow_plan : {S : Type 0} (n : Node S) (plan : Option Plan) → Bytes n → Bytes (follow_plan n plan)
unfolding follow_plan
bytes-follow_plan n None is = is
bytes-follow_plan n (Some p) is = tt

bytes-plans : {S : Type 0} (n : Node S) → Bytes n → Bytes (plans n)
unfolding plans
bytes-plans n is = bytes-follow_plan n (planning n) is

-- ---- deliveries, and installations

bytes-replying : {S : Type 0} (n : Node S) (lines : List Execution) → Bytes n → Bytes (replying n lines)
bytes-replying n [] is = is
bytes-replying n (l ∷ ls) is = bytes-replying (holding n (targets.Client l.client) (reply_of n.secret n.id l)) ls is

bytes-deliver_batch : {S : Type 0} (m : Meaning S) (n : Node S) (batch : Option Batch) → Bytes n → Bytes (deliver_batch m n batch)
unfolding deliver_batch
bytes-deliver_batch m n None is = is
bytes-deliver_batch {S = S} m n (Some batch) is =
    let r : Replica S = delivered m n.replica batch in
    bytes-replying (enters n (record n { replica = r; waiting = None; pool = settled r.table n.pool; impatient = false })) (lines_to_answer m n batch) is

bytes-delivers : {S : Type 0} (m : Meaning S) (n : Node S) → Bytes n → Bytes (delivers m n)
unfolding delivers
bytes-delivers m n is = bytes-deliver_batch m n n.waiting is

bytes-mark : {S : Type 0} (m : Meaning S) (n : Node S) → Bytes n → Bytes (mark_place m n)
unfolding mark_place
bytes-mark m n is = is

bytes-install_by : {S : Type 0} (n : Node S) (f : Fetch) (made : Result (Replica S) Spoiled) → Bytes (install_by n f made)
unfolding install_replica spoil
bytes-install_by {S = S} n f (Ok r) = either (λ (x : Node S). Bytes x) (is_of_group n r) (install_replica n f r) (spoil n f) tt tt
bytes-install_by n f (Err why) = tt

bytes-install_fetch : {S : Type 0} (m : Meaning S) (n : Node S) (due : Option Fetch) → Bytes n → Bytes (install_fetch m n due)
unfolding install_fetch
bytes-install_fetch m n None is = is
bytes-install_fetch m n (Some f) is = bytes-install_by n f (finished m f)

bytes-installs : {S : Type 0} (m : Meaning S) (n : Node S) → Bytes n → Bytes (installs m n)
unfolding installs
bytes-installs m n is = bytes-install_fetch m n (installing n) is

-- ---- what comes

bytes-noted : {S : Type 0} (n : Node S) (message : Message) → Bytes n → Bytes (noted n message)
unfolding noted
bytes-noted n message is = is

part-kept : (p : StatePart) (fetch : Option Fetch) → IsBytes p.bytes → ArePartsBytes fetch → ArePartsBytes (option_map (λ (f : Fetch). kept_unless None f p) fetch)
part-kept p None are is = tt
part-kept p (Some f) are is = each_end (λ (x : StatePart). IsBytes x.bytes) f.parts p is are

bytes-kept : {S : Type 0} (n : Node S) (message : Message) → IsBytesIn message → Bytes n → Bytes (kept n message)
unfolding kept
bytes-kept {S = S} n (Ask q) may is = either (λ (x : Node S). Bytes x) (is_next n.replica.table q.statement) (record n { pool = offered n.pool q }) n is is
bytes-kept n (Reply a) may is = is
bytes-kept n (changes.StateAsk a) may is = is
bytes-kept n (changes.StatePart p) may is = part-kept p n.fetch may is
bytes-kept n _ may is = is

-- ---- steps

bytes-rules : {S : Type 0} → KeptByRules {S = S} (λ n. ArePartsBytes n.fetch)
bytes-rules = record {
  by_adopts = λ n is. bytes-adopts n is;
  by_joins = λ n is. bytes-joins n is;
  by_promises = λ n is. bytes-promises n is;
  by_leads = λ n is. bytes-leads n is;
  by_proposes = λ n is. bytes-proposes n is;
  by_writes = λ n is. bytes-writes n is;
  by_accepts = λ n is. bytes-accepts n is;
  by_decides = λ n is. bytes-decides n is;
  by_times = λ n is. bytes-times n is;
  by_answers = λ n asked is. bytes-answers_again n asked is;
  by_states = λ n a is. bytes-answers_state n a is;
  by_plans = λ n is. bytes-plans n is;
}

-- what takes an event in keeps that
pub parts-takes_in : {S : Type 0} (n : Node S) (event : NodeEvent) → ForEvent IsBytesIn event → ArePartsBytes n.fetch → ArePartsBytes (takes_in n event).node.fetch
parts-takes_in {S = S} n event may is =
    takes_in_as (λ (x : Node S). ArePartsBytes x.fetch) IsBytesIn n event (λ message. bytes-noted n message is)
    (λ message none came. bytes-kept (noted n message) message came (bytes-noted n message is)) (λ count. is) may is

-- so does a step
pub parts-step : {S : Type 0} (m : Meaning S) (n : Node S) (event : NodeEvent) → ForEvent IsBytesIn event → ArePartsBytes n.fetch → ArePartsBytes (step_of m n event).node.fetch
parts-step {S = S} m n event may is =
    keeps_step m (λ (x : Node S). ArePartsBytes x.fetch) IsBytesIn n event
    (record {
      by_rules = bytes-rules;
      by_noted = λ x message are. bytes-noted x message are;
      by_kept = λ x message fine came are. bytes-kept x message came are;
      by_installs = λ x are. bytes-installs m x are;
      by_delivers = λ x are. bytes-delivers m x are;
      by_marks = λ x waits are done. bytes-mark m (delivers m x) done;
      by_firm = λ x count are. are;
    }) may is
