-- The text that the parts of a plan are joined to, once all are there, was met. Each step keeps that.
use Rattle.std.proofs.Common.{◌≡◌, ℕ, zero, suc, ◌++◌, ◌∙◌, ◌==◌, Bool, true, false, cond, List, [], ◌∷◌, refl, ap, sym, subst, Option, Some, None, IfSome, is_some, Result, Ok, Err}
use Rattle.std.specs.Prelude.{option_map, option_to_list}
use Rattle.smart_base.specs.Lists.{Each}
use Rattle.smart_statements.specs.Batches.{Batch}
use Rattle.smart_statements.specs.Forms.{SignedBy}
use Rattle.smart_statements.specs.declared.entry.NodeEvent.{NodeEvent}
use Rattle.smart_statements.specs.declared.entry.NodeEvent.TheVariants.{Arrive, Deliver, Firm, Tick}
use Rattle.smart_statements.specs.declared.report.Report.{Report}
use Rattle.smart_statements.specs.declared.statement.Request.{Request}
use Rattle.smart_messages.specs.Messages.{decoded}
use Rattle.smart_messages.specs.declared.message.Message.{Message}
use Rattle.smart_messages.specs.declared.message.Message.TheVariants.{Ask, Propose, Reply, Vote}
use Rattle.smart_messages.specs.declared.message.Message.TheVariants as changes
use Rattle.smart_messages.specs.declared.message.Proposed.{Proposed}
use Rattle.smart_messages.specs.declared.regency.Sync.{Sync}
use Rattle.smart_service.specs.Services.{Meaning}
use Rattle.smart_service.specs.declared.replica.Replica.{Replica}
use Rattle.smart_service.specs.declared.table.Execution.{Execution}
use Rattle.snapshot_form.specs.Snapshots.{parts_at, restored}
use Rattle.smart_base.specs.Cuts.{number_at, ranged, whole}
use Rattle.state_transfer.specs.Fetches.{are_all_there, completed, completed_unless, finished, joined, joined_if, joined_of, kept_unless, part_fault, pieces_of}
use Rattle.state_transfer.specs.declared.choice.Plan.{Plan}
use Rattle.state_transfer.specs.declared.fetch.Fetch.{Fetch}
use Rattle.state_transfer.specs.declared.fetch.Ignored.{Ignored}
use Rattle.state_transfer.specs.declared.fetch.Spoiled.{Spoiled}
use Rattle.transfer_form.specs.declared.transfer.StateAsk.{StateAsk}
use Rattle.transfer_form.specs.declared.transfer.StatePart.{StatePart}
use Rattle.vote_book.specs.declared.entry.Decision.{Decision}
use Rattle.replica_rules.specs.Pools.{offered, settled}
use Rattle.replica_rules.specs.Replicas.{delivered, is_next}
use Rattle.agreement_laws.proofs.Lists.{either}
use Rattle.node_laws.proofs.Planning.{IsTakenFrom}
use Rattle.node_rules.specs.Arrivals.{kept, noted, part_why, why_dropped, why_ignored, why_part}
use Rattle.node_rules.specs.Changes.{adoption, adopts, adopts_by, asks_next, asks_state, joining, joins, lags, lead_with, leading, leads, passes_on, presses, promise_next, promises, promising, times, timing}
use Rattle.node_rules.specs.Marks.{firm_at, mark_place}
use Rattle.node_rules.specs.Nodes.{Node, holding, holding_all, enters}
use Rattle.node_rules.specs.Rules.{accept_batch, accepting, accepts, answer_line, answering, answers_again, decide_batch, decides, deciding, deliver_batch, delivers, lines_to_answer, propose_batch, proposes, proposing, replies_with, replying, write_batch, writes, writing}
use Rattle.node_rules.specs.Steps.{step_of, takes_in}
use Rattle.node_rules.specs.Transfers.{answers_state, completed_by, completed_for, completed_in, follow_plan, gives_parts, install_by, install_fetch, install_replica, installing, installs, is_of_group, offer_for, offers_state, part_messages, planning, plans, shown_after, spoil}
use Rattle.node_rules.specs.declared.node.Asked.{Asked}
use Rattle.node_rules.specs.declared.node.Target.{Target}
use Rattle.node_rules.specs.declared.node.Target.TheVariants as targets
use Rattle.node_rules.proofs.Rulewise.{ForEvent, ForRead, KeptByRules, by_mark, keeps_from, takes_in_as}
use Rattle.world_rules.specs.declared.message.Sent.{Sent}
use Rattle.world_laws.proofs.NoClash.{IsTextMet}

-- the joined text of a plan whose parts are all there was met, if there is a part
abbrev pub IsFetchMet : List Sent → List (List ℕ) → Option Fetch → Type 0
IsFetchMet sent marked fetch = IfSome fetch (λ (f : Fetch). are_all_there f ≡ true → (joined_of f ≡ [] → ⊥) → IsTextMet sent marked (joined_of f))

-- it stays so where more is met
pub fetch-longer : (sent sent' : List Sent) (marked marked' : List (List ℕ)) → ((text : List ℕ) → IsTextMet sent marked text → IsTextMet sent' marked' text) → (fetch : Option Fetch) → IsFetchMet sent marked fetch
    → IsFetchMet sent' marked' fetch
fetch-longer sent sent' marked marked' more None is = tt
fetch-longer sent sent' marked marked' more (Some f) is = λ all some. more (joined_of f) (is all some)

-- no bytes are no replica's
none_read : {S : Type 0} (m : Meaning S) → restored m [] ≡ None
unfolding parts_at whole ranged number_at
none_read m = refl

-- so a plan of which a replica comes has a part
pub some-joined : {S : Type 0} (m : Meaning S) (f : Fetch) (r : Replica S) → IsTakenFrom m f r → joined_of f ≡ [] → ⊥
some-joined {S = S} m f r taken none = apart (sym (none_read m) ∙ (sym (ap (λ (bytes : List ℕ). restored m bytes) none) ∙ taken.read))
  where
    apart : ◌≡◌ {A = Option (Replica S)} None (Some r) → ⊥
    apart same = cc

-- ---- a plan that begins

joined_none : (n : ℕ) → joined [] n ≡ []
joined_none zero = refl
joined_none (suc n) = ap (λ (bytes : List ℕ). bytes ++ []) (joined_none n)

begins_none : (p : Plan) → joined_of (record { plan = p; parts = [] }) ≡ []
unfolding joined_of
begins_none p = joined_none (pieces_of p.size)

begins-met : (sent : List Sent) (marked : List (List ℕ)) (p : Plan) → IsFetchMet sent marked (Some (record { plan = p; parts = [] }))
begins-met sent marked p = λ all some. absurd (some (begins_none p))

-- ---- what is taken in

-- the part that completes a plan
part-met : (sent : List Sent) (marked : List (List ℕ)) (p : StatePart) (fetch : Option Fetch) → part_why fetch p ≡ None → Each (IsTextMet sent marked) (completed_for fetch p)
    → IsFetchMet sent marked (option_map (λ (f : Fetch). kept_unless None f p) fetch)
unfolding completed
part-met sent marked p None why met = tt
part-met sent marked p (Some f) why met =
    let g : Fetch = kept_unless None f p in
    λ all some.
    let text : completed f p ≡ Some (joined_of g) = by (part_fault f p) why ∙ there (are_all_there g) all in
    (subst (λ (o : Option (List ℕ)). Each (IsTextMet sent marked) (option_to_list o)) text met).0
  where
    by : (fault : Option Ignored) → option_map why_ignored fault ≡ None → completed_unless fault f p ≡ joined_if (kept_unless None f p)
    by None none = refl
    by (Some ignored) none = absurd (cc)

    there : (t : Bool) → t ≡ true → cond t (Some (joined_of (kept_unless None f p))) None ≡ Some (joined_of (kept_unless None f p))
    there true is = refl
    there false is = absurd (cc)

same-noted : {S : Type 0} (n : Node S) (message : Message) → (noted n message).fetch ≡ n.fetch
unfolding noted
same-noted n message = refl

kept-met : {S : Type 0} (sent : List Sent) (marked : List (List ℕ)) (n : Node S) (message : Message) → why_dropped n message ≡ None → Each (IsTextMet sent marked) (completed_in n (Ok message)) → IsFetchMet sent marked n.fetch
    → IsFetchMet sent marked (kept (noted n message) message).fetch
unfolding kept noted why_part
kept-met {S = S} sent marked n (Ask q) why met is =
    either (λ (x : Node S). IsFetchMet sent marked x.fetch) (is_next n.replica.table q.statement) (record (noted n (Ask q)) { pool = offered n.pool q }) (noted n (Ask q)) is is
kept-met sent marked n (Propose p) why met is = is
kept-met sent marked n (Vote b) why met is = is
kept-met sent marked n (changes.Stop s) why met is = is
kept-met sent marked n (changes.StopData r) why met is = is
kept-met sent marked n (changes.Sync s) why met is = is
kept-met sent marked n (changes.Decision d) why met is = is
kept-met sent marked n (Reply a) why met is = is
kept-met sent marked n (changes.Mark k) why met is = is
kept-met sent marked n (changes.StateAsk a) why met is = is
kept-met sent marked n (changes.StateOffer o) why met is = is
kept-met sent marked n (changes.StatePart p) why met is = part-met sent marked p n.fetch why met
kept-met sent marked n (changes.ViewTold i) why met is = is

for_completed : {S : Type 0} (P : List ℕ → Type 0) (n : Node S) (event : NodeEvent) → Each P (completed_by n event) → ForEvent (λ message. Each P (completed_in n (Ok message))) event
unfolding completed_by
for_completed {S = S} P n (Arrive bytes) is = by (decoded bytes) is
  where
    by : (read : Result Message ℕ) → Each P (completed_in n read) → ForRead (λ message. Each P (completed_in n (Ok message))) read
    by (Ok message) each = each
    by (Err at) each = tt
for_completed P n Tick is = tt
for_completed P n Deliver is = tt
for_completed P n (Firm count) is = tt

pub fetch-taken : {S : Type 0} (sent : List Sent) (marked : List (List ℕ)) (n : Node S) (event : NodeEvent) → Each (IsTextMet sent marked) (completed_by n event) → IsFetchMet sent marked n.fetch
    → IsFetchMet sent marked (takes_in n event).node.fetch
fetch-taken {S = S} sent marked n event met is =
    takes_in_as (λ (x : Node S). IsFetchMet sent marked x.fetch) (λ message. Each (IsTextMet sent marked) (completed_in n (Ok message))) n event
    (λ message. subst (λ (o : Option Fetch). IsFetchMet sent marked o) (sym (same-noted n message)) is) (λ message none may. kept-met sent marked n message none may is) (λ count. is)
    (for_completed (IsTextMet sent marked) n event met) is

-- ---- rules that leave it

same-adopts_by : {S : Type 0} (n : Node S) (sync : Option (SignedBy Sync)) → (adopts_by n sync).fetch ≡ n.fetch
unfolding adopts_by
same-adopts_by n None = refl
same-adopts_by n (Some sync) = refl

same-adopts : {S : Type 0} (n : Node S) → (adopts n).fetch ≡ n.fetch
unfolding adopts
same-adopts n = same-adopts_by n (adoption n)

same-joins : {S : Type 0} (n : Node S) → (joins n).fetch ≡ n.fetch
unfolding joins
same-joins {S = S} n = either (λ (x : Node S). x.fetch ≡ n.fetch) (joining n) (asks_next n) n refl refl

same-promises : {S : Type 0} (n : Node S) → (promises n).fetch ≡ n.fetch
unfolding promises promise_next
same-promises {S = S} n = either (λ (x : Node S). x.fetch ≡ n.fetch) (promising n) (promise_next n) n refl refl

same-lead_with : {S : Type 0} (n : Node S) (collect : Option (List (SignedBy Report))) → (lead_with n collect).fetch ≡ n.fetch
unfolding lead_with
same-lead_with n None = refl
same-lead_with n (Some collect) = refl

same-leads : {S : Type 0} (n : Node S) → (leads n).fetch ≡ n.fetch
unfolding leads
same-leads n = same-lead_with n (leading n)

same-propose_batch : {S : Type 0} (n : Node S) (batch : Option Batch) → (propose_batch n batch).fetch ≡ n.fetch
unfolding propose_batch
same-propose_batch n None = refl
same-propose_batch n (Some batch) = refl

same-proposes : {S : Type 0} (n : Node S) → (proposes n).fetch ≡ n.fetch
unfolding proposes
same-proposes n = same-propose_batch n (proposing n)

same-write_batch : {S : Type 0} (n : Node S) (p : Option Proposed) → (write_batch n p).fetch ≡ n.fetch
unfolding write_batch
same-write_batch n None = refl
same-write_batch n (Some p) = refl

same-writes : {S : Type 0} (n : Node S) → (writes n).fetch ≡ n.fetch
unfolding writes
same-writes n = same-write_batch n (writing n)

same-accept_batch : {S : Type 0} (n : Node S) (p : Option Proposed) → (accept_batch n p).fetch ≡ n.fetch
unfolding accept_batch
same-accept_batch n None = refl
same-accept_batch n (Some p) = refl

same-accepts : {S : Type 0} (n : Node S) → (accepts n).fetch ≡ n.fetch
unfolding accepts
same-accepts n = same-accept_batch n (accepting n)

same-decide_batch : {S : Type 0} (n : Node S) (d : Option Decision) → (decide_batch n d).fetch ≡ n.fetch
unfolding decide_batch
same-decide_batch n None = refl
same-decide_batch n (Some d) = refl

same-decides : {S : Type 0} (n : Node S) → (decides n).fetch ≡ n.fetch
unfolding decides
same-decides n = same-decide_batch n (deciding n)

same-passes_on : {S : Type 0} (n : Node S) (pool : List (SignedBy Request)) → (passes_on n pool).fetch ≡ n.fetch
same-passes_on n [] = refl
same-passes_on n (q ∷ qs) = refl

same-presses : {S : Type 0} (n : Node S) → (presses n).fetch ≡ n.fetch
unfolding presses
same-presses {S = S} n =
    either (λ (x : Node S). x.fetch ≡ n.fetch) n.impatient (asks_next n) (passes_on (record n { impatient = true }) n.pool) refl (same-passes_on (record n { impatient = true }) n.pool)

same-answer_line : {S : Type 0} (n : Node S) (line : Option Execution) → (answer_line n line).fetch ≡ n.fetch
unfolding answer_line
same-answer_line n None = refl
same-answer_line n (Some line) = refl

same-answers_again : {S : Type 0} (n : Node S) (asked : Asked) → (answers_again n asked).fetch ≡ n.fetch
unfolding answers_again
same-answers_again n asked = same-answer_line n (answering n asked)

same-holding_all : {S : Type 0} (messages : List Message) (n : Node S) (to : Target) → (holding_all n to messages).fetch ≡ n.fetch
same-holding_all [] n to = refl
same-holding_all (m ∷ ms) n to = same-holding_all ms (holding n to m) to

same-answers_state : {S : Type 0} (n : Node S) (a : StateAsk) → (answers_state n a).fetch ≡ n.fetch
unfolding answers_state offers_state gives_parts
same-answers_state {S = S} n a =
    either (λ (x : Node S). x.fetch ≡ n.fetch) (a.fetch == 0) (offers_state n a) (gives_parts n a)
    (same-holding_all (changes.StateOffer (offer_for n a.place) ∷ shown_after n a.place) n (targets.Node a.member))
    (same-holding_all (part_messages (firm_at n a.fetch)) n (targets.Node a.member))

same-replying : {S : Type 0} (lines : List Execution) (n : Node S) → (replying n lines).fetch ≡ n.fetch
same-replying [] n = refl
same-replying (line ∷ lines) n = same-replying lines (replies_with n line)

same-deliver_batch : {S : Type 0} (m : Meaning S) (n : Node S) (batch : Option Batch) → (deliver_batch m n batch).fetch ≡ n.fetch
unfolding deliver_batch
same-deliver_batch m n None = refl
same-deliver_batch m n (Some batch) =
    same-replying (lines_to_answer m n batch) (enters n (record n { replica = delivered m n.replica batch; waiting = None; pool = settled (delivered m n.replica batch).table n.pool; impatient = false }))

same-delivers : {S : Type 0} (m : Meaning S) (n : Node S) → (delivers m n).fetch ≡ n.fetch
unfolding delivers
same-delivers m n = same-deliver_batch m n n.waiting

same-mark : {S : Type 0} (m : Meaning S) (n : Node S) → (mark_place m n).fetch ≡ n.fetch
unfolding mark_place
same-mark m n = refl

-- ---- rules that end it, or begin one

by-asks_state : {S : Type 0} (F : Option Fetch → Type 0) → F None → (n : Node S) → F (asks_state n).fetch
unfolding asks_state
by-asks_state F none n = none

by-times : {S : Type 0} (F : Option Fetch → Type 0) → F None → (n : Node S) → F n.fetch → F (times n).fetch
unfolding times
by-times {S = S} F none n is =
    either (λ (x : Node S). F x.fetch) (lags n) (asks_state n) _ (by-asks_state F none n)
    (either (λ (x : Node S). F x.fetch) (timing n) (presses n) n (subst F (sym (same-presses n)) is) is)

by-follow_plan : {S : Type 0} (F : Option Fetch → Type 0) → ((p : Plan) → F (Some (record { plan = p; parts = [] }))) → (n : Node S) (plan : Option Plan) → F n.fetch → F (follow_plan n plan).fetch
unfolding follow_plan
by-follow_plan F begins n None is = is
by-follow_plan F begins n (Some p) is = begins p

by-plans : {S : Type 0} (F : Option Fetch → Type 0) → ((p : Plan) → F (Some (record { plan = p; parts = [] }))) → (n : Node S) → F n.fetch → F (plans n).fetch
unfolding plans
by-plans F begins n is = by-follow_plan F begins n (planning n) is

by-install_by : {S : Type 0} (F : Option Fetch → Type 0) → F None → (n : Node S) (f : Fetch) (made : Result (Replica S) Spoiled) → F (install_by n f made).fetch
unfolding install_replica spoil
by-install_by {S = S} F none n f (Ok r) = either (λ (x : Node S). F x.fetch) (is_of_group n r) (install_replica n f r) (spoil n f) none none
by-install_by F none n f (Err why) = none

by-install_fetch : {S : Type 0} (F : Option Fetch → Type 0) → F None → (m : Meaning S) (n : Node S) (due : Option Fetch) → F n.fetch → F (install_fetch m n due).fetch
unfolding install_fetch
by-install_fetch F none m n None is = is
by-install_fetch F none m n (Some f) is = by-install_by F none n f (finished m f)

by-installs : {S : Type 0} (F : Option Fetch → Type 0) → F None → (m : Meaning S) (n : Node S) → F n.fetch → F (installs m n).fetch
unfolding installs
by-installs F none m n is = by-install_fetch F none m n (installing n) is

-- what holds of no fetch, of a plan that begins, and of the fetch of what was taken in, holds of the fetch behind the step
fetch-rules : {S : Type 0} (m : Meaning S) (F : Option Fetch → Type 0) → F None → ((p : Plan) → F (Some (record { plan = p; parts = [] }))) → KeptByRules (λ (x : Node S). F x.fetch)
fetch-rules m F none begins = record {
  by_adopts = λ n is. subst F (sym (same-adopts n)) is;
  by_joins = λ n is. subst F (sym (same-joins n)) is;
  by_promises = λ n is. subst F (sym (same-promises n)) is;
  by_leads = λ n is. subst F (sym (same-leads n)) is;
  by_proposes = λ n is. subst F (sym (same-proposes n)) is;
  by_writes = λ n is. subst F (sym (same-writes n)) is;
  by_accepts = λ n is. subst F (sym (same-accepts n)) is;
  by_decides = λ n is. subst F (sym (same-decides n)) is;
  by_times = λ n is. by-times F none n is;
  by_answers = λ n asked is. subst F (sym (same-answers_again n asked)) is;
  by_states = λ n a is. subst F (sym (same-answers_state n a)) is;
  by_plans = λ n is. by-plans F begins n is;
}

fetch-behind : {S : Type 0} (m : Meaning S) (F : Option Fetch → Type 0) → F None → ((p : Plan) → F (Some (record { plan = p; parts = [] }))) → (n : Node S) (event : NodeEvent) → F (takes_in n event).node.fetch
    → F (step_of m n event).node.fetch
fetch-behind {S = S} m F none begins n event is =
    let t : Node S = (takes_in n event).node in
    let i : Node S = installs m t in
    let installed : F i.fetch = by-installs F none m t is in
    let done : F (delivers m i).fetch = subst F (sym (same-delivers m i)) installed in
    keeps_from m (λ (x : Node S). F x.fetch) n event (fetch-rules m F none begins) is installed
    (by_mark m (λ (x : Node S). F x.fetch) (is_some i.waiting) (delivers m i) done (λ due. subst F (sym (same-mark m (delivers m i))) done))

pub fetch-step : {S : Type 0} (m : Meaning S) (sent : List Sent) (marked : List (List ℕ)) (n : Node S) (event : NodeEvent) → IsFetchMet sent marked (takes_in n event).node.fetch
    → IsFetchMet sent marked (step_of m n event).node.fetch
fetch-step m sent marked n event is = fetch-behind m (IsFetchMet sent marked) tt (begins-met sent marked) n event is
