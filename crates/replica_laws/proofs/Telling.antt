-- Each reply that a node holds tells an execution that the node knows: of a batch that it delivered, or of the table of a replica that it began
-- with or took over.
use Rattle.std.proofs.Common.{◌≡◌, ℕ, ◌+◌, ◌++◌, ◌∙◌, ◌==◌, ⊎_elim, ap, nat_le, Bool, true, false, cond, List, [], ◌∷◌, length, sym, subst, refl, inl, inr, Option, Some, None, Result, Ok, Err, is_some, take, drop, append-nil, append_assoc}
use Rattle.std.proofs.lemmas.List.{take-append-drop}
use Rattle.std.proofs.lemmas.Grind.{flat_map-append}
use Rattle.std.specs.List.{flat_map, filter_map}
use Rattle.std.specs.Prelude.{map, option_map}
use Rattle.smart_base.specs.Lists.{Each}
use Rattle.smart_base.specs.Views.{View, is_member}
use Rattle.smart_base.proofs.ViewFacts.{each-weaken}
use Rattle.smart_statements.specs.Forms.{SignedBy}
use Rattle.smart_statements.specs.Batches.{Batch}
use Rattle.smart_statements.specs.declared.statement.Request.{Request}
use Rattle.smart_statements.specs.declared.report.Report.{Report}
use Rattle.smart_statements.specs.declared.entry.NodeEvent.{NodeEvent}
use Rattle.smart_messages.specs.declared.regency.Sync.{Sync}
use Rattle.smart_messages.specs.declared.message.Proposed.{Proposed}
use Rattle.smart_messages.specs.declared.message.Message.{Message}
use Rattle.smart_messages.specs.declared.message.Message.TheVariants.{Ask, Reply}
use Rattle.smart_messages.specs.declared.message.Message.TheVariants as changes
use Rattle.transfer_form.specs.declared.transfer.StateAsk.{StateAsk}
use Rattle.transfer_form.specs.declared.transfer.StatePart.{StatePart}
use Rattle.state_transfer.specs.Fetches.{finished}
use Rattle.state_transfer.specs.Seeds.{seeds}
use Rattle.state_transfer.specs.declared.choice.Plan.{Plan}
use Rattle.state_transfer.specs.declared.fetch.Fetch.{Fetch}
use Rattle.state_transfer.specs.declared.fetch.Spoiled.{Spoiled}
use Rattle.snapshot_form.specs.Snapshots.{snapshot_text}
use Rattle.smart_service.specs.Services.{Meaning}
use Rattle.smart_service.specs.Tables.{kept_in}
use Rattle.smart_service.specs.declared.replica.Replica.{Replica}
use Rattle.smart_service.specs.declared.table.Execution.{Execution}
use Rattle.vote_book.specs.declared.entry.Decision.{Decision}
use Rattle.replica_rules.specs.Pools.{offered, settled}
use Rattle.replica_rules.specs.Replicas.{is_next, delivered, executed_lines, executions, empty, state, batch_at}
use Rattle.node_rules.specs.Rules.{reply_of, replying, lines_to_answer, deliver_batch, delivers, delivery, proposing, propose_batch, proposes, writing, write_batch, writes, accepting, accept_batch, accepts, deciding, decide_batch, decides, replies_with, answering, answer_line, answers_again}
use Rattle.node_rules.specs.Nodes.{Node, view_of, telling, stays_in_view, holding, holding_all, enters}
use Rattle.node_rules.specs.Arrivals.{noted, kept}
use Rattle.node_rules.specs.Changes.{fired_when, adopts_by, adoption, adopts, asks_next, joining, joins, promising, promise_next, promises, leading, lead_with, leads, lags, asks_state, timing, passes_on, presses, times}
use Rattle.node_rules.specs.Deliveries.{delivery_in}
use Rattle.node_rules.specs.Kept.{node_after}
use Rattle.node_rules.specs.Marks.{firm_at, marking, mark_place, marks_place}
use Rattle.node_rules.specs.Steps.{Taken, deliver_row, rules, pass, passed, takes_in, step_of}
use Rattle.node_rules.specs.Transfers.{installing, install_replica, is_of_group, spoil, install_by, install_fetch, installs, decided_at, shown_as, is_shown_place, places_after, shown_at, shown_after, offers_state, part_messages, gives_parts, answers_state, planning, follow_plan, plans, offer_for}
use Rattle.node_rules.specs.declared.node.Asked.{Asked}
use Rattle.node_rules.specs.declared.node.Cause.{Cause}
use Rattle.node_rules.specs.declared.node.Delivery.{Delivery}
use Rattle.node_rules.specs.declared.node.Fired.{Fired}
use Rattle.node_rules.specs.declared.node.Fired.TheVariants as fires
use Rattle.node_rules.specs.declared.node.Held.{Held}
use Rattle.node_rules.specs.declared.node.OwnSnapshot.{OwnSnapshot}
use Rattle.node_rules.specs.declared.node.Target.{Target}
use Rattle.node_rules.specs.declared.node.Target.TheVariants as targets
use Rattle.node_rules.specs.declared.node.Why.{Why}
use Rattle.node_rules.proofs.Rulewise.{told_installed, KeptByRules, by_delivery, by_mark, free-event, keeps_rules, takes_in_as}
use Rattle.agreement_laws.proofs.Lists.{either, each_append, each_end, some_equal}
use Rattle.node_laws.proofs.Lists.{each_filter_map_in}
use Rattle.replica_laws.specs.Bases.{has_installed, lines_after, lines_of}
use Rattle.replica_laws.specs.Lines.{HasLine, HeldRight, HoldsAmong, ReplyAmong, ReplyRight, line_told}
use Rattle.replica_laws.proofs.Again.{ForLine, answering-each, each-after_batches, each-delivered}
use Rattle.replica_laws.proofs.Based.{IsNoBase, told-behind}
use Rattle.replica_laws.proofs.Counted.{Made, made_none, made_new, made_of, none-delivered}
use Rattle.replica_laws.proofs.Entered.{each-telling}
use Rattle.replica_laws.proofs.Executions.{executions-more, executed-at, has_either, has_left, has_right}
use Rattle.replica_laws.proofs.Follows.{WasDue, Waits, due-passed, told-marked, told-passed, waits-takes_in}
use Rattle.replica_laws.proofs.Installs.{installs-none, one-delivery, quiet-installs, takes-installs}
use Rattle.replica_laws.proofs.Leaves.{Leaves, leaves-adopts, leaves-joins, leaves-promises, leaves-leads, leaves-proposes, leaves-writes, leaves-accepts, leaves-times, leaves-answers_again, leaves-answers_state, leaves-plans, leaves-noted, leaves-kept, leaves-mark}
use Rattle.replica_laws.proofs.OnePlace.{each_line}
use Rattle.replica_laws.proofs.Ordered.{none_installed, replica-installed}
use Rattle.replica_laws.proofs.Replying.{replica-decides, replica-replying}

-- a node's replica is the state of a front of a list, and the batch that waits is the list's next
pub record Along {S : Type 0} (m : Meaning S) (view : View) (list : List Batch) (n : Node S) : Type 0 where
  pub replica : n.replica ≡ state m view (take n.replica.place list)
  pub waiting : (batch : Batch) → n.waiting ≡ Some batch → batch_at list (n.replica.place + 1) ≡ Some batch

-- what a reply tells of a list, it tells of a longer one
pub right-more : {S : Type 0} (m : Meaning S) (v : View) (list more : List Batch) (x : Message) → ReplyRight m v list x → ReplyRight m v (list ++ more) x
right-more m v list more (Reply a) right = executions-more m v list more (line_told a.statement) right
right-more m v list more _ right = tt

-- rules of a node

-- what holds of each line among lines, holds of each
pub each_inside : (P : Execution → Type 0) (lines : List Execution) → ((l : Execution) → HasLine lines l → P l) → Each P lines
each_inside P [] inside = tt
each_inside P (l ∷ ls) inside = (inside l (inl refl), each_inside P ls (λ x has. inside x (inr has)))

-- a node that replies with executions holds replies that tell these
held-replying : {S : Type 0} (known : List Execution) (n : Node S) (lines : List Execution) → HoldsAmong known n → Each (HasLine known) lines
    → HoldsAmong known (replying n lines)
held-replying known n [] held each = held
held-replying known n (l ∷ ls) held each =
    held-replying known (holding n (targets.Client l.client) (reply_of n.secret n.id l)) ls
    (each_end (λ (h : Held). ReplyAmong known h.message) n.held (record { to = targets.Client l.client; message = reply_of n.secret n.id l; needs = length n.entries }) held each.0) each.1

-- the lines of the batch that waits are executions of the list along which a node stands
pub waiting_lines : {S : Type 0} (m : Meaning S) (v : View) (chosen : List Batch) (n : Node S) (batch : Batch) → Along m v chosen n → n.waiting ≡ Some batch
    → Each (HasLine (executions m v chosen)) (executed_lines m n.replica batch)
waiting_lines {S = S} m v chosen n batch aligned waits =
    each_inside (HasLine (executions m v chosen)) (executed_lines m n.replica batch)
    (λ l has. executed-at m v chosen n.replica.place batch l (aligned.waiting batch waits) (subst (λ (r : Replica S). HasLine (executed_lines m r batch) l) aligned.replica has))

-- an arrival holds no reply
held-kept : {S : Type 0} (known : List Execution) (n : Node S) (x : Message) → HoldsAmong known n → HoldsAmong known (kept n x)
unfolding kept
held-kept known n (Ask q) held = either (HoldsAmong known) (is_next n.replica.table q.statement) (record n { pool = offered n.pool q }) n held held
held-kept known n _ held = held

-- nor does a node that is told that it is behind
held-noted : {S : Type 0} (known : List Execution) (n : Node S) (x : Message) → HoldsAmong known n → HoldsAmong known (noted n x)
unfolding noted
held-noted known n x held = held

-- the lines of a host's table are executions of the list along which it stands
pub table_lines : {S : Type 0} (m : Meaning S) (v : View) (chosen : List Batch) (n : Node S) → Along m v chosen n → Each (HasLine (executions m v chosen)) (kept_in n.replica.table)
table_lines {S = S} m v chosen n aligned =
    let k : ℕ = n.replica.place in
    subst (λ (r : Replica S). Each (HasLine (executions m v chosen)) (kept_in r.table)) (sym aligned.replica)
    (each-after_batches (HasLine (executions m v chosen)) m (empty m v) (take k chosen) tt
    (each_inside (HasLine (executions m v chosen)) (executions m v (take k chosen))
    (λ l has. subst (λ (list : List Batch). HasLine (executions m v list) l) (take-append-drop k chosen) (executions-more m v (take k chosen) (drop k chosen) l has))))

-- a view that is told is no reply
held-telling : {S : Type 0} (known : List Execution) (n : Node S) (told : Bool) (to : Target) → HoldsAmong known n → HoldsAmong known (telling told to n)
held-telling known n told to held = each-telling (λ (h : Held). ReplyAmong known h.message) n told to held (λ new. tt)

-- an answer again tells these where the lines of the table are these
held-answer_line : {S : Type 0} (known : List Execution) (n : Node S) (line : Option Execution) → ForLine line (HasLine known) → HoldsAmong known n
    → HoldsAmong known (answer_line n line)
unfolding answer_line
held-answer_line known n None right held = held
held-answer_line known n (Some line) right held =
    held-telling known (replies_with n line) (nat_le (length n.replica.views) 1) (targets.Client line.client)
    (each_end (λ (h : Held). ReplyAmong known h.message) n.held (record { to = targets.Client line.client; message = reply_of n.secret n.id line; needs = length n.entries }) held right)

held-answers_again : {S : Type 0} (known : List Execution) (n : Node S) (asked : Asked) → Each (HasLine known) (kept_in n.replica.table) → HoldsAmong known n
    → HoldsAmong known (answers_again n asked)
unfolding answers_again
held-answers_again known n asked lines held = held-answer_line known n (answering n asked) (answering-each (HasLine known) n asked lines) held

-- what changes the regency is no reply
held-asks_next : {S : Type 0} (known : List Execution) (n : Node S) → HoldsAmong known n → HoldsAmong known (asks_next n)
held-asks_next known n held = each_end (λ (h : Held). ReplyAmong known h.message) n.held _ held tt

held-adopts_by : {S : Type 0} (known : List Execution) (n : Node S) (sync : Option (SignedBy Sync)) → HoldsAmong known n → HoldsAmong known (adopts_by n sync)
unfolding adopts_by
held-adopts_by known n None held = held
held-adopts_by known n (Some sync) held = held

held-adopts : {S : Type 0} (known : List Execution) (n : Node S) → HoldsAmong known n → HoldsAmong known (adopts n)
unfolding adopts
held-adopts known n held = held-adopts_by known n (adoption n) held

held-joins : {S : Type 0} (known : List Execution) (n : Node S) → HoldsAmong known n → HoldsAmong known (joins n)
unfolding joins
held-joins known n held = either (HoldsAmong known) (joining n) (asks_next n) n (held-asks_next known n held) held

held-promises : {S : Type 0} (known : List Execution) (n : Node S) → HoldsAmong known n → HoldsAmong known (promises n)
unfolding promises promise_next
held-promises known n held =
    either (HoldsAmong known) (promising n) (promise_next n) n (each_end (λ (h : Held). ReplyAmong known h.message) n.held _ held tt) held

held-lead_with : {S : Type 0} (known : List Execution) (n : Node S) (collect : Option (List (SignedBy Report))) → HoldsAmong known n → HoldsAmong known (lead_with n collect)
unfolding lead_with
held-lead_with known n None held = held
held-lead_with known n (Some collect) held = each_end (λ (h : Held). ReplyAmong known h.message) n.held _ held tt

held-leads : {S : Type 0} (known : List Execution) (n : Node S) → HoldsAmong known n → HoldsAmong known (leads n)
unfolding leads
held-leads known n held = held-lead_with known n (leading n) held

held-passes_on : {S : Type 0} (known : List Execution) (n : Node S) (pool : List (SignedBy Request)) → HoldsAmong known n → HoldsAmong known (passes_on n pool)
held-passes_on known n [] held = held
held-passes_on known n (q ∷ qs) held = each_end (λ (h : Held). ReplyAmong known h.message) n.held _ held tt

held-asks_state : {S : Type 0} (known : List Execution) (n : Node S) → HoldsAmong known n → HoldsAmong known (asks_state n)
unfolding asks_state
held-asks_state known n held = each_end (λ (h : Held). ReplyAmong known h.message) n.held _ held tt

held-times : {S : Type 0} (known : List Execution) (n : Node S) → HoldsAmong known n → HoldsAmong known (times n)
unfolding times presses
held-times {S = S} known n held =
    either (HoldsAmong known) (lags n) (asks_state n) _ (held-asks_state known n held)
    (either (HoldsAmong known) (timing n) _ n
    (either (HoldsAmong known) n.impatient (asks_next n) (passes_on (record n { impatient = true }) n.pool) (held-asks_next known n held)
    (held-passes_on known (record n { impatient = true }) n.pool held)) held)

-- a proposal is no reply
held-propose_batch : {S : Type 0} (known : List Execution) (n : Node S) (batch : Option Batch) → HoldsAmong known n → HoldsAmong known (propose_batch n batch)
unfolding propose_batch
held-propose_batch known n None held = held
held-propose_batch known n (Some batch) held = each_end (λ (h : Held). ReplyAmong known h.message) n.held _ held tt

held-proposes : {S : Type 0} (known : List Execution) (n : Node S) → HoldsAmong known n → HoldsAmong known (proposes n)
unfolding proposes
held-proposes known n held = held-propose_batch known n (proposing n) held

-- a vote to write is no reply
held-write_batch : {S : Type 0} (known : List Execution) (n : Node S) (p : Option Proposed) → HoldsAmong known n → HoldsAmong known (write_batch n p)
unfolding write_batch
held-write_batch known n None held = held
held-write_batch known n (Some p) held = each_end (λ (h : Held). ReplyAmong known h.message) n.held _ held tt

held-writes : {S : Type 0} (known : List Execution) (n : Node S) → HoldsAmong known n → HoldsAmong known (writes n)
unfolding writes
held-writes known n held = held-write_batch known n (writing n) held

-- a vote to accept is no reply
held-accept_batch : {S : Type 0} (known : List Execution) (n : Node S) (p : Option Proposed) → HoldsAmong known n → HoldsAmong known (accept_batch n p)
unfolding accept_batch
held-accept_batch known n None held = held
held-accept_batch known n (Some p) held = each_end (λ (h : Held). ReplyAmong known h.message) n.held _ held tt

held-accepts : {S : Type 0} (known : List Execution) (n : Node S) → HoldsAmong known n → HoldsAmong known (accepts n)
unfolding accepts
held-accepts known n held = held-accept_batch known n (accepting n) held

-- a decision holds nothing
held-decide_batch : {S : Type 0} (known : List Execution) (n : Node S) (d : Option Decision) → HoldsAmong known n → HoldsAmong known (decide_batch n d)
unfolding decide_batch
held-decide_batch known n None held = held
held-decide_batch known n (Some d) held = held

held-decides : {S : Type 0} (known : List Execution) (n : Node S) → HoldsAmong known n → HoldsAmong known (decides n)
unfolding decides
held-decides known n held = held-decide_batch known n (deciding n) held

-- what members exchange to take over a replica is no reply
held-holding_all : {S : Type 0} (known : List Execution) (n : Node S) (to : Target) (messages : List Message) → Each (ReplyAmong known) messages → HoldsAmong known n → HoldsAmong known (holding_all n to messages)
held-holding_all known n to [] each held = held
held-holding_all known n to (x ∷ xs) each held =
    held-holding_all known (holding n to x) to xs each.1 (each_end (λ (h : Held). ReplyAmong known h.message) n.held (record { to = to; message = x; needs = length n.entries }) held each.0)

shown_told : {S : Type 0} (known : List Execution) (n : Node S) (k : ℕ) (message : Message) → shown_at n k ≡ Some message → ReplyAmong known message
shown_told {S = S} known n k message at = by (is_shown_place n k) at
  where
    decided : (o : Option Decision) → option_map (λ (d : Decision). changes.Decision (shown_as d)) o ≡ Some message → ReplyAmong known message
    decided None said = absurd cc
    decided (Some d) said = subst (λ (x : Message). ReplyAmong known x) (some_equal (changes.Decision (shown_as d)) message said) tt

    by : (t : Bool) → cond t (option_map (λ (d : Decision). changes.Decision (shown_as d)) (decided_at k n.entries)) None ≡ Some message → ReplyAmong known message
    by true said = decided (decided_at k n.entries) said
    by false said = absurd cc

held-offers_state : {S : Type 0} (known : List Execution) (n : Node S) (a : StateAsk) → HoldsAmong known n → HoldsAmong known (offers_state n a)
unfolding offers_state shown_after
held-offers_state known n a held =
    held-holding_all known n (targets.Node a.member) (changes.StateOffer (offer_for n a.place) ∷ filter_map (shown_at n) (places_after a.place 8))
    (tt, each_filter_map_in (ReplyAmong known) (shown_at n) (places_after a.place 8) (λ k message there at. shown_told known n k message at)) held

parts_told : (known : List Execution) (ps : List StatePart) → Each (ReplyAmong known) (map (λ (p : StatePart). changes.StatePart p) ps)
parts_told known [] = tt
parts_told known (p ∷ ps) = (tt, parts_told known ps)

part_messages_told : (known : List Execution) (o : Option OwnSnapshot) → Each (ReplyAmong known) (part_messages o)
part_messages_told known None = tt
part_messages_told known (Some s) = parts_told known (seeds s.place s.snapshot)

held-gives_parts : {S : Type 0} (known : List Execution) (n : Node S) (a : StateAsk) → HoldsAmong known n → HoldsAmong known (gives_parts n a)
unfolding gives_parts
held-gives_parts known n a held = held-holding_all known n (targets.Node a.member) (part_messages (firm_at n a.fetch)) (part_messages_told known (firm_at n a.fetch)) held

held-answers_state : {S : Type 0} (known : List Execution) (n : Node S) (a : StateAsk) → HoldsAmong known n → HoldsAmong known (answers_state n a)
unfolding answers_state
held-answers_state {S = S} known n a held =
    either (HoldsAmong known) (a.fetch == 0) (offers_state n a) (gives_parts n a) (held-offers_state known n a held) (held-gives_parts known n a held)

held-follow_plan : {S : Type 0} (known : List Execution) (n : Node S) (plan : Option Plan) → HoldsAmong known n → HoldsAmong known (follow_plan n plan)
unfolding follow_plan
held-follow_plan known n None held = held
held-follow_plan known n (Some p) held = each_end (λ (h : Held). ReplyAmong known h.message) n.held _ held tt

held-plans : {S : Type 0} (known : List Execution) (n : Node S) → HoldsAmong known n → HoldsAmong known (plans n)
unfolding plans
held-plans known n held = held-follow_plan known n (planning n) held

held-spoil : {S : Type 0} (known : List Execution) (n : Node S) (f : Fetch) → HoldsAmong known n → HoldsAmong known (spoil n f)
unfolding spoil
held-spoil known n f held = held

held-install_replica : {S : Type 0} (known : List Execution) (n : Node S) (f : Fetch) (r : Replica S) → HoldsAmong known n → HoldsAmong known (install_replica n f r)
unfolding install_replica
held-install_replica known n f r held = each_end (λ (h : Held). ReplyAmong known h.message) n.held _ held tt

held-install_by : {S : Type 0} (known : List Execution) (n : Node S) (f : Fetch) (made : Result (Replica S) Spoiled) → HoldsAmong known n → HoldsAmong known (install_by n f made)
held-install_by {S = S} known n f (Ok r) held =
    either (HoldsAmong known) (is_of_group n r) (install_replica n f r) (spoil n f) (held-install_replica known n f r held) (held-spoil known n f held)
held-install_by known n f (Err why) held = held-spoil known n f held

held-install_fetch : {S : Type 0} (known : List Execution) (m : Meaning S) (n : Node S) (due : Option Fetch) → HoldsAmong known n → HoldsAmong known (install_fetch m n due)
unfolding install_fetch
held-install_fetch known m n None held = held
held-install_fetch known m n (Some f) held = held-install_by known n f (finished m f) held

held-installs : {S : Type 0} (known : List Execution) (m : Meaning S) (n : Node S) → HoldsAmong known n → HoldsAmong known (installs m n)
unfolding installs
held-installs known m n held = held-install_fetch known m n (installing n) held

-- ---- a node that tells these alone

-- a node whose held replies tell these executions, and whose table has these alone
pub record TellsAmong {S : Type 0} (known : List Execution) (n : Node S) : Type 0 where
  pub held : HoldsAmong known n
  pub lines : Each (HasLine known) (kept_in n.replica.table)

-- it tells others among which they are
pub tells_fewer : {S : Type 0} (few all : List Execution) (n : Node S) → ((l : Execution) → HasLine few l → HasLine all l) → TellsAmong few n → TellsAmong all n
tells_fewer few all n more is = record {
  held = each-weaken (λ (h : Held). ReplyAmong few h.message) (λ (h : Held). ReplyAmong all h.message) (λ h told. one h.message told) n.held is.held;
  lines = each-weaken (HasLine few) (HasLine all) more (kept_in n.replica.table) is.lines;
}
  where
    one : (x : Message) → ReplyAmong few x → ReplyAmong all x
    one (Reply a) told = more (line_told a.statement) told
    one _ told = tt

-- a rule that leaves the replica
tells-as : {S : Type 0} (known : List Execution) (n n' : Node S) → Leaves n n' → HoldsAmong known n' → TellsAmong known n → TellsAmong known n'
tells-as {S = S} known n n' leaves held is =
    record { held = held; lines = subst (λ (r : Replica S). Each (HasLine known) (kept_in r.table)) (sym leaves.replica_is) is.lines }

-- the rule that decides
tells-decides : {S : Type 0} (known : List Execution) (n : Node S) → TellsAmong known n → TellsAmong known (decides n)
tells-decides {S = S} known n is =
    record { held = held-decides known n is.held; lines = subst (λ (r : Replica S). Each (HasLine known) (kept_in r.table)) (sym (replica-decides n)) is.lines }

-- each rule behind a delivery
tells-rules : {S : Type 0} (known : List Execution) → KeptByRules {S = S} (λ n. TellsAmong known n)
tells-rules known = record {
  by_adopts = λ n is. tells-as known n (adopts n) (leaves-adopts n) (held-adopts known n is.held) is;
  by_joins = λ n is. tells-as known n (joins n) (leaves-joins n) (held-joins known n is.held) is;
  by_promises = λ n is. tells-as known n (promises n) (leaves-promises n) (held-promises known n is.held) is;
  by_leads = λ n is. tells-as known n (leads n) (leaves-leads n) (held-leads known n is.held) is;
  by_proposes = λ n is. tells-as known n (proposes n) (leaves-proposes n) (held-proposes known n is.held) is;
  by_writes = λ n is. tells-as known n (writes n) (leaves-writes n) (held-writes known n is.held) is;
  by_accepts = λ n is. tells-as known n (accepts n) (leaves-accepts n) (held-accepts known n is.held) is;
  by_decides = λ n is. tells-decides known n is;
  by_times = λ n is. tells-as known n (times n) (leaves-times n) (held-times known n is.held) is;
  by_answers = λ n asked is. tells-as known n (answers_again n asked) (leaves-answers_again n asked) (held-answers_again known n asked is.lines is.held) is;
  by_states = λ n a is. tells-as known n (answers_state n a) (leaves-answers_state n a) (held-answers_state known n a is.held) is;
  by_plans = λ n is. tells-as known n (plans n) (leaves-plans n) (held-plans known n is.held) is;
}

-- a delivery, where its executions are among these
tells-deliver_batch : {S : Type 0} (known : List Execution) (m : Meaning S) (n : Node S) (waiting : Option Batch) → ((batch : Batch) → waiting ≡ Some batch → Each (HasLine known) (executed_lines m n.replica batch))
    → TellsAmong known n → TellsAmong known (deliver_batch m n waiting)
unfolding deliver_batch
tells-deliver_batch known m n None executed is = is
tells-deliver_batch {S = S} known m n (Some batch) executed is =
    let r : Replica S = delivered m n.replica batch in
    let x : Node S = enters n (record n { replica = r; waiting = None; pool = settled r.table n.pool; impatient = false }) in
    let y : Node S = replying x (lines_to_answer m n batch) in
    let lines : Each (HasLine known) (executed_lines m n.replica batch) = executed batch refl in
    record {
      held = held-telling known y (stays_in_view n y) targets.Clients
          (held-replying known x (lines_to_answer m n batch) is.held (either (Each (HasLine known)) (is_member (view_of n) n.id) (executed_lines m n.replica batch) [] lines tt));
      lines = subst (λ (z : Replica S). Each (HasLine known) (kept_in z.table)) (sym (replica-replying x (lines_to_answer m n batch))) (each-delivered (HasLine known) m n.replica batch is.lines lines);
    }

tells-delivers : {S : Type 0} (known : List Execution) (m : Meaning S) (n : Node S) → ((batch : Batch) → n.waiting ≡ Some batch → Each (HasLine known) (executed_lines m n.replica batch))
    → TellsAmong known n → TellsAmong known (delivers m n)
unfolding delivers
tells-delivers known m n executed is = tells-deliver_batch known m n n.waiting executed is

-- a mark is no reply
held-mark : {S : Type 0} (known : List Execution) (m : Meaning S) (n : Node S) → HoldsAmong known n → HoldsAmong known (mark_place m n)
unfolding mark_place
held-mark known m n held = each_end (λ (h : Held). ReplyAmong known h.message) n.held _ held tt

-- what takes an event in holds no reply
tells-takes_in : {S : Type 0} (known : List Execution) (n : Node S) (event : NodeEvent) → TellsAmong known n → TellsAmong known (takes_in n event).node
tells-takes_in {S = S} known n event is =
    let told : (x : Message) → TellsAmong known (noted n x) = λ x. tells-as known n (noted n x) (leaves-noted n x) (held-noted known n x is.held) is in
    takes_in_as (λ (x : Node S). TellsAmong known x) (λ message. Unit {0}) n event told
    (λ x none may. tells-as known (noted n x) (kept (noted n x) x) (leaves-kept (noted n x) x) (held-kept known (noted n x) x (told x).held) (told x))
    (λ count. record { held = is.held; lines = is.lines }) (free-event event) is

-- ---- a pass

-- the executions of what was delivered from a replica
abbrev pub lines_told : {S : Type 0} → Meaning S → Replica S → List Delivery → List Execution
lines_told m r ds = flat_map (λ (d : Delivery). executed_lines m r d.batch) ds

-- what a delivery tells has the executions of the batch
told_lines : {S : Type 0} (m : Meaning S) (n : Node S) (waiting : Option Batch) (batch : Batch) → waiting ≡ Some batch → (l : Execution) → HasLine (executed_lines m n.replica batch) l
    → HasLine (lines_told m n.replica (flat_map delivery_in (delivery m n waiting))) l
unfolding delivery
told_lines m n None batch is l has = absurd cc
told_lines m n (Some b) batch is l has =
    subst (λ (ds : List Delivery). HasLine (lines_told m n.replica ds) l) (sym (one-delivery m n b))
    (has_left (executed_lines m n.replica b) [] l (subst (λ (x : Batch). HasLine (executed_lines m n.replica x) l) (sym (some_equal b batch is)) has))

-- Behind an installation a pass tells what was known and what it delivers.
pub tells-pass : {S : Type 0} (known : List Execution) (m : Meaning S) (n : Node S) (cause : Cause) → TellsAmong known (installs m n)
    → TellsAmong (known ++ lines_told m (installs m n).replica (flat_map delivery_in (pass (rules m) n cause []).1)) (pass (rules m) n cause []).0
tells-pass {S = S} known m n cause is =
    let i : Node S = installs m n in
    let told : List Fired = told_installed m n [] in
    let row : Node S × List Fired = deliver_row m i cause told in
    let lines : List Fired → List Execution = λ fired. known ++ lines_told m i.replica (flat_map delivery_in fired) in
    let quiet : flat_map delivery_in told ≡ [] = quiet-installs m n in
    let marked_told : flat_map delivery_in ((told ++ delivery m i i.waiting) ++ fired_when (fires.Marked (snapshot_text m (delivers m i).replica)) (marking (is_some i.waiting) (delivers m i)))
    ≡ flat_map delivery_in (delivery m i i.waiting) =
    told-marked (snapshot_text m (delivers m i).replica) (told ++ delivery m i i.waiting) (marking (is_some i.waiting) (delivers m i))
    ∙ (flat_map-append delivery_in told (delivery m i i.waiting) ∙ ap (λ (ds : List Delivery). ds ++ flat_map delivery_in (delivery m i i.waiting)) quiet) in
    let all : List Execution = known ++ lines_told m i.replica (flat_map delivery_in (delivery m i i.waiting)) in
    let begun : TellsAmong all i = tells_fewer known all i (λ l has. has_left known (lines_told m i.replica (flat_map delivery_in (delivery m i i.waiting))) l has) is in
    let sent : TellsAmong all (delivers m i) =
    tells-delivers all m i
    (λ batch waits. each_inside (HasLine all) (executed_lines m i.replica batch)
    (λ l has. has_right known (lines_told m i.replica (flat_map delivery_in (delivery m i i.waiting))) l (told_lines m i i.waiting batch waits l has))) begun in
    let marked_tells : TellsAmong all (marks_place m (is_some i.waiting) (delivers m i)) =
    by_mark m (λ (x : Node S). TellsAmong all x) (is_some i.waiting) (delivers m i) sent
    (λ due. tells-as all (delivers m i) (mark_place m (delivers m i)) (leaves-mark m (delivers m i)) (held-mark all m (delivers m i) sent.held) sent) in
    let behind : TellsAmong (lines row.1) row.0 =
    by_delivery m (λ (x : Node S) (fired : List Fired). TellsAmong (lines fired) x) i cause told
    (tells_fewer known (lines told) i (λ l has. has_left known (lines_told m i.replica (flat_map delivery_in told)) l has) is)
    (subst (λ (ds : List Delivery). TellsAmong (known ++ lines_told m i.replica ds) (marks_place m (is_some i.waiting) (delivers m i))) (sym marked_told) marked_tells) in
    subst (λ (ds : List Delivery). TellsAmong (known ++ lines_told m i.replica ds) (pass (rules m) n cause []).0) (sym (told-passed m n cause []))
    (keeps_rules m (λ (x : Node S). TellsAmong (lines row.1) x) n cause [] (tells-rules (lines row.1)) behind)

-- ---- a step

-- the executions that a pass adds to those which a node knows
abbrev LinesBehind : {S : Type 0} → Meaning S → Replica S → List Fired → Node S → List Execution
LinesBehind m r fired n = cond (has_installed fired) (kept_in n.replica.table) (lines_told m r (flat_map delivery_in fired))

among_more : (few more : List Execution) (x : Message) → ReplyAmong few x → ReplyAmong (few ++ more) x
among_more few more (Reply a) said = has_left few more (line_told a.statement) said
among_more few more _ said = tt

tells-made : {S : Type 0} (known : List Execution) (m : Meaning S) (n : Node S) (cause : Cause) → Made m n → TellsAmong known n
    → TellsAmong (known ++ LinesBehind m n.replica (pass (rules m) n cause []).1 (pass (rules m) n cause []).0) (pass (rules m) n cause []).0
tells-made {S = S} known m n cause (made_none same none) is =
    let b = told-behind m n cause in
    let i : Node S = installs m n in
    let fired : List Fired = (pass (rules m) n cause []).1 in
    let after : Node S = (pass (rules m) n cause []).0 in
    let quiet : has_installed fired ≡ false = none_installed fired (subst (λ (fs : List Fired). Each IsNoBase fs) (sym b.is) (each_append IsNoBase (told_installed m n []) b.rest none b.none)) in
    let begun : TellsAmong known i =
    record { held = held-installs known m n is.held; lines = subst (λ (r : Replica S). Each (HasLine known) (kept_in r.table)) (sym same) is.lines } in
    subst (λ (t : Bool). TellsAmong (known ++ cond t (kept_in after.replica.table) (lines_told m n.replica (flat_map delivery_in fired))) after) (sym quiet)
    (subst (λ (r : Replica S). TellsAmong (known ++ lines_told m r (flat_map delivery_in fired)) after) same (tells-pass known m n cause begun))
tells-made {S = S} known m n cause (made_new place at later free more told quiet) is =
    let b = told-behind m n cause in
    let i : Node S = installs m n in
    let fired : List Fired = (pass (rules m) n cause []).1 in
    let after : Node S = (pass (rules m) n cause []).0 in
    let fired_is : fired ≡ fires.Installed place ∷ (more ++ b.rest) = b.is ∙ ap (λ (fs : List Fired). fs ++ b.rest) told in
    let taken : has_installed fired ≡ true = ap has_installed fired_is in
    let waits : i.waiting ≡ None = (takes-installs m n).waits ∙ free in
    let table : List Execution = kept_in i.replica.table in
    let all : List Execution = known ++ table in
    let begun : TellsAmong all i = record {
      held = each-weaken (λ (h : Held). ReplyAmong known h.message) (λ (h : Held). ReplyAmong all h.message) (λ h said. among_more known table h.message said) i.held (held-installs known m n is.held);
      lines = each_inside (HasLine all) table (λ l has. has_right known table l has);
    } in
    let last : kept_in after.replica.table ≡ table = ap (λ (r : Replica S). kept_in r.table) (replica-installed m n cause waits) in
    let none : lines_told m i.replica (flat_map delivery_in fired) ≡ [] = ap (λ (ds : List Delivery). lines_told m i.replica ds) (none-delivered m n cause waits) in
    subst (λ (t : Bool). TellsAmong (known ++ cond t (kept_in after.replica.table) (lines_told m n.replica (flat_map delivery_in fired))) after) (sym taken)
    (subst (λ (ls : List Execution). TellsAmong (known ++ ls) after) (sym last)
    (subst (λ (ls : List Execution). TellsAmong ls after) (ap (λ (ls : List Execution). all ++ ls) none ∙ append-nil all) (tells-pass all m n cause begun)))

tells-passed : {S : Type 0} (known : List Execution) (m : Meaning S) (t : Taken S) (why : Option Why) → TellsAmong known t.node
    → TellsAmong (known ++ LinesBehind m t.node.replica (passed m t why).fired (passed m t why).node) (passed m t why).node
tells-passed known m t None is = tells-made known m t.node t.cause (made_of m t.node) is
tells-passed known m t (Some why) is = subst (λ (ls : List Execution). TellsAmong ls t.node) (sym (append-nil known)) is

-- a step adds what it delivers, or the table of the replica that it takes over
pub tells-step : {S : Type 0} (known : List Execution) (m : Meaning S) (n : Node S) (event : NodeEvent) → TellsAmong known n → TellsAmong (known ++ lines_after m n event) (step_of m n event).node
unfolding step_of
tells-step {S = S} known m n event is =
    let t : Taken S = takes_in n event in
    subst (λ (r : Replica S). TellsAmong (known ++ LinesBehind m r (passed m t t.dropped).fired (passed m t t.dropped).node) (passed m t t.dropped).node) (waits-takes_in n event).replica_is
    (tells-passed known m t t.dropped (tells-takes_in known n event is))

-- whatever comes, a node tells what it knew at first and what it came to know
pub tells_after : {S : Type 0} (known : List Execution) (m : Meaning S) (n : Node S) (events : List NodeEvent) → TellsAmong known n → TellsAmong (known ++ lines_of m n events) (node_after m n events)
tells_after known m n [] is = subst (λ (ls : List Execution). TellsAmong ls n) (sym (append-nil known)) is
tells_after {S = S} known m n (e ∷ es) is =
    let next : Node S = (step_of m n e).node in
    subst (λ (ls : List Execution). TellsAmong ls (node_after m next es)) (append_assoc known (lines_after m n e) (lines_of m next es))
    (tells_after (known ++ lines_after m n e) m next es (tells-step known m n e is))

-- a node that holds nothing knows what its table has
pub tells_first : {S : Type 0} (n : Node S) → n.held ≡ [] → TellsAmong (kept_in n.replica.table) n
tells_first n none = record {
  held = subst (λ (hs : List Held). Each (λ (h : Held). ReplyAmong (kept_in n.replica.table) h.message) hs) (sym none) tt;
  lines = each_inside (HasLine (kept_in n.replica.table)) (kept_in n.replica.table) (λ l has. has);
}

-- ---- a node along a list

-- lines that are told of deliveries are among others, if those of each are
told_inside : {S : Type 0} (known : List Execution) (m : Meaning S) (r : Replica S) (ds : List Delivery) → Each (λ (d : Delivery). Each (HasLine known) (executed_lines m r d.batch)) ds → (l : Execution)
    → HasLine (lines_told m r ds) l → HasLine known l
told_inside known m r [] each l has = absurd has
told_inside known m r (d ∷ ds) each l has =
    ⊎_elim (λ (first : HasLine (executed_lines m r d.batch) l). each_line (HasLine known) (executed_lines m r d.batch) l each.0 first)
    (λ (rest : HasLine (lines_told m r ds) l). told_inside known m r ds each.1 l rest) (has_either (executed_lines m r d.batch) (lines_told m r ds) l has)

-- the table of what a node takes over is that of the replica behind a pass; if it takes over nothing, it keeps its own
installed_lines : {S : Type 0} (known : List Execution) (m : Meaning S) (n : Node S) (cause : Cause) → Made m n → Each (HasLine known) (kept_in n.replica.table)
    → Each (HasLine known) (kept_in (pass (rules m) n cause []).0.replica.table) → Each (HasLine known) (kept_in (installs m n).replica.table)
installed_lines {S = S} known m n cause (made_none same none) own behind = subst (λ (r : Replica S). Each (HasLine known) (kept_in r.table)) (sym same) own
installed_lines {S = S} known m n cause (made_new place at later free more told quiet) own behind =
    subst (λ (r : Replica S). Each (HasLine known) (kept_in r.table)) (replica-installed m n cause ((takes-installs m n).waits ∙ free)) behind

held-passed : {S : Type 0} (m : Meaning S) (v : View) (chosen : List Batch) (n : Node S) (t : Taken S) (why : Option Why) → Along m v chosen n → Waits n t.node
    → Each (HasLine (executions m v chosen)) (kept_in (passed m t why).node.replica.table) → HeldRight m v chosen t.node → HeldRight m v chosen (passed m t why).node
held-passed {S = S} m v chosen n t None aligned kept_replica table taken =
    let known : List Execution = executions m v chosen in
    let i : Node S = installs m t.node in
    let own : Each (HasLine known) (kept_in t.node.replica.table) =
    subst (λ (r : Replica S). Each (HasLine known) (kept_in r.table)) (sym kept_replica.replica_is) (table_lines m v chosen n aligned) in
    let is : TellsAmong known i = record { held = held-installs known m t.node taken; lines = installed_lines known m t.node t.cause (made_of m t.node) own table } in
    let ds : List Delivery = flat_map delivery_in (pass (rules m) t.node t.cause []).1 in
    let due_lines : (d : Delivery) → WasDue m i d → Each (HasLine known) (executed_lines m i.replica d.batch) = λ d due.
    (let same : i ≡ t.node = installs-none m t.node (ap is_some (sym (takes-installs m t.node).waits ∙ due.batch)) in
    let waits : n.waiting ≡ Some d.batch = sym kept_replica.waits ∙ (sym (ap (λ (x : Node S). x.waiting) same) ∙ due.batch) in
    let replica : i.replica ≡ n.replica = ap (λ (x : Node S). x.replica) same ∙ kept_replica.replica_is in
    subst (λ (r : Replica S). Each (HasLine known) (executed_lines m r d.batch)) (sym replica) (waiting_lines m v chosen n d.batch aligned waits)) in
    let each : Each (λ (d : Delivery). Each (HasLine known) (executed_lines m i.replica d.batch)) ds =
    each-weaken (WasDue m i) (λ (d : Delivery). Each (HasLine known) (executed_lines m i.replica d.batch)) due_lines ds (due-passed m t.node t.cause) in
    (tells_fewer (known ++ lines_told m i.replica ds) known (pass (rules m) t.node t.cause []).0
    (λ l has. ⊎_elim (λ (here : HasLine known l). here) (λ (more : HasLine (lines_told m i.replica ds) l). told_inside known m i.replica ds each l more) (has_either known (lines_told m i.replica ds) l has))
    (tells-pass known m t.node t.cause is)).held
held-passed m v chosen n t (Some why) aligned kept_replica table taken = taken

-- A node along a list holds right replies behind a step, if the table behind the step tells the list's executions.
pub held-step : {S : Type 0} (m : Meaning S) (v : View) (chosen : List Batch) (n : Node S) (event : NodeEvent) → Along m v chosen n
    → Each (HasLine (executions m v chosen)) (kept_in (step_of m n event).node.replica.table) → HeldRight m v chosen n → HeldRight m v chosen (step_of m n event).node
unfolding step_of
held-step {S = S} m v chosen n event aligned table held =
    let known : List Execution = executions m v chosen in
    let t : Taken S = takes_in n event in
    let taken : HoldsAmong known t.node = (tells-takes_in known n event (record { held = held; lines = table_lines m v chosen n aligned })).held in
    held-passed m v chosen n t t.dropped aligned (waits-takes_in n event) table taken
