-- What the rules leave as it is: a node's name and secret, what was restored and is firm, its replica and the batch that waits.
use Rattle.std.proofs.Common.{◌≡◌, ◌==◌, true, List, [], ◌∷◌, refl, ◌∙◌, Option, Some, None}
use Rattle.smart_statements.specs.Forms.{SignedBy}
use Rattle.smart_statements.specs.Batches.{Batch}
use Rattle.smart_statements.specs.declared.statement.Request.{Request}
use Rattle.smart_statements.specs.declared.report.Report.{Report}
use Rattle.smart_messages.specs.declared.regency.Sync.{Sync}
use Rattle.smart_messages.specs.declared.message.Message.TheVariants.{Ask, Reply}
use Rattle.smart_messages.specs.declared.message.Message.TheVariants as changes
use Rattle.smart_messages.specs.declared.message.Proposed.{Proposed}
use Rattle.smart_messages.specs.declared.message.Message.{Message}
use Rattle.smart_service.specs.Services.{Meaning}
use Rattle.smart_service.specs.declared.table.Execution.{Execution}
use Rattle.replica_rules.specs.Replicas.{is_next}
use Rattle.replica_rules.specs.Pools.{offered}
use Rattle.node_rules.specs.Marks.{mark_place, firm_at}
use Rattle.node_rules.specs.Nodes.{Node, holding, holding_all}
use Rattle.node_rules.specs.Transfers.{offers_state, gives_parts, answers_state, planning, follow_plan, plans, offer_for, part_messages, shown_after}
use Rattle.node_rules.specs.declared.node.Target.{Target}
use Rattle.node_rules.specs.declared.node.Target.TheVariants as targets
use Rattle.state_transfer.specs.declared.choice.Plan.{Plan}
use Rattle.transfer_form.specs.declared.transfer.StateAsk.{StateAsk}
use Rattle.node_rules.specs.Arrivals.{kept, noted}
use Rattle.node_rules.specs.Rules.{proposing, propose_batch, proposes, writing, write_batch, writes, accepting, accept_batch, accepts, answering, answer_line, answers_again}
use Rattle.node_rules.specs.Changes.{adopts_by, adoption, adopts, asks_next, joining, joins, promising, promise_next, promises, leading, lead_with, leads, lags, asks_state, timing, passes_on, presses, times}
use Rattle.agreement_laws.proofs.Lists.{either}
use Rattle.node_rules.specs.declared.node.Asked.{Asked}

-- a node with the same name, secret and opening, of which as much was restored and is firm, and with the same replica and the same batch that waits
pub record Leaves {S : Type 0} (n n' : Node S) : Type 0 where
  pub named : n'.id ≡ n.id
  pub shared : n'.secret ≡ n.secret
  pub opening_is : n'.opening ≡ n.opening
  pub restored_is : n'.restored ≡ n.restored
  pub firm_is : n'.firm ≡ n.firm
  pub replica_is : n'.replica ≡ n.replica
  pub waits : n'.waiting ≡ n.waiting

pub leaves-same : {S : Type 0} (n : Node S) → Leaves n n
leaves-same n = record { named = refl; shared = refl; opening_is = refl; restored_is = refl; firm_is = refl; replica_is = refl; waits = refl }

pub leaves-adopts_by : {S : Type 0} (n : Node S) (sync : Option (SignedBy Sync)) → Leaves n (adopts_by n sync)
unfolding adopts_by
leaves-adopts_by n None = leaves-same n
leaves-adopts_by n (Some sync) = record { named = refl; shared = refl; opening_is = refl; restored_is = refl; firm_is = refl; replica_is = refl; waits = refl }

pub leaves-adopts : {S : Type 0} (n : Node S) → Leaves n (adopts n)
unfolding adopts
leaves-adopts n = leaves-adopts_by n (adoption n)

pub leaves-asks_next : {S : Type 0} (n : Node S) → Leaves n (asks_next n)
leaves-asks_next n = record { named = refl; shared = refl; opening_is = refl; restored_is = refl; firm_is = refl; replica_is = refl; waits = refl }

pub leaves-joins : {S : Type 0} (n : Node S) → Leaves n (joins n)
unfolding joins
leaves-joins {S = S} n = either (λ (x : Node S). Leaves n x) (joining n) (asks_next n) n (leaves-asks_next n) (leaves-same n)

pub leaves-promises : {S : Type 0} (n : Node S) → Leaves n (promises n)
unfolding promises promise_next
leaves-promises {S = S} n =
    either (λ (x : Node S). Leaves n x) (promising n) (promise_next n) n (record { named = refl; shared = refl; opening_is = refl; restored_is = refl; firm_is = refl; replica_is = refl; waits = refl }) (leaves-same n)

pub leaves-lead_with : {S : Type 0} (n : Node S) (collect : Option (List (SignedBy Report))) → Leaves n (lead_with n collect)
unfolding lead_with
leaves-lead_with n None = leaves-same n
leaves-lead_with n (Some collect) = record { named = refl; shared = refl; opening_is = refl; restored_is = refl; firm_is = refl; replica_is = refl; waits = refl }

pub leaves-leads : {S : Type 0} (n : Node S) → Leaves n (leads n)
unfolding leads
leaves-leads n = leaves-lead_with n (leading n)

pub leaves-propose_batch : {S : Type 0} (n : Node S) (batch : Option Batch) → Leaves n (propose_batch n batch)
unfolding propose_batch
leaves-propose_batch n None = leaves-same n
leaves-propose_batch n (Some batch) = record { named = refl; shared = refl; opening_is = refl; restored_is = refl; firm_is = refl; replica_is = refl; waits = refl }

pub leaves-proposes : {S : Type 0} (n : Node S) → Leaves n (proposes n)
unfolding proposes
leaves-proposes n = leaves-propose_batch n (proposing n)

pub leaves-write_batch : {S : Type 0} (n : Node S) (p : Option Proposed) → Leaves n (write_batch n p)
unfolding write_batch
leaves-write_batch n None = leaves-same n
leaves-write_batch n (Some p) = record { named = refl; shared = refl; opening_is = refl; restored_is = refl; firm_is = refl; replica_is = refl; waits = refl }

pub leaves-writes : {S : Type 0} (n : Node S) → Leaves n (writes n)
unfolding writes
leaves-writes n = leaves-write_batch n (writing n)

pub leaves-accept_batch : {S : Type 0} (n : Node S) (p : Option Proposed) → Leaves n (accept_batch n p)
unfolding accept_batch
leaves-accept_batch n None = leaves-same n
leaves-accept_batch n (Some p) = record { named = refl; shared = refl; opening_is = refl; restored_is = refl; firm_is = refl; replica_is = refl; waits = refl }

pub leaves-accepts : {S : Type 0} (n : Node S) → Leaves n (accepts n)
unfolding accepts
leaves-accepts n = leaves-accept_batch n (accepting n)

leaves-passes_on : {S : Type 0} (n x : Node S) (pool : List (SignedBy Request)) → Leaves n x → Leaves n (passes_on x pool)
leaves-passes_on n x [] is = is
leaves-passes_on n x (q ∷ qs) is = record { named = is.named; shared = is.shared; opening_is = is.opening_is; restored_is = is.restored_is; firm_is = is.firm_is; replica_is = is.replica_is; waits = is.waits }

leaves-asks_state : {S : Type 0} (n : Node S) → Leaves n (asks_state n)
unfolding asks_state
leaves-asks_state n = record { named = refl; shared = refl; opening_is = refl; restored_is = refl; firm_is = refl; replica_is = refl; waits = refl }

pub leaves-times : {S : Type 0} (n : Node S) → Leaves n (times n)
unfolding times presses
leaves-times {S = S} n =
    either (λ (x : Node S). Leaves n x) (lags n) (asks_state n) _ (leaves-asks_state n)
    (either (λ (x : Node S). Leaves n x) (timing n) _ n
    (either (λ (x : Node S). Leaves n x) n.impatient (asks_next n) (passes_on (record n { impatient = true }) n.pool) (leaves-asks_next n)
    (leaves-passes_on n (record n { impatient = true }) n.pool (record { named = refl; shared = refl; opening_is = refl; restored_is = refl; firm_is = refl; replica_is = refl; waits = refl })))
    (leaves-same n))

pub leaves-answer_line : {S : Type 0} (n : Node S) (line : Option Execution) → Leaves n (answer_line n line)
unfolding answer_line
leaves-answer_line n None = leaves-same n
leaves-answer_line n (Some line) = record { named = refl; shared = refl; opening_is = refl; restored_is = refl; firm_is = refl; replica_is = refl; waits = refl }

pub leaves-answers_again : {S : Type 0} (n : Node S) (asked : Asked) → Leaves n (answers_again n asked)
unfolding answers_again
leaves-answers_again n asked = leaves-answer_line n (answering n asked)

leaves-then : {S : Type 0} (a b c : Node S) → Leaves a b → Leaves b c → Leaves a c
leaves-then a b c first next = record {
  named = next.named ∙ first.named;
  shared = next.shared ∙ first.shared;
  opening_is = next.opening_is ∙ first.opening_is;
  restored_is = next.restored_is ∙ first.restored_is;
  firm_is = next.firm_is ∙ first.firm_is;
  replica_is = next.replica_is ∙ first.replica_is;
  waits = next.waits ∙ first.waits;
}

leaves-holding : {S : Type 0} (n : Node S) (to : Target) (message : Message) → Leaves n (holding n to message)
leaves-holding n to message = record { named = refl; shared = refl; opening_is = refl; restored_is = refl; firm_is = refl; replica_is = refl; waits = refl }

leaves-holding_all : {S : Type 0} (messages : List Message) (n : Node S) (to : Target) → Leaves n (holding_all n to messages)
leaves-holding_all [] n to = leaves-same n
leaves-holding_all (m ∷ ms) n to = leaves-then n (holding n to m) (holding_all (holding n to m) to ms) (leaves-holding n to m) (leaves-holding_all ms (holding n to m) to)

pub leaves-answers_state : {S : Type 0} (n : Node S) (a : StateAsk) → Leaves n (answers_state n a)
unfolding answers_state offers_state gives_parts
leaves-answers_state {S = S} n a =
    either (λ (x : Node S). Leaves n x) (a.fetch == 0) (offers_state n a) (gives_parts n a)
    (leaves-holding_all (changes.StateOffer (offer_for n a.place) ∷ shown_after n a.place) n (targets.Node a.member))
    (leaves-holding_all (part_messages (firm_at n a.fetch)) n (targets.Node a.member))

leaves-follow_plan : {S : Type 0} (n : Node S) (plan : Option Plan) → Leaves n (follow_plan n plan)
unfolding follow_plan
leaves-follow_plan n None = leaves-same n
leaves-follow_plan n (Some p) = record { named = refl; shared = refl; opening_is = refl; restored_is = refl; firm_is = refl; replica_is = refl; waits = refl }

pub leaves-plans : {S : Type 0} (n : Node S) → Leaves n (plans n)
unfolding plans
leaves-plans n = leaves-follow_plan n (planning n)

pub leaves-mark : {S : Type 0} (m : Meaning S) (n : Node S) → Leaves n (mark_place m n)
unfolding mark_place
leaves-mark m n = record { named = refl; shared = refl; opening_is = refl; restored_is = refl; firm_is = refl; replica_is = refl; waits = refl }

pub leaves-noted : {S : Type 0} (n : Node S) (message : Message) → Leaves n (noted n message)
unfolding noted
leaves-noted n message = record { named = refl; shared = refl; opening_is = refl; restored_is = refl; firm_is = refl; replica_is = refl; waits = refl }

pub leaves-kept : {S : Type 0} (n : Node S) (message : Message) → Leaves n (kept n message)
unfolding kept
leaves-kept {S = S} n (Ask q) =
    either (λ (x : Node S). Leaves n x) (is_next n.replica.table q.statement) (record n { pool = offered n.pool q }) n
    (record { named = refl; shared = refl; opening_is = refl; restored_is = refl; firm_is = refl; replica_is = refl; waits = refl }) (leaves-same n)
leaves-kept n (Reply a) = leaves-same n
leaves-kept n (changes.StateAsk a) = leaves-same n
leaves-kept n (changes.ViewTold i) = leaves-same n
leaves-kept n _ = record { named = refl; shared = refl; opening_is = refl; restored_is = refl; firm_is = refl; replica_is = refl; waits = refl }
