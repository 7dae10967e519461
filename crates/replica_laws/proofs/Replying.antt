-- What replies, the rules of a pass and a delivery leave of a replica.
use Rattle.std.proofs.Common.{◌≡◌, ◌+◌, true, false, List, [], ◌∷◌, refl, ap, ◌∙◌, Option, Some, None, is_some}
use Rattle.smart_statements.specs.Batches.{Batch}
use Rattle.smart_service.specs.Services.{Meaning}
use Rattle.smart_service.specs.declared.table.Execution.{Execution}
use Rattle.smart_service.specs.declared.replica.Replica.{Replica}
use Rattle.vote_book.specs.declared.entry.Decision.{Decision}
use Rattle.replica_rules.specs.Replicas.{delivered}
use Rattle.replica_rules.specs.Pools.{settled}
use Rattle.node_rules.specs.Rules.{reply_of, replying, lines_to_answer, deliver_batch, delivers, deciding, decide_batch, decides}
use Rattle.node_rules.specs.Nodes.{Node, holding, enters}
use Rattle.node_rules.specs.Steps.{deliver_row, rules, pass}
use Rattle.node_rules.specs.declared.node.Cause.{Cause}
use Rattle.node_rules.specs.declared.node.Fired.{Fired}
use Rattle.node_rules.specs.declared.node.Target.TheVariants as targets
use Rattle.replica_laws.proofs.Leaves.{leaves-adopts, leaves-joins, leaves-promises, leaves-leads, leaves-proposes, leaves-writes, leaves-accepts, leaves-times, leaves-answers_again, leaves-answers_state, leaves-plans}
use Rattle.replica_laws.proofs.Entered.{Aside, aside-same, aside-then}
use Rattle.node_rules.proofs.Rulewise.{told_installed, KeptByRules, keeps_rules}
use Rattle.node_rules.specs.Transfers.{installs}
use Rattle.replica_rules.proofs.Places.{place_delivered}

-- ---- replies

-- they change what is held alone
pub aside-replying : {S : Type 0} (n : Node S) (lines : List Execution) → Aside n (replying n lines)
aside-replying n [] = aside-same n
aside-replying {S = S} n (l ∷ ls) =
    let x : Node S = holding n (targets.Client l.client) (reply_of n.secret n.id l) in
    aside-then n x (replying x ls) (record { holds = x.held; slots = n.proposed; stopped = n.stop_made; led = n.sync_made; pressed = n.impatient; told = n.behind; same = refl }) (aside-replying x ls)

-- and leave the replica
pub replica-replying : {S : Type 0} (n : Node S) (lines : List Execution) → (replying n lines).replica ≡ n.replica
replica-replying n [] = refl
replica-replying n (l ∷ ls) = replica-replying (holding n (targets.Client l.client) (reply_of n.secret n.id l)) ls

-- ---- the place of a replica

-- a batch that is decided leaves the replica
replica-decide_batch : {S : Type 0} (n : Node S) (d : Option Decision) → (decide_batch n d).replica ≡ n.replica
unfolding decide_batch
replica-decide_batch n None = refl
replica-decide_batch n (Some d) = refl

pub replica-decides : {S : Type 0} (n : Node S) → (decides n).replica ≡ n.replica
unfolding decides
replica-decides n = replica-decide_batch n (deciding n)

replica-rules : {S : Type 0} (r : Replica S) → KeptByRules (λ (n : Node S). n.replica ≡ r)
replica-rules r = record {
  by_adopts = λ n is. (leaves-adopts n).replica_is ∙ is;
  by_joins = λ n is. (leaves-joins n).replica_is ∙ is;
  by_promises = λ n is. (leaves-promises n).replica_is ∙ is;
  by_leads = λ n is. (leaves-leads n).replica_is ∙ is;
  by_proposes = λ n is. (leaves-proposes n).replica_is ∙ is;
  by_writes = λ n is. (leaves-writes n).replica_is ∙ is;
  by_accepts = λ n is. (leaves-accepts n).replica_is ∙ is;
  by_decides = λ n is. replica-decides n ∙ is;
  by_times = λ n is. (leaves-times n).replica_is ∙ is;
  by_answers = λ n asked is. (leaves-answers_again n asked).replica_is ∙ is;
  by_states = λ n a is. (leaves-answers_state n a).replica_is ∙ is;
  by_plans = λ n is. (leaves-plans n).replica_is ∙ is;
}

-- a pass leaves the replica as an installation and a delivery left it
pub replica-passed : {S : Type 0} (m : Meaning S) (n : Node S) (cause : Cause) (fired : List Fired)
    → (pass (rules m) n cause fired).0.replica ≡ (deliver_row m (installs m n) cause (told_installed m n fired)).0.replica
replica-passed {S = S} m n cause fired =
    let r : Replica S = (deliver_row m (installs m n) cause (told_installed m n fired)).0.replica in
    keeps_rules m (λ (x : Node S). x.replica ≡ r) n cause fired (replica-rules r) refl

-- a batch that waits takes the next place where it is delivered
pub place-deliver_batch : {S : Type 0} (m : Meaning S) (n : Node S) (waiting : Option Batch) → is_some waiting ≡ true → (deliver_batch m n waiting).replica.place ≡ n.replica.place + 1
unfolding deliver_batch
place-deliver_batch m n None waits = absurd (cc)
place-deliver_batch {S = S} m n (Some batch) waits =
    let r : Replica S = delivered m n.replica batch in
    ap (λ (x : Replica S). x.place) (replica-replying (enters n (record n { replica = r; waiting = None; pool = settled r.table n.pool; impatient = false })) (lines_to_answer m n batch))
    ∙ place_delivered m n.replica batch

-- so does the rule that delivers
pub place-delivers : {S : Type 0} (m : Meaning S) (n : Node S) → is_some n.waiting ≡ true → (delivers m n).replica.place ≡ n.replica.place + 1
unfolding delivers
place-delivers m n waits = place-deliver_batch m n n.waiting waits
