-- How a step changes a node's replica: not at all, by the batch that waits, or by an installation.
use Rattle.std.proofs.Common.{◌≡◌, ◌≤◌, arith, Bool, true, false, cond, List, [], ap, ◌∙◌, sym, subst, refl, ◌&&◌, nat_lt, Option, Some, None, is_some, is_none, Result, Ok, Err}
use Rattle.smart_statements.specs.Batches.{Batch}
use Rattle.smart_statements.specs.declared.entry.NodeEvent.{NodeEvent}
use Rattle.smart_service.specs.Services.{Meaning}
use Rattle.smart_service.specs.declared.replica.Replica.{Replica}
use Rattle.state_transfer.specs.Fetches.{are_all_there, finished}
use Rattle.smart_base.proofs.SameLists.{and_true}
use Rattle.kept_arrivals.proofs.Transfers.{installing_ready}
use Rattle.state_transfer.specs.declared.fetch.Fetch.{Fetch}
use Rattle.state_transfer.specs.declared.fetch.Spoiled.{Spoiled}
use Rattle.replica_rules.specs.Pools.{settled}
use Rattle.replica_rules.specs.Replicas.{delivered}
use Rattle.replica_rules.proofs.Places.{place_delivered}
use Rattle.node_rules.specs.Nodes.{Node, enters}
use Rattle.node_rules.specs.Rules.{deliver_batch, delivers, lines_to_answer}
use Rattle.node_rules.specs.Steps.{Taken, rules, pass, passed, takes_in, step_of}
use Rattle.node_rules.specs.Transfers.{install_by, install_fetch, install_replica, installing, installs, is_of_group, spoil}
use Rattle.node_rules.specs.declared.node.Cause.{Cause}
use Rattle.node_rules.specs.declared.node.Fired.{Fired}
use Rattle.node_rules.specs.declared.node.Why.{Why}
use Rattle.node_rules.proofs.Rulewise.{told_installed, by_delivery, by_mark, none_installs, takes_in_as, free-event}
use Rattle.node_rules.specs.Arrivals.{noted}
use Rattle.node_laws.proofs.Installing.{IsReady, installing_is}
use Rattle.node_laws.proofs.Planning.{IsTakenFrom, finished_from}
use Rattle.replica_laws.proofs.Installs.{takes-installs}
use Rattle.replica_laws.proofs.Leaves.{leaves-mark, leaves-noted, leaves-kept}
use Rattle.replica_laws.proofs.Replying.{replica-passed, replica-replying}

-- what a replica may be behind a pass of a node that has taken an event in
pub data Moves {S : Type 0} (m : Meaning S) (n : Node S) (r : Replica S) : Type 0 where
  moves_none : r ≡ n.replica → Moves m n r
  moves_on : (batch : Batch) → n.waiting ≡ Some batch → r ≡ delivered m n.replica batch → Moves m n r
  moves_to : (f : Fetch) → IsReady n f → are_all_there f ≡ true → IsTakenFrom m f r → is_of_group n r ≡ true → Moves m n r

-- ---- an installation

moved-by : {S : Type 0} (m : Meaning S) (n : Node S) (f : Fetch) (made : Result (Replica S) Spoiled) → finished m f ≡ made → IsReady n f → are_all_there f ≡ true → Moves m n (install_by n f made).replica
unfolding install_replica spoil
moved-by m n f (Err why) said due all = moves_none refl
moved-by {S = S} m n f (Ok r) said due all = by (is_of_group n r) refl
  where
    by : (t : Bool) → is_of_group n r ≡ t → Moves m n (cond t (install_replica n f r) (spoil n f)).replica
    by true of = moves_to f due all (finished_from m f r said) of
    by false of = moves_none refl

moved-fetch : {S : Type 0} (m : Meaning S) (n : Node S) (due : Option Fetch) → installing n ≡ due → Moves m n (install_fetch m n due).replica
unfolding install_fetch
moved-fetch m n None at = moves_none refl
moved-fetch m n (Some f) at =
    let ready = and_true (are_all_there f && is_none n.waiting) (nat_lt n.replica.place f.plan.place) (installing_ready n f at) in
    moved-by m n f (finished m f) refl (installing_is n f at) (and_true (are_all_there f) (is_none n.waiting) ready.0).0

moved-installs : {S : Type 0} (m : Meaning S) (n : Node S) → Moves m n (installs m n).replica
unfolding installs
moved-installs m n = moved-fetch m n (installing n) refl

-- ---- a delivery behind it

none_fetched : {S : Type 0} (m : Meaning S) (n : Node S) (due : Option Fetch) → due ≡ None → install_fetch m n due ≡ n
unfolding install_fetch
none_fetched m n None at = refl
none_fetched m n (Some f) at = absurd (cc)

-- a node whose decided batch waits installs nothing
waits-installs : {S : Type 0} (m : Meaning S) (n : Node S) → is_some n.waiting ≡ true → installs m n ≡ n
unfolding installs
waits-installs m n waits = none_fetched m n (installing n) (none_installs m n waits)

moved-deliver_batch : {S : Type 0} (m : Meaning S) (n i : Node S) (waiting : Option Batch) → n.waiting ≡ waiting → (is_some waiting ≡ true → i ≡ n) → Moves m n i.replica → Moves m n (deliver_batch m i waiting).replica
unfolding deliver_batch
moved-deliver_batch m n i None at same is = is
moved-deliver_batch {S = S} m n i (Some batch) at same is =
    let r : Replica S = delivered m i.replica batch in
    moves_on batch at
    (replica-replying (enters i (record i { replica = r; waiting = None; pool = settled r.table i.pool; impatient = false })) (lines_to_answer m i batch)
    ∙ ap (λ (x : Node S). delivered m x.replica batch) (same refl))

waiting-kept : {S : Type 0} (m : Meaning S) (n : Node S) (waiting : Option Batch) → n.waiting ≡ waiting → is_some waiting ≡ true → installs m n ≡ n
waiting-kept m n waiting at some = waits-installs m n (ap is_some at ∙ some)

moved-delivers : {S : Type 0} (m : Meaning S) (n : Node S) → (installs m n).waiting ≡ n.waiting → Moves m n (delivers m (installs m n)).replica
unfolding delivers
moved-delivers {S = S} m n waits =
    subst (λ (w : Option Batch). Moves m n (deliver_batch m (installs m n) w).replica) (sym waits)
    (moved-deliver_batch m n (installs m n) n.waiting refl (λ some. waiting-kept m n n.waiting refl some) (moved-installs m n))

-- ---- a pass, and a step

pub moved-passed : {S : Type 0} (m : Meaning S) (n : Node S) (cause : Cause) → (installs m n).waiting ≡ n.waiting → Moves m n (pass (rules m) n cause []).0.replica
moved-passed {S = S} m n cause waits =
    let i : Node S = installs m n in
    let d : Moves m n (delivers m i).replica = moved-delivers m n waits in
    subst (λ (r : Replica S). Moves m n r) (sym (replica-passed m n cause []))
    (by_delivery m (λ (x : Node S) (told : List Fired). Moves m n x.replica) i cause (told_installed m n []) (moved-installs m n)
    (by_mark m (λ (x : Node S). Moves m n x.replica) (is_some i.waiting) (delivers m i) d
    (λ due. subst (λ (r : Replica S). Moves m n r) (sym (leaves-mark m (delivers m i)).replica_is) d)))

moved-taken : {S : Type 0} (m : Meaning S) (t : Taken S) (why : Option Why) → (installs m t.node).waiting ≡ t.node.waiting → Moves m t.node (passed m t why).node.replica
moved-taken m t None waits = moved-passed m t.node t.cause waits
moved-taken m t (Some why) waits = moves_none refl

-- the replica behind a step, by the node that has taken the event in
pub moved-step : {S : Type 0} (m : Meaning S) (n : Node S) (event : NodeEvent) → Moves m (takes_in n event).node (step_of m n event).node.replica
unfolding step_of
moved-step m n event = moved-taken m (takes_in n event) (takes_in n event).dropped (takes-installs m (takes_in n event).node).waits

-- no step takes a place back
pub moves_place : {S : Type 0} (m : Meaning S) (n : Node S) (r : Replica S) → Moves m n r → n.replica.place ≤ r.place
moves_place {S = S} m n r (moves_none is) = let same = ap (λ (x : Replica S). x.place) is in omega (arith, same)
moves_place {S = S} m n r (moves_on batch waits is) = let same = ap (λ (x : Replica S). x.place) is in let next = place_delivered m n.replica batch in omega (arith, same, next)
moves_place m n r (moves_to f due all taken of) = let at = taken.place_is in let later = due.later in omega (arith, at, later)

-- what takes an event in leaves a node's secret, and the place of its opening
pub same-takes_in : {S : Type 0} (n : Node S) (event : NodeEvent) → ((takes_in n event).node.secret ≡ n.secret) × ((takes_in n event).node.opening ≡ n.opening)
same-takes_in {S = S} n event =
    takes_in_as (λ (x : Node S). (x.secret ≡ n.secret) × (x.opening ≡ n.opening)) (λ message. Unit {0}) n event
    (λ message. let told = leaves-noted n message in (told.shared, told.opening_is))
    (λ message none may. let keeps = leaves-kept (noted n message) message in let told = leaves-noted n message in (keeps.shared ∙ told.shared, keeps.opening_is ∙ told.opening_is))
    (λ count. (refl, refl)) (free-event event) (refl, refl)
