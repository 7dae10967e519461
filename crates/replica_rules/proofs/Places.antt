-- The place of a replica behind batches, and what batches behind others execute.
use Rattle.std.proofs.Common.{◌≡◌, ℕ, ◌+◌, ◌++◌, Bool, true, false, List, [], ◌∷◌, length, refl, ap, ◌∙◌, sym, cond, arith, append_assoc}
use Rattle.smart_base.specs.Views.{View}
use Rattle.smart_statements.specs.Batches.{Batch}
use Rattle.smart_statements.specs.declared.statement.Request.{Request}
use Rattle.smart_service.specs.Services.{Meaning}
use Rattle.smart_service.specs.declared.replica.Replica.{Replica}
use Rattle.replica_rules.specs.Replicas.{is_next, execute, execute_all, at_next, delivered, executed_lines, empty, after_batches, state, executions_from}

-- ---- the place

-- of two replicas at one place, a choice is at that place
place_if : {S : Type 0} (b : Bool) (x y : Replica S) → x.place ≡ y.place → (cond b x y).place ≡ y.place
place_if true x y same = same
place_if false x y same = refl

pub place_execute : {S : Type 0} (m : Meaning S) (r : Replica S) (i : ℕ) (q : Request) → (execute m r i q).place ≡ r.place
unfolding execute
place_execute m r i q = place_if (is_next r.table q) _ r refl

pub place_all : {S : Type 0} (m : Meaning S) (r : Replica S) (i : ℕ) (qs : Batch) → (execute_all m r i qs).place ≡ r.place
place_all m r i [] = refl
place_all m r i (q ∷ qs) = place_all m (execute m r i q.statement) (i + 1) qs ∙ place_execute m r i q.statement

-- a batch takes the next place
pub place_delivered : {S : Type 0} (m : Meaning S) (r : Replica S) (batch : Batch) → (delivered m r batch).place ≡ r.place + 1
unfolding delivered
place_delivered m r batch = place_all m (at_next r) 0 batch

pub after_place : {S : Type 0} (m : Meaning S) (r : Replica S) (list : List Batch) → (after_batches m r list).place ≡ r.place + length list
after_place m r [] = omega arith
after_place m r (batch ∷ list) =
    let place = place_delivered m r batch in
    let rest = after_place m (delivered m r batch) list in
    omega (arith, place, rest)

-- each batch takes a place
pub state_place : {S : Type 0} (m : Meaning S) (v : View) (list : List Batch) → (state m v list).place ≡ length list
state_place m v list = let place = after_place m (empty m v) list in omega (arith, place)

-- ---- what is executed

-- a longer list executes what the shorter one does, and then more
pub executions_append : {S : Type 0} (m : Meaning S) (r : Replica S) (list more : List Batch) → executions_from m r (list ++ more) ≡ executions_from m r list ++ executions_from m (after_batches m r list) more
executions_append m r [] more = refl
executions_append m r (batch ∷ list) more =
    ap (λ lines. executed_lines m r batch ++ lines) (executions_append m (delivered m r batch) list more)
    ∙ sym (append_assoc (executed_lines m r batch) (executions_from m (delivered m r batch) list) (executions_from m (after_batches m (delivered m r batch) list) more))
