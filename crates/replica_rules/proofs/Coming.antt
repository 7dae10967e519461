-- A service that comes to its states by batches: what operations keep, batches keep.
use Rattle.std.proofs.Common.{ℕ, ◌+◌, Bool, true, false, List, [], ◌∷◌, cond}
use Rattle.smart_base.specs.Views.{View}
use Rattle.smart_statements.specs.Batches.{Batch}
use Rattle.smart_statements.specs.declared.statement.Request.{Request}
use Rattle.smart_service.specs.Services.{Meaning}
use Rattle.smart_service.specs.declared.replica.Replica.{Replica}
use Rattle.replica_rules.specs.Replicas.{is_next, is_of_manager, service_made, execute, execute_all, at_next, delivered, empty, after_batches, state}

-- of two replicas with valid services, a choice has one
valid_if : {S : Type 0} (valid : S → Type 0) (b : Bool) (x y : Replica S) → valid x.service → valid y.service → valid (cond b x y).service
valid_if valid true x y one other = one
valid_if valid false x y one other = other

module _ {S : Type 0} (m : Meaning S) (valid : S → Type 0) (next : (s : S) (op : List ℕ) → valid s → valid (m.next s op)) where
  valid_choice : (b : Bool) (s s' : S) → valid s → valid s' → valid (cond b s s')
  valid_choice true s s' one other = one
  valid_choice false s s' one other = other

  valid_made : (r : Replica S) (q : Request) → valid r.service → valid (service_made m r q)
  valid_made r q is = valid_choice (is_of_manager q) r.service (m.next r.service q.op) is (next r.service q.op is)

  pub valid_execute : (r : Replica S) (i : ℕ) (q : Request) → valid r.service → valid (execute m r i q).service
  unfolding execute
  valid_execute r i q is = valid_if valid (is_next r.table q) _ r (valid_made r q is) is

  valid_all : (r : Replica S) (i : ℕ) (qs : Batch) → valid r.service → valid (execute_all m r i qs).service
  valid_all r i [] is = is
  valid_all r i (q ∷ qs) is = valid_all (execute m r i q.statement) (i + 1) qs (valid_execute r i q.statement is)

  pub valid_delivered : (r : Replica S) (batch : Batch) → valid r.service → valid (delivered m r batch).service
  unfolding delivered
  valid_delivered r batch is = valid_all (at_next r) 0 batch is

  pub valid_after : (r : Replica S) (list : List Batch) → valid r.service → valid (after_batches m r list).service
  valid_after r [] is = is
  valid_after r (batch ∷ list) is = valid_after (delivered m r batch) list (valid_delivered r batch is)

  pub valid_state : (view : View) (list : List Batch) → valid m.first → valid (state m view list).service
  valid_state view list first = valid_after (empty m view) list first
