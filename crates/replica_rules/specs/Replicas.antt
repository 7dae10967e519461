-- What a list of batches makes of the service and its clients (state machine replication).
use Rattle.std.specs.Prelude.{ℕ, zero, suc, ◌+◌, ◌-◌, ◌==◌, Bool, ◌&&◌, List, [], ◌∷◌, ◌++◌, if◌then◌else◌, Option, Some, None, option_map, slice_get, take}
use Rattle.std.specs.Option.{option_to_list, option_and_then}
use Rattle.smart_base.specs.Views.{View, present}
use Rattle.reconfig.specs.Outcomes.{outcome_of, reply_of, views_behind}
use Rattle.reconfig.specs.declared.outcome.Outcome.{Outcome}
use Rattle.smart_statements.specs.Batches.{Batch}
use Rattle.smart_statements.specs.declared.statement.Request.{Request}
use Rattle.smart_service.specs.Services.{Meaning}
use Rattle.smart_service.specs.Tables.{last_seq, may_execute, noting}
use Rattle.smart_service.specs.declared.table.Execution.{Execution}
use Rattle.smart_service.specs.declared.table.TableLine.{TableLine}
use Rattle.smart_service.specs.declared.replica.Replica.{Replica}

-- a request that is executed: its client's number may be executed now; any other request is passed over
abbrev pub is_next : List TableLine → Request → Bool
is_next table q = may_execute table q.client q.seq

-- a request of the view manager, which is client 0: it asks for a change of the view, and the service is not asked
abbrev pub is_of_manager : Request → Bool
is_of_manager q = q.client == 0

-- what the operation of the view manager comes to, at the place where it is executed
abbrev pub outcome_at : {S : Type 0} → Replica S → Request → Outcome
outcome_at r q = outcome_of r.views q.op r.place

-- the reply, the state of the service and the views that a request makes where it is executed
abbrev pub reply_made : {S : Type 0} → Meaning S → Replica S → Request → List ℕ
reply_made m r q = if is_of_manager q then reply_of (outcome_at r q) else m.reply r.service q.op

abbrev pub service_made : {S : Type 0} → Meaning S → Replica S → Request → S
service_made m r q = if is_of_manager q then r.service else m.next r.service q.op

abbrev pub views_made : {S : Type 0} → Replica S → Request → List View
views_made r q = if is_of_manager q then views_behind r.views (outcome_at r q) else r.views

-- the execution of a request at an index; its view is the one of the place, also where the request begins another
abbrev pub line_of : {S : Type 0} → Meaning S → Replica S → ℕ → Request → Execution
line_of m r index q =
    record { client = q.client; seq = q.seq; place = r.place; index = index; view = (present r.views).number; reply = reply_made m r q }

-- the replica after a request; a request that may not be executed changes nothing
unfoldable pub execute : {S : Type 0} → Meaning S → Replica S → ℕ → Request → Replica S
execute m r index q =
    if is_next r.table q
    then record { service = service_made m r q; table = noting r.table (line_of m r index q); views = views_made r q; place = r.place }
    else r

-- the replica after requests that stand from an index on
abbrev pub execute_all : {S : Type 0} → Meaning S → Replica S → ℕ → Batch → Replica S
execute_all m r index [] = r
execute_all m r index (q ∷ qs) = execute_all m (execute m r index q.statement) (index + 1) qs

-- the execution of a request, if it is executed
abbrev pub line_made : {S : Type 0} → Meaning S → Replica S → ℕ → Request → Option Execution
line_made m r index q = if is_next r.table q then Some (line_of m r index q) else None

-- the executions of requests that stand from an index on, in order
abbrev pub lines_of : {S : Type 0} → Meaning S → Replica S → ℕ → Batch → List Execution
lines_of m r index [] = []
lines_of m r index (q ∷ qs) = option_to_list (line_made m r index q.statement) ++ lines_of m (execute m r index q.statement) (index + 1) qs

-- the replica at the next place, before the batch there
abbrev pub at_next : {S : Type 0} → Replica S → Replica S
at_next r = record { service = r.service; table = r.table; views = r.views; place = r.place + 1 }

-- the replica after one more batch
unfoldable pub delivered : {S : Type 0} → Meaning S → Replica S → Batch → Replica S
delivered m r batch = execute_all m (at_next r) 0 batch

-- the executions of one more batch, in order
unfoldable pub executed_lines : {S : Type 0} → Meaning S → Replica S → Batch → List Execution
executed_lines m r batch = lines_of m (at_next r) 0 batch

-- the replica before any batch
abbrev pub empty : {S : Type 0} → Meaning S → View → Replica S
empty m view = record { service = m.first; table = []; views = view ∷ []; place = 0 }

-- the replica after more batches
abbrev pub after_batches : {S : Type 0} → Meaning S → Replica S → List Batch → Replica S
after_batches m r [] = r
after_batches m r (batch ∷ batches) = after_batches m (delivered m r batch) batches

-- the replica after a list of batches
abbrev pub state : {S : Type 0} → Meaning S → View → List Batch → Replica S
state m view list = after_batches m (empty m view) list

-- the executions of more batches, in order
abbrev pub executions_from : {S : Type 0} → Meaning S → Replica S → List Batch → List Execution
executions_from m r [] = []
executions_from m r (batch ∷ batches) = executed_lines m r batch ++ executions_from m (delivered m r batch) batches

-- the executions of a list of batches, in order
abbrev pub executions : {S : Type 0} → Meaning S → View → List Batch → List Execution
executions m view list = executions_from m (empty m view) list

-- the first execution that passes a test
abbrev pub first_line : (Execution → Bool) → List Execution → Option Execution
first_line p [] = None
first_line p (line ∷ lines) = if p line then Some line else first_line p lines

-- the reply to the request that is executed at a place and an index, if one is
abbrev pub answer : {S : Type 0} → Meaning S → View → List Batch → ℕ → ℕ → Option (List ℕ)
answer m view list place index =
    option_map (λ line. line.reply) (first_line (λ line. (line.place == place) && (line.index == index)) (executions m view list))

-- the place and the index at which a client's request of a number is executed, if it is
abbrev pub place_of : {S : Type 0} → Meaning S → View → List Batch → ℕ → ℕ → Option (ℕ × ℕ)
place_of m view list client seq =
    option_map (λ line. (line.place, line.index)) (first_line (λ line. (line.client == client) && (line.seq == seq)) (executions m view list))

-- the batch at a place of a list; places count from 1
abbrev pub batch_at : List Batch → ℕ → Option Batch
batch_at list zero = None
batch_at list (suc k) = slice_get list k

-- the request at a place and an index; indices count from 0
abbrev pub request_at : List Batch → ℕ → ℕ → Option Request
request_at list place index = option_and_then (λ batch. option_map (λ q. q.statement) (slice_get batch index)) (batch_at list place)

-- ---- the views

-- what the view manager's requests make of a replica: the number of the last one that was executed, and the views
pub record Managed : Type 0 where
  pub seq : ℕ
  pub views : List View

-- what they have made of a replica
abbrev pub managed_of : {S : Type 0} → Replica S → Managed
managed_of r = record { seq = last_seq r.table 0; views = r.views }

-- what a request at a place makes of it; any other client's makes nothing
abbrev pub manages : ℕ → Managed → Request → Managed
manages place g q =
    if is_of_manager q && (q.seq == g.seq + 1) then record { seq = q.seq; views = views_behind g.views (outcome_of g.views q.op place) } else g

-- what the requests of a batch at a place make of it
abbrev pub manages_all : ℕ → Managed → Batch → Managed
manages_all place g [] = g
manages_all place g (q ∷ qs) = manages_all place (manages place g q.statement) qs

-- what batches make of it, the first of which stands at a place
abbrev pub managed_from : ℕ → Managed → List Batch → Managed
managed_from place g [] = g
managed_from place g (batch ∷ batches) = managed_from (place + 1) (manages_all place g batch) batches

-- what the batches of a group make, which begins with a view
abbrev pub managed : View → List Batch → Managed
managed view list = managed_from 1 (record { seq = 0; views = view ∷ [] }) list

-- The views behind a list of batches, the present one last. They follow from the list alone, whatever the service is.
unfoldable pub views_after : View → List Batch → List View
views_after view list = (managed view list).views

-- the view in force at a place: the present one after all earlier places
abbrev pub view_at : View → List Batch → ℕ → View
view_at view list place = present (views_after view (take (place - 1) list))
