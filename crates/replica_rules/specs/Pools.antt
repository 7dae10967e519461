-- The pool: requests that wait to be proposed, one for each client, in the order in which the clients came.
use Rattle.std.specs.Prelude.{ℕ, ◌==◌, nat_lt, nat_le, Bool, not, ◌&&◌, List, [], ◌∷◌, ◌++◌, length, filter, if◌then◌else◌, Option, Some, None}
use Rattle.smart_base.specs.declared.limits.TheConstants.{BATCH_BYTES, BATCH_REQUESTS}
use Rattle.smart_statements.specs.Forms.{SignedBy}
use Rattle.smart_statements.specs.Batches.{Batch, batch_text}
use Rattle.smart_statements.specs.declared.statement.Request.{Request}
use Rattle.smart_service.specs.declared.table.TableLine.{TableLine}
use Rattle.replica_rules.specs.Replicas.{is_next}
use Rattle.replica_rules.specs.Seals.{is_managers}

-- the pool with a request, at the position of its client's earlier one or else at the end
abbrev pub offered : List (SignedBy Request) → SignedBy Request → List (SignedBy Request)
offered [] q = q ∷ []
offered (old ∷ olds) q = if old.statement.client == q.statement.client then q ∷ olds else old ∷ offered olds q

-- the pool without the requests that may not be executed now
abbrev pub settled : List TableLine → List (SignedBy Request) → List (SignedBy Request)
settled table pool = filter (λ q. is_next table q.statement) pool

-- a batch within the limits: at most 64 requests and 262,144 bytes
abbrev pub is_within : Batch → Bool
is_within batch = nat_le (length batch) BATCH_REQUESTS && nat_le (length (batch_text batch)) BATCH_BYTES

-- a batch with more requests, up to the first that would pass a limit
abbrev pub filled : Batch → List (SignedBy Request) → Batch
filled batch [] = batch
filled batch (q ∷ qs) = if is_within (batch ++ q ∷ []) then filled (batch ++ q ∷ []) qs else batch

-- the batch of a pool, if it has requests. A request of the view manager stands alone; it is passed over if another one comes first.
abbrev pub batch_of : List (SignedBy Request) → Option Batch
batch_of [] = None
batch_of (q ∷ qs) = if is_managers q then Some (q ∷ []) else Some (filled (q ∷ []) (filter (λ p. not (is_managers p)) qs))

-- the batch for a place, if there is one: as many requests as it may hold, from the first on, that state an earlier place
unfoldable pub gathered : List (SignedBy Request) → ℕ → Option Batch
gathered pool place = batch_of (filter (λ q. nat_lt q.statement.after place) pool)
