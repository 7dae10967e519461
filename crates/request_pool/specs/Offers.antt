-- What becomes of a request that is offered to a pool.
use Rattle.std.specs.Prelude.{◌≡◌, ℕ, ◌+◌, ◌≤◌, ◌==◌, nat_le, nat_lt, Bool, true, not, List, [], ◌∷◌, length, map, if◌then◌else◌}
use Rattle.std.specs.List.{list_any}
use Rattle.smart_base.specs.declared.limits.TheConstants.{BATCH_BYTES, LAST_CLIENT}
use Rattle.smart_statements.specs.Forms.{SignedBy}
use Rattle.smart_statements.specs.Kinds.{requests}
use Rattle.smart_statements.specs.Batches.{batch_text}
use Rattle.smart_statements.specs.declared.statement.Request.{Request}
use Rattle.replica_rules.specs.Seals.{is_verified}
use Rattle.replica_rules.specs.Pools.{offered}
use Rattle.request_pool.specs.declared.pool.Offer.{Offer}
use Rattle.request_pool.specs.declared.pool.Offer.TheVariants.{Kept, Replaced, Old, Ahead, BadTag, Stranger}

-- the clients of requests, in order
abbrev pub clients_of : List (SignedBy Request) → List ℕ
clients_of pool = map (λ q. q.statement.client) pool

-- a client of whom a pool has a request
abbrev pub has_client : List (SignedBy Request) → ℕ → Bool
has_client pool client = list_any (λ old. old.statement.client == client) pool

-- the answer to an offered request, by the number of its client's last executed one: the first reason not to keep it, or where it waits
abbrev pub offer_of : List ℕ → List (SignedBy Request) → SignedBy Request → ℕ → Offer
offer_of secret pool q last =
    if not (is_verified requests secret q) then BadTag
    else if nat_lt LAST_CLIENT q.statement.client then Stranger
    else if nat_le q.statement.seq last then Old
    else if nat_lt (last + 1) q.statement.seq then Ahead
    else if has_client pool q.statement.client then Replaced
    else Kept

-- the pool after an answer
abbrev pub pool_after : Offer → List (SignedBy Request) → SignedBy Request → List (SignedBy Request)
pool_after Kept pool q = offered pool q
pool_after Replaced pool q = offered pool q
pool_after Old pool q = pool
pool_after Ahead pool q = pool
pool_after BadTag pool q = pool
pool_after Stranger pool q = pool

-- A request that may stand in a batch: its client is known and signed it, and alone it has no more bytes than a batch may have.
pub record IsSound (secret : List ℕ) (q : SignedBy Request) : Type 0 where
  pub verified : is_verified requests secret q ≡ true
  pub known : q.statement.client ≤ LAST_CLIENT
  pub small : length (batch_text (q ∷ [])) ≤ BATCH_BYTES
