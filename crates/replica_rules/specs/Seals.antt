-- How members and clients sign statements, and what names a batch.
use Rattle.std.specs.Prelude.{ℕ, ◌==◌, nat_le, nat_lt, Bool, not, ◌&&◌, ◌||◌, List, length}
use Rattle.std.specs.List.{list_any, list_all}
use Rattle.smart_base.specs.declared.limits.TheConstants.{BATCH_BYTES, BATCH_REQUESTS, LAST_CLIENT}
use Rattle.smart_keys.specs.Keys.{digest, tag_of, is_tag}
use Rattle.smart_statements.specs.Forms.{Form, SignedBy, party_of}
use Rattle.smart_statements.specs.Kinds.{requests}
use Rattle.smart_statements.specs.Batches.{Batch, batch_text}
use Rattle.smart_statements.specs.declared.statement.Request.{Request}

-- a statement with the tag that its signer makes over its bytes
abbrev pub signed : {A : Type 0} → Form A → List ℕ → ℕ → A → SignedBy A
signed form secret signer s = record { signer = signer; statement = s; tag = tag_of secret (party_of form.kind signer) (form.spell s) }

-- a statement whose tag is the one that its signer makes
abbrev pub is_verified : {A : Type 0} → Form A → List ℕ → SignedBy A → Bool
is_verified form secret s = is_tag secret (party_of form.kind s.signer) (form.spell s.statement) s.tag

-- the digest that names a batch in votes: SHA-256 of the batch's bytes
unfoldable pub digest_of : Batch → List ℕ
digest_of batch = digest (batch_text batch)

-- a request that may stand at a place: its client signed it, and it states an earlier place
abbrev pub request_fits : List ℕ → ℕ → SignedBy Request → Bool
request_fits secret place q = nat_le q.statement.client LAST_CLIENT && nat_lt q.statement.after place && is_verified requests secret q

-- a request of the view manager, which is client 0
abbrev pub is_managers : SignedBy Request → Bool
is_managers q = q.statement.client == 0

-- a batch in which a request of the view manager stands alone
abbrev pub is_alone : Batch → Bool
is_alone batch = nat_le (length batch) 1 || not (list_any is_managers batch)

-- a batch that may stand at a place: it has 1 to 64 requests and at most 262,144 bytes, and each request may stand there. A request of the
-- view manager stands alone.
unfoldable pub fits : List ℕ → Batch → ℕ → Bool
fits secret batch place =
    nat_le 1 (length batch) && nat_le (length batch) BATCH_REQUESTS && nat_le (length (batch_text batch)) BATCH_BYTES
    && list_all (request_fits secret place) batch && is_alone batch
