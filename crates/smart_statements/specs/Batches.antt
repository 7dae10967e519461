-- Batches: their bytes, and which batches have bytes.
use Rattle.std.specs.Prelude.{ℕ, ◌<◌, ◌≤◌, List, ◌++◌, length}
use Rattle.std.specs.List.{flat_map, AllByRecursion}
use Rattle.smart_base.specs.Spelling.{u16}
use Rattle.smart_base.specs.declared.limits.TheConstants.{BATCH_BYTES, BATCH_REQUESTS}
use Rattle.smart_statements.specs.Forms.{SignedBy}
use Rattle.smart_statements.specs.Kinds.{requests}
use Rattle.smart_statements.specs.Spelling.{signed, FitsSigned, FitsRequest}
use Rattle.smart_statements.specs.declared.statement.Request.{Request}

-- a batch: the requests of one place, in the order in which they are executed
abbrev pub Batch : Type 0
Batch = List (SignedBy Request)

-- the bytes of a batch, over which its digest is taken
unfoldable pub batch_text : Batch → List ℕ
batch_text rs = u16 (length rs) ++ flat_map (signed requests) rs

pub record FitsBatch (rs : Batch) : Type 0 where
  pub count_fits : (0 < length rs) × (length rs ≤ BATCH_REQUESTS)
  pub each_fits : AllByRecursion (FitsSigned requests FitsRequest) rs
  pub bytes_fit : length (batch_text rs) ≤ BATCH_BYTES
