-- The laws of batches: what is read is what is spelled.
use Rattle.std.proofs.Common.{◌≡◌, ℕ, ◌<◌, ◌≤◌, List, length, refl, sym, ◌∙◌, arith}
use Rattle.std.specs.List.{AllByRecursion}
use Rattle.std.specs.Int.{w16, to_be_bytes}
use Rattle.smart_base.specs.Cuts.{Cut}
use Rattle.smart_base.specs.Spelling.{Law}
use Rattle.smart_base.specs.Fields.{items_at}
use Rattle.smart_base.specs.Laws.{ok_is, then_law, refit, times_law, limited_law, whole_again}
use Rattle.smart_base.specs.FieldLaws.{items_law}
use Rattle.smart_statements.specs.Forms.{SignedBy}
use Rattle.smart_statements.specs.Spelling.{signed, FitsSigned, FitsRequest}
use Rattle.smart_statements.specs.Kinds.{requests}
use Rattle.smart_statements.specs.Reading.{signed_at, requests_at, batch_at}
use Rattle.smart_statements.specs.Batches.{Batch, batch_text, FitsBatch}
use Rattle.smart_statements.specs.Statements.{request_law, signed_law}
use Rattle.smart_statements.specs.declared.statement.Request.{Request}

pub ask_law : Law (FitsSigned requests FitsRequest) (signed requests) (signed_at requests)
ask_law = signed_law requests FitsRequest (omega arith) request_law

requests_law : Law (λ rs. Unit {0} × (((0 < length rs) × (length rs ≤ 64)) × AllByRecursion (FitsSigned requests FitsRequest) rs)) batch_text (requests_at requests)
unfolding requests_at batch_text
requests_law =
    then_law (λ (rs : List (SignedBy Request)). length rs) (λ rs. Unit {0}) (λ n. (0 < n) × (n ≤ 64)) (to_be_bytes w16) (items_at 64) _ _ _
    (items_law 64 (omega arith)) λ n h.
    refit _ (λ rs. (Unit {0} × (length rs ≡ n)) × AllByRecursion (FitsSigned requests FitsRequest) rs) _ _
    (times_law (FitsSigned requests FitsRequest) (signed requests) (signed_at requests) ask_law n)
    (λ rs h. ((tt, h.0), h.1)) (λ rs h. (h.0.1, h.1))

pub batch_law : Law FitsBatch batch_text (batch_at requests)
unfolding batch_at
batch_law =
    refit _ FitsBatch batch_text (batch_at requests) (limited_law _ batch_text (requests_at requests) 262144 requests_law)
    (λ rs h. record { count_fits = h.0.1.0; each_fits = h.0.1.1; bytes_fit = h.1 })
    (λ rs h. ((tt, (h.count_fits, h.each_fits)), h.bytes_fit))

abbrev pub start : List ℕ → Cut
start bytes = record { at = 0; left = bytes }

-- a text is the batch's alone
pub batch_is : (a b : Batch) → FitsBatch a → FitsBatch b → batch_text a ≡ batch_text b → a ≡ b
batch_is a b fits_a fits_b e =
    ok_is a b
    (sym (whole_again FitsBatch batch_text (batch_at requests) batch_law (start (batch_text a)) a fits_a refl)
    ∙ whole_again FitsBatch batch_text (batch_at requests) batch_law (start (batch_text a)) b fits_b e)
