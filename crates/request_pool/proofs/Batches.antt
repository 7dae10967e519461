-- How long a batch's text is, and which batches are within the limits.
use Rattle.std.proofs.Common.{◌≡◌, ℕ, ◌+◌, ◌<◌, ◌≤◌, ◌^◌, ◌++◌, true, ◌&&◌, [], ◌∷◌, length, ap, ◌∙◌, arith, nat_lt, nat_le, suc}
use Rattle.std.proofs.lemmas.List.{length-append}
use Rattle.std.proofs.lemmas.Grind.{flat_map-append}
use Rattle.std.proofs.lemmas.Bool.{leb-true}
use Rattle.smart_base.proofs.SameLists.{and_true}
use Rattle.smart_base.specs.Spelling.{u16}
use Rattle.smart_statements.specs.Forms.{SignedBy}
use Rattle.smart_statements.specs.Kinds.{requests}
use Rattle.smart_statements.specs.Batches.{Batch, batch_text}
use Rattle.smart_statements.specs.Spelling.{signed}
use Rattle.smart_statements.specs.declared.statement.Request.{Request}
use Rattle.std.specs.List.{flat_map}
use Rattle.replica_rules.specs.Pools.{is_within}

pub text_of_one : (q : SignedBy Request) → length (batch_text (q ∷ [])) ≡ 2 + length (signed requests q)
unfolding batch_text
text_of_one q = omega (arith, length-append (u16 1) (signed requests q ++ []), length-append (signed requests q) [])

pub text_of_more : (batch : Batch) (q : SignedBy Request) → length (batch_text (batch ++ q ∷ [])) ≡ length (batch_text batch) + length (signed requests q)
unfolding batch_text
text_of_more batch q = omega (
  arith,
  length-append (u16 (length (batch ++ q ∷ []))) (flat_map (signed requests) (batch ++ q ∷ [])),
  ap length (flat_map-append (signed requests) batch (q ∷ [])),
  length-append (flat_map (signed requests) batch) (signed requests q ++ []),
  length-append (signed requests q) [],
  length-append (u16 (length batch)) (flat_map (signed requests) batch),
)

-- what a count of the bytes says of the limits
pub within_by_count : (batch : Batch) (q : SignedBy Request) (bytes more : ℕ) → bytes ≡ length (batch_text batch) → more ≡ length (signed requests q)
    → is_within (batch ++ q ∷ []) ≡ (nat_lt (length batch) 64 && nat_le (bytes + more) 262144)
within_by_count batch q bytes more all one =
    let count : length (batch ++ q ∷ []) ≡ suc (length batch) = omega (arith, length-append batch (q ∷ [])) in
    let text : length (batch_text (batch ++ q ∷ [])) ≡ bytes + more = omega (arith, text_of_more batch q, all, one) in
    ap (λ n. nat_le n 64 && nat_le (length (batch_text (batch ++ q ∷ []))) 262144) count
    ∙ ap (λ n. nat_le (suc (length batch)) 64 && nat_le n 262144) text

-- the limits that a batch within them keeps
pub within_limits : (batch : Batch) → is_within batch ≡ true → (length batch ≤ 64) × (length (batch_text batch) ≤ 262144)
within_limits batch is =
    let parts = and_true (nat_le (length batch) 64) (nat_le (length (batch_text batch)) 262144) is in
    (leb-true (length batch) 64 parts.0, leb-true (length (batch_text batch)) 262144 parts.1)

-- what the fields of a batch that grows keep
abbrev pub IsCounted : Batch → ℕ → Type 0
IsCounted batch bytes = (0 < length batch) × (length batch ≤ 64) × (bytes ≡ length (batch_text batch)) × (bytes < 2 ^ 40)

pub counted_one : (batch : Batch) (q : SignedBy Request) (more : ℕ) → batch ≡ q ∷ [] → more ≡ length (signed requests q) → more < 2 ^ 33 → IsCounted batch (2 + more)
counted_one batch q more is one small =
    let count : length batch ≡ 1 = ap length is in
    let text : 2 + more ≡ length (batch_text batch) = omega (arith, text_of_one q, one, ap (λ (b : Batch). length (batch_text b)) is) in
    (omega (arith, count), omega (arith, count), text, omega (arith, small))

pub counted_more : (old new : Batch) (q : SignedBy Request) (bytes more : ℕ) → new ≡ old ++ q ∷ [] → bytes ≡ length (batch_text old) → more ≡ length (signed requests q)
    → is_within (old ++ q ∷ []) ≡ true → IsCounted new (bytes + more)
counted_more old new q bytes more is all one within =
    let limits = within_limits (old ++ q ∷ []) within in
    let text : length (batch_text new) ≡ length (batch_text (old ++ q ∷ [])) = ap (λ (b : Batch). length (batch_text b)) is in
    let count : length new ≡ length (old ++ q ∷ []) = ap length is in (
      omega (arith, count, length-append old (q ∷ [])),
      omega (arith, count, limits.0),
      omega (arith, text_of_more old q, all, one, text),
      omega (arith, text_of_more old q, all, one, limits.1),
    )
