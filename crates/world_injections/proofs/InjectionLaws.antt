-- Which requests make a batch.
use Rattle.std.proofs.Common.{◌≡◌, ℕ, suc, ◌+◌, ◌<◌, ◌≤◌, ◌^◌, Bool, true, false, ◌&&◌, nat_lt, nat_le, List, [], ◌∷◌, length, get_or, Option, Some, None, is_some, option_map, refl, sym, ◌∙◌, length-append, arith}
use Rattle.std.specs.Prelude.{if◌then◌else◌}
use Rattle.std.specs.List.{flat_map}
use Rattle.std.specs.Option.{option_and_then}
use Rattle.std.proofs.lemmas.Bool.Decides.{nat_tests}
use Rattle.smart_base.specs.Spelling.{u16}
use Rattle.smart_statements.specs.Forms.{SignedBy}
use Rattle.smart_statements.specs.Kinds.{requests}
use Rattle.smart_statements.specs.Batches.{Batch, batch_text}
use Rattle.smart_statements.specs.Spelling.{signed}
use Rattle.smart_statements.specs.declared.statement.Request.{Request}
use Rattle.world_rules.specs.Injections.{request_at, requests_at, are_bytes}
use Rattle.world_rules.specs.declared.message.Sent.{Sent}
use Rattle.world_injections.specs.Proposals.{is_proposable, proposable}

-- numbers of eight bits are bytes
pub all_bytes : (xs : List ℕ) → ((i : ℕ) → get_or xs i 0 < 2 ^ 8) → are_bytes xs ≡ true
all_bytes [] fit = refl
all_bytes (x ∷ xs) fit =
    let first : x < 2 ^ 8 = fit 0 in
    let head : nat_lt x 256 ≡ true = grind (arith, nat_tests) in
    rw (head, all_bytes xs (λ i. fit (suc i))) refl

-- so many requests as numbers
abbrev HasLength : ℕ → Option Batch → Type 0
HasLength n found = option_map (λ qs. length qs) found ≡ option_map (λ qs. n) found

one_more : (n : ℕ) (q : Option (SignedBy Request)) (qs : Option Batch) → HasLength n qs
    → HasLength (suc n) (option_and_then (λ x. option_and_then (λ xs. Some (x ∷ xs)) qs) q)
one_more n None qs long = refl
one_more n (Some q) None long = refl
one_more n (Some q) (Some qs) long = cc

pub has_length : (sent : List Sent) (asks : List ℕ) → HasLength (length asks) (requests_at sent asks)
has_length sent [] = refl
has_length sent (n ∷ ns) = one_more (length ns) (request_at sent n) (requests_at sent ns) (has_length sent ns)

is_there : {A : Type 0} (t : Bool) (x : A) → is_some (if t then Some x else None) ≡ t
is_there true x = refl
is_there false x = refl

-- too few, or too many
pub outside : (n : ℕ) (found : Option Batch) → HasLength n found → (nat_le 1 n && nat_le n 64) ≡ false → false ≡ is_some (proposable found)
outside n None long none = refl
outside n (Some qs) long none =
    let e : length qs ≡ n = cc in
    let t : is_proposable qs ≡ false = rw (e, none) refl in
    sym (is_there (is_proposable qs) qs ∙ t)

text_length : (qs : Batch) → length (batch_text qs) ≡ 2 + length (flat_map (signed requests) qs)
unfolding batch_text
text_length qs = omega (arith, length-append (u16 (length qs)) (flat_map (signed requests) qs))

-- some, and not too many
pub within : (n bytes : ℕ) (found : Option Batch) → HasLength n found → 1 ≤ n → n ≤ 64 → Some bytes ≡ option_map (λ qs. length (flat_map (signed requests) qs)) found
    → nat_le (2 + bytes) 262144 ≡ is_some (proposable found)
within n bytes None long some few is = absurd (cc)
within n bytes (Some qs) long some few is =
    let e : length qs ≡ n = cc in
    let t : bytes ≡ length (flat_map (signed requests) qs) = cc in
    let one : nat_le 1 n ≡ true = grind (arith, nat_tests) in
    let all : nat_le n 64 ≡ true = grind (arith, nat_tests) in
    let is_so : is_proposable qs ≡ nat_le (2 + bytes) 262144 = rw (e, one, all, text_length qs, t) refl in
    sym (is_there (is_proposable qs) qs ∙ is_so)
