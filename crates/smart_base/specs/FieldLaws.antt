-- The laws of the fields that many formats have.
use Rattle.std.proofs.Common.{rules, ◌≡◌, ℕ, ◌^◌, ◌<◌, ◌≤◌, Bool, true, false, ltb, leb, eqb, ◌&&◌, length, refl, arith}
use Rattle.std.specs.Int.{Width, w8, w16, w32, w64, to_be_bytes}
use Rattle.std.proofs.lemmas.Bool.{ltb-true, lt-ltb, leb-true, le-leb, eqb-true}
use Rattle.smart_base.specs.Cuts.{fixed_at, number_at, ranged, text_at}
use Rattle.smart_base.specs.Spelling.{IsCount, IsTag, IsPayload, behind, Law}
use Rattle.smart_base.specs.Fields.{kind_at, same_at, count_at, items_at, digest_at, tag_at, text_to, payload_at}
use Rattle.smart_base.specs.Laws.{refit, ranged_law, contents_law, fixed_field, text_field, number_law, wide8, wide16, wide32, wide64}
use Rattle.smart_base.specs.declared.limits.TheConstants.{PAYLOAD_BYTES, TAG_BYTES}

pub u8_law : Law (λ n. n < 2 ^ 8) (to_be_bytes w8) (number_at w8)
u8_law = number_law w8 (2 ^ 8) wide8

pub u16_law : Law (λ n. n < 2 ^ 16) (to_be_bytes w16) (number_at w16)
u16_law = number_law w16 (2 ^ 16) wide16

pub u32_law : Law (λ n. n < 2 ^ 32) (to_be_bytes w32) (number_at w32)
u32_law = number_law w32 (2 ^ 32) wide32

pub u64_law : Law (λ n. n < 2 ^ 64) (to_be_bytes w64) (number_at w64)
u64_law = number_law w64 (2 ^ 64) wide64

pub and_true : (a b : Bool) → (a && b) ≡ true → (a ≡ true) × (b ≡ true)
and_true true b e = (refl, e)
and_true false b e = absurd cc

equal_law : (w : Width) (limit k : ℕ) → Law (λ n. n < limit) (to_be_bytes w) (number_at w)
    → Law (λ n. (n ≡ k) × (n < limit)) (to_be_bytes w) (ranged (λ b. eqb b k) (number_at w))
equal_law w limit k l =
    refit (λ n. (n < limit) × (eqb n k ≡ true)) (λ n. (n ≡ k) × (n < limit)) (to_be_bytes w) (ranged (λ b. eqb b k) (number_at w))
    (ranged_law (λ n. n < limit) (to_be_bytes w) (number_at w) (λ b. eqb b k) l)
    (λ n h. (eqb-true n k h.1, h.0)) (λ n h. (h.1, rw h.0 (search rules)))

pub kind_law : (k : ℕ) → Law (λ n. (n ≡ k) × (n < 2 ^ 8)) (to_be_bytes w8) (kind_at k)
kind_law k = equal_law w8 (2 ^ 8) k u8_law

pub same_law : (k : ℕ) → Law (λ n. (n ≡ k) × (n < 2 ^ 16)) (to_be_bytes w16) (same_at k)
same_law k = equal_law w16 (2 ^ 16) k u16_law

-- from 1 to the greatest
upto_law : (w : Width) (limit most : ℕ) → most < limit → Law (λ n. n < limit) (to_be_bytes w) (number_at w)
    → Law (λ n. (0 < n) × (n ≤ most)) (to_be_bytes w) (ranged (λ n. ltb 0 n && leb n most) (number_at w))
upto_law w limit most small l =
    refit (λ n. (n < limit) × ((ltb 0 n && leb n most) ≡ true)) (λ n. (0 < n) × (n ≤ most)) (to_be_bytes w)
    (ranged (λ n. ltb 0 n && leb n most) (number_at w))
    (ranged_law (λ n. n < limit) (to_be_bytes w) (number_at w) (λ n. ltb 0 n && leb n most) l)
    (λ n h. let t = and_true (ltb 0 n) (leb n most) h.1 in (ltb-true 0 n t.0, leb-true n most t.1))
    (λ n h. (omega (arith, h.1), rw (lt-ltb 0 n h.0, le-leb n most h.1) refl))

pub items_law : (most : ℕ) → most < 2 ^ 16 → Law (λ n. (0 < n) × (n ≤ most)) (to_be_bytes w16) (items_at most)
items_law most small = upto_law w16 (2 ^ 16) most small u16_law

pub count_law : Law IsCount (to_be_bytes w64) count_at
count_law =
    refit (λ n. (n < 2 ^ 64) × ((ltb 0 n && ltb n (2 ^ 63)) ≡ true)) IsCount (to_be_bytes w64) count_at
    (ranged_law (λ n. n < 2 ^ 64) (to_be_bytes w64) (number_at w64) (λ p. ltb 0 p && ltb p (2 ^ 63)) u64_law)
    (λ n h. let t = and_true (ltb 0 n) (ltb n (2 ^ 63)) h.1 in (ltb-true 0 n t.0, ltb-true n (2 ^ 63) t.1))
    (λ n h. (omega (arith, h.1), rw (lt-ltb 0 n h.0, lt-ltb n (2 ^ 63) h.1) refl))

pub digest_law : Law (λ t. length t ≡ 32) (λ t. t) digest_at
digest_law = contents_law (λ t. length t ≡ 32) (λ t. t) (fixed_at 32) (fixed_field 32)

pub tag_law : Law IsTag (behind w16) tag_at
tag_law =
    refit (λ t. (length t < 2 ^ 16) × ((ltb 0 (length t) && leb (length t) TAG_BYTES) ≡ true)) IsTag (behind w16) tag_at
    (contents_law _ (behind w16) (text_at w16 (λ n. ltb 0 n && leb n TAG_BYTES)) (text_field w16 (2 ^ 16) (λ n. ltb 0 n && leb n TAG_BYTES) wide16))
    (λ t h. let u = and_true (ltb 0 (length t)) (leb (length t) TAG_BYTES) h.1 in (ltb-true 0 (length t) u.0, leb-true (length t) TAG_BYTES u.1))
    (λ t h. (omega (arith, h.1), rw (lt-ltb 0 (length t) h.0, le-leb (length t) TAG_BYTES h.1) refl))

pub text_law : (most : ℕ) → most < 2 ^ 32 → Law (λ t. length t ≤ most) (behind w32) (text_to most)
text_law most small =
    refit (λ t. (length t < 2 ^ 32) × (leb (length t) most ≡ true)) (λ t. length t ≤ most) (behind w32) (text_to most)
    (contents_law _ (behind w32) (text_at w32 (λ n. leb n most)) (text_field w32 (2 ^ 32) (λ n. leb n most) wide32))
    (λ t h. leb-true (length t) most h.1) (λ t h. (omega (arith, h, small), le-leb (length t) most h))

pub payload_law : Law IsPayload (behind w32) payload_at
payload_law = text_law PAYLOAD_BYTES (omega arith)
