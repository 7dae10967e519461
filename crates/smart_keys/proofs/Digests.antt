-- Digests have 32 bytes, each below 256.
use Rattle.std.proofs.Common.{◌≡◌, ◌<◌, ℕ, zero, suc, List, ◌++◌, [], ◌∷◌, length, arith}
use Rattle.std.specs.Int.{to_be_bytes, w32}
use Rattle.std.specs.Prelude.{slice_index}
use Rattle.smart_base.specs.Lists.{Each}
use Rattle.sha2.specs.Sha256.{sha256, digest_bytes, final_hash, initial_hash_256}
use Rattle.sha2.proofs.Facts256.{length-sha256}
use Rattle.smart_keys.specs.Keys.{digest, hmac}

pub each-append : {A : Type 0} (P : A → Type 0) (xs ys : List A) → Each P xs → Each P ys → Each P (xs ++ ys)
each-append P [] ys front back = back
each-append P (x ∷ xs) ys front back = (front.0, each-append P xs ys front.1 back)

word_bytes : (n : ℕ) → Each (λ byte. byte < 256) (to_be_bytes w32 n)
word_bytes n = (omega arith, (omega arith, (omega arith, (omega arith, tt))))

digest_bytes-bytes : (h : List ℕ) (n : ℕ) → Each (λ byte. byte < 256) (digest_bytes h n)
unfolding digest_bytes
digest_bytes-bytes h zero = tt
digest_bytes-bytes h (suc n) =
    each-append (λ byte. byte < 256) (digest_bytes h n) (to_be_bytes w32 (slice_index h n)) (digest_bytes-bytes h n) (word_bytes (slice_index h n))

pub digest-length : (bytes : List ℕ) → length (digest bytes) ≡ 32
unfolding digest
digest-length bytes = length-sha256 bytes

pub digest-bytes : (bytes : List ℕ) → Each (λ byte. byte < 256) (digest bytes)
unfolding digest sha256
digest-bytes bytes = digest_bytes-bytes (final_hash initial_hash_256 bytes) 8

pub hmac-length : (key text : List ℕ) → length (hmac key text) ≡ 32
unfolding hmac
hmac-length key text = digest-length _

pub hmac-bytes : (key text : List ℕ) → Each (λ byte. byte < 256) (hmac key text)
unfolding hmac
hmac-bytes key text = digest-bytes _
