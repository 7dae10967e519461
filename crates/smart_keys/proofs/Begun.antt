-- Keyed digests that are begun.
use Rattle.std.proofs.Common.{◌≡◌, ℕ, List, ◌++◌, Result, Ok, Err, IsOk, MatchResult, refl, ap, subst, ◌∙◌}
use Rattle.std.specs.Prelude.{⊤}
use Rattle.std.proofs.lemmas.Result.{MatchResult-at_ok}
use Rattle.sha2.specs.Hashers.{Holds256}
use Rattle.sha2.specs.declared.Sha256.{Sha256}
use Rattle.smart_keys.specs.Begun.{IsBegun}
use Rattle.smart_keys.specs.Keys.{digest, block_of, masked, hmac}

-- what cannot fail goes well
pub surely : {T E : Type 0} (r : Result T E) (P : T → Type 0) → MatchResult r P (λ _. ¬ ⊤) → IsOk r
surely (Ok x) P is = refl
surely (Err e) P is = absurd (is tt)

-- and gives what it copies
pub copied : {T E : Type 0} (r : Result T E) (x y : T) (Q : E → Type 0) → MatchResult r (λ z. z ≡ y) Q → r ≡ Ok x → x ≡ y
copied r x y Q is given = MatchResult-at_ok (λ z. z ≡ y) Q x given is

-- states that have taken a key's blocks are begun
pub is_begun : (key bytes block first second : List ℕ) (inner outer : Sha256) → bytes ≡ key → block ≡ block_of bytes → first ≡ masked 0x36 block → second ≡ masked 0x5c block
    → Holds256 inner first → Holds256 outer second → IsBegun key inner outer
is_begun key bytes block first second inner outer same is before behind has holds =
    let blocks : block ≡ block_of key = is ∙ ap (λ k. block_of k) same in
    record {
      inside = subst (λ m. Holds256 inner m) (before ∙ ap (λ b. masked 0x36 b) blocks) has;
      outside = subst (λ m. Holds256 outer m) (behind ∙ ap (λ b. masked 0x5c b) blocks) holds;
    }

-- so are copies of them
pub begun_again : (key : List ℕ) (inner outer a b : Sha256) → a ≡ inner → b ≡ outer → IsBegun key inner outer → IsBegun key a b
begun_again key inner outer a b is also begun =
    record { inside = rw is begun.inside; outside = rw also begun.outside }

-- what they make of a text is the keyed digest
pub tag_is : (key now text inner outer made : List ℕ) → key ≡ now → inner ≡ digest (masked 0x36 (block_of key) ++ text) → outer ≡ digest (masked 0x5c (block_of key) ++ inner) → made ≡ outer
    → made ≡ hmac now text
unfolding hmac
tag_is key now text inner outer made same first last is = rw (is, last, first, same) refl
