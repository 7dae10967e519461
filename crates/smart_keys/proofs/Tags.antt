-- Tags of parties.
use Rattle.std.proofs.Common.{◌≡◌, ℕ, true, List, [], ◌∷◌, ◌==◌, length, refl, sym, eq-eqb}
use Rattle.std.proofs.lemmas.Bool.{eqb-true}
use Rattle.smart_base.specs.Lists.{same_bytes}
use Rattle.smart_base.specs.declared.party.Party.{Party}
use Rattle.smart_base.proofs.SameLists.{same_list-equal}
use Rattle.smart_keys.specs.Keys.{hmac, key_of, tag_of, is_tag}
use Rattle.smart_keys.proofs.Digests.{hmac-length}

same_number : (n : ℕ) → (n == n) ≡ true
same_number n = eq-eqb n n refl

same_bytes-refl : (bytes : List ℕ) → same_bytes bytes bytes ≡ true
same_bytes-refl [] = refl
same_bytes-refl (byte ∷ bytes) = rw (same_number byte) (same_bytes-refl bytes)

-- what a party's key makes is the party's tag
pub tag_of-key_of : (secret : List ℕ) (who : Party) (text : List ℕ) → hmac (key_of secret who) text ≡ tag_of secret who text
unfolding tag_of
tag_of-key_of secret who text = refl

pub tag_of-length : (secret : List ℕ) (who : Party) (text : List ℕ) → length (tag_of secret who text) ≡ 32
unfolding tag_of
tag_of-length secret who text = hmac-length _ text

pub is_tag-tag_of : (secret : List ℕ) (who : Party) (text : List ℕ) → is_tag secret who text (tag_of secret who text) ≡ true
unfolding is_tag
is_tag-tag_of secret who text = same_bytes-refl (tag_of secret who text)

pub is_tag-equal : (secret : List ℕ) (who : Party) (text tag : List ℕ) → is_tag secret who text tag ≡ true → tag ≡ tag_of secret who text
unfolding is_tag
is_tag-equal secret who text tag is = sym (same_list-equal (λ x y. x == y) (λ x y same. eqb-true x y same) (tag_of secret who text) tag is)

-- so what a party's key makes is told to be the party's
pub is_tag-hmac : (secret : List ℕ) (who : Party) (text : List ℕ) → is_tag secret who text (hmac (key_of secret who) text) ≡ true
is_tag-hmac secret who text = rw (tag_of-key_of secret who text) (is_tag-tag_of secret who text)
