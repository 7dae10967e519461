-- Keys and tags that are kept beside the secret which they are made from.
use Rattle.std.proofs.Common.{◌≡◌, ◌∙◌, ℕ, zero, suc, Bool, List, [], ◌∷◌, ◌++◌, true, false, cond, slice_get, Option, Some, ap, subst, sym, ◌==◌}
use Rattle.std.proofs.lemmas.Bool.{eqb-true}
use Rattle.std.proofs.lemmas.Option.{same_Some}
use Rattle.smart_base.specs.Lists.{same_bytes}
use Rattle.smart_base.proofs.SameLists.{same_list-equal}
use Rattle.smart_keys.specs.Keys.{hmac}
use Rattle.smart_keys.specs.Known.{known_key, AreKeysOf, IsRightTag, AreTagsOf}
use Rattle.smart_keys.specs.declared.checked.Checked.{Checked}
use Rattle.smart_keys.specs.declared.known.KnownKey.{KnownKey}
use Rattle.smart_keys.proofs.Digests.{each-append}

-- bytes that a test finds the same are
pub bytes_equal : (a b : List ℕ) → same_bytes a b ≡ true → a ≡ b
bytes_equal a b is = same_list-equal (λ x y. x == y) (λ x y same. eqb-true x y same) a b is

-- what stands at a place is made from the secret
pub key_there : (secret : List ℕ) (keys : List KnownKey) (place : ℕ) (key : KnownKey) → AreKeysOf secret keys → Some key ≡ slice_get keys place → key.hash ≡ hmac secret key.name
key_there secret [] place key are there = absurd (cc)
key_there secret (k ∷ keys) zero key are there = rw (same_Some key k there) are.0
key_there secret (k ∷ keys) (suc place) key are there = key_there secret keys place key are.1 there

-- one more key that is made from the secret
pub one_more : (secret : List ℕ) (keys : List KnownKey) (name hash : List ℕ) → AreKeysOf secret keys → hash ≡ hmac secret name → AreKeysOf secret (keys ++ known_key name hash ∷ [])
one_more secret keys name hash are is = each-append (λ (k : KnownKey). k.hash ≡ hmac secret k.name) keys (known_key name hash ∷ []) are (is, tt)

-- a tag that is found in place of another, or the other
tag_by : (secret : List ℕ) (t : Bool) (value c : Checked) (other : Option Checked) → IsRightTag secret value → (other ≡ Some c → IsRightTag secret c)
    → cond t (Some value) other ≡ Some c → IsRightTag secret c
tag_by secret true value c other right old is = subst (λ (x : Checked). IsRightTag secret x) (same_Some value c is) right
tag_by secret false value c other right old is = old is

-- tags behind one more
pub one_more_tag : (secret : List ℕ) (before after : List ℕ → Option Checked) (test : List ℕ → Bool) (value : Checked)
    → ((name : List ℕ) → after name ≡ cond (test name) (Some value) (before name)) → AreTagsOf secret before → IsRightTag secret value → AreTagsOf secret after
one_more_tag secret before after test value is are right = λ name c found.
    tag_by secret (test name) value c (before name) right (are name c) (sym (is name) ∙ found)

-- a tag of this party over this text
pub tag_there : (secret name text tag : List ℕ) (c : Checked) → IsRightTag secret c → tag ≡ c.tag → c.name ≡ name → c.text ≡ text → tag ≡ hmac (hmac secret name) text
tag_there secret name text tag c right is who over = is ∙ (right ∙ (ap (λ n. hmac (hmac secret n) c.text) who ∙ ap (λ t. hmac (hmac secret name) t) over))
