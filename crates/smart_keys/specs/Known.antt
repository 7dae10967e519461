-- Keys and tags that are kept beside the secret which they are made from.
use Rattle.std.specs.Prelude.{◌≡◌, ℕ, Bool, true, false, nat_le, ◌&&◌, List, Option, Some}
use Rattle.smart_base.specs.Lists.{Each}
use Rattle.smart_base.specs.declared.limits.TheConstants.{LAST_CLIENT}
use Rattle.smart_base.specs.declared.party.Party.{Party}
use Rattle.smart_base.specs.declared.party.Party.TheVariants.{Member, Client}
use Rattle.smart_keys.specs.Keys.{hmac}
use Rattle.smart_keys.specs.declared.checked.Checked.{Checked}
use Rattle.smart_keys.specs.declared.known.KnownKey.{KnownKey}

-- the key of the party of these bytes
abbrev pub known_key : List ℕ → List ℕ → KnownKey
known_key name hash = record { name = name; hash = hash }

-- each of them is made from the secret, by its party's bytes
abbrev pub AreKeysOf : List ℕ → List KnownKey → Type 0
AreKeysOf secret known = Each (λ k. k.hash ≡ hmac secret k.name) known

-- the tag that its party's key makes over its text
abbrev pub IsRightTag : List ℕ → Checked → Type 0
IsRightTag secret c = c.tag ≡ hmac (hmac secret c.name) c.text

-- each tag that is found is such a one
abbrev pub AreTagsOf : List ℕ → (List ℕ → Option Checked) → Type 0
AreTagsOf secret found = (name : List ℕ) (c : Checked) → found name ≡ Some c → IsRightTag secret c

-- the clients that there are: those of a number from 1 to 1,024
abbrev pub is_client : Party → Bool
is_client (Member number) = false
is_client (Client number) = nat_le 1 number && nat_le number LAST_CLIENT

-- the parties whose keys are kept: the members, and the clients that there are
abbrev pub is_kept : Party → Bool
is_kept (Member number) = true
is_kept (Client number) = is_client (Client number)
