-- Digests, and tags under a secret that the parties share.
use Rattle.std.specs.Prelude.{ℕ, ◌-◌, nat_le, Bool, List, ◌∷◌, ◌++◌, length, map, replicate, bit_xor, if◌then◌else◌}
use Rattle.std.specs.Int.{to_be_bytes, w16}
use Rattle.sha2.specs.Sha256.{sha256}
use Rattle.smart_base.specs.Lists.{same_bytes}
use Rattle.smart_base.specs.declared.party.Party.{Party}
use Rattle.smart_base.specs.declared.party.Party.TheVariants.{Member, Client}

-- the digest of bytes: SHA-256 (FIPS 180-4)
unfoldable pub digest : List ℕ → List ℕ
digest bytes = sha256 bytes

-- bytes with zeros after them, up to a block of 64
abbrev pub zero_filled : List ℕ → List ℕ
zero_filled bytes = bytes ++ replicate (64 - length bytes) 0

-- a key as a block; a key longer than a block is digested first
abbrev pub block_of : List ℕ → List ℕ
block_of key = zero_filled (if nat_le (length key) 64 then key else digest key)

-- a block combined with a pad, byte by byte
abbrev pub masked : ℕ → List ℕ → List ℕ
masked pad block = map (λ byte. bit_xor byte pad) block

-- the keyed digest of a text: HMAC (RFC 2104) over SHA-256
unfoldable pub hmac : List ℕ → List ℕ → List ℕ
hmac key text = digest (masked 0x5c (block_of key) ++ digest (masked 0x36 (block_of key) ++ text))

-- the bytes of a party: its kind, and its number, the high byte first
abbrev pub party_bytes : Party → List ℕ
party_bytes (Member number) = 1 ∷ to_be_bytes w16 number
party_bytes (Client number) = 2 ∷ to_be_bytes w16 number

-- the key of a party, made from the secret
unfoldable pub key_of : List ℕ → Party → List ℕ
key_of secret who = hmac secret (party_bytes who)

-- the tag of a party over a text
unfoldable pub tag_of : List ℕ → Party → List ℕ → List ℕ
tag_of secret who text = hmac (key_of secret who) text

-- a tag that is the one which the party makes over a text, byte by byte
unfoldable pub is_tag : List ℕ → Party → List ℕ → List ℕ → Bool
is_tag secret who text tag = same_bytes (tag_of secret who text) tag
