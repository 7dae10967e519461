-- How the fields that many formats have are read.
use Rattle.std.specs.Prelude.{ℕ, ◌^◌, List, nat_lt, nat_le, ◌==◌, ◌&&◌}
use Rattle.std.specs.Int.{w8, w16, w32, w64}
use Rattle.smart_base.specs.Cuts.{Cut, Read, ranged, number_at, text_at, fixed_at, contents}
use Rattle.smart_base.specs.declared.limits.TheConstants.{PAYLOAD_BYTES, TAG_BYTES}

-- the byte k
abbrev pub kind_at : ℕ → Cut → Read ℕ
kind_at k = ranged (λ b. b == k) (number_at w8)

-- the number k
abbrev pub same_at : ℕ → Cut → Read ℕ
same_at k = ranged (λ i. i == k) (number_at w16)

-- places and the numbers of requests
abbrev pub count_at : Cut → Read ℕ
count_at = ranged (λ n. nat_lt 0 n && nat_lt n (2 ^ 63)) (number_at w64)

-- how many items a list has, from 1 to the greatest
abbrev pub items_at : ℕ → Cut → Read ℕ
items_at most = ranged (λ n. nat_lt 0 n && nat_le n most) (number_at w16)

abbrev pub digest_at : Cut → Read (List ℕ)
digest_at = contents (fixed_at 32)

abbrev pub tag_at : Cut → Read (List ℕ)
tag_at = contents (text_at w16 (λ n. nat_lt 0 n && nat_le n TAG_BYTES))

-- a text of at most so many bytes
abbrev pub text_to : ℕ → Cut → Read (List ℕ)
text_to most = contents (text_at w32 (λ n. nat_le n most))

-- an operation or a reply
abbrev pub payload_at : Cut → Read (List ℕ)
payload_at = text_to PAYLOAD_BYTES
