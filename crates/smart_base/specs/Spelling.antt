-- How numbers and texts are spelled, and what it means that reading and spelling agree.
use Rattle.std.specs.Prelude.{◌≡◌, ℕ, ◌+◌, ◌<◌, ◌≤◌, ◌^◌, List, ◌++◌, length, Ok}
use Rattle.std.specs.Int.{Width, w8, w16, w32, w64, to_be_bytes}
use Rattle.smart_base.specs.Cuts.{Cut, Read, IsBytes}
use Rattle.smart_base.specs.declared.limits.TheConstants.{PAYLOAD_BYTES, TAG_BYTES}

-- ---- numbers have their high byte first

abbrev pub u8 : ℕ → List ℕ
u8 = to_be_bytes w8

abbrev pub u16 : ℕ → List ℕ
u16 = to_be_bytes w16

abbrev pub u32 : ℕ → List ℕ
u32 = to_be_bytes w32

abbrev pub u64 : ℕ → List ℕ
u64 = to_be_bytes w64

-- a text behind its length
abbrev pub behind : Width → List ℕ → List ℕ
behind w text = to_be_bytes w (length text) ++ text

-- ---- which values have a spelling

-- places and the numbers of requests
abbrev pub IsCount : ℕ → Type 0
IsCount n = (0 < n) × (n < 2 ^ 63)

-- tags
abbrev pub IsTag : List ℕ → Type 0
IsTag t = (0 < length t) × (length t ≤ TAG_BYTES)

-- operations and replies
abbrev pub IsPayload : List ℕ → Type 0
IsPayload t = length t ≤ PAYLOAD_BYTES

-- the kinds of those who sign
abbrev pub member_kind : ℕ
member_kind = 1

abbrev pub client_kind : ℕ
client_kind = 2

-- ---- what reading has to do with spelling

-- what begins at the cut c is the text, and d begins behind it
pub record Spelled (c : Cut) (text : List ℕ) (d : Cut) : Type 0 where
  pub left : c.left ≡ text ++ d.left
  pub at : d.at ≡ c.at + length text

-- What is read is what is spelled, in both directions.
pub record Law {A : Type 0} (fits : A → Type 0) (spell : A → List ℕ) (read : Cut → Read A) : Type 0 where
  pub takes : (c : Cut) (x : A × Cut) → IsBytes c.left → read c ≡ Ok x → fits x.0 × Spelled c (spell x.0) x.1
  pub again : (c : Cut) (x : A) (d : Cut) → fits x → Spelled c (spell x) d → read c ≡ Ok (x, d)

-- ---- writing

-- What stands in a list is a front of what stands in another.
pub record Extends (old new : List ℕ) : Type 0 where
  pub rest : List ℕ
  pub is : new ≡ old ++ rest
