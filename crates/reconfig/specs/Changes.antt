-- The operation that asks for a change of the view: its bytes, and how they are read.
use Rattle.std.specs.Prelude.{ℕ, ◌<◌, ◌^◌, nat_le, Bool, List, ◌++◌, length, Result, Ok}
use Rattle.std.specs.Int.{w8, w16}
use Rattle.std.specs.List.{flat_map, AllByRecursion}
use Rattle.smart_base.specs.Cuts.{Cut, Read, ◌>>=◌, ranged, number_at, times_at, whole}
use Rattle.smart_base.specs.Spelling.{u8, u16}
use Rattle.smart_base.specs.declared.limits.TheConstants.{PAYLOAD_BYTES}
use Rattle.reconfig.specs.declared.change.Change.{Change}

-- the operation that asks for a change: how many may be faulty, how many members there are, and the members
abbrev pub change_text : Change → List ℕ
change_text c = u8 c.f ++ (u16 (length c.members) ++ flat_map u16 c.members)

-- the changes that an operation can ask for
pub record FitsChange (c : Change) : Type 0 where
  pub f_fits : c.f < 2 ^ 8
  pub count_fits : length c.members < 2 ^ 16
  pub members_fit : AllByRecursion (λ m. m < 2 ^ 16) c.members

-- an operation within the limit
abbrev pub is_brief : Change → Bool
is_brief c = nat_le (length (change_text c)) PAYLOAD_BYTES

-- a member: any number of 16 bits
abbrev pub member_at : Cut → Read ℕ
member_at = ranged (λ m. nat_le m 65535) (number_at w16)

unfoldable pub change_at : Cut → Read Change
change_at c = do
  f ← number_at w8 c
  n ← number_at w16 f.1
  ms ← times_at member_at n.0 n.1
  Ok (record { f = f.0; members = ms.0 }, ms.1)

-- the change that an operation asks for, or the offset of the first field that cannot be read, or of a byte left over
unfoldable pub change_of : List ℕ → Result Change ℕ
change_of op = whole change_at (record { at = 0; left = op })
