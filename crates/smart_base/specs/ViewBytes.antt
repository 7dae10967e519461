-- How views are spelled and read.
use Rattle.std.specs.Prelude.{ℕ, zero, suc, ◌+◌, ◌*◌, ◌^◌, List, [], ◌∷◌, ◌++◌, length, Ok, nat_lt, nat_le, ◌&&◌}
use Rattle.std.specs.Int.{w8, w16, w32, w64}
use Rattle.std.specs.List.{flat_map}
use Rattle.smart_base.specs.Cuts.{Cut, Read, ◌>>=◌, ranged, number_at}
use Rattle.smart_base.specs.Spelling.{u8, u16, u32, u64}
use Rattle.smart_base.specs.Views.{View}
use Rattle.smart_base.specs.declared.limits.TheConstants.{FAULTY, LAST_VIEW, MEMBERS}

unfoldable pub view_text : View → List ℕ
view_text v = u32 v.number ++ (u64 v.start ++ (u8 v.f ++ (u16 (length v.members) ++ flat_map u16 v.members)))

abbrev pub view_number_at : Cut → Read ℕ
view_number_at = ranged (λ n. nat_le n LAST_VIEW) (number_at w32)

-- a first place: behind the last place no other comes
abbrev pub first_place_at : Cut → Read ℕ
first_place_at = ranged (λ n. nat_le 1 n && nat_le n (2 ^ 63)) (number_at w64)

abbrev pub faulty_at : Cut → Read ℕ
faulty_at = ranged (λ n. nat_le n FAULTY) (number_at w8)

-- how many members a view has, f of whom may be faulty
abbrev pub member_count_at : ℕ → Cut → Read ℕ
member_count_at f = ranged (λ n. nat_le (3 * f + 1) n && nat_le n MEMBERS) (number_at w16)

-- so many members, each above the one before, which for the first is the one given
unfoldable pub members_at : ℕ → ℕ → Cut → Read (List ℕ)
members_at last zero c = Ok ([], c)
members_at last (suc n) c = do
  m ← ranged (λ m. nat_lt last m) (number_at w16) c
  ms ← members_at m.0 n m.1
  Ok (m.0 ∷ ms.0, ms.1)

unfoldable pub view_at : Cut → Read View
view_at c = do
  n ← view_number_at c
  s ← first_place_at n.1
  f ← faulty_at s.1
  k ← member_count_at f.0 f.1
  ms ← members_at 0 k.0 k.1
  Ok (record { number = n.0; start = s.0; f = f.0; members = ms.0 }, ms.1)
