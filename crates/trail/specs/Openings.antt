-- How the opening of a trail is spelled and read. It has one spelling.
use Rattle.std.specs.Prelude.{◌≡◌, ℕ, ◌<◌, ◌^◌, ◌==◌, nat_le, Bool, true, ◌&&◌, List, ◌++◌, length, if◌then◌else◌, Result, Ok}
use Rattle.std.specs.Int.{w8, w16, w32, w64}
use Rattle.smart_base.specs.Cuts.{Cut, Read, ◌>>=◌, ranged, number_at, bytes_at, contents, whole}
use Rattle.smart_base.specs.Fields.{kind_at}
use Rattle.smart_base.specs.Spelling.{u8, u16, u32, u64, behind}
use Rattle.smart_base.specs.Views.{View, is_view}
use Rattle.smart_base.specs.ViewBytes.{view_text, view_at}
use Rattle.smart_base.specs.declared.limits.TheConstants.{LAST_PERIOD}
use Rattle.trail.specs.declared.opening.App.{App}
use Rattle.trail.specs.declared.opening.App.TheVariants.{Count, Kv}
use Rattle.trail.specs.declared.opening.TrailOpening.{TrailOpening}

abbrev pub app_number : App → ℕ
app_number Count = 0
app_number Kv = 1

abbrev pub app_of : ℕ → App
app_of number = if number == 0 then Count else Kv

-- a group's first view, with a period within its limits
abbrev pub is_first : ℕ → View → Bool
is_first period v = v.number == 0 && v.start == 1 && nat_le (length v.members) period && nat_le period LAST_PERIOD

-- the bytes of an opening
unfoldable pub opening_text : TrailOpening → List ℕ
opening_text o =
    u8 0 ++ (u16 o.member ++ (u32 o.period ++ (view_text o.view ++ (u8 (app_number o.app) ++ (behind w32 o.secret ++ (behind w32 o.snapshot ++ u64 o.entries))))))

pub record FitsOpening (o : TrailOpening) : Type 0 where
  pub member_fits : o.member < 2 ^ 16
  pub period_fits : o.period < 2 ^ 32
  pub view_fits : is_view o.view ≡ true
  pub first : is_first o.period o.view ≡ true
  pub secret_fits : length o.secret < 2 ^ 32
  pub snapshot_fits : length o.snapshot < 2 ^ 32
  pub entries_fit : o.entries < 2 ^ 64

abbrev pub first_view_at : ℕ → Cut → Read View
first_view_at period = ranged (is_first period) view_at

abbrev pub app_number_at : Cut → Read ℕ
app_number_at = ranged (λ n. nat_le n 1) (number_at w8)

-- a text of any length after that length
abbrev pub text_field_at : Cut → Read (List ℕ)
text_field_at = contents bytes_at

unfoldable pub opening_at : Cut → Read TrailOpening
opening_at c = do
  k ← kind_at 0 c
  m ← number_at w16 k.1
  p ← number_at w32 m.1
  v ← first_view_at p.0 p.1
  a ← app_number_at v.1
  s ← text_field_at a.1
  r ← text_field_at s.1
  n ← number_at w64 r.1
  Ok (record { member = m.0; period = p.0; view = v.0; app = app_of a.0; secret = s.0; snapshot = r.0; entries = n.0 }, n.1)

-- the opening that bytes are, or the offset of the first field that is none, or of a byte left over
unfoldable pub opening_decoded : List ℕ → Result TrailOpening ℕ
opening_decoded bytes = whole opening_at (record { at = 0; left = bytes })
