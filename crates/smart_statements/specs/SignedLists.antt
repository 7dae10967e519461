-- Lists of signed statements, and what may be there or not.
use Rattle.std.specs.Prelude.{ℕ, ◌<◌, ◌^◌, ◌==◌, ◌||◌, List, ◌++◌, length, Option, Some, None, Ok, if◌then◌else◌}
use Rattle.std.specs.List.{flat_map, AllByRecursion}
use Rattle.std.specs.Int.{w8, w16}
use Rattle.smart_base.specs.Cuts.{Cut, Read, ◌>>=◌, ranged, number_at, times_at}
use Rattle.smart_base.specs.Spelling.{u8, u16}
use Rattle.smart_statements.specs.Forms.{Form, SignedBy}
use Rattle.smart_statements.specs.Spelling.{signed, FitsSigned}
use Rattle.smart_statements.specs.Reading.{signed_at}

-- ---- lists

abbrev pub listed : {S : Type 0} → Form S → List (SignedBy S) → List ℕ
listed f xs = u16 (length xs) ++ flat_map (signed f) xs

abbrev pub FitsList : {S : Type 0} → Form S → (ℕ → S → Type 0) → List (SignedBy S) → Type 0
FitsList f fits xs = (length xs < 2 ^ 16) × AllByRecursion (FitsSigned f fits) xs

unfoldable pub list_at : {S : Type 0} → Form S → Cut → Read (List (SignedBy S))
list_at f c = do
  n ← number_at w16 c
  times_at (signed_at f) n.0 n.1

-- ---- a value behind a 1, or a 0

abbrev pub optional : {A : Type 0} → (A → List ℕ) → Option A → List ℕ
optional spell None = u8 0
optional spell (Some x) = u8 1 ++ spell x

abbrev pub FitsOptional : {A : Type 0} → (A → Type 0) → Option A → Type 0
FitsOptional fits None = Unit {0}
FitsOptional fits (Some x) = fits x

abbrev pub flag_at : Cut → Read ℕ
flag_at = ranged (λ b. b == 0 || b == 1) (number_at w8)

unfoldable pub some_at : {A : Type 0} → (Cut → Read A) → Cut → Read (Option A)
some_at f c = do
  x ← f c
  Ok (Some x.0, x.1)

unfoldable pub optional_at : {A : Type 0} → (Cut → Read A) → Cut → Read (Option A)
optional_at f c = do
  k ← flag_at c
  if k.0 == 0 then Ok (None, k.1) else some_at f k.1
