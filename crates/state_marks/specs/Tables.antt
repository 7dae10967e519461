-- The marks that a node keeps of each member, and what enough of them show.
use Rattle.std.specs.Prelude.{◌≡◌, ℕ, ◌+◌, ◌<◌, ◌≤◌, ◌==◌, ◌≢◌, nat_lt, nat_le, Bool, true, false, not, ◌&&◌, ◌||◌, List, [], ◌∷◌, ◌++◌, filter, length, if◌then◌else◌, Option, Some, None}
use Rattle.std.specs.List.{list_any}
use Rattle.std.specs.Ordering.{nat_cmp, is_lt}
use Rattle.std.specs.declared.cmp.Ordering.{Ordering}
use Rattle.std.specs.declared.cmp.Ordering.TheVariants.{Greater}
use Rattle.std.specs.Cmp.Lexicographic.{slice_cmp}
use Rattle.smart_base.specs.Lists.{same_bytes, Each, Distinct}
use Rattle.smart_base.specs.Views.{View, is_member}
use Rattle.smart_base.specs.declared.limits.TheConstants.{MARKS}
use Rattle.smart_statements.specs.Forms.{SignedBy}
use Rattle.smart_statements.specs.declared.report.Mark.{Mark}

-- ---- what is kept

-- a mark is a member's
abbrev pub is_of : ℕ → SignedBy Mark → Bool
is_of member mark = mark.signer == member

-- a mark is a member's of a place
abbrev pub is_at : ℕ → ℕ → SignedBy Mark → Bool
is_at member place mark = (mark.signer == member) && (mark.statement.place == place)

-- a mark of the same member and place is kept
abbrev pub repeats : List (SignedBy Mark) → SignedBy Mark → Bool
repeats table mark = list_any (is_at mark.signer mark.statement.place) table

-- how many marks of a member are kept
abbrev pub count_of : ℕ → List (SignedBy Mark) → ℕ
count_of member table = length (filter (is_of member) table)

-- the lesser of a place and of that of a mark, if it is a member's
abbrev pub lesser : ℕ → ℕ → SignedBy Mark → ℕ
lesser member place mark = if is_of member mark && nat_lt mark.statement.place place then mark.statement.place else place

-- the least of a place and of those of a member's marks
abbrev pub least_of : ℕ → ℕ → List (SignedBy Mark) → ℕ
least_of member place [] = place
least_of member place (mark ∷ table) = least_of member (lesser member place mark) table

-- a table without a member's mark of a place
abbrev pub without : ℕ → ℕ → List (SignedBy Mark) → List (SignedBy Mark)
without member place table = filter (λ mark. not (is_at member place mark)) table

-- A table with one more mark. Where 64 marks of its member are kept, that of the least place is forgotten, be it the new one.
unfoldable pub noted : SignedBy Mark → List (SignedBy Mark) → List (SignedBy Mark)
noted mark table =
    if repeats table mark then table
    else if nat_le MARKS (count_of mark.signer table)
    then without mark.signer (least_of mark.signer mark.statement.place table) (table ++ mark ∷ [])
    else table ++ mark ∷ []

-- no member has two marks of one place
abbrev pub OneOfEachPlace : List (SignedBy Mark) → Type 0
OneOfEachPlace [] = Unit {0}
OneOfEachPlace (mark ∷ table) = (repeats table mark ≡ false) × OneOfEachPlace table

-- What a table may be: at most 64 marks of a member, of different places.
pub record IsTable (table : List (SignedBy Mark)) : Type 0 where
  pub few : (member : ℕ) → count_of member table ≤ MARKS
  pub different : OneOfEachPlace table

-- ---- what enough members marked

-- texts in the order of their bytes
abbrev pub byte_order : List ℕ → List ℕ → Ordering
byte_order = slice_cmp nat_cmp

-- a mark is a member's, of one place and digest
abbrev pub is_mark_of : Mark → ℕ → SignedBy Mark → Bool
is_mark_of wanted member mark =
    (mark.signer == member) && (mark.statement.place == wanted.place) && same_bytes mark.statement.digest wanted.digest

abbrev pub has_marked : List (SignedBy Mark) → Mark → ℕ → Bool
has_marked table wanted member = list_any (is_mark_of wanted member) table

-- more members of a view than may be faulty marked this digest at this place
abbrev pub is_marked : View → List (SignedBy Mark) → Mark → Bool
is_marked v table wanted = nat_lt v.f (length (filter (has_marked table wanted) v.members))

-- a mark is of a greater place than what was found, or of that place and of a lower digest
abbrev pub leads : Mark → Option (ℕ × List ℕ) → Bool
leads mark None = true
leads mark (Some found) = nat_lt found.0 mark.place || ((found.0 == mark.place) && is_lt (byte_order mark.digest found.1))

abbrev pub is_led_by : View → List (SignedBy Mark) → Option (ℕ × List ℕ) → SignedBy Mark → Bool
is_led_by v table found mark = leads mark.statement found && is_member v mark.signer && is_marked v table mark.statement

-- the better of what was found and of a mark, if enough such marks stand in the table
abbrev pub better : View → List (SignedBy Mark) → Option (ℕ × List ℕ) → SignedBy Mark → Option (ℕ × List ℕ)
better v table found mark = if is_led_by v table found mark then Some (mark.statement.place, mark.statement.digest) else found

-- the best of what was found and of the marks left
abbrev pub best_of : View → List (SignedBy Mark) → Option (ℕ × List ℕ) → List (SignedBy Mark) → Option (ℕ × List ℕ)
best_of v table found [] = found
best_of v table found (mark ∷ left) = best_of v table (better v table found mark) left

-- the greatest place that more members of a view than may be faulty marked with one digest, with the lowest such digest
unfoldable pub certified : View → List (SignedBy Mark) → Option (ℕ × List ℕ)
certified v table = best_of v table None table

-- A member's mark of a digest at a place is kept.
pub record HasMarked (table : List (SignedBy Mark)) (place : ℕ) (digest : List ℕ) (member : ℕ) : Type 0 where
  pub front : List (SignedBy Mark)
  pub mark : SignedBy Mark
  pub back : List (SignedBy Mark)
  pub split : table ≡ front ++ mark ∷ back
  pub signer_is : mark.signer ≡ member
  pub place_is : mark.statement.place ≡ place
  pub digest_is : mark.statement.digest ≡ digest

-- Distinct members of a view, more than may be faulty, marked a digest at a place.
pub record AreEnough (v : View) (table : List (SignedBy Mark)) (place : ℕ) (digest : List ℕ) : Type 0 where
  pub members : List ℕ
  pub of_view : Each (λ m. is_member v m ≡ true) members
  pub distinct : Distinct members
  pub marked : Each (HasMarked table place digest) members
  pub enough : v.f + 1 ≤ length members

-- A place and a digest that enough members marked: there are none of a greater place, and none of that place and a lower digest.
pub record IsCertified (v : View) (table : List (SignedBy Mark)) (place : ℕ) (digest : List ℕ) : Type 0 where
  pub enough : AreEnough v table place digest
  pub greatest : (other_place : ℕ) (other : List ℕ) → AreEnough v table other_place other → other_place ≤ place
  pub lowest : (other : List ℕ) → AreEnough v table place other → byte_order digest other ≢ Greater
