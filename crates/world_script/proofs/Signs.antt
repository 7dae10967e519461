-- Where the first byte of some kind stands in a word.
use Rattle.std.proofs.Common.{◌≡◌, ℕ, ◌+◌, ◌<◌, ◌≤◌, suc, List, [], ◌∷◌, take, drop, length, Bool, true, false, Option, Some, None, cond, refl, add-one, arith}
use Rattle.std.specs.Prelude.{◌==◌, not, nat_lt, position}
use Rattle.std.specs.List.{prefix_len}
use Rattle.std.proofs.lemmas.Bool.Decides.{nat_tests}
use Rattle.world_rules.specs.Scripts.{parted_at}

-- how many bytes stand in front of it
abbrev pub gap : ℕ → List ℕ → ℕ
gap sign bytes = prefix_len (λ b. not (b == sign)) bytes

abbrev pub place : ℕ → List ℕ → Option ℕ
place sign bytes = position (λ b. b == sign) bytes

pub gap_here : (sign b : ℕ) (bs : List ℕ) → (b == sign) ≡ true → gap sign (b ∷ bs) ≡ 0
gap_here sign b bs e = rw e refl

pub gap_later : (sign b : ℕ) (bs : List ℕ) → (b == sign) ≡ false → gap sign (b ∷ bs) ≡ suc (gap sign bs)
gap_later sign b bs e = rw e (omega arith)

found_some : (t : Bool) (n i : ℕ) → cond t (Some n) None ≡ Some i → (t ≡ true) × (n ≡ i)
found_some true n i e = (refl, cc)
found_some false n i e = absurd (cc)

found_none : (t : Bool) (n : ℕ) → cond t (Some n) None ≡ None → t ≡ false
found_none true n e = absurd (cc)
found_none false n e = refl

before : (a b : ℕ) → nat_lt a b ≡ true → a < b
before a b e = grind (arith, nat_tests)

not_before : (a b : ℕ) → nat_lt a b ≡ false → b ≤ a
not_before a b e = grind (arith, nat_tests)

-- a place that is found is behind the gap
pub found_at : (sign : ℕ) (bytes : List ℕ) (i : ℕ) → place sign bytes ≡ Some i → (gap sign bytes < length bytes) × (gap sign bytes ≡ i)
found_at sign bytes i e =
    let f = found_some (nat_lt (gap sign bytes) (length bytes)) (gap sign bytes) i e in
    (before (gap sign bytes) (length bytes) f.0, f.1)

pub found_nowhere : (sign : ℕ) (bytes : List ℕ) → place sign bytes ≡ None → length bytes ≤ gap sign bytes
found_nowhere sign bytes e = not_before (gap sign bytes) (length bytes) (found_none (nat_lt (gap sign bytes) (length bytes)) (gap sign bytes) e)

parted_step : (sign b : ℕ) (bs : List ℕ) (t : Bool) → (b == sign) ≡ t
    → (gap sign bs < length bs → parted_at sign bs ≡ Some (take (gap sign bs) bs, drop (suc (gap sign bs)) bs))
    → gap sign (b ∷ bs) < length (b ∷ bs) → parted_at sign (b ∷ bs) ≡ Some (take (gap sign (b ∷ bs)) (b ∷ bs), drop (suc (gap sign (b ∷ bs))) (b ∷ bs))
parted_step sign b bs true e more lt = rw (gap_here sign b bs e, e) refl
parted_step sign b bs false e more lt = rw (gap_later sign b bs e, e, more (omega (arith, gap_later sign b bs e))) refl

parted_gap : (sign : ℕ) (bytes : List ℕ) → gap sign bytes < length bytes → parted_at sign bytes ≡ Some (take (gap sign bytes) bytes, drop (suc (gap sign bytes)) bytes)
parted_gap sign [] lt = absurd (omega arith)
parted_gap sign (b ∷ bs) lt = parted_step sign b bs (b == sign) refl (parted_gap sign bs) lt

whole_step : (sign b : ℕ) (bs : List ℕ) (t : Bool) → (b == sign) ≡ t → (length bs ≤ gap sign bs → parted_at sign bs ≡ None)
    → length (b ∷ bs) ≤ gap sign (b ∷ bs) → parted_at sign (b ∷ bs) ≡ None
whole_step sign b bs true e more le = absurd (omega (arith, gap_here sign b bs e))
whole_step sign b bs false e more le = rw (e, more (omega (arith, gap_later sign b bs e))) refl

whole_gap : (sign : ℕ) (bytes : List ℕ) → length bytes ≤ gap sign bytes → parted_at sign bytes ≡ None
whole_gap sign [] le = refl
whole_gap sign (b ∷ bs) le = whole_step sign b bs (b == sign) refl (whole_gap sign bs) le

-- it parts the word
pub parted_where : (sign : ℕ) (bytes : List ℕ) (i : ℕ) → place sign bytes ≡ Some i → parted_at sign bytes ≡ Some (take i bytes, drop (i + 1) bytes)
parted_where sign bytes i e =
    let f = found_at sign bytes i e in
    rw (add-one, ← f.1) (parted_gap sign bytes f.0)

-- with none the word has no parts
pub parted_nowhere : (sign : ℕ) (bytes : List ℕ) → place sign bytes ≡ None → parted_at sign bytes ≡ None
parted_nowhere sign bytes e = whole_gap sign bytes (found_nowhere sign bytes e)
