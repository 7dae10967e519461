-- Numbers in ascending order: there is one list for the numbers of each.
use Rattle.std.proofs.Common.{◌≡◌, ℕ, ◌+◌, ◌≤◌, ◌<◌, ◌==◌, ◌≢◌, nat_lt, nat_le, Bool, true, false, ◌&&◌, ◌||◌, List, [], ◌∷◌, length, get_or, cond, refl, ap, sym, ◌∙◌, arith, suc}
use Rattle.std.proofs.lemmas.Grind.{common_steps}
use Rattle.std.specs.List.{list_any, sum_by}
use Rattle.std.specs.List.Sorted.{IsPermutation, IsNonDecreasing}
use Rattle.std.proofs.lemmas.List.Recursion.{is_sum_by}
use Rattle.std.proofs.lemmas.List.Sorted.{sum_by-IsPermutation}
use Rattle.smart_base.specs.Views.{ascends}
use Rattle.smart_base.specs.Lists.{Each}
use Rattle.smart_base.proofs.SameLists.{and_true}
use Rattle.smart_view.specs.Making.{put, sorted, repeats}

-- 1 for the number itself, else 0
abbrev pub alike : ℕ → ℕ → ℕ
alike v x = cond (x == v) 1 0

-- how often a number is there
abbrev pub times : ℕ → List ℕ → ℕ
times v [] = 0
times v (x ∷ xs) = alike v x + times v xs

-- numbers from a number on that do not fall
abbrev pub Rises : ℕ → List ℕ → Type 0
Rises low [] = Unit {0}
Rises low (x ∷ xs) = (low ≤ x) × Rises x xs

-- ---- putting

put-length-test : (m x : ℕ) (xs : List ℕ) (b : Bool) → nat_le m x ≡ b → length (put m xs) ≡ length xs + 1 → length (put m (x ∷ xs)) ≡ length (x ∷ xs) + 1
put-length-test m x xs true is rest = rw is (omega arith)
put-length-test m x xs false is rest = rw is (omega (arith, rest))

put-length : (m : ℕ) (xs : List ℕ) → length (put m xs) ≡ length xs + 1
put-length m [] = refl
put-length m (x ∷ xs) = put-length-test m x xs (nat_le m x) refl (put-length m xs)

pub sorted-length : (ms : List ℕ) → length (sorted ms) ≡ length ms
sorted-length [] = refl
sorted-length (m ∷ ms) = omega (arith, put-length m (sorted ms), sorted-length ms)

or_swap : (a b c : Bool) → (a || (b || c)) ≡ (b || (a || c))
or_swap true true c = refl
or_swap true false c = refl
or_swap false b c = refl

put-any-test : (p : ℕ → Bool) (m x : ℕ) (xs : List ℕ) (b : Bool) → nat_le m x ≡ b → list_any p (put m xs) ≡ (p m || list_any p xs)
    → list_any p (put m (x ∷ xs)) ≡ (p m || list_any p (x ∷ xs))
put-any-test p m x xs true is rest = rw is refl
put-any-test p m x xs false is rest = rw (is, rest) (or_swap (p x) (p m) (list_any p xs))

put-any : (p : ℕ → Bool) (m : ℕ) (xs : List ℕ) → list_any p (put m xs) ≡ (p m || list_any p xs)
put-any p m [] = refl
put-any p m (x ∷ xs) = put-any-test p m x xs (nat_le m x) refl (put-any p m xs)

-- the same numbers pass a test
pub sorted-any : (p : ℕ → Bool) (ms : List ℕ) → list_any p (sorted ms) ≡ list_any p ms
sorted-any p [] = refl
sorted-any p (m ∷ ms) = put-any p m (sorted ms) ∙ ap (λ b. p m || b) (sorted-any p ms)

put-times-test : (v m x : ℕ) (xs : List ℕ) (b : Bool) → nat_le m x ≡ b → times v (put m xs) ≡ times v (m ∷ xs) → times v (put m (x ∷ xs)) ≡ times v (m ∷ x ∷ xs)
put-times-test v m x xs true is rest = rw is refl
put-times-test v m x xs false is rest = rw is (omega (arith, rest))

put-times : (v m : ℕ) (xs : List ℕ) → times v (put m xs) ≡ times v (m ∷ xs)
put-times v m [] = refl
put-times v m (x ∷ xs) = put-times-test v m x xs (nat_le m x) refl (put-times v m xs)

sorted-times : (v : ℕ) (ms : List ℕ) → times v (sorted ms) ≡ times v ms
sorted-times v [] = refl
sorted-times v (m ∷ ms) = put-times v m (sorted ms) ∙ ap (λ n. alike v m + n) (sorted-times v ms)

le_true : (a b : ℕ) → nat_le a b ≡ true → a ≤ b
le_true a b is = grind (arith, common_steps)

le_false : (a b : ℕ) → nat_le a b ≡ false → b < a
le_false a b is = grind (arith, common_steps)

put-rises-test : (low m x : ℕ) (xs : List ℕ) (b : Bool) → nat_le m x ≡ b → low ≤ m → Rises low (x ∷ xs) → (x ≤ m → Rises x (put m xs)) → Rises low (put m (x ∷ xs))
put-rises-test low m x xs true is above rises rest = rw is (above, (le_true m x is, rises.1))
put-rises-test low m x xs false is above rises rest = rw is (rises.0, rest (let h = le_false m x is in omega (arith, h)))

put-rises : (low m : ℕ) (xs : List ℕ) → low ≤ m → Rises low xs → Rises low (put m xs)
put-rises low m [] above rises = (above, tt)
put-rises low m (x ∷ xs) above rises =
    put-rises-test low m x xs (nat_le m x) refl above rises (λ h. put-rises x m xs h rises.1)

sorted-rises : (ms : List ℕ) → Rises 0 (sorted ms)
sorted-rises [] = tt
sorted-rises (m ∷ ms) = put-rises 0 m (sorted ms) (omega arith) (sorted-rises ms)

-- ---- one list

same_one : (x : ℕ) → alike x x ≡ 1
same_one x = grind (arith, common_steps)

other_none : (x v : ℕ) → v < x → alike v x ≡ 0
other_none x v above = grind (arith, common_steps)

below_none : (v low : ℕ) (xs : List ℕ) → v < low → Rises low xs → times v xs ≡ 0
below_none v low [] under rises = refl
below_none v low (x ∷ xs) under rises =
    let above : v < x = omega (arith, rises.0) in
    let here = other_none x v above in
    let rest = below_none v x xs above rises.1 in
    omega (arith, here, rest)

-- the first of two rising lists with the same numbers is not above the second's
first_le-test : (b x y : ℕ) (xs ys : List ℕ) (t : Bool) → nat_le y x ≡ t → Rises b (y ∷ ys) → times x (x ∷ xs) ≡ times x (y ∷ ys) → y ≤ x
first_le-test b x y xs ys true is rises same = le_true y x is
first_le-test b x y xs ys false is rises same =
    let one = same_one x in
    let none = below_none x y (y ∷ ys) (le_false y x is) (omega arith, rises.1) in
    absurd (omega (arith, one, none, same))

first_le : (b x y : ℕ) (xs ys : List ℕ) → Rises b (y ∷ ys) → times x (x ∷ xs) ≡ times x (y ∷ ys) → y ≤ x
first_le b x y xs ys rises same = first_le-test b x y xs ys (nat_le y x) refl rises same

rest_same : (v x y : ℕ) (xs ys : List ℕ) → x ≡ y → times v (x ∷ xs) ≡ times v (y ∷ ys) → times v xs ≡ times v ys
rest_same v x y xs ys equal same =
    let heads = ap (alike v) equal in
    omega (arith, heads, same)

pub rises-unique : (a b : ℕ) (xs ys : List ℕ) → Rises a xs → Rises b ys → ((v : ℕ) → times v xs ≡ times v ys) → xs ≡ ys
rises-unique a b [] [] rx ry same = refl
rises-unique a b [] (y ∷ ys) rx ry same = absurd (let h = same y in let one = same_one y in omega (arith, h, one))
rises-unique a b (x ∷ xs) [] rx ry same = absurd (let h = same x in let one = same_one x in omega (arith, h, one))
rises-unique a b (x ∷ xs) (y ∷ ys) rx ry same =
    let below = first_le b x y xs ys ry (same x) in
    let above = first_le a y x ys xs rx (sym (same y)) in
    let equal : x ≡ y = omega (arith, below, above) in
    let rest = rises-unique x y xs ys rx.1 ry.1 (λ v. rest_same v x y xs ys equal (same v)) in
    cc

times-sum : (v : ℕ) (xs : List ℕ) → times v xs ≡ sum_by (alike v) xs
times-sum v xs = is_sum_by (times v) (alike v) refl (λ x rest. refl) xs

permuted-times : (v : ℕ) (xs ys : List ℕ) → IsPermutation xs ys → times v ys ≡ times v xs
permuted-times v xs ys moved =
    times-sum v ys ∙ (sum_by-IsPermutation (alike v) xs ys moved ∙ sym (times-sum v xs))

rises_from : (low : ℕ) (xs : List ℕ) → IsNonDecreasing xs → (0 < length xs → low ≤ get_or xs 0 0) → Rises low xs
rises_from low [] up first = tt
rises_from low (x ∷ xs) up first =
    (first (omega arith), rises_from x xs (λ i j d le lt. up (suc i) (suc j) d (omega arith) (omega arith)) (λ some. up 0 1 0 (omega arith) (omega arith)))

-- a list that has the numbers of another and does not fall is the other in order
pub sorted-unique : (ms xs : List ℕ) → IsPermutation ms xs → IsNonDecreasing xs → xs ≡ sorted ms
sorted-unique ms xs moved up =
    rises-unique 0 0 xs (sorted ms) (rises_from 0 xs up (λ some. omega arith)) (sorted-rises ms) (λ v. permuted-times v ms xs moved ∙ sym (sorted-times v ms))

-- ---- ascending

lt_true : (a b : ℕ) → a < b → nat_lt a b ≡ true
lt_true a b is = grind (arith, common_steps)

le_test : (a b : ℕ) → a ≤ b → nat_le a b ≡ true
le_test a b is = grind (arith, common_steps)

other_number : (a b : ℕ) → (a == b) ≡ false → a ≢ b
other_number a b is = grind (arith, common_steps)

or_false : (a b : Bool) → (a || b) ≡ false → (a ≡ false) × (b ≡ false)
or_false true b is = absurd (cc)
or_false false b is = (refl, is)

both_true : (a b : Bool) → a ≡ true → b ≡ true → (a && b) ≡ true
both_true a b p q = rw (p, q) refl

put-ascends-test : (last m x : ℕ) (xs : List ℕ) (b : Bool) → nat_le m x ≡ b → last < m → m ≤ 65535 → list_any (λ y. y == m) (x ∷ xs) ≡ false
    → ascends last (x ∷ xs) ≡ true → (x < m → ascends x (put m xs) ≡ true) → ascends last (put m (x ∷ xs)) ≡ true
put-ascends-test last m x xs true is above small new ascends-xs rest =
    let parts = and_true (nat_lt last x && nat_le x 65535) (ascends x xs) ascends-xs in
    let tests = and_true (nat_lt last x) (nat_le x 65535) parts.0 in
    let under = le_true m x is in
    let differ : x ≢ m = other_number x m (or_false (x == m) (list_any (λ y. y == m) xs) new).0 in
    rw is (both_true _ _ (both_true _ _ (lt_true last m above) (le_test m 65535 small))
    (both_true _ _ (both_true _ _ (lt_true m x (omega (arith, under, differ))) tests.1) parts.1))
put-ascends-test last m x xs false is above small new ascends-xs rest =
    let parts = and_true (nat_lt last x && nat_le x 65535) (ascends x xs) ascends-xs in
    rw is (both_true _ _ parts.0 (rest (le_false m x is)))

put-ascends : (last m : ℕ) (xs : List ℕ) → last < m → m ≤ 65535 → list_any (λ y. y == m) xs ≡ false → ascends last xs ≡ true → ascends last (put m xs) ≡ true
put-ascends last m [] above small new ascends-xs = rw (lt_true last m above, le_test m 65535 small) refl
put-ascends last m (x ∷ xs) above small new ascends-xs =
    put-ascends-test last m x xs (nat_le m x) refl above small new ascends-xs
    (λ over. put-ascends x m xs over small (or_false (x == m) (list_any (λ y. y == m) xs) new).1 (and_true (nat_lt last x && nat_le x 65535) (ascends x xs) ascends-xs).1)

-- names that differ and are not 0 ascend when they are in order
pub sorted-ascends : (ms : List ℕ) → Each (λ m. m ≤ 65535) ms → repeats ms ≡ false → list_any (λ m. m == 0) ms ≡ false → ascends 0 (sorted ms) ≡ true
sorted-ascends [] small once some = refl
sorted-ascends (m ∷ ms) small once some =
    let here = or_false (m == 0) (list_any (λ n. n == 0) ms) some in
    let differ = or_false (list_any (λ n. n == m) ms) (repeats ms) once in
    let positive : m ≢ 0 = other_number m 0 here.0 in
    put-ascends 0 m (sorted ms) (omega (arith, positive)) small.0 (sorted-any (λ n. n == m) ms ∙ differ.0) (sorted-ascends ms small.1 differ.1 here.1)
