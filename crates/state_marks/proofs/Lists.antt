-- Lists that tests count, and what holds of each value of a list.
use Rattle.std.proofs.Common.{◌≡◌, ℕ, suc, ◌+◌, ◌<◌, ◌≤◌, ◌==◌, ◌++◌, Bool, true, false, not, ◌&&◌, ◌||◌, cond, List, [], ◌∷◌, length, refl, ap, sym, ◌∙◌, subst, arith, eq-eqb}
use Rattle.std.specs.Prelude.{filter}
use Rattle.std.specs.List.{list_any}
use Rattle.std.proofs.lemmas.Bool.{eqb-true, eqb-false, ne_eqb}
use Rattle.smart_base.specs.Lists.{Each, Distinct, same_list}

-- ---- tests

pub or_false : (a b : Bool) → (a || b) ≡ false → (a ≡ false) × (b ≡ false)
or_false true b is = absurd (cc)
or_false false b is = (refl, is)

pub or_left : (a b : Bool) → a ≡ true → (a || b) ≡ true
or_left true b is = refl
or_left false b is = absurd (cc)

pub or_right : (a b : Bool) → b ≡ true → (a || b) ≡ true
or_right true b is = refl
or_right false b is = is

pub not_true : (b : Bool) → (b ≡ true → ⊥) → b ≡ false
not_true true never = absurd (never refl)
not_true false never = refl

turned_by : (a b : ℕ) (t : Bool) → (a == b) ≡ t → (b == a) ≡ t
turned_by a b true is = eq-eqb b a (sym (eqb-true a b is))
turned_by a b false is = ne_eqb b a (λ same. eqb-false a b is (sym same))

pub turned : (a b : ℕ) → (a == b) ≡ (b == a)
turned a b = sym (turned_by a b (a == b) refl)

-- ---- what is counted

weaker_one : {A : Type 0} (x : A) (ps qs : List A) (a b : Bool) → (a ≡ true → b ≡ true) → length ps ≤ length qs → length (cond a (x ∷ ps) ps) ≤ length (cond b (x ∷ qs) qs)
weaker_one x ps qs true true weaker le = omega (arith, le)
weaker_one x ps qs true false weaker le = let none = weaker refl in absurd (cc)
weaker_one x ps qs false true weaker le = omega (arith, le)
weaker_one x ps qs false false weaker le = omega (arith, le)

-- more pass a weaker test
pub weaker_passes : {A : Type 0} (p q : A → Bool) → ((x : A) → p x ≡ true → q x ≡ true) → (xs : List A) → length (filter p xs) ≤ length (filter q xs)
weaker_passes p q weaker [] = omega arith
weaker_passes p q weaker (x ∷ xs) = weaker_one x (filter p xs) (filter q xs) (p x) (q x) (weaker x) (weaker_passes p q weaker xs)

gained : {A : Type 0} (x : A) (ps qs : List A) (a b : Bool) → a ≡ false → b ≡ true → length ps ≤ length qs → suc (length (cond a (x ∷ ps) ps)) ≤ length (cond b (x ∷ qs) qs)
gained x ps qs true b is_a is_b le = absurd (cc)
gained x ps qs false true is_a is_b le = omega (arith, le)
gained x ps qs false false is_a is_b le = absurd (cc)

passed_on : {A : Type 0} (x : A) (ps qs : List A) (a b : Bool) → (a ≡ true → b ≡ true) → suc (length ps) ≤ length qs → suc (length (cond a (x ∷ ps) ps)) ≤ length (cond b (x ∷ qs) qs)
passed_on x ps qs true true weaker le = omega (arith, le)
passed_on x ps qs true false weaker le = let none = weaker refl in absurd (cc)
passed_on x ps qs false true weaker le = omega (arith, le)
passed_on x ps qs false false weaker le = omega (arith, le)

one_more_by : {A : Type 0} (p q r : A → Bool) (x : A) (xs : List A) (t : Bool) → r x ≡ t → (p x ≡ true → q x ≡ true)
    → (r x ≡ true → (p x ≡ false) × (q x ≡ true)) → length (filter p xs) ≤ length (filter q xs)
    → (list_any r xs ≡ true → suc (length (filter p xs)) ≤ length (filter q xs)) → (t || list_any r xs) ≡ true
    → suc (length (cond (p x) (x ∷ filter p xs) (filter p xs))) ≤ length (cond (q x) (x ∷ filter q xs) (filter q xs))
one_more_by p q r x xs true is weaker out le rest some =
    let parts = out is in
    gained x (filter p xs) (filter q xs) (p x) (q x) parts.0 parts.1 le
one_more_by p q r x xs false is weaker out le rest some = passed_on x (filter p xs) (filter q xs) (p x) (q x) weaker (rest some)

-- and one more where a value passes that alone
pub one_more_passes : {A : Type 0} (p q r : A → Bool) → ((x : A) → p x ≡ true → q x ≡ true) → ((x : A) → r x ≡ true → (p x ≡ false) × (q x ≡ true))
    → (xs : List A) → list_any r xs ≡ true → suc (length (filter p xs)) ≤ length (filter q xs)
one_more_passes p q r weaker out [] some = absurd (cc)
one_more_passes p q r weaker out (x ∷ xs) some =
    one_more_by p q r x xs (r x) refl (weaker x) (out x) (weaker_passes p q weaker xs) (one_more_passes p q r weaker out xs) some

both_by : {A : Type 0} (p q : A → Bool) (x : A) (xs : List A) (t : Bool) → filter p (filter q xs) ≡ filter (λ y. q y && p y) xs
    → filter p (cond t (x ∷ filter q xs) (filter q xs)) ≡ cond (t && p x) (x ∷ filter (λ y. q y && p y) xs) (filter (λ y. q y && p y) xs)
both_by p q x xs true rest = ap (λ ys. cond (p x) (x ∷ ys) ys) rest
both_by p q x xs false rest = rest

-- two filters are one
pub filter_both : {A : Type 0} (p q : A → Bool) (xs : List A) → filter p (filter q xs) ≡ filter (λ y. q y && p y) xs
filter_both p q [] = refl
filter_both p q (x ∷ xs) = both_by p q x xs (q x) (filter_both p q xs)

pub filter_alike : {A : Type 0} (p q : A → Bool) → ((x : A) → p x ≡ q x) → (xs : List A) → filter p xs ≡ filter q xs
filter_alike p q alike [] = refl
filter_alike p q alike (x ∷ xs) = rw (alike x, filter_alike p q alike xs) refl

none_by : {A : Type 0} (p q : A → Bool) (x : A) (xs : List A) (t : Bool) → p x ≡ false → list_any p (filter q xs) ≡ false
    → list_any p (cond t (x ∷ filter q xs) (filter q xs)) ≡ false
none_by p q x xs true here rest = rw (here, rest) refl
none_by p q x xs false here rest = rest

-- what no value passes, none of some passes
pub none_filtered : {A : Type 0} (p q : A → Bool) (xs : List A) → list_any p xs ≡ false → list_any p (filter q xs) ≡ false
none_filtered p q [] none = refl
none_filtered p q (x ∷ xs) none =
    let parts = or_false (p x) (list_any p xs) none in
    none_by p q x xs (q x) parts.0 (none_filtered p q xs parts.1)

-- ---- what holds of each value

each_if : {A : Type 0} (P : A → Type 0) (t : Bool) (x : A) (xs : List A) → P x → Each P xs → Each P (cond t (x ∷ xs) xs)
each_if P true x xs has all = (has, all)
each_if P false x xs has all = all

pub each_filter : {A : Type 0} (P : A → Type 0) (p : A → Bool) (xs : List A) → Each P xs → Each P (filter p xs)
each_filter P p [] all = all
each_filter P p (x ∷ xs) all = each_if P (p x) x (filter p xs) all.0 (each_filter P p xs all.1)

passing_by : {A : Type 0} (p : A → Bool) (x : A) (xs : List A) (t : Bool) → p x ≡ t → Each (λ y. p y ≡ true) xs → Each (λ y. p y ≡ true) (cond t (x ∷ xs) xs)
passing_by p x xs true is rest = (is, rest)
passing_by p x xs false is rest = rest

pub each_passing : {A : Type 0} (p : A → Bool) (xs : List A) → Each (λ y. p y ≡ true) (filter p xs)
each_passing p [] = tt
each_passing p (x ∷ xs) = passing_by p x (filter p xs) (p x) refl (each_passing p xs)

pub each_as : {A : Type 0} (P Q : A → Type 0) → ((x : A) → P x → Q x) → (xs : List A) → Each P xs → Each Q xs
each_as P Q implies [] all = all
each_as P Q implies (x ∷ xs) all = (implies x all.0, each_as P Q implies xs all.1)

pub each_mid : {A : Type 0} (P : A → Type 0) (front : List A) (x : A) (back : List A) → Each P (front ++ x ∷ back) → P x
each_mid P [] x back all = all.0
each_mid P (y ∷ front) x back all = each_mid P front x back all.1

each_at_by : (P : ℕ → Type 0) (x n : ℕ) (xs : List ℕ) (t : Bool) → (x == n) ≡ t → P x → (list_any (λ y. y == n) xs ≡ true → P n)
    → (t || list_any (λ y. y == n) xs) ≡ true → P n
each_at_by P x n xs true is here rest some = subst P (eqb-true x n is) here
each_at_by P x n xs false is here rest some = rest some

-- what holds of each number holds of one that is among them
pub each_at : (P : ℕ → Type 0) (xs : List ℕ) (n : ℕ) → Each P xs → list_any (λ y. y == n) xs ≡ true → P n
each_at P [] n all some = absurd (cc)
each_at P (x ∷ xs) n all some = each_at_by P x n xs (x == n) refl all.0 (each_at P xs n all.1) some

-- each number is among themselves
pub each_listed : (xs : List ℕ) → Each (λ n. list_any (λ y. y == n) xs ≡ true) xs
each_listed [] = tt
each_listed (x ∷ xs) = (
  rw (eq-eqb x x refl) refl,
  each_as (λ n. list_any (λ y. y == n) xs ≡ true) (λ n. list_any (λ y. y == n) (x ∷ xs) ≡ true) (λ n is. or_right (x == n) (list_any (λ y. y == n) xs) is) xs (each_listed xs),
)

distinct_by : (p : ℕ → Bool) (x : ℕ) (xs : List ℕ) (t : Bool) → list_any (λ y. y == x) (filter p xs) ≡ false → Distinct (filter p xs)
    → Distinct (cond t (x ∷ filter p xs) (filter p xs))
distinct_by p x xs true none rest = (none, rest)
distinct_by p x xs false none rest = rest

pub distinct_filtered : (p : ℕ → Bool) (xs : List ℕ) → Distinct xs → Distinct (filter p xs)
distinct_filtered p [] one = one
distinct_filtered p (x ∷ xs) one = distinct_by p x xs (p x) (none_filtered (λ y. y == x) p xs one.0) (distinct_filtered p xs one.1)

-- a number is one of those listed
abbrev pub is_one : List ℕ → ℕ → Bool
is_one listed n = list_any (λ x. x == n) listed

first_only : (v n : ℕ) (group : List ℕ) → is_one group v ≡ false → (n == v) ≡ true → (is_one group n ≡ false) × (is_one (v ∷ group) n ≡ true)
first_only v n group out is =
    let same : n ≡ v = eqb-true n v is in
    (ap (is_one group) same ∙ out, rw (eq-eqb v n (sym same)) refl)

-- different numbers that are among others are no more than those others that are listed among them
pub all_listed : (xs group : List ℕ) → Each (λ v. is_one xs v ≡ true) group → Distinct group → length group ≤ length (filter (is_one group) xs)
all_listed xs [] members once = omega arith
all_listed xs (v ∷ group) members once =
    let rest = all_listed xs group members.1 once.1 in
    let more = one_more_passes (is_one group) (is_one (v ∷ group)) (λ n. n == v) (λ n is. or_right (v == n) (is_one group n) is)
    (λ n is. first_only v n group once.0 is) xs members.0 in
    omega (arith, rest, more)

-- ---- texts

pub same_itself : (xs : List ℕ) → same_list (λ x y. x == y) xs xs ≡ true
same_itself [] = refl
same_itself (x ∷ xs) = rw (eq-eqb x x refl, same_itself xs) refl
