-- Filters followed value by value.
use Rattle.std.proofs.Common.{◌≡◌, ℕ, zero, suc, ◌+◌, ◌<◌, ◌≤◌, ◌++◌, Bool, true, false, ◌||◌, cond, drop, get_or, List, [], ◌∷◌, length, ap, sym, refl, ◌∙◌, arith}
use Rattle.std.specs.Prelude.{filter}
use Rattle.std.specs.List.{list_any, flat_map}
use Rattle.std.proofs.lemmas.List.Elements.{filter-append}

keeps : {A : Type 0} (p : A → Bool) (xs : List A) (i : ℕ) (x : A) → i < length xs → x ≡ get_or xs i x → p x ≡ true → filter p (drop i xs) ≡ x ∷ filter p (drop (i + 1) xs)
keeps p [] i x within is holds = absurd (omega arith)
keeps p (y ∷ ys) zero x within is holds = rw (sym is) (rw holds refl)
keeps p (y ∷ ys) (suc i) x within is holds =
    let e : suc (i + 1) ≡ suc i + 1 = omega arith in
    keeps p ys i x (omega arith) is holds ∙ ap (λ k. x ∷ filter p (drop k (y ∷ ys))) e

passes : {A : Type 0} (p : A → Bool) (xs : List A) (i : ℕ) (x : A) → i < length xs → x ≡ get_or xs i x → p x ≡ false → filter p (drop i xs) ≡ filter p (drop (i + 1) xs)
passes p [] i x within is fails = absurd (omega arith)
passes p (y ∷ ys) zero x within is fails = rw (sym is) (rw fails refl)
passes p (y ∷ ys) (suc i) x within is fails =
    let e : suc (i + 1) ≡ suc i + 1 = omega arith in
    passes p ys i x (omega arith) is fails ∙ ap (λ k. filter p (drop k (y ∷ ys))) e

add_one : {A : Type 0} (xs : List A) (x : A) (ys : List A) → (xs ++ x ∷ []) ++ ys ≡ xs ++ x ∷ ys
add_one [] x ys = refl
add_one (z ∷ zs) x ys = ap (λ rest. z ∷ rest) (add_one zs x ys)

-- a value that passes was added to those found
pub found_more : {A : Type 0} (p : A → Bool) (xs found new all : List A) (i : ℕ) (x : A) → i < length xs → x ≡ get_or xs i x → p x ≡ true → new ≡ found ++ x ∷ []
    → found ++ filter p (drop i xs) ≡ all → new ++ filter p (drop (i + 1) xs) ≡ all
found_more p xs found new all i x within is holds grown all_is =
    ap (λ ys. ys ++ filter p (drop (i + 1) xs)) grown
    ∙ (add_one found x (filter p (drop (i + 1) xs)) ∙ (ap (λ ys. found ++ ys) (sym (keeps p xs i x within is holds)) ∙ all_is))

-- a value that does not pass was not
pub found_same : {A : Type 0} (p : A → Bool) (xs found new all : List A) (i : ℕ) (x : A) → i < length xs → x ≡ get_or xs i x → p x ≡ false → new ≡ found
    → found ++ filter p (drop i xs) ≡ all → new ++ filter p (drop (i + 1) xs) ≡ all
found_same p xs found new all i x within is fails same all_is =
    ap (λ ys. ys ++ filter p (drop (i + 1) xs)) same ∙ (ap (λ ys. found ++ ys) (sym (passes p xs i x within is fails)) ∙ all_is)

-- a filter leaves no more
pub filter_few : {A : Type 0} (p : A → Bool) (xs : List A) → length (filter p xs) ≤ length xs
filter_few p [] = omega arith
filter_few p (x ∷ xs) = by (p x) (filter_few p xs)
  where
    by : (t : Bool) → length (filter p xs) ≤ length xs → length (cond t (x ∷ filter p xs) (filter p xs)) ≤ length (x ∷ xs)
    by true few = omega (arith, few)
    by false few = omega (arith, few)

-- a filter of lists in a row
filter_lists : {A B : Type 0} (p : B → Bool) (f : A → List B) (xs : List A) → flat_map (λ x. filter p (f x)) xs ≡ filter p (flat_map f xs)
filter_lists p f [] = refl
filter_lists p f (x ∷ xs) = ap (λ rest. filter p (f x) ++ rest) (filter_lists p f xs) ∙ sym (filter-append p (f x) (flat_map f xs))

-- a filter of a list and of lists in a row
pub filter_all : {A B : Type 0} (p : B → Bool) (f : A → List B) (first : List B) (xs : List A) → filter p first ++ flat_map (λ x. filter p (f x)) xs ≡ filter p (first ++ flat_map f xs)
filter_all p f first xs = ap (λ rest. filter p first ++ rest) (filter_lists p f xs) ∙ sym (filter-append p first (flat_map f xs))

-- ---- tests that a filter does not change

any_step : {A : Type 0} (p q : A → Bool) (x : A) (xs : List A) (t : Bool) → q x ≡ t → (p x ≡ true → q x ≡ true) → list_any p (filter q xs) ≡ list_any p xs
    → list_any p (cond t (x ∷ filter q xs) (filter q xs)) ≡ (p x || list_any p xs)
any_step p q x xs true is implies rest = ap (λ t. p x || t) rest
any_step p q x xs false is implies rest = rest ∙ skipped (p x) (list_any p xs) refl
  where
    skipped : (a b : Bool) → p x ≡ a → b ≡ (a || b)
    skipped true b holds = let both : true ≡ false = sym (implies holds) ∙ is in absurd (cc)
    skipped false b holds = refl

pub any_filter : {A : Type 0} (p q : A → Bool) → ((x : A) → p x ≡ true → q x ≡ true) → (xs : List A) → list_any p (filter q xs) ≡ list_any p xs
any_filter p q implies [] = refl
any_filter p q implies (x ∷ xs) = any_step p q x xs (q x) refl (implies x) (any_filter p q implies xs)

pub filter_alike : {A : Type 0} (p q : A → Bool) → ((x : A) → p x ≡ q x) → (xs : List A) → filter p xs ≡ filter q xs
filter_alike p q alike [] = refl
filter_alike p q alike (x ∷ xs) = rw (alike x, filter_alike p q alike xs) refl

-- what passes somewhere stands somewhere
pub record Standing {A : Type 0} (p : A → Bool) (xs : List A) : Type 0 where
  pub front : List A
  pub one : A
  pub back : List A
  pub split : xs ≡ front ++ one ∷ back
  pub holds : p one ≡ true

standing_by : {A : Type 0} (p : A → Bool) (x : A) (xs : List A) (t : Bool) → p x ≡ t → (list_any p xs ≡ true → Standing p xs) → (t || list_any p xs) ≡ true → Standing p (x ∷ xs)
standing_by p x xs true is rest some = record { front = []; one = x; back = xs; split = refl; holds = is }
standing_by p x xs false is rest some =
    let found = rest some in
    record { front = x ∷ found.front; one = found.one; back = found.back; split = ap (λ ys. x ∷ ys) found.split; holds = found.holds }

pub standing : {A : Type 0} (p : A → Bool) (xs : List A) → list_any p xs ≡ true → Standing p xs
standing p [] some = absurd (cc)
standing p (x ∷ xs) some = standing_by p x xs (p x) refl (standing p xs) some
