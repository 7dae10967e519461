-- A filter followed value by value, and what holds of each value of a list.
use Rattle.std.proofs.Common.{◌≡◌, ℕ, ◌+◌, ◌<◌, ◌≤◌, ◌^◌, ◌++◌, Bool, true, false, drop, take, get_or, zero, suc, List, [], ◌∷◌, length, ap, sym, refl, ◌∙◌, cond, arith}
use Rattle.std.specs.Prelude.{filter}
use Rattle.std.proofs.lemmas.List.{length-take}
use Rattle.smart_base.specs.Lists.{Each}
use Rattle.smart_base.specs.Views.{View, is_view}
use Rattle.smart_base.proofs.ViewLaws.{members-few}

pub each_more : {A : Type 0} (P : A → Type 0) (xs : List A) (x : A) → Each P xs → P x → Each P (xs ++ x ∷ [])
each_more P [] x all has = (has, tt)
each_more P (y ∷ ys) x all has = (all.0, each_more P ys x all.1 has)

-- what a filter keeps of a list from an index on, where it keeps the value at the index, and where it does not

pub filter_keeps : (p : ℕ → Bool) (xs : List ℕ) (i x : ℕ) → i < length xs → x ≡ get_or xs i x → p x ≡ true → filter p (drop i xs) ≡ x ∷ filter p (drop (i + 1) xs)
filter_keeps p [] i x within is holds = absurd (omega arith)
filter_keeps p (y ∷ ys) zero x within is holds = rw (sym is) (rw holds refl)
filter_keeps p (y ∷ ys) (suc i) x within is holds =
    let e : suc (i + 1) ≡ suc i + 1 = omega arith in
    filter_keeps p ys i x (omega arith) is holds ∙ ap (λ k. x ∷ filter p (drop k (y ∷ ys))) e

pub filter_passes : (p : ℕ → Bool) (xs : List ℕ) (i x : ℕ) → i < length xs → x ≡ get_or xs i x → p x ≡ false → filter p (drop i xs) ≡ filter p (drop (i + 1) xs)
filter_passes p [] i x within is fails = absurd (omega arith)
filter_passes p (y ∷ ys) zero x within is fails = rw (sym is) (rw fails refl)
filter_passes p (y ∷ ys) (suc i) x within is fails =
    let e : suc (i + 1) ≡ suc i + 1 = omega arith in
    filter_passes p ys i x (omega arith) is fails ∙ ap (λ k. filter p (drop k (y ∷ ys))) e

add_one : (xs : List ℕ) (x : ℕ) (ys : List ℕ) → (xs ++ x ∷ []) ++ ys ≡ xs ++ x ∷ ys
add_one [] x ys = refl
add_one (z ∷ zs) x ys = ap (λ rest. z ∷ rest) (add_one zs x ys)

pub found_more : (p : ℕ → Bool) (xs found new all : List ℕ) (i x : ℕ) → i < length xs → x ≡ get_or xs i x → p x ≡ true → new ≡ found ++ x ∷ []
    → found ++ filter p (drop i xs) ≡ all → new ++ filter p (drop (i + 1) xs) ≡ all
found_more p xs found new all i x within is holds grown all_is =
    ap (λ ys. ys ++ filter p (drop (i + 1) xs)) grown
    ∙ (add_one found x (filter p (drop (i + 1) xs)) ∙ (ap (λ ys. found ++ ys) (sym (filter_keeps p xs i x within is holds)) ∙ all_is))

pub found_same : (p : ℕ → Bool) (xs found new all : List ℕ) (i x : ℕ) → i < length xs → x ≡ get_or xs i x → p x ≡ false → new ≡ found
    → found ++ filter p (drop i xs) ≡ all → new ++ filter p (drop (i + 1) xs) ≡ all
found_same p xs found new all i x within is fails same all_is =
    ap (λ ys. ys ++ filter p (drop (i + 1) xs)) same ∙ (ap (λ ys. found ++ ys) (sym (filter_passes p xs i x within is fails)) ∙ all_is)

-- A QUORUM OF A VIEW IS SMALL

filter-few : {A : Type 0} (p : A → Bool) (xs : List A) → length (filter p xs) ≤ length xs
filter-few p [] = omega arith
filter-few p (x ∷ xs) = by (p x) (filter-few p xs)
  where
    by : (t : Bool) → length (filter p xs) ≤ length xs → length (cond t (x ∷ filter p xs) (filter p xs)) ≤ length (x ∷ xs)
    by true few = omega (arith, few)
    by false few = omega (arith, few)

pub taken_few : (v : View) (p : ℕ → Bool) (size : ℕ) (all found kept : List ℕ) → is_view v ≡ true → all ≡ v.members → found ≡ filter p all → kept ≡ take size found → length kept < 2 ^ 16
taken_few v p size all found kept is same passed taken =
    omega (arith, ap length taken, length-take size found, ap length passed, filter-few p all, ap length same, members-few v is)
