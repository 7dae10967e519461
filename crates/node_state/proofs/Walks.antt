-- A walk over what is found in a list.
use Rattle.std.proofs.Common.{◌≡◌, ℕ, zero, suc, ◌+◌, ◌≤◌, Bool, true, false, List, [], ◌∷◌, length, drop, filter_map, find, refl, ap, sym, ◌∙◌, arith, Option, Some, None}
use Rattle.std.specs.Prelude.{slice_get}
use Rattle.std.specs.List.{cons_option}

-- a list from an index on, by what stands there
pub none_there : {A : Type 0} (xs : List A) (i : ℕ) → slice_get xs i ≡ None → drop i xs ≡ []
none_there [] zero none = refl
none_there [] (suc i) none = refl
none_there (x ∷ xs) zero none = absurd (cc)
none_there (x ∷ xs) (suc i) none = none_there xs i none

pub some_there : {A : Type 0} (xs : List A) (i : ℕ) (x : A) → slice_get xs i ≡ Some x → drop i xs ≡ x ∷ drop (suc i) xs
some_there [] zero x some = absurd (cc)
some_there [] (suc i) x some = absurd (cc)
some_there (y ∷ ys) zero x some = let e : y ≡ x = cc in ap (λ (z : _). z ∷ ys) e
some_there (y ∷ ys) (suc i) x some = some_there ys i x some

-- past the end nothing stands
pub drop_past : {A : Type 0} (xs : List A) (i : ℕ) → length xs ≤ i → drop i xs ≡ []
drop_past [] zero past = refl
drop_past [] (suc i) past = refl
drop_past (x ∷ xs) zero past = absurd (omega (arith, past))
drop_past (x ∷ xs) (suc i) past = drop_past xs i (omega (arith, past))

few_step : {A : Type 0} (o : Option A) (ys : List A) (n : ℕ) → length ys ≤ n → length (cons_option o ys) ≤ suc n
few_step None ys n few = omega (arith, few)
few_step (Some y) ys n few = omega (arith, few)

-- no more than the list are mapped
pub few_mapped : {A B : Type 0} (f : A → Option B) (xs : List A) → length (filter_map f xs) ≤ length xs
few_mapped f [] = omega arith
few_mapped f (x ∷ xs) = few_step (f x) (filter_map f xs) (length xs) (few_mapped f xs)

pub walk_ends : {A : Type 0} (p : A → Bool) (xs : List A) (i : ℕ) → find p (drop i xs) ≡ find p xs → drop i xs ≡ [] → None ≡ find p xs
walk_ends p xs i so is = ap (λ ys. find p ys) (sym is) ∙ so

found_first : {A : Type 0} (p : A → Bool) (x : A) (ys : List A) → p x ≡ true → find p (x ∷ ys) ≡ Some x
found_first p x ys is = rw is refl

passed_first : {A : Type 0} (p : A → Bool) (x : A) (ys : List A) → p x ≡ false → find p (x ∷ ys) ≡ find p ys
passed_first p x ys is = rw is refl

pub walk_finds : {A : Type 0} (p : A → Bool) (xs : List A) (i : ℕ) (x : A) → find p (drop i xs) ≡ find p xs → slice_get xs i ≡ Some x → p x ≡ true → Some x ≡ find p xs
walk_finds p xs i x so there is = sym (ap (λ ys. find p ys) (some_there xs i x there) ∙ found_first p x (drop (suc i) xs) is) ∙ so

pub walk_passes : {A : Type 0} (p : A → Bool) (xs : List A) (i : ℕ) (x : A) → find p (drop i xs) ≡ find p xs → slice_get xs i ≡ Some x → p x ≡ false → find p (drop (i + 1) xs) ≡ find p xs
walk_passes p xs i x so there is =
    let next : i + 1 ≡ suc i = omega arith in
    ap (λ j. find p (drop j xs)) next ∙ (sym (ap (λ ys. find p ys) (some_there xs i x there) ∙ passed_first p x (drop (suc i) xs) is) ∙ so)

pub walk_past : {A B : Type 0} (p : B → Bool) (f : A → Option B) (xs ys : List A) (i : ℕ) → find p (drop i (filter_map f xs)) ≡ find p (filter_map f xs) → ys ≡ xs → length ys ≤ i
    → None ≡ find p (filter_map f xs)
walk_past p f xs ys i so same over =
    let few : length (filter_map f xs) ≤ length xs = few_mapped f xs in
    let all : length ys ≡ length xs = ap (λ zs. length zs) same in
    walk_ends p (filter_map f xs) i so (drop_past (filter_map f xs) i (omega (arith, few, all, over)))
