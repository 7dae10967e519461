-- What a filter leaves to a search, and lists followed value by value.
use Rattle.std.proofs.Common.{◌≡◌, ◌++◌, Bool, true, false, ◌||◌, cond, List, [], ◌∷◌, Option, Some, ap, sym, refl, ◌∙◌}
use Rattle.std.specs.Prelude.{filter, find, filter_map}
use Rattle.std.specs.List.{list_any}
use Rattle.std.proofs.lemmas.Bool.{both_ways}
use Rattle.std.proofs.lemmas.List.Elements.{filter-append}
use Rattle.smart_base.specs.Lists.{Each}

-- ---- a search for values that a filter keeps

or_passed : (a b : Bool) → (a ≡ true → ⊥) → b ≡ (a || b)
or_passed true b not_true = absurd (not_true refl)
or_passed false b not_true = refl

passed : {X : Type 0} (a : Bool) (x y : X) → (a ≡ true → ⊥) → y ≡ cond a x y
passed true x y not_true = absurd (not_true refl)
passed false x y not_true = refl

any_step : {A : Type 0} (p q : A → Bool) (x : A) (xs : List A) (t : Bool) → q x ≡ t → (p x ≡ true → q x ≡ true)
    → list_any p (filter q xs) ≡ list_any p xs
    → list_any p (cond t (x ∷ filter q xs) (filter q xs)) ≡ (p x || list_any p xs)
any_step p q x xs true is implies rest = ap (λ t. p x || t) rest
any_step p q x xs false is implies rest = rest ∙ or_passed (p x) (list_any p xs) (λ holds. both_ways (q x) is (implies holds))

pub any_filter : {A : Type 0} (p q : A → Bool) → ((x : A) → p x ≡ true → q x ≡ true) → (xs : List A) → list_any p (filter q xs) ≡ list_any p xs
any_filter p q implies [] = refl
any_filter p q implies (x ∷ xs) = any_step p q x xs (q x) refl (implies x) (any_filter p q implies xs)

find_step : {A : Type 0} (p q : A → Bool) (x : A) (xs : List A) (t : Bool) → q x ≡ t → (p x ≡ true → q x ≡ true) → find p (filter q xs) ≡ find p xs
    → find p (cond t (x ∷ filter q xs) (filter q xs)) ≡ cond (p x) (Some x) (find p xs)
find_step p q x xs true is implies rest = ap (λ found. cond (p x) (Some x) found) rest
find_step p q x xs false is implies rest = rest ∙ passed (p x) (Some x) (find p xs) (λ holds. both_ways (q x) is (implies holds))

pub find_filter : {A : Type 0} (p q : A → Bool) → ((x : A) → p x ≡ true → q x ≡ true) → (xs : List A) → find p (filter q xs) ≡ find p xs
find_filter p q implies [] = refl
find_filter p q implies (x ∷ xs) = find_step p q x xs (q x) refl (implies x) (find_filter p q implies xs)

filter_step : {A : Type 0} (p q : A → Bool) (x : A) (xs : List A) (t : Bool) → q x ≡ t → (p x ≡ true → q x ≡ true)
    → filter p (filter q xs) ≡ filter p xs
    → filter p (cond t (x ∷ filter q xs) (filter q xs)) ≡ cond (p x) (x ∷ filter p xs) (filter p xs)
filter_step p q x xs true is implies rest = ap (λ found. cond (p x) (x ∷ found) found) rest
filter_step p q x xs false is implies rest = rest ∙ passed (p x) (x ∷ filter p xs) (filter p xs) (λ holds. both_ways (q x) is (implies holds))

pub filter_filter : {A : Type 0} (p q : A → Bool) → ((x : A) → p x ≡ true → q x ≡ true) → (xs : List A) → filter p (filter q xs) ≡ filter p xs
filter_filter p q implies [] = refl
filter_filter p q implies (x ∷ xs) = filter_step p q x xs (q x) refl (implies x) (filter_filter p q implies xs)

pub filter_end : {A : Type 0} (p : A → Bool) (xs : List A) (x : A) → p x ≡ true → filter p xs ++ x ∷ [] ≡ filter p (xs ++ x ∷ [])
filter_end p xs x holds = sym (filter-append p xs (x ∷ []) ∙ ap (λ (t : Bool). filter p xs ++ cond t (x ∷ []) []) holds)

-- ---- what passes no test

none_step : {A : Type 0} (p : A → Bool) (x : A) (xs : List A) → p x ≡ false → filter p xs ≡ [] → filter p (x ∷ xs) ≡ []
none_step p x xs fails none = rw fails none

pub filter_none : {A : Type 0} (p : A → Bool) (xs : List A) → Each (λ x. p x ≡ false) xs → filter p xs ≡ []
filter_none p [] all = refl
filter_none p (x ∷ xs) all = none_step p x xs all.0 (filter_none p xs all.1)

each_if : {A : Type 0} (P : A → Type 0) (test : Bool) (x : A) (xs : List A) → P x → Each P xs → Each P (cond test (x ∷ xs) xs)
each_if P true x xs has all = (has, all)
each_if P false x xs has all = all

pub each_filter : {A : Type 0} (P : A → Type 0) (p : A → Bool) (xs : List A) → Each P xs → Each P (filter p xs)
each_filter P p [] all = all
each_filter P p (x ∷ xs) all = each_if P (p x) x (filter p xs) all.0 (each_filter P p xs all.1)

pub each_as : {A : Type 0} (P Q : A → Type 0) → ((x : A) → P x → Q x) → (xs : List A) → Each P xs → Each Q xs
each_as P Q implies [] all = all
each_as P Q implies (x ∷ xs) all = (implies x all.0, each_as P Q implies xs all.1)

-- ---- two tests that agree

pub filter_alike : {A : Type 0} (p q : A → Bool) → ((x : A) → p x ≡ q x) → (xs : List A) → filter p xs ≡ filter q xs
filter_alike p q alike [] = refl
filter_alike p q alike (x ∷ xs) = rw (alike x, filter_alike p q alike xs) refl

pub find_alike : {A : Type 0} (p q : A → Bool) → ((x : A) → p x ≡ q x) → (xs : List A) → find p xs ≡ find q xs
find_alike p q alike [] = refl
find_alike p q alike (x ∷ xs) = rw (alike x, find_alike p q alike xs) refl

pub filter_map_alike : {A B : Type 0} (f g : A → Option B) → ((x : A) → f x ≡ g x) → (xs : List A) → filter_map f xs ≡ filter_map g xs
filter_map_alike f g alike [] = refl
filter_map_alike f g alike (x ∷ xs) = rw (alike x, filter_map_alike f g alike xs) refl
