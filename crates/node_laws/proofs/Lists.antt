-- Facts on tests, and on what stands in lists.
use Rattle.std.proofs.Common.{Bool, List, None, Option, Some, cond, false, filter, inl, inr, refl, subst, sym, true, ◌≡◌, ◌++◌, [], ◌∷◌}
use Rattle.std.specs.List.{cons_option, filter_map, list_all, list_any}
use Rattle.std.specs.Prelude.{find}
use Rattle.smart_base.specs.Lists.{Each}
use Rattle.vote_book.specs.Books.{Among}
use Rattle.smart_base.proofs.SameLists.{and_true}
use Rattle.agreement_laws.proofs.Lists.{either_by, among_right}
use Rattle.std.proofs.lemmas.Bool.{or_parts}

-- ---- tests

-- a choice that gives something, and else nothing
pub guard : {A : Type 0} (b : Bool) (o : Option A) (x : A) → cond b o None ≡ Some x → (b ≡ true) × (o ≡ Some x)
guard true o x is = (refl, is)
guard false o x is = absurd (cc)

-- ---- what is among values

pub among_last : {A : Type 0} (x : A) (xs : List A) → Among x (xs ++ x ∷ [])
among_last x xs = among_right x xs (x ∷ []) (inl refl)

-- ---- what holds of each

pub each_passes : {A : Type 0} (p : A → Bool) (xs : List A) → Each (λ x. p x ≡ true) (filter p xs)
each_passes p [] = tt
each_passes {A = A} p (x ∷ xs) = either_by (λ (ys : List A). Each (λ y. p y ≡ true) ys) (p x) (x ∷ filter p xs) (filter p xs) (λ is. (is, each_passes p xs)) (λ no. each_passes p xs)

-- what holds of a value, if there is one, as each value that stands there gives it
pub each_filter_map_in : {A B : Type 0} (P : B → Type 0) (f : A → Option B) (xs : List A) → ((x : A) (y : B) → Among x xs → f x ≡ Some y → P y) → Each P (filter_map f xs)
each_filter_map_in P f [] all = tt
each_filter_map_in {B = B} P f (x ∷ xs) all = by (f x) refl (each_filter_map_in P f xs (λ z y there is. all z y (inr there) is))
  where
    by : (o : Option B) → f x ≡ o → Each P (filter_map f xs) → Each P (cons_option o (filter_map f xs))
    by None is rest = rest
    by (Some y) is rest = (all x y (inl refl) is, rest)

-- the same of any value
pub each_filter_map : {A B : Type 0} (P : B → Type 0) (f : A → Option B) (xs : List A) → ((x : A) (y : B) → f x ≡ Some y → P y) → Each P (filter_map f xs)
each_filter_map P f xs all = each_filter_map_in P f xs (λ x y there is. all x y is)

-- where all pass, each does
pub all_each : {A : Type 0} (p : A → Bool) (xs : List A) → list_all p xs ≡ true → Each (λ x. p x ≡ true) xs
all_each p [] all = tt
all_each p (x ∷ xs) all = let parts = and_true (p x) (list_all p xs) all in (parts.0, all_each p xs parts.1)

-- ---- the first that passes

pub record Found {A : Type 0} (p : A → Bool) (xs : List A) (x : A) : Type 0 where
  pub there : Among x xs
  pub passes : p x ≡ true

pub found : {A : Type 0} (p : A → Bool) (xs : List A) (x : A) → find p xs ≡ Some x → Found p xs x
found p [] x is = absurd (cc)
found {A = A} p (y ∷ ys) x is = by (p y) refl is (λ rest. found p ys x rest)
  where
    by : (t : Bool) → p y ≡ t → cond t (Some y) (find p ys) ≡ Some x → (find p ys ≡ Some x → Found p ys x) → Found p (y ∷ ys) x
    by true passes is rest = let same : y ≡ x = cc in record { there = inl (sym same); passes = subst (λ (z : A). p z ≡ true) same passes }
    by false passes is rest = let later = rest is in record { there = inr later.there; passes = later.passes }

pub none_of : {A : Type 0} (p : A → Bool) (xs : List A) (x : A) → list_any p xs ≡ false → Among x xs → p x ≡ true → ⊥
none_of p [] x none there passes = there
none_of p (y ∷ ys) x none (inl is) passes = let here = (or_parts (p y) (list_any p ys) none).0 in let same : p y ≡ true = subst (λ z. p z ≡ true) is passes in cc
none_of p (y ∷ ys) x none (inr there) passes = none_of p ys x (or_parts (p y) (list_any p ys) none).1 there passes
