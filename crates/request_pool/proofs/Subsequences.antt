-- Subsequences, and what holds of each value of one.
use Rattle.std.proofs.Common.{◌≡◌, inl, inr, ⊎_elim, Bool, true, false, List, [], ◌∷◌, refl, sym, subst, cond}
use Rattle.std.specs.Prelude.{filter}
use Rattle.std.specs.List.{list_any, list_all}
use Rattle.smart_base.specs.Lists.{Each}
use Rattle.request_pool.specs.Orders.{IsSubsequence}

pub within_same : {A : Type 0} (xs : List A) → IsSubsequence xs xs
within_same [] = tt
within_same (x ∷ xs) = inl (refl, within_same xs)

widen_by : {A : Type 0} (xs : List A) (y : A) (few all : List A) (b : Bool) → ((zs : List A) → IsSubsequence zs few → IsSubsequence zs all) → IsSubsequence xs (cond b (y ∷ few) few) → IsSubsequence xs (y ∷ all)
widen_by [] y few all b rest sub = tt
widen_by (x ∷ xs) y few all true rest sub = ⊎_elim (λ here. inl (here.0, rest xs here.1)) (λ later. inr (rest (x ∷ xs) later)) sub
widen_by (x ∷ xs) y few all false rest sub = inr (rest (x ∷ xs) sub)

-- a subsequence of what a filter keeps is one of all
pub within_filter : {A : Type 0} (p : A → Bool) (ys xs : List A) → IsSubsequence xs (filter p ys) → IsSubsequence xs ys
within_filter p [] xs sub = sub
within_filter p (y ∷ ys) xs sub = widen_by xs y (filter p ys) ys (p y) (λ zs. within_filter p ys zs) sub

-- what holds of each value holds of a subsequence's
pub each_within : {A : Type 0} (P : A → Type 0) (ys xs : List A) → IsSubsequence xs ys → Each P ys → Each P xs
each_within P ys [] sub each = tt
each_within P [] (x ∷ xs) sub each = absurd sub
each_within P (y ∷ ys) (x ∷ xs) sub each =
    ⊎_elim (λ here. (subst P (sym here.0) each.0, each_within P ys xs here.1 each.1)) (λ later. each_within P ys (x ∷ xs) later each.1) sub

each_if : {A : Type 0} (Q : A → Type 0) (x : A) (xs : List A) (b : Bool) → (b ≡ true → Q x) → Each Q xs → Each Q (cond b (x ∷ xs) xs)
each_if Q x xs true holds rest = (holds refl, rest)
each_if Q x xs false holds rest = rest

-- what a filter makes hold of each value that it keeps
pub each_filtered : {A : Type 0} (P Q : A → Type 0) (p : A → Bool) → ((x : A) → P x → p x ≡ true → Q x) → (xs : List A) → Each P xs → Each Q (filter p xs)
each_filtered P Q p holds [] each = tt
each_filtered P Q p holds (x ∷ xs) each = each_if Q x (filter p xs) (p x) (holds x each.0) (each_filtered P Q p holds xs each.1)

pub all_from_each : {A : Type 0} (p : A → Bool) (xs : List A) → Each (λ x. p x ≡ true) xs → list_all p xs ≡ true
all_from_each p [] each = refl
all_from_each p (x ∷ xs) each = rw each.0 (all_from_each p xs each.1)

pub none_from_each : {A : Type 0} (p : A → Bool) (xs : List A) → Each (λ x. p x ≡ false) xs → list_any p xs ≡ false
none_from_each p [] each = refl
none_from_each p (x ∷ xs) each = rw each.0 (none_from_each p xs each.1)
