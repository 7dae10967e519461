-- What holds of each value of a list and its index.
use Rattle.std.proofs.Common.{◌≡◌, ℕ, zero, suc, ◌++◌, List, [], ◌∷◌, length, Some, subst, arith}
use Rattle.std.specs.Prelude.{slice_get, slice_set}
use Rattle.agreement_laws.proofs.Lists.{some_equal}

-- what holds of each value and its index, from 0 on
abbrev pub EachAt : {A : Type 0} → (ℕ → A → Type 0) → List A → Type 0
EachAt P [] = Unit {0}
EachAt P (x ∷ xs) = P zero x × EachAt (λ i. P (suc i)) xs

-- one more value stands at the length
pub each_at_end : {A : Type 0} (P : ℕ → A → Type 0) (xs : List A) (x : A) → EachAt P xs → P (length xs) x → EachAt P (xs ++ x ∷ [])
each_at_end P [] x each is = (is, tt)
each_at_end P (y ∷ xs) x each is = (each.0, each_at_end (λ i. P (suc i)) xs x each.1 is)

-- the value at an index
pub each_at_get : {A : Type 0} (P : ℕ → A → Type 0) (xs : List A) (i : ℕ) (x : A) → EachAt P xs → slice_get xs i ≡ Some x → P i x
each_at_get P [] i x each at = absurd (cc)
each_at_get P (y ∷ xs) zero x each at = subst (P zero) (some_equal y x at) each.0
each_at_get P (y ∷ xs) (suc i) x each at = each_at_get (λ j. P (suc j)) xs i x each.1 at

-- what follows from what holds of each
pub each_at_weaker : {A : Type 0} (P Q : ℕ → A → Type 0) → ((i : ℕ) (x : A) → P i x → Q i x) → (xs : List A) → EachAt P xs → EachAt Q xs
each_at_weaker P Q weaker [] each = tt
each_at_weaker P Q weaker (x ∷ xs) each = (weaker zero x each.0, each_at_weaker (λ i. P (suc i)) (λ i. Q (suc i)) (λ i y. weaker (suc i) y) xs each.1)

-- what follows from two facts of each
pub each_at_both : {A : Type 0} (P Q R : ℕ → A → Type 0) → ((i : ℕ) (x : A) → P i x → Q i x → R i x) → (xs : List A) → EachAt P xs → EachAt Q xs → EachAt R xs
each_at_both P Q R both [] ep eq = tt
each_at_both P Q R both (x ∷ xs) ep eq = (both zero x ep.0 eq.0, each_at_both (λ i. P (suc i)) (λ i. Q (suc i)) (λ i. R (suc i)) (λ i y. both (suc i) y) xs ep.1 eq.1)

-- another value at an index, where the values at all others stay
pub each_at_set : {A : Type 0} (P Q : ℕ → A → Type 0) (xs : List A) (i : ℕ) (x : A) → ((j : ℕ) (y : A) → (j ≡ i → ⊥) → P j y → Q j y) → EachAt P xs → Q i x → EachAt Q (slice_set xs i x)
each_at_set P Q [] i x others each is = tt
each_at_set P Q (y ∷ xs) zero x others each is =
    (is, each_at_weaker (λ j. P (suc j)) (λ j. Q (suc j)) (λ j z. others (suc j) z (λ same. omega arith)) xs each.1)
each_at_set P Q (y ∷ xs) (suc i) x others each is =
    (others zero y (λ same. omega arith) each.0, each_at_set (λ j. P (suc j)) (λ j. Q (suc j)) xs i x (λ j z not_i. others (suc j) z (λ same. not_i (omega arith))) each.1 is)
