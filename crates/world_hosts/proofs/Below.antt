-- How many of the first elements pass a test.
use Rattle.std.proofs.Common.{◌≡◌, ℕ, ◌+◌, ◌<◌, ◌≤◌, ◌^◌, ◌∙◌, Bool, not, cond, List, length, filter, take, get_or, refl, ap, sym, arith, length-take}
use Rattle.std.proofs.lemmas.List.{take_all}
use Rattle.std.proofs.lemmas.List.Filters.{length-filter_both, length-filter_more}

filter_within : {A : Type 0} (p : A → Bool) (xs : List A) → length (filter p xs) ≤ length xs
filter_within p xs = omega (arith, length-filter_both p (λ x. not (p x)) (λ x. refl) xs)

-- one more
pub passing-more : {A : Type 0} (p : A → Bool) (xs : List A) (i count next : ℕ) (x : A) → i < length xs → x ≡ get_or xs i x → count ≡ length (filter p (take i xs))
    → next ≡ count + cond (p x) 1 0 → next ≡ length (filter p (take (i + 1) xs))
passing-more p xs i count next x lt is so_far step =
    step ∙ (ap (λ (k : ℕ). k + cond (p x) 1 0) so_far
    ∙ (ap (λ y. length (filter p (take i xs)) + cond (p y) 1 0) is ∙ sym (length-filter_more p xs i x lt)))

-- they are no more than those
pub passing-within : {A : Type 0} (p : A → Bool) (xs : List A) (i count : ℕ) → count ≡ length (filter p (take i xs)) → count ≤ i
passing-within p xs i count so_far = omega (arith, filter_within p (take i xs), length-take i xs)

-- where none is left, all are counted
pub passing-all : {A : Type 0} (p : A → Bool) (xs : List A) (i count : ℕ) → length xs ≤ i → count ≡ length (filter p (take i xs)) → count ≡ length (filter p xs)
passing-all p xs i count past so_far = so_far ∙ ap (λ ys. length (filter p ys)) (take_all i xs past)

pub all-within : {A : Type 0} (p : A → Bool) (xs : List A) (i count : ℕ) → length xs ≤ i → count ≡ length (filter p (take i xs)) → count ≤ length xs
all-within p xs i count past so_far = omega (arith, passing-all p xs i count past so_far, filter_within p xs)

-- a count that is below a length may grow by one
pub one-more-fits : (count i end : ℕ) → i < end → end < 2 ^ 64 → count ≤ i → count + 1 < 2 ^ 64
one-more-fits count i end lt fits least = omega arith
