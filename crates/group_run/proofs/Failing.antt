-- Whether one of the first of some values has failed.
use Rattle.std.proofs.Common.{◌≡◌, ◌∙◌, ◌⊎◌, inl, inr, ℕ, ◌+◌, ◌<◌, ◌≤◌, Bool, true, false, ◌||◌, List, length, get_or, refl, sym, ap, arith}
use Rattle.std.proofs.lemmas.List.{get_or_read}

-- one of the first passes
abbrev pub Has : {A : Type 0} → (A → Bool) → List A → ℕ → Type 0
Has {A} test xs n = (i : ℕ) × ((i < n) × ((d : A) → test (get_or xs i d) ≡ true))

has-before : {A : Type 0} (test : A → Bool) (xs : List A) (n : ℕ) → Has test xs n → Has test xs (n + 1)
has-before test xs n some = (some.0, (omega (arith, some.1.0), some.1.1))

has-here : {A : Type 0} (test : A → Bool) (xs : List A) (n : ℕ) (x : A) → n < length xs → x ≡ get_or xs n x → test x ≡ true → Has test xs (n + 1)
has-here test xs n x within read is = (n, (omega arith, λ d. ap test (sym (get_or_read xs n x within read d)) ∙ is))

-- one of the first is one of all
pub has-all : {A : Type 0} (test : A → Bool) (xs : List A) (n : ℕ) → n ≤ length xs → Has test xs n → Has test xs (length xs)
has-all test xs n few some = (some.0, (omega (arith, few, some.1.0), some.1.1))

-- ---- one of two tests

pub or-then : (before now test : Bool) → before ≡ true → now ≡ before → now ≡ (before || test)
or-then before now test was is = is ∙ was ∙ sym (ap (λ (b : Bool). b || test) was)

pub or-else : (before now test : Bool) → before ≡ false → now ≡ test → now ≡ (before || test)
or-else before now test was is = is ∙ sym (ap (λ (b : Bool). b || test) was)

either-true : (a b : Bool) → (a || b) ≡ true → (a ≡ true) ⊎ (b ≡ true)
either-true true b is = inl refl
either-true false b is = inr is

pub has-more : {A : Type 0} (test : A → Bool) (xs : List A) (n : ℕ) (x : A) (before now : Bool) → n < length xs → x ≡ get_or xs n x → (before ≡ true → Has test xs n) → now ≡ (before || test x) → now ≡ true → Has test xs (n + 1)
has-more test xs n x before now within read was is found =
    elim (either-true before (test x) (sym is ∙ found)) [ inl old ↦ has-before test xs n (was old) | inr new ↦ has-here test xs n x within read new ]

pub has-or-more : {A P : Type 0} (test : A → Bool) (xs : List A) (n : ℕ) (x : A) (before now : Bool) → n < length xs → x ≡ get_or xs n x → (before ≡ true → P ⊎ Has test xs n) → now ≡ (before || test x) → now ≡ true → P ⊎ Has test xs (n + 1)
has-or-more test xs n x before now within read was is found =
    elim (either-true before (test x) (sym is ∙ found)) [
      | inl old ↦ elim (was old) [ inl p ↦ inl p | inr some ↦ inr (has-before test xs n some) ]
      | inr new ↦ inr (has-here test xs n x within read new)
    ]
