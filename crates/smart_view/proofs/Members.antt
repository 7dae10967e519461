-- Where members stand.
use Rattle.std.proofs.Common.{◌≡◌, ℕ, ◌+◌, ◌<◌, ◌==◌, nat_lt, Bool, true, false, not, List, [], ◌∷◌, length, refl, sym, ◌∙◌, arith, suc}
use Rattle.std.proofs.lemmas.Grind.{common_steps}
use Rattle.std.proofs.lemmas.Bool.{eqb-true}
use Rattle.std.specs.Prelude.{MatchOption, slice_index}
use Rattle.std.specs.List.{list_any, position, prefix_len}
use Rattle.smart_base.specs.Views.{View, is_member}
use Rattle.smart_view.specs.Sizes.{index_of}

-- how many stand in front of a member
abbrev before : ℕ → List ℕ → ℕ
before member xs = prefix_len (λ x. not (x == member)) xs

-- a member that stands at an index, or that stands nowhere
abbrev Stands : ℕ → List ℕ → ℕ → Type 0
Stands member xs i = (i < length xs) × (slice_index xs i ≡ member)

more_test : (a b : ℕ) → nat_lt (1 + a) (suc b) ≡ nat_lt a b
more_test a b = grind (arith, common_steps)

lt_true : (a b : ℕ) → nat_lt a b ≡ true → a < b
lt_true a b is = grind (arith, common_steps)

first_test : (member x : ℕ) (xs : List ℕ) (t : Bool) → (x == member) ≡ t → nat_lt (before member xs) (length xs) ≡ list_any (λ y. y == member) xs
    → nat_lt (before member (x ∷ xs)) (length (x ∷ xs)) ≡ list_any (λ y. y == member) (x ∷ xs)
first_test member x xs true is rest = rw is (grind (arith, common_steps))
first_test member x xs false is rest = rw is (rw more_test rest)

before-member : (member : ℕ) (xs : List ℕ) → nat_lt (before member xs) (length xs) ≡ list_any (λ y. y == member) xs
before-member member [] = grind (arith, common_steps)
before-member member (x ∷ xs) = first_test member x xs (x == member) refl (before-member member xs)

next_value : (x n : ℕ) (xs : List ℕ) → slice_index (x ∷ xs) (1 + n) ≡ slice_index xs n
next_value x n xs = let next : 1 + n ≡ suc n = omega arith in rw next refl

at_test : (member x : ℕ) (xs : List ℕ) (t : Bool) → (x == member) ≡ t → (before member xs < length xs → slice_index xs (before member xs) ≡ member)
    → before member (x ∷ xs) < length (x ∷ xs) → slice_index (x ∷ xs) (before member (x ∷ xs)) ≡ member
at_test member x xs true is rest under = rw is (eqb-true x member is)
at_test member x xs false is rest under =
    let further : 1 + before member xs < length (x ∷ xs) = rw is at under in
    rw (is, next_value x (before member xs) xs) (rest (omega (arith, further)))

before-at : (member : ℕ) (xs : List ℕ) → before member xs < length xs → slice_index xs (before member xs) ≡ member
before-at member [] under = absurd (omega arith)
before-at member (x ∷ xs) under = at_test member x xs (x == member) refl (before-at member xs) under

index-test : (member : ℕ) (xs : List ℕ) (t : Bool) → nat_lt (before member xs) (length xs) ≡ t
    → MatchOption (position (λ x. x == member) xs) (list_any (λ x. x == member) xs ≡ false) (Stands member xs)
index-test member xs true is = rw is (let under = lt_true (before member xs) (length xs) is in (under, before-at member xs under))
index-test member xs false is = rw is (sym (before-member member xs) ∙ is)

-- where a member stands, or that it is none
pub index_of-cases : (v : View) (member : ℕ) → MatchOption (index_of v member) (is_member v member ≡ false) (λ i. (i < length v.members) × (slice_index v.members i ≡ member))
index_of-cases v member = index-test member v.members (nat_lt (before member v.members) (length v.members)) refl
