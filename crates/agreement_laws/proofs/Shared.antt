-- Sets of members, given by tests, that are together more than all share a member.
use Rattle.std.proofs.Common.{◌≡◌, inl, inr, suc, ◌+◌, ◌≤◌, ◌<◌, Bool, true, false, ◌&&◌, not, List, [], ◌∷◌, length, refl, arith, cond, ℕ}
use Rattle.std.specs.Prelude.{filter}
use Rattle.std.proofs.lemmas.Bool.{and_parts, not-true}
use Rattle.vote_book.specs.Books.{Among}
use Rattle.vote_book.proofs.Tested.{Passing}

-- one more member
one_more : {A : Type 0} (x : A) (xs ps qs both : List A) (a b : Bool) → length ps + length qs ≤ length xs + length both
    → length (cond a (x ∷ ps) ps) + length (cond b (x ∷ qs) qs) ≤ suc (length xs) + length (cond (a && b) (x ∷ both) both)
one_more x xs ps qs both true true le = omega (arith, le)
one_more x xs ps qs both true false le = omega (arith, le)
one_more x xs ps qs both false true le = omega (arith, le)
one_more x xs ps qs both false false le = omega (arith, le)

-- those in both, and those in either, are at least the two together
both_or_either : {A : Type 0} (p q : A → Bool) (xs : List A) → length (filter p xs) + length (filter q xs) ≤ length xs + length (filter (λ x. p x && q x) xs)
both_or_either p q [] = omega arith
both_or_either p q (x ∷ xs) = one_more x xs (filter p xs) (filter q xs) (filter (λ y. p y && q y) xs) (p x) (q x) (both_or_either p q xs)

-- what a filter leaves is there, and passes
some_passes : {A : Type 0} (p : A → Bool) (xs : List A) → 0 < length (filter p xs) → Passing p xs
some_passes p [] some = absurd (omega arith)
some_passes p (x ∷ xs) some = here_or_later p x xs (filter p xs) (p x) refl (λ later. some_passes p xs later) some
  where
    here_or_later : {A : Type 0} (p : A → Bool) (x : A) (xs rest : List A) (b : Bool) → p x ≡ b → (0 < length rest → Passing p xs) → 0 < length (cond b (x ∷ rest) rest) → Passing p (x ∷ xs)
    here_or_later p x xs rest true is later some = record { value = x; there = inl refl; passes = is }
    here_or_later p x xs rest false is later some = let found = later some in record { value = found.value; there = inr found.there; passes = found.passes }

-- those that pass are those that pass another test, too, and those that pass it not
split_one : {A : Type 0} (x : A) (ps fs cs : List A) (a b : Bool) → length ps ≤ length fs + length cs
    → length (cond a (x ∷ ps) ps) ≤ length (cond b (x ∷ fs) fs) + length (cond (a && not b) (x ∷ cs) cs)
split_one x ps fs cs true true le = omega (arith, le)
split_one x ps fs cs true false le = omega (arith, le)
split_one x ps fs cs false true le = omega (arith, le)
split_one x ps fs cs false false le = omega (arith, le)

-- those that pass are faulty or correct
faulty_or_correct : {A : Type 0} (p faulty : A → Bool) (xs : List A) → length (filter p xs) ≤ length (filter faulty xs) + length (filter (λ x. p x && not (faulty x)) xs)
faulty_or_correct p faulty [] = omega arith
faulty_or_correct p faulty (x ∷ xs) =
    split_one x (filter p xs) (filter faulty xs) (filter (λ y. p y && not (faulty y)) xs) (p x) (faulty x) (faulty_or_correct p faulty xs)

-- a correct member that passes two tests
pub record Correct {A : Type 0} (p q faulty : A → Bool) (xs : List A) : Type 0 where
  pub member : A
  pub there : Among member xs
  pub left : p member ≡ true
  pub right : q member ≡ true
  pub correct : faulty member ≡ false

-- two quorums of a view share a correct member
pub correct_meet : {A : Type 0} (p q faulty : A → Bool) (xs : List A) (f : ℕ) → length (filter faulty xs) ≤ f → length xs + f < length (filter p xs) + length (filter q xs)
    → Correct p q faulty xs
correct_meet p q faulty xs f few more =
    let met = some_passes (λ x. (p x && q x) && not (faulty x)) xs
    (omega (arith, both_or_either p q xs, faulty_or_correct (λ x. p x && q x) faulty xs)) in
    let outer = and_parts (p met.value && q met.value) (not (faulty met.value)) met.passes in
    let inner = and_parts (p met.value) (q met.value) outer.0 in
    record { member = met.value; there = met.there; left = inner.0; right = inner.1; correct = not-true (faulty met.value) outer.1 }

-- members of a list, each once, are no more than those that a test finds among them

-- more pass a weaker test
weaker_one : {A : Type 0} (x : A) (ps qs : List A) (a b : Bool) → (a ≡ true → b ≡ true) → length ps ≤ length qs → length (cond a (x ∷ ps) ps) ≤ length (cond b (x ∷ qs) qs)
weaker_one x ps qs true true weaker le = omega (arith, le)
weaker_one x ps qs true false weaker le = let none = weaker refl in absurd (cc)
weaker_one x ps qs false true weaker le = omega (arith, le)
weaker_one x ps qs false false weaker le = omega (arith, le)

pub weaker_passes : {A : Type 0} (p q : A → Bool) → ((x : A) → p x ≡ true → q x ≡ true) → (xs : List A) → length (filter p xs) ≤ length (filter q xs)
weaker_passes p q weaker [] = omega arith
weaker_passes p q weaker (x ∷ xs) = weaker_one x (filter p xs) (filter q xs) (p x) (q x) (weaker x) (weaker_passes p q weaker xs)

-- and one more where a value passes that alone
gained : {A : Type 0} (x : A) (ps qs : List A) (a b : Bool) → a ≡ false → b ≡ true → length ps ≤ length qs → suc (length (cond a (x ∷ ps) ps)) ≤ length (cond b (x ∷ qs) qs)
gained x ps qs true b is_a is_b le = absurd (cc)
gained x ps qs false true is_a is_b le = omega (arith, le)
gained x ps qs false false is_a is_b le = absurd (cc)

passed_on : {A : Type 0} (x : A) (ps qs : List A) (a b : Bool) → (a ≡ true → b ≡ true) → suc (length ps) ≤ length qs → suc (length (cond a (x ∷ ps) ps)) ≤ length (cond b (x ∷ qs) qs)
passed_on x ps qs true true weaker le = omega (arith, le)
passed_on x ps qs true false weaker le = let none = weaker refl in absurd (cc)
passed_on x ps qs false true weaker le = omega (arith, le)
passed_on x ps qs false false weaker le = omega (arith, le)

pub one_more_passes : {A : Type 0} (p q : A → Bool) → ((x : A) → p x ≡ true → q x ≡ true) → (y : A) → p y ≡ false → q y ≡ true → (xs : List A) → Among y xs
    → suc (length (filter p xs)) ≤ length (filter q xs)
one_more_passes p q weaker y out passes [] there = absurd there
one_more_passes p q weaker y out passes (x ∷ xs) (inl is) =
    gained x (filter p xs) (filter q xs) (p x) (q x) (rw (← is) out) (rw (← is) passes) (weaker_passes p q weaker xs)
one_more_passes p q weaker y out passes (x ∷ xs) (inr there) =
    passed_on x (filter p xs) (filter q xs) (p x) (q x) (weaker x) (one_more_passes p q weaker y out passes xs there)
