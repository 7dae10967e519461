-- What stands where in a list.
use Rattle.std.proofs.Common.{◌≡◌, ◌⊎◌, inl, inr, ⊎_elim, ℕ, Bool, true, false, ◌==◌, cond, List, [], ◌∷◌, ◌++◌, map, refl, sym, ap, subst, eq-eqb, eqb-true, ◌||◌, not, Some, suc, take, zero, None, Option}
use Rattle.std.specs.Prelude.{filter}
use Rattle.std.specs.List.{list_any, flat_map}
use Rattle.smart_base.specs.Lists.{Each, or_else}
use Rattle.vote_book.specs.Books.{Among}
use Rattle.vote_book.proofs.Tested.{passing, among_any}

-- ---- tests and choices

pub or_true : (a b : Bool) → (a || b) ≡ true → (a ≡ true) ⊎ (b ≡ true)
or_true true b is = inl refl
or_true false b is = inr is

pub not_true : (a : Bool) → not a ≡ true → a ≡ false
not_true true is = absurd (cc)
not_true false is = refl

pub not_false : (b : Bool) → not b ≡ false → b ≡ true
not_false true is = refl
not_false false is = absurd (cc)

pub some_equal : {A : Type 0} (x y : A) → Some x ≡ Some y → x ≡ y
some_equal x y same = cc

pub else_some : {A : Type 0} (a b : Option A) (x : A) → or_else a b ≡ Some x → (a ≡ Some x) ⊎ (b ≡ Some x)
else_some None b x is = inr is
else_some (Some y) b x is = inl is

-- what holds of both branches of a choice
pub either : {A : Type 0} (P : A → Type 0) (b : Bool) (x y : A) → P x → P y → P (cond b x y)
either P true x y px py = px
either P false x y px py = py

-- what holds of the branch that is taken
pub either_by : {A : Type 0} (P : A → Type 0) (b : Bool) (x y : A) → (b ≡ true → P x) → (b ≡ false → P y) → P (cond b x y)
either_by P true x y px py = px refl
either_by P false x y px py = py refl

-- ---- values of lists that are put together

pub among_left : {A : Type 0} (x : A) (xs ys : List A) → Among x xs → Among x (xs ++ ys)
among_left x [] ys there = absurd there
among_left x (z ∷ xs) ys (inl is) = inl is
among_left x (z ∷ xs) ys (inr there) = inr (among_left x xs ys there)

pub among_right : {A : Type 0} (x : A) (xs ys : List A) → Among x ys → Among x (xs ++ ys)
among_right x [] ys there = there
among_right x (z ∷ xs) ys there = inr (among_right x xs ys there)

pub among_either : {A : Type 0} (x : A) (xs ys : List A) → Among x (xs ++ ys) → Among x xs ⊎ Among x ys
among_either x [] ys there = inr there
among_either x (z ∷ xs) ys (inl is) = inl (inl is)
among_either x (z ∷ xs) ys (inr there) = ⊎_elim (λ l. inl (inr l)) (λ r. inr r) (among_either x xs ys there)

pub among_map : {A B : Type 0} (f : A → B) (xs : List A) (x : A) → Among x xs → Among (f x) (map f xs)
among_map f [] x there = there
among_map f (y ∷ ys) x (inl is) = inl (ap f is)
among_map f (y ∷ ys) x (inr there) = inr (among_map f ys x there)

-- a value of a list is what a function gives of a value
pub record Given {A B : Type 0} (f : A → B) (xs : List A) (y : B) : Type 0 where
  pub value : A
  pub there : Among value xs
  pub is : y ≡ f value

pub given : {A B : Type 0} (f : A → B) (xs : List A) (y : B) → Among y (map f xs) → Given f xs y
given f [] y there = absurd there
given f (x ∷ xs) y (inl is) = record { value = x; there = inl refl; is = is }
given f (x ∷ xs) y (inr there) = let rest = given f xs y there in record { value = rest.value; there = inr rest.there; is = rest.is }

-- a value stands in what a function gives of a value
pub record Within {A B : Type 0} (f : A → List B) (xs : List A) (y : B) : Type 0 where
  pub value : A
  pub there : Among value xs
  pub within : Among y (f value)

pub within_one : {A B : Type 0} (f : A → List B) (xs : List A) (y : B) → Among y (flat_map f xs) → Within f xs y
within_one f [] y there = absurd there
within_one f (x ∷ xs) y there =
    ⊎_elim (λ here. record { value = x; there = inl refl; within = here })
    (λ later. let rest = within_one f xs y later in record { value = rest.value; there = inr rest.there; within = rest.within })
    (among_either y (f x) (flat_map f xs) there)

pub among_flat : {A B : Type 0} (f : A → List B) (xs : List A) (x : A) (y : B) → Among x xs → Among y (f x) → Among y (flat_map f xs)
among_flat f [] x y there within = absurd there
among_flat f (z ∷ xs) x y (inl is) within = among_left y (f z) (flat_map f xs) (subst (λ w. Among y (f w)) is within)
among_flat f (z ∷ xs) x y (inr there) within = among_right y (f z) (flat_map f xs) (among_flat f xs x y there within)

-- ---- values that pass a test

kept_at : {A : Type 0} (p : A → Bool) (y : A) (t : Bool) (x : A) (xs : List A) → Among y (cond t (x ∷ xs) xs) → (y ≡ x) ⊎ Among y xs
kept_at p y true x xs there = there
kept_at p y false x xs there = inr there

-- what a filter leaves was there
pub among_filtered : {A : Type 0} (p : A → Bool) (xs : List A) (y : A) → Among y (filter p xs) → Among y xs
among_filtered p [] y there = there
among_filtered p (x ∷ xs) y there = ⊎_elim (λ here. inl here) (λ later. inr (among_filtered p xs y later)) (kept_at p y (p x) x (filter p xs) there)

keep_here : {A : Type 0} (y : A) (t : Bool) (x : A) (xs : List A) → t ≡ true → y ≡ x → Among y (cond t (x ∷ xs) xs)
keep_here y true x xs passes is = inl is
keep_here y false x xs passes is = absurd (cc)

keep_later : {A : Type 0} (y : A) (t : Bool) (x : A) (xs : List A) → Among y xs → Among y (cond t (x ∷ xs) xs)
keep_later y true x xs there = inr there
keep_later y false x xs there = there

-- and what passes is left
pub among_filter : {A : Type 0} (p : A → Bool) (xs : List A) (y : A) → Among y xs → p y ≡ true → Among y (filter p xs)
among_filter p [] y there passes = there
among_filter p (x ∷ xs) y (inl is) passes = keep_here y (p x) x (filter p xs) (subst (λ z. p z ≡ true) is passes) is
among_filter p (x ∷ xs) y (inr there) passes = keep_later y (p x) x (filter p xs) (among_filter p xs y there passes)

-- numbers that a test finds among numbers
pub number_among : (xs : List ℕ) (n : ℕ) → list_any (λ x. x == n) xs ≡ true → Among n xs
number_among xs n some = let found = passing (λ x. x == n) xs some in subst (λ (x : ℕ). Among x xs) (eqb-true found.value n found.passes) found.there

pub among_number : (xs : List ℕ) (n : ℕ) → Among n xs → list_any (λ x. x == n) xs ≡ true
among_number xs n there = among_any (λ x. x == n) n xs there (eq-eqb n n refl)

-- ---- what holds of each value

pub each_among : {A : Type 0} (P : A → Type 0) (xs : List A) (x : A) → Each P xs → Among x xs → P x
each_among P [] x each there = absurd there
each_among P (y ∷ ys) x each (inl is) = subst P (sym is) each.0
each_among P (y ∷ ys) x each (inr there) = each_among P ys x each.1 there

pub each_from : {A : Type 0} (P : A → Type 0) (xs : List A) → ((x : A) → Among x xs → P x) → Each P xs
each_from P [] all = tt
each_from P (x ∷ xs) all = (all x (inl refl), each_from P xs (λ y there. all y (inr there)))

pub each_append : {A : Type 0} (P : A → Type 0) (xs ys : List A) → Each P xs → Each P ys → Each P (xs ++ ys)
each_append P [] ys left right = right
each_append P (x ∷ xs) ys left right = (left.0, each_append P xs ys left.1 right)

pub each_end : {A : Type 0} (P : A → Type 0) (xs : List A) (x : A) → Each P xs → P x → Each P (xs ++ x ∷ [])
each_end P [] x each is = (is, tt)
each_end P (y ∷ xs) x each is = (each.0, each_end P xs x each.1 is)

pub each_take : {A : Type 0} (P : A → Type 0) (k : ℕ) (xs : List A) → Each P xs → Each P (take k xs)
each_take P zero xs each = tt
each_take P (suc k) [] each = tt
each_take P (suc k) (x ∷ xs) each = (each.0, each_take P k xs each.1)

pub each_both : {A : Type 0} (P Q R : A → Type 0) → ((x : A) → P x → Q x → R x) → (xs : List A) → Each P xs → Each Q xs → Each R xs
each_both P Q R both [] ep eq = tt
each_both P Q R both (x ∷ xs) ep eq = (both x ep.0 eq.0, each_both P Q R both xs ep.1 eq.1)

pub each_map : {A B : Type 0} (P : B → Type 0) (f : A → B) (xs : List A) → Each (λ x. P (f x)) xs → Each P (map f xs)
each_map P f [] each = tt
each_map P f (x ∷ xs) each = (each.0, each_map P f xs each.1)

-- ---- where a value stands

-- a value stands between those before it and those behind it
pub record Split {A : Type 0} (x : A) (xs : List A) : Type 0 where
  pub before : List A
  pub after : List A
  pub is : xs ≡ before ++ x ∷ after

pub split_at : {A : Type 0} (xs : List A) (x : A) → Among x xs → Split x xs
split_at [] x there = absurd there
split_at (y ∷ ys) x (inl is) = record { before = []; after = ys; is = ap (λ z. z ∷ ys) (sym is) }
split_at (y ∷ ys) x (inr there) =
    let rest = split_at ys x there in
    record { before = y ∷ rest.before; after = rest.after; is = ap (λ zs. y ∷ zs) rest.is }

-- what stands before a value stands in the list
pub among_before : {A : Type 0} (x y : A) (xs : List A) (s : Split x xs) → Among y s.before → Among y xs
among_before x y xs s there = subst (λ zs. Among y zs) (sym s.is) (among_left y s.before (x ∷ s.after) there)

-- of two values at their places in a list one stands before the other, or they are one
pub in_order : {A : Type 0} (before after : List A) (x : A) (before' after' : List A) (y : A) → before ++ x ∷ after ≡ before' ++ y ∷ after'
    → Among x before' ⊎ (x ≡ y) ⊎ Among y before
in_order [] after x [] after' y e = inr (inl cc)
in_order [] after x (z ∷ before') after' y e = inl (inl cc)
in_order (w ∷ before) after x [] after' y e = inr (inr (inl cc))
in_order (w ∷ before) after x (z ∷ before') after' y e =
    let tails : before ++ x ∷ after ≡ before' ++ y ∷ after' = cc in
    ⊎_elim (λ l. inl (inr l)) (⊎_elim (λ m. inr (inl m)) (λ r. inr (inr (inr r)))) (in_order before after x before' after' y tails)
