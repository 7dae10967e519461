-- What stands where in a list.
use Rattle.std.proofs.Common.{◌≡◌, ◌⊎◌, inl, inr, ⊎_elim, List, [], ◌∷◌, ◌++◌, refl, sym, ap, subst}
use Rattle.vote_book.specs.Books.{Among}

pub among_left : {A : Type 0} (x : A) (xs ys : List A) → Among x xs → Among x (xs ++ ys)
among_left x [] ys there = absurd there
among_left x (z ∷ xs) ys (inl is) = inl is
among_left x (z ∷ xs) ys (inr there) = inr (among_left x xs ys there)

pub among_right : {A : Type 0} (x : A) (xs ys : List A) → Among x ys → Among x (xs ++ ys)
among_right x [] ys there = there
among_right x (z ∷ xs) ys there = inr (among_right x xs ys there)

pub among_either : {A : Type 0} (x : A) (xs ys : List A) → Among x (xs ++ ys) → Among x xs ⊎ Among x ys
among_either x [] ys there = inr there
among_either x (z ∷ xs) ys (inl is) = inl (inl is)
among_either x (z ∷ xs) ys (inr there) = ⊎_elim (λ l. inl (inr l)) (λ r. inr r) (among_either x xs ys there)

-- a value stands between those before it and those behind it
pub record Split {A : Type 0} (x : A) (xs : List A) : Type 0 where
  pub before : List A
  pub after : List A
  pub is : xs ≡ before ++ x ∷ after

pub split_at : {A : Type 0} (xs : List A) (x : A) → Among x xs → Split x xs
split_at [] x there = absurd there
split_at (y ∷ ys) x (inl is) = record { before = []; after = ys; is = ap (λ z. z ∷ ys) (sym is) }
split_at (y ∷ ys) x (inr there) =
    let rest = split_at ys x there in
    record { before = y ∷ rest.before; after = rest.after; is = ap (λ zs. y ∷ zs) rest.is }

-- what stands before a value stands in the list
pub among_before : {A : Type 0} (x y : A) (xs : List A) (s : Split x xs) → Among y s.before → Among y xs
among_before x y xs s there = subst (λ zs. Among y zs) (sym s.is) (among_left y s.before (x ∷ s.after) there)

-- and so does the value itself
pub among_split : {A : Type 0} (x : A) (xs before after : List A) → xs ≡ before ++ x ∷ after → Among x xs
among_split x xs before after is = subst (λ zs. Among x zs) (sym is) (among_right x before (x ∷ after) (inl refl))

-- of two values at their places in a list one stands before the other, or they are one
pub in_order : {A : Type 0} (before after : List A) (x : A) (before' after' : List A) (y : A) → before ++ x ∷ after ≡ before' ++ y ∷ after'
    → Among x before' ⊎ (x ≡ y) ⊎ Among y before
in_order [] after x [] after' y e = inr (inl cc)
in_order [] after x (z ∷ before') after' y e = inl (inl cc)
in_order (w ∷ before) after x [] after' y e = inr (inr (inl cc))
in_order (w ∷ before) after x (z ∷ before') after' y e =
    let tails : before ++ x ∷ after ≡ before' ++ y ∷ after' = cc in
    ⊎_elim (λ l. inl (inr l)) (⊎_elim (λ m. inr (inl m)) (λ r. inr (inr (inr r)))) (in_order before after x before' after' y tails)

-- a value at its place in two lists stands in the first
pub record InFirst {A : Type 0} (xs before : List A) (x : A) : Type 0 where
  pub rest : List A
  pub split : xs ≡ before ++ x ∷ rest

-- or in the second, with all of the first before it
pub record InSecond {A : Type 0} (xs ys before : List A) (x : A) (after : List A) : Type 0 where
  pub more : List A
  pub before_is : before ≡ xs ++ more
  pub split : ys ≡ more ++ x ∷ after

pub first_or_second : {A : Type 0} (xs ys before : List A) (x : A) (after : List A) → xs ++ ys ≡ before ++ x ∷ after → InFirst xs before x ⊎ InSecond xs ys before x after
first_or_second [] ys before x after is = inr (record { more = before; before_is = refl; split = is })
first_or_second (y ∷ xs) ys [] x after is = inl (record { rest = xs; split = (let head : y ≡ x = cc in ap (λ z. z ∷ xs) head) })
first_or_second (y ∷ xs) ys (z ∷ before) x after is =
    let head : y ≡ z = cc in
    let tails : xs ++ ys ≡ before ++ x ∷ after = cc in
    ⊎_elim (λ f. inl (record { rest = f.rest; split = (let rest = f.split in cc) }))
    (λ r. inr (record { more = r.more; before_is = (let more = r.before_is in cc); split = r.split })) (first_or_second xs ys before x after tails)
