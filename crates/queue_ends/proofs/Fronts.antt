-- A front of a list.
use Rattle.std.proofs.Common.{◌≡◌, ◌≤◌, List, [], ◌∷◌, ◌++◌, length, refl, ap, subst, arith}
use Rattle.queue_ends.specs.Rule.{IsFront}

module _ {T : Type 0} where
  pub front-whole : (xs : List T) → IsFront xs xs
  front-whole [] = refl
  front-whole (x ∷ xs) = ap (λ l. x ∷ l) (front-whole xs)

  pub front-same : (xs ys : List T) → xs ≡ ys → IsFront xs ys
  front-same xs ys e = subst (λ l. IsFront xs l) e (front-whole xs)

  pub front-grows : (xs ys front : List T) → IsFront front xs → IsFront front (xs ++ ys)
  front-grows xs ys [] e = refl
  front-grows [] ys (t ∷ ts) e = absurd (cc)
  front-grows (x ∷ xs) ys (t ∷ ts) e =
      let head : x ≡ t = cc in
      let tail : IsFront ts xs = cc in λ i. head i ∷ front-grows xs ys ts tail i

  pub front-length : (xs front : List T) → IsFront front xs → length front ≤ length xs
  front-length xs [] e = omega arith
  front-length [] (t ∷ ts) e = absurd (cc)
  front-length (x ∷ xs) (t ∷ ts) e =
      let tail : IsFront ts xs = cc in
      let shorter = front-length xs ts tail in omega arith
