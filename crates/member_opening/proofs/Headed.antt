-- The head of a trail, part by part.
use Rattle.std.proofs.Common.{◌≡◌, ◌≤◌, ◌<◌, ◌+◌, ℕ, zero, suc, List, [], ◌∷◌, ◌++◌, length, add-one, take, drop, get_or, Option, refl, sym, ap, ◌∙◌, subst, arith, append-nil, append_assoc, take-append-drop}
use Rattle.std.proofs.Math.Seq.{take-append-add, take-append-le, take-suc}
use Rattle.std.proofs.lemmas.Grind.{flat_map-append}
use Rattle.std.proofs.KnownBytes.{Appends-trans}
use Rattle.std.specs.List.{flat_map}
use Rattle.std.specs.Io.KnownBytes.{Appends}
use Rattle.trail.specs.Trails.{part}

take-count : (count : ℕ) (xs : List ℕ) → take (length (take count xs)) xs ≡ take count xs
take-count zero xs = refl
take-count (suc count) [] = refl
take-count (suc count) (x ∷ xs) = ap (λ (l : List ℕ). x ∷ l) (take-count count xs)

few-taken : (count : ℕ) (xs : List ℕ) → length (take count xs) ≤ length xs
few-taken zero xs = omega arith
few-taken (suc count) [] = omega arith
few-taken (suc count) (x ∷ xs) = omega (arith, few-taken count xs)

-- a front of a list is one of a longer list
front-longer : (xs ys : List ℕ) (k : ℕ) → take (length (take k xs)) (xs ++ ys) ≡ take k xs
front-longer xs ys k = take-append-le (length (take k xs)) xs ys (few-taken k xs) ∙ take-count k xs

front-behind : (before xs ys : List ℕ) (k : ℕ) → take (length before + length (take k xs)) (before ++ (xs ++ ys)) ≡ before ++ take k xs
front-behind before xs ys k = take-append-add before (xs ++ ys) (length (take k xs)) ∙ ap (λ (l : List ℕ). before ++ l) (front-longer xs ys k)

module _ (a b c : Option (List ℕ)) where
  -- a front of the first of two texts
  pub first-front : (xs ys : List ℕ) (k : ℕ) → Appends a b (take k xs) → (count : ℕ) × Appends a b (take count (xs ++ ys))
  first-front xs ys k wrote = (length (take k xs), subst (Appends a b) (sym (front-longer xs ys k)) wrote)

  -- all of the first, and a front of the second
  pub second-front : (before xs ys : List ℕ) (k : ℕ) → Appends a b before → Appends b c (take k xs) → (count : ℕ) × Appends a c (take count (before ++ (xs ++ ys)))
  second-front before xs ys k first wrote =
      (length before + length (take k xs), subst (Appends a c) (sym (front-behind before xs ys k)) (Appends-trans a b c before (take k xs) first wrote))

  pub both : (before xs : List ℕ) → Appends a b before → Appends b c xs → Appends a c (before ++ (xs ++ []))
  both before xs first wrote =
      subst (λ (l : List ℕ). Appends a c (before ++ l)) (sym (append-nil xs)) (Appends-trans a b c before xs first wrote)

  module _ (entries : List (List ℕ)) (i : ℕ) (e : List ℕ) (lt : i < length entries) (is : e ≡ get_or entries i e) where
    up-to : take (i + 1) entries ≡ take i entries ++ e ∷ []
    up-to = rw add-one (take-suc entries i e lt) ∙ ap (λ (x : List ℕ). take i entries ++ x ∷ []) (sym is)

    -- the parts up to the next one
    pub more-parts : Appends a b (flat_map part (take i entries)) → Appends b c (part e) → Appends a c (flat_map part (take (i + 1) entries))
    more-parts first wrote =
        let texts : flat_map part (take (i + 1) entries) ≡ flat_map part (take i entries) ++ (part e ++ []) =
        ap (flat_map part) up-to ∙ flat_map-append part (take i entries) (e ∷ []) in
        subst (Appends a c) (sym texts) (both (flat_map part (take i entries)) (part e) first wrote)

    -- the parts before the next one, and a front of it
    pub front-parts : (k : ℕ) → Appends a b (flat_map part (take i entries)) → Appends b c (take k (part e)) → (count : ℕ) × Appends a c (take count (flat_map part entries))
    front-parts k first wrote =
        let rest : List (List ℕ) = drop (i + 1) entries in
        let texts : flat_map part entries ≡ flat_map part (take i entries) ++ (part e ++ flat_map part rest) =
        ap (flat_map part) (sym (take-append-drop (i + 1) entries)) ∙ flat_map-append part (take (i + 1) entries) rest
        ∙ ap (λ (l : List (List ℕ)). flat_map part l ++ flat_map part rest) up-to
        ∙ ap (λ (l : List ℕ). l ++ flat_map part rest) (flat_map-append part (take i entries) (e ∷ []))
        ∙ regroup (flat_map part (take i entries)) (part e) (flat_map part rest) in
        let found = second-front (flat_map part (take i entries)) (part e) (flat_map part rest) k first wrote in
        (found.0, subst (λ (l : List ℕ). Appends a c (take found.0 l)) (sym texts) found.1)
      where
        regroup : (x y z : List ℕ) → (x ++ (y ++ [])) ++ z ≡ x ++ (y ++ z)
        regroup x y z = simp (append_assoc, append-nil)
