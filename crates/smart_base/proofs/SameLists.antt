-- Lists that a test finds alike.
use Rattle.std.proofs.Common.{◌≡◌, ◌≢◌, Bool, true, false, ◌&&◌, List, [], ◌∷◌, length, refl, ap, ◌∙◌, arith}
use Rattle.smart_base.specs.Lists.{same_list}

and-false : (b : Bool) → (b && false) ≡ false
and-false true = refl
and-false false = refl

pub and_true : (a b : Bool) → (a && b) ≡ true → (a ≡ true) × (b ≡ true)
and_true true b is = (refl, is)
and_true false b is = absurd (cc)

-- lists of two lengths differ
pub same_list-length : {A : Type 0} (alike : A → A → Bool) (xs ys : List A) → length xs ≢ length ys → same_list alike xs ys ≡ false
same_list-length alike [] [] differ = absurd (differ refl)
same_list-length alike [] (y ∷ ys) differ = refl
same_list-length alike (x ∷ xs) [] differ = refl
same_list-length alike (x ∷ xs) (y ∷ ys) differ =
    ap (λ b. alike x y && b) (same_list-length alike xs ys (λ same. differ (omega (arith, same)))) ∙ and-false (alike x y)

-- where alike values are equal, alike lists are
pub same_list-equal : {A : Type 0} (alike : A → A → Bool) → ((x y : A) → alike x y ≡ true → x ≡ y) → (xs ys : List A) → same_list alike xs ys ≡ true → xs ≡ ys
same_list-equal alike exact [] [] same = refl
same_list-equal alike exact [] (y ∷ ys) same = absurd (cc)
same_list-equal alike exact (x ∷ xs) [] same = absurd (cc)
same_list-equal alike exact (x ∷ xs) (y ∷ ys) same =
    let parts = and_true (alike x y) (same_list alike xs ys) same in
    let head = exact x y parts.0 in
    let tail = same_list-equal alike exact xs ys parts.1 in
    cc
