-- What holds of each value of a list, and what is left of a list that is walked.
use Rattle.std.proofs.Common.{◌≡◌, ℕ, zero, suc, ◌+◌, ◌<◌, List, [], ◌∷◌, ◌++◌, length, drop, get_or, ap, sym, ◌∙◌, arith}
use Rattle.smart_base.specs.Lists.{Each}

pub each_append : {A : Type 0} (P : A → Type 0) (xs ys : List A) → Each P xs → Each P ys → Each P (xs ++ ys)
each_append P [] ys ex ey = ey
each_append P (x ∷ xs) ys ex ey = (ex.0, each_append P xs ys ex.1 ey)

-- what holds of each of both lists, holds of each of the second
pub each_right : {A : Type 0} (P : A → Type 0) (xs ys : List A) → Each P (xs ++ ys) → Each P ys
each_right P [] ys each = each
each_right P (x ∷ xs) ys each = each_right P xs ys each.1

pub each_both : {A : Type 0} (P Q R : A → Type 0) → ((x : A) → P x → Q x → R x) → (xs : List A) → Each P xs → Each Q xs → Each R xs
each_both P Q R both [] ep eq = tt
each_both P Q R both (x ∷ xs) ep eq = (both x ep.0 eq.0, each_both P Q R both xs ep.1 eq.1)

-- the next value of a list that is walked
pub drop_here : {A : Type 0} (xs : List A) (i : ℕ) (x : A) → i < length xs → x ≡ get_or xs i x → drop i xs ≡ x ∷ drop (i + 1) xs
drop_here [] i x within is = absurd (omega (arith, within))
drop_here (y ∷ ys) zero x within is = ap (λ z. z ∷ ys) (sym is)
drop_here {A} (y ∷ ys) (suc i) x within is =
    let next : suc (i + 1) ≡ suc i + 1 = omega arith in
    drop_here ys i x (omega (arith, within)) is ∙ ap (λ k. x ∷ drop k (y ∷ ys)) next
