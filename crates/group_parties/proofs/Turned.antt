-- What a loop makes that takes a list from its end, one value after the other.
use Rattle.std.proofs.Common.{◌≡◌, ◌∙◌, ℕ, zero, suc, ◌+◌, ◌-◌, ◌<◌, ◌≤◌, List, [], ◌∷◌, ◌++◌, length, length-append, get_or, reverse, append_assoc, append-nil, refl, sym, ap, subst, arith}
use Rattle.std.specs.List.{All, AllZip}
use Rattle.std.proofs.lemmas.List.{get_or_append_left, get_or-append_right, get_or_at, get_or_default, get_or-reverse, reverse-append}

-- Of some values these are left. What was made of the others comes behind what was there before. Once turned round it stands in the order of those.
pub record IsTurned {A B : Type 0} (all : List A) (before : List B) (left : List A) (made : List B) (R : A → B → Type 0) : Type 0 where
  pub done : List A
  pub out : List B
  pub split : all ≡ left ++ done
  pub turned : reverse made ≡ out ++ reverse before
  pub each : AllZip R done out

pub turned-push : {B : Type 0} (made : List B) (y : B) (out : List B) → reverse made ≡ out → reverse (made ++ y ∷ []) ≡ y ∷ out
turned-push {B} made y out is = reverse-append made (y ∷ []) ∙ ap (λ (ys : List B). y ∷ ys) is

pub turned-first : {A B : Type 0} {R : A → B → Type 0} (all : List A) (before : List B) → IsTurned all before all before R
turned-first all before = record { done = []; out = []; split = sym (append-nil all); turned = refl; each = tt }

pub turned-more : {A B : Type 0} {all : List A} {before : List B} {now : List A} {made : List B} {R : A → B → Type 0} (left : List A) (x : A) (new : List B) (y : B)
    → IsTurned all before now made R → now ≡ left ++ x ∷ [] → new ≡ made ++ y ∷ [] → R x y → IsTurned all before left new R
turned-more {A} {B} {all} {before} {now} {made} {R} left x new y was now_is new_is is = record {
  done = x ∷ was.done;
  out = y ∷ was.out;
  split = was.split ∙ ap (λ (xs : List A). xs ++ was.done) now_is ∙ append_assoc left (x ∷ []) was.done;
  turned = ap reverse new_is ∙ turned-push made y (was.out ++ reverse before) was.turned;
  each = (is, was.each);
}

-- what holds of each holds of the one that is taken next
pub turned-holds : {A B : Type 0} {all : List A} {before : List B} {now : List A} {made : List B} {R : A → B → Type 0} (left : List A) (x : A) (P : A → Type 0) → IsTurned all before now made R → now ≡ left ++ x ∷ [] → All P all → P x
turned-holds {A} {B} {all} {before} {now} {made} {R} left x P was now_is each =
    let split : all ≡ left ++ x ∷ was.done = was.split ∙ ap (λ (xs : List A). xs ++ was.done) now_is ∙ append_assoc left (x ∷ []) was.done in
    let here : get_or all (length left) x ≡ x = ap (λ (xs : List A). get_or xs (length left) x) split ∙ get_or_at left x was.done x (length left) refl in
    let within : length left < length all = omega (arith, ap length split, length-append left (x ∷ was.done)) in
    subst P here (each (length left) x within)

both-at : {A B : Type 0} (R : A → B → Type 0) (xs : List A) (ys : List B) (i : ℕ) (d : A) (e : B) → AllZip R xs ys → i < length xs → R (get_or xs i d) (get_or ys i e)
both-at R [] [] i d e all within = absurd (omega (arith, within))
both-at R [] (y ∷ ys) i d e all within = absurd all
both-at R (x ∷ xs) [] i d e all within = absurd all
both-at R (x ∷ xs) (y ∷ ys) zero d e all within = all.0
both-at R (x ∷ xs) (y ∷ ys) (suc i) d e all within = both-at R xs ys i d e all.1 (omega (arith, within))

both-length : {A B : Type 0} (R : A → B → Type 0) (xs : List A) (ys : List B) → AllZip R xs ys → length xs ≡ length ys
both-length R [] [] all = refl
both-length R [] (y ∷ ys) all = absurd all
both-length R (x ∷ xs) [] all = absurd all
both-length R (x ∷ xs) (y ∷ ys) all = ap suc (both-length R xs ys all.1)

front-at : {B : Type 0} (xs ys zs : List B) (i : ℕ) (e : B) → zs ≡ xs ++ ys → i < length xs → get_or xs i e ≡ get_or zs i e
front-at {B} xs ys zs i e is within = sym (ap (λ (l : List B). get_or l i e) is ∙ get_or_append_left xs ys e i within)

-- at the end each of the first is what was made of the value at its place
pub turned-at : {A B : Type 0} {all : List A} {before : List B} {left : List A} {made : List B} {R : A → B → Type 0} (new : List B)
    → IsTurned all before left made R → left ≡ [] → new ≡ reverse made → (i : ℕ) (d : A) (e : B) → i < length all → R (get_or all i d) (get_or new i e)
turned-at {A} {B} {all} {before} {left} {made} {R} new was none new_is = λ i d e within.
    let same : all ≡ was.done = was.split ∙ ap (λ (l : List A). l ++ was.done) none in
    let few : i < length was.done = omega (arith, ap length same, within) in
    let few_out : i < length was.out = omega (arith, few, both-length R was.done was.out was.each) in
    subst (λ (y : B). R (get_or all i d) y) (front-at was.out (reverse before) new i e (new_is ∙ was.turned) few_out)
    (subst (λ (l : List A). R (get_or l i d) (get_or was.out i e)) (sym same) (both-at R was.done was.out i d e was.each few))

-- and behind them stand those that were there before, the last of them first
pub turned-behind : {A B : Type 0} {all : List A} {before : List B} {left : List A} {made : List B} {R : A → B → Type 0} (new : List B)
    → IsTurned all before left made R → left ≡ [] → new ≡ reverse made → (i : ℕ) (d e : B) → length all ≤ i → i < length before + length all → get_or new i d ≡ get_or before (length before + length all - (i + 1)) e
turned-behind {A} {B} {all} {before} {left} {made} {R} new was none new_is = λ i d e high low.
    let same : all ≡ was.done = was.split ∙ ap (λ (l : List A). l ++ was.done) none in
    let many : length was.out ≡ length all = omega (arith, ap length same, both-length R was.done was.out was.each) in
    let within : i - length all < length before = omega (arith, high, low) in
    let index : length before - 1 - (i - length all) ≡ length before + length all - (i + 1) = omega (arith, high, low) in
    let few : length before + length all - (i + 1) < length before = omega (arith, high, low) in
    ap (λ (l : List B). get_or l i d) (new_is ∙ was.turned)
    ∙ get_or-append_right was.out (reverse before) (length all) i d many high
    ∙ get_or-reverse before (i - length all) d within
    ∙ ap (λ (k : ℕ). get_or before k d) index
    ∙ get_or_default before (length before + length all - (i + 1)) d e few
