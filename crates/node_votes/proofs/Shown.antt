-- The decision that others showed, and the votes that prove it.
use Rattle.std.proofs.Common.{◌≡◌, ℕ, zero, suc, ◌+◌, ◌<◌, ◌≤◌, ◌==◌, Bool, true, false, cond, List, [], ◌∷◌, ◌++◌, length, drop, get_or, find, filter_map, Option, Some, None, refl, ap, sym, ◌∙◌, arith, append_assoc, length-append}
use Rattle.std.specs.List.{cons_option}
use Rattle.std.specs.Option.{option_to_list}
use Rattle.std.proofs.lemmas.Bool.{eqb-true}
use Rattle.transfer_form.specs.declared.transfer.ProvenBatch.{ProvenBatch}
use Rattle.node_rules.specs.Nodes.{Node, next_place}
use Rattle.node_rules.specs.Rules.{shown_next}

-- ---- the votes of members, one after the other

option_first : {B : Type 0} (o : Option B) (rest : List B) → cons_option o rest ≡ option_to_list o ++ rest
option_first None rest = refl
option_first (Some x) rest = refl

picked_at : {B : Type 0} (f : ℕ → Option B) (xs : List ℕ) (i x : ℕ) → i < length xs → x ≡ get_or xs i x → filter_map f (drop i xs) ≡ option_to_list (f x) ++ filter_map f (drop (i + 1) xs)
picked_at f [] i x within is = absurd (omega arith)
picked_at f (y ∷ ys) zero x within is = option_first (f y) (filter_map f ys) ∙ ap (λ k. option_to_list (f k) ++ filter_map f ys) (sym is)
picked_at f (y ∷ ys) (suc i) x within is =
    let next : suc (i + 1) ≡ suc i + 1 = omega arith in
    picked_at f ys i x (omega arith) is ∙ ap (λ k. option_to_list (f x) ++ filter_map f (drop k (y ∷ ys))) next

pub picked_more : {B : Type 0} (f : ℕ → Option B) (xs : List ℕ) (list now all : List B) (i x : ℕ) → i < length xs → x ≡ get_or xs i x → now ≡ list ++ option_to_list (f x)
    → list ++ filter_map f (drop i xs) ≡ all → now ++ filter_map f (drop (i + 1) xs) ≡ all
picked_more {B} f xs list now all i x within is grown all_is =
    ap (λ (ys : List B). ys ++ filter_map f (drop (i + 1) xs)) grown
    ∙ (append_assoc list (option_to_list (f x)) (filter_map f (drop (i + 1) xs)) ∙ (ap (λ (ys : List B). list ++ ys) (sym (picked_at f xs i x within is)) ∙ all_is))

one_most : {B : Type 0} (o : Option B) → length (option_to_list o) ≤ 1
one_most None = omega arith
one_most (Some x) = omega arith

pub picked_few : {B : Type 0} (list now : List B) (o : Option B) (i : ℕ) → now ≡ list ++ option_to_list o → length list ≤ i → length now ≤ i + 1
picked_few list now o i grown few =
    let all = ap length grown in
    let parts = length-append list (option_to_list o) in
    let most = one_most o in
    omega (arith, all, parts, most, few)

-- ---- the place of what is shown

found_step : {A : Type 0} (p : A → Bool) (x y : A) (rest : Option A) (t : Bool) → p y ≡ t → (rest ≡ Some x → p x ≡ true) → cond t (Some y) rest ≡ Some x → p x ≡ true
found_step p x y rest true is later here = let e : y ≡ x = cc in ap (λ z. p z) (sym e) ∙ is
found_step p x y rest false is later there = later there

found_is : {A : Type 0} (p : A → Bool) (xs : List A) (x : A) → find p xs ≡ Some x → p x ≡ true
found_is p [] x found = absurd (cc)
found_is p (y ∷ ys) x found = found_step p x y (find p ys) (p y) refl (λ there. found_is p ys x there) found

pub shown_place : {S : Type 0} (n : Node S) (d : ProvenBatch) → Some d ≡ shown_next n → d.place ≡ next_place n
shown_place n d is = eqb-true d.place (next_place n) (found_is (λ (x : ProvenBatch). x.place == next_place n) n.decisions d (sym is))
