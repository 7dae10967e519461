-- What is newest of two slots.
use Rattle.std.proofs.Common.{◌≡◌, ◌≢◌, ℕ, ◌≤◌, ◌<◌, Bool, true, false, not, cond, ◌&&◌, nat_lt, eqb, List, [], ◌∷◌, Option, Some, None, Result, Ok, Err, refl, sym, ◌∙◌, ap, arith}
use Rattle.std.proofs.lemmas.Bool.Decides.{nat_tests}
use Rattle.smart_base.specs.Cuts.{Cut}
use Rattle.store_form.specs.Reading.{all_of, checkpoint_at}
use Rattle.store_form.specs.declared.checkpoint.Checkpoint.{Checkpoint}
use Rattle.checkpoint_store.specs.Slots.{is_odd, same, uses, counted, slot_of, newer, newest, generation_of, NoneAbove}

-- the greater generation wins on either side
newer_left : (x y : Checkpoint) → y.generation < x.generation → newer (Some x) (Some y) ≡ Some x
newer_left x y lt = by (nat_lt x.generation y.generation) refl
  where
    not_both : (m n : ℕ) → n < m → nat_lt m n ≡ true → ⊥
    not_both m n below is = grind (arith, nat_tests)

    by : (t : Bool) → nat_lt x.generation y.generation ≡ t → cond t (Some y) (Some x) ≡ Some x
    by true is = absurd (not_both x.generation y.generation lt is)
    by false is = refl

newer_right : (x y : Checkpoint) → x.generation < y.generation → newer (Some x) (Some y) ≡ Some y
newer_right x y lt = by (nat_lt x.generation y.generation) refl
  where
    is_so : (m n : ℕ) → m < n → nat_lt m n ≡ false → ⊥
    is_so m n below is = grind (arith, nat_tests)

    by : (t : Bool) → nat_lt x.generation y.generation ≡ t → cond t (Some y) (Some x) ≡ Some y
    by true is = refl
    by false is = absurd (is_so x.generation y.generation lt is)

newer_none : (x : Option Checkpoint) → newer x None ≡ x
newer_none None = refl
newer_none (Some x) = refl

-- ---- a slot has generations of its own

same_is : (odd b : Bool) → same odd b ≡ true → b ≡ odd
same_is true b is = is
same_is false true is = cc
same_is false false is = refl

second_true : (a b : Bool) → (a && b) ≡ true → b ≡ true
second_true true b is = is
second_true false b is = cc

uses_own : (odd : Bool) (x y : Checkpoint) → uses odd x ≡ Some y → is_odd y.generation ≡ odd
uses_own odd x y = by (nat_lt 0 x.generation && same odd (is_odd x.generation)) refl
  where
    by : (t : Bool) → (nat_lt 0 x.generation && same odd (is_odd x.generation)) ≡ t → cond t (Some x) None ≡ Some y → is_odd y.generation ≡ odd
    by true is some =
        let x_is : x ≡ y = cc in
        ap (λ (p : Checkpoint). is_odd p.generation) (sym x_is) ∙ same_is odd (is_odd x.generation) (second_true (nat_lt 0 x.generation) (same odd (is_odd x.generation)) is)
    by false is some = absurd cc

counted_own : (odd : Bool) (r : Result (Checkpoint × Cut) ℕ) (y : Checkpoint) → counted odd r ≡ Some y → is_odd y.generation ≡ odd
counted_own odd (Ok x) y some = uses_own odd x.0 y some
counted_own odd (Err at) y some = absurd cc

pub slot_own : (odd : Bool) (bytes : List ℕ) (y : Checkpoint) → slot_of odd bytes ≡ Some y → is_odd y.generation ≡ odd
slot_own odd [] y some = absurd cc
slot_own odd (gate ∷ rest) y some = by (eqb gate 1) some
  where
    by : (t : Bool) → cond t (counted odd (checkpoint_at (all_of rest))) None ≡ Some y → is_odd y.generation ≡ odd
    by true some = counted_own odd (checkpoint_at (all_of rest)) y some
    by false some = absurd cc

-- generations of two slots differ
differ : (m n : ℕ) (odd : Bool) → is_odd m ≡ odd → is_odd n ≡ not odd → m ≢ n
differ m n odd m_is n_is same = opposite odd (sym m_is ∙ ap is_odd same ∙ n_is)
  where
    opposite : (b : Bool) → b ≡ not b → ⊥
    opposite true is = cc
    opposite false is = cc

below : (m n : ℕ) → m ≤ n → n ≢ m → m < n
below m n le not_same = omega (arith, le, not_same)

pub open_newest : (odd : Bool) (x : Checkpoint) (own other : List ℕ) → is_odd x.generation ≡ odd → slot_of odd own ≡ Some x → NoneAbove x.generation (slot_of (not odd) other)
    → newest (cond odd other own) (cond odd own other) ≡ Some x
open_newest true x own other is has above = ap (λ (o : Option Checkpoint). newer (slot_of false other) o) has ∙ by (slot_of false other) refl above
  where
    by : (o : Option Checkpoint) → slot_of false other ≡ o → NoneAbove x.generation o → newer o (Some x) ≡ Some x
    by None none le = refl
    by (Some y) some le = newer_right y x (below y.generation x.generation le (differ x.generation y.generation true is (slot_own false other y some)))
open_newest false x own other is has above = ap (λ (o : Option Checkpoint). newer o (slot_of true other)) has ∙ by (slot_of true other) refl above
  where
    by : (o : Option Checkpoint) → slot_of true other ≡ o → NoneAbove x.generation o → newer (Some x) o ≡ Some x
    by None none le = refl
    by (Some y) some le = newer_left x y (below y.generation x.generation le (differ x.generation y.generation false is (slot_own true other y some)))

pub closed_newest : (odd : Bool) (own other : List ℕ) → slot_of odd own ≡ None → newest (cond odd other own) (cond odd own other) ≡ slot_of (not odd) other
closed_newest true own other none = ap (λ (o : Option Checkpoint). newer (slot_of false other) o) none ∙ newer_none (slot_of false other)
closed_newest false own other none = ap (λ (o : Option Checkpoint). newer o (slot_of true other)) none

-- nothing is above the newest
newest_above : (x y : Checkpoint) → (x.generation ≤ generation_of (newer (Some x) (Some y))) × (y.generation ≤ generation_of (newer (Some x) (Some y)))
newest_above x y = by (nat_lt x.generation y.generation) refl
  where
    up : (m n : ℕ) → nat_lt m n ≡ true → m ≤ n
    up m n is = grind (arith, nat_tests)

    down : (m n : ℕ) → nat_lt m n ≡ false → n ≤ m
    down m n is = grind (arith, nat_tests)

    by : (t : Bool) → nat_lt x.generation y.generation ≡ t → (x.generation ≤ generation_of (cond t (Some y) (Some x))) × (y.generation ≤ generation_of (cond t (Some y) (Some x)))
    by true is = (up x.generation y.generation is, omega arith)
    by false is = (omega arith, down x.generation y.generation is)

above_newer : (x y : Option Checkpoint) → NoneAbove (generation_of (newer x y)) x × NoneAbove (generation_of (newer x y)) y
above_newer None None = (tt, tt)
above_newer None (Some y) = (tt, omega arith)
above_newer (Some x) None = (omega arith, tt)
above_newer (Some x) (Some y) = newest_above x y

pub greatest : (even odd : List ℕ) → NoneAbove (generation_of (newest even odd)) (slot_of false even) × NoneAbove (generation_of (newest even odd)) (slot_of true odd)
greatest even odd = above_newer (slot_of false even) (slot_of true odd)
