-- Whose turn a place is.
use Rattle.std.proofs.Common.{◌≡◌, ℕ, zero, suc, ◌+◌, ◌*◌, ◌/◌, ◌%◌, ◌<◌, ◌≤◌, ◌==◌, Bool, true, false, ◌||◌, length, refl, ap, sym, ◌∙◌, arith, add-one, eq-eqb}
use Rattle.std.specs.Prelude.{◌↔◌}
use Rattle.std.proofs.Math.Nat.{mul-le-mul_left, div-add-mod, le_of_mul-le-mul_left, lt-div-mul-add}
use Rattle.std.proofs.lemmas.Bool.{eqb-true, eqb-false}
use Rattle.std.proofs.lemmas.Nat.{mod-mul-add, div-mul-add}
use Rattle.smart_base.specs.Views.{View}
use Rattle.state_marks.specs.Places.{turn_of, is_checkpoint_of, is_mark_of_first, is_mark, IsCheckpointOfSome, checkpoint_in}
use Rattle.state_marks.proofs.Lists.{or_right}

-- ---- a share of a period

share_by : (n index share rest period : ℕ) → n * share + rest ≡ period → 1 ≤ period → index < n → index * share < period
share_by n index zero rest period is some within = omega (arith, some)
share_by n index (suc share) rest period is some within =
    let le = mul-le-mul_left {m = index + 1} {n = n} (suc share) (omega (arith, within)) in
    omega (arith, le, is)

turn_below : (n index period : ℕ) → 1 ≤ period → index < n → index * (period / n) < period
turn_below n index period some within = share_by n index (period / n) (period % n) period (div-add-mod period n) some within

share_some : (n period share : ℕ) → share ≡ period / n → 0 < n → n ≤ period → 0 < share
share_some n period zero is some le =
    let under = lt-div-mul-add {a = period} {b = n} some in
    let none : period / n * n ≡ zero * n = ap (λ (k : ℕ). k * n) (sym is) in
    absurd (omega (arith, under, none, le))
share_some n period (suc share) is some le = omega arith

same_turn : (share first second : ℕ) → 0 < share → first * share ≡ second * share → first ≡ second
same_turn share first second some same =
    let up : share * first ≤ share * second = omega (arith, same) in
    let down : share * second ≤ share * first = omega (arith, same) in
    let one = le_of_mul-le-mul_left {m = first} {n = second} {k = share} up some in
    let two = le_of_mul-le-mul_left {m = second} {n = first} {k = share} down some in
    omega (arith, one, two)

-- ---- the places of a member

pub own_turn : (v : View) (period count index : ℕ) → 1 ≤ period → index < length v.members
    → is_checkpoint_of v period index (checkpoint_in v period count index) ≡ true
own_turn v period count index some within =
    eq-eqb (checkpoint_in v period count index % period) (turn_of v period index)
    (mod-mul-add count period (turn_of v period index) (turn_below (length v.members) index period some within))

pub within_period : (v : View) (period count index : ℕ) → 1 ≤ period → index < length v.members → checkpoint_in v period count index / period ≡ count
within_period v period count index some within =
    div-mul-add count period (turn_of v period index) (turn_below (length v.members) index period some within)

only_by : (place period turn count rest : ℕ) → period * count + rest ≡ place → rest ≡ turn → place ≡ count * period + turn
only_by place period turn count rest parts is = omega (arith, parts, is)

pub only_turn : (v : View) (period index place : ℕ) → 1 ≤ period → is_checkpoint_of v period index place ≡ true
    → place ≡ checkpoint_in v period (place / period) index
only_turn v period index place some is =
    let rest : place % period ≡ turn_of v period index = eqb-true (place % period) (turn_of v period index) is in
    only_by place period (turn_of v period index) (place / period) (place % period) (div-add-mod place period) rest

pub alone_turn : (v : View) (period first second place : ℕ) → length v.members ≤ period → first < length v.members → second < length v.members
    → is_checkpoint_of v period first place ≡ true → is_checkpoint_of v period second place ≡ true → first ≡ second
alone_turn v period first second place le one two is_first is_second =
    let a : place % period ≡ turn_of v period first = eqb-true (place % period) (turn_of v period first) is_first in
    let b : place % period ≡ turn_of v period second = eqb-true (place % period) (turn_of v period second) is_second in
    same_turn (period / length v.members) first second (share_some (length v.members) period (period / length v.members) refl (omega (arith, one)) le) (sym a ∙ b)

-- ---- the places that all mark

first_by : (v : View) (period place count index : ℕ) (t : Bool) → (index == count) ≡ t → index < suc count → is_checkpoint_of v period index place ≡ true
    → (index < count → is_mark_of_first v period place count ≡ true) → (is_checkpoint_of v period count place || is_mark_of_first v period place count) ≡ true
first_by v period place count index true same within is rest =
    let here : is_checkpoint_of v period count place ≡ true = ap (λ (k : ℕ). is_checkpoint_of v period k place) (sym (eqb-true index count same)) ∙ is in
    rw here refl
first_by v period place count index false differ within is rest =
    let away = eqb-false index count differ in
    or_right (is_checkpoint_of v period count place) (is_mark_of_first v period place count) (rest (omega (arith, within, away)))

-- where one of the first members takes its checkpoint
pub first_at : (v : View) (period place count index : ℕ) → index < count → is_checkpoint_of v period index place ≡ true → is_mark_of_first v period place count ≡ true
first_at v period place zero index within is = absurd (omega (arith, within))
first_at v period place (suc count) index within is =
    first_by v period place count index (index == count) refl within is (λ below. first_at v period place count index below is)

-- one more member takes none there
pub first_more : (v : View) (period place count : ℕ) → is_mark_of_first v period place count ≡ false → is_checkpoint_of v period count place ≡ false
    → is_mark_of_first v period place (count + 1) ≡ false
first_more v period place count none here = rw (add-one count, here, none) refl

record OneOf (v : View) (period place count : ℕ) : Type 0 where
  pub index : ℕ
  pub within : index < count
  pub is_its : is_checkpoint_of v period index place ≡ true

one_by : (v : View) (period place count : ℕ) (t : Bool) → is_checkpoint_of v period count place ≡ t → (is_mark_of_first v period place count ≡ true → OneOf v period place count)
    → (t || is_mark_of_first v period place count) ≡ true → OneOf v period place (suc count)
one_by v period place count true is rest some = record { index = count; within = omega arith; is_its = is }
one_by v period place count false is rest some =
    let found = rest some in
    let below = found.within in
    record { index = found.index; within = omega (arith, below); is_its = found.is_its }

one_of : (v : View) (period place count : ℕ) → is_mark_of_first v period place count ≡ true → OneOf v period place count
one_of v period place zero some = absurd (cc)
one_of v period place (suc count) some = one_by v period place count (is_checkpoint_of v period count place) refl (one_of v period place count) some

pub marks_of_some : (v : View) (period place : ℕ) → (is_mark v period place ≡ true) ↔ IsCheckpointOfSome v period place
marks_of_some v period place = (
  (λ is. let found = one_of v period place (length v.members) is in record { index = found.index; is_member = found.within; is_its = found.is_its }),
  (λ some. first_at v period place (length v.members) some.index some.is_member some.is_its),
)
