-- Members that are counted up.
use Rattle.std.proofs.Common.{◌≡◌, ℕ, ◌+◌, ◌*◌, ◌-◌, ◌<◌, ◌≤◌, zero, suc, [], ◌∷◌, length, Bool, true, false, refl, arith}
use Rattle.std.specs.Prelude.{◌&&◌, nat_lt, nat_le}
use Rattle.std.proofs.lemmas.Bool.Decides.{nat_tests}
use Rattle.smart_base.specs.Views.{is_view, ascends}
use Rattle.world_rules.specs.Scripts.{members_from}

-- the first of those left
pub members_more : (first count i : ℕ) → i < count → members_from first (count - i) ≡ first ∷ members_from (first + 1) (count - (i + 1))
unfolding members_from
members_more first count i lt = let e : count - i ≡ suc (count - (i + 1)) = omega arith in rw e refl

none : (first : ℕ) → members_from first 0 ≡ []
unfolding members_from
none first = refl

-- none are left at the end
pub members_none : (first count i : ℕ) → count ≤ i → members_from first (count - i) ≡ []
members_none first count i le = let e : count - i ≡ 0 = omega arith in rw e (none first)

length-members : (first count : ℕ) → length (members_from first count) ≡ count
unfolding members_from
length-members first zero = refl
length-members first (suc count) = omega (arith, length-members (first + 1) count)

all_three : (a b c : Bool) → a ≡ true → b ≡ true → c ≡ true → (a && b && c) ≡ true
all_three true b c x y z = rw (y, z) refl
all_three false b c x y z = absurd (cc)

ascends-members : (last first count : ℕ) → last < first → first + count ≤ 65536 → ascends last (members_from first count) ≡ true
unfolding members_from
ascends-members last first zero lt le = refl
ascends-members last first (suc count) lt le =
    all_three (nat_lt last first) (nat_le first 65535) (ascends first (members_from (first + 1) count)) (grind (arith, nat_tests)) (grind (arith, nat_tests))
    (ascends-members first (first + 1) count (omega arith) (omega arith))

-- the view that a group begins with is one
pub first_view : (n f : ℕ) → 1 ≤ n → n ≤ 31 → f ≤ 10 → 3 * f + 1 ≤ n → is_view (record { number = 0; start = 1; f = f; members = members_from 1 n }) ≡ true
unfolding is_view
first_view n f some few rare enough =
    let e = length-members 1 n in
    let a = ascends-members 0 1 n (omega arith) (omega arith) in
    rw (e, a) (grind (arith, nat_tests))
