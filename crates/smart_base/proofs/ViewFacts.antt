-- What is so of every view, and its quorums.
use Rattle.std.proofs.Common.{◌≡◌, ℕ, ◌+◌, ◌-◌, ◌*◌, ◌^◌, ◌≤◌, ◌<◌, ◌==◌, nat_lt, nat_le, true, false, ◌&&◌, List, [], ◌∷◌, length, refl, arith}
use Rattle.std.proofs.lemmas.Grind.{common_steps}
use Rattle.std.specs.List.{list_any}
use Rattle.smart_base.specs.Lists.{Distinct, Each}
use Rattle.smart_base.specs.Views.{View, is_view, ascends, quorum}
use Rattle.smart_base.proofs.SameLists.{and_true}

-- the rule of views, part by part
pub record Parts (v : View) : Type 0 where
  pub number : v.number ≤ 1023
  pub start_some : 1 ≤ v.start
  pub start_small : v.start ≤ 2 ^ 63
  pub f_small : v.f ≤ 10
  pub enough : 3 * v.f + 1 ≤ length v.members
  pub few : length v.members ≤ 31
  pub ascending : ascends 0 v.members ≡ true

le_true : (a b : ℕ) → nat_le a b ≡ true → a ≤ b
le_true a b is = grind (arith, common_steps)

lt_true : (a b : ℕ) → nat_lt a b ≡ true → a < b
lt_true a b is = grind (arith, common_steps)

other_number : (n m : ℕ) → m < n → (n == m) ≡ false
other_number n m above = grind (arith, common_steps)

pub view_parts : (v : View) → is_view v ≡ true → Parts v
unfolding is_view
view_parts v is =
    let g = and_true _ (ascends 0 v.members) is in
    let f = and_true _ (nat_le (length v.members) 31) g.0 in
    let e = and_true _ (nat_le (3 * v.f + 1) (length v.members)) f.0 in
    let d = and_true _ (nat_le v.f 10) e.0 in
    let c = and_true _ (nat_le v.start (2 ^ 63)) d.0 in
    let b = and_true (nat_le v.number 1023) (nat_le 1 v.start) c.0 in
    record {
      number = le_true v.number 1023 b.0;
      start_some = le_true 1 v.start b.1;
      start_small = le_true v.start (2 ^ 63) c.1;
      f_small = le_true v.f 10 d.1;
      enough = le_true (3 * v.f + 1) (length v.members) e.1;
      few = le_true (length v.members) 31 f.1;
      ascending = g.1;
    }

pub each-weaken : {A : Type 0} (P Q : A → Type 0) → ((x : A) → P x → Q x) → (xs : List A) → Each P xs → Each Q xs
each-weaken P Q weaken [] all = tt
each-weaken P Q weaken (x ∷ xs) all = (weaken x all.0, each-weaken P Q weaken xs all.1)

-- members that ascend are above the number that they ascend from, and no greater than a name may be
pub ascends-bounds : (last : ℕ) (members : List ℕ) → ascends last members ≡ true → Each (λ m. (last < m) × (m ≤ 65535)) members
ascends-bounds last [] is = tt
ascends-bounds last (m ∷ ms) is =
    let parts = and_true (nat_lt last m && nat_le m 65535) (ascends m ms) is in
    let tests = and_true (nat_lt last m) (nat_le m 65535) parts.0 in
    let above : last < m = lt_true last m tests.0 in (
      (above, le_true m 65535 tests.1),
      each-weaken (λ n. (m < n) × (n ≤ 65535)) (λ n. (last < n) × (n ≤ 65535)) (λ n h. (omega (arith, above, h.0), h.1)) ms (ascends-bounds m ms parts.1),
    )

none_alike : (m : ℕ) (ms : List ℕ) → Each (λ n. (m < n) × (n ≤ 65535)) ms → list_any (λ n. n == m) ms ≡ false
none_alike m [] above = refl
none_alike m (n ∷ ns) above =
    let differ : (n == m) ≡ false = other_number n m above.0.0 in
    rw differ (none_alike m ns above.1)

pub ascends-distinct : (last : ℕ) (members : List ℕ) → ascends last members ≡ true → Distinct members
ascends-distinct last [] is = tt
ascends-distinct last (m ∷ ms) is =
    let rest = (and_true (nat_lt last m && nat_le m 65535) (ascends m ms) is).1 in
    (none_alike m ms (ascends-bounds m ms rest), ascends-distinct m ms rest)

-- members differ, and each is a number from 1 to 65535
pub view-distinct : (v : View) → is_view v ≡ true → Distinct v.members
view-distinct v is = ascends-distinct 0 v.members (view_parts v is).ascending

pub view-names : (v : View) → is_view v ≡ true → Each (λ m. (1 ≤ m) × (m ≤ 65535)) v.members
view-names v is =
    each-weaken (λ m. (0 < m) × (m ≤ 65535)) (λ m. (1 ≤ m) × (m ≤ 65535)) (λ m h. (omega (arith, h.0), h.1)) v.members (ascends-bounds 0 v.members (view_parts v is).ascending)

-- two quorums have more than f members in common
pub quorums-meet : (v : View) → is_view v ≡ true → length v.members + v.f < 2 * quorum v
quorums-meet v is = omega arith

-- the members that are not faulty are a quorum
pub quorum-reached : (v : View) → is_view v ≡ true → quorum v ≤ length v.members - v.f
quorum-reached v is = let parts = view_parts v is in omega (arith, parts.enough)

-- more than f members of a quorum are not faulty
pub quorum-honest : (v : View) → is_view v ≡ true → 2 * v.f + 1 ≤ quorum v
quorum-honest v is = let parts = view_parts v is in omega (arith, parts.enough)
