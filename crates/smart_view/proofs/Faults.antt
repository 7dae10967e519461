-- Parts without a fault are those of a view.
use Rattle.std.proofs.Common.{◌≡◌, ℕ, ◌+◌, ◌*◌, ◌^◌, ◌≤◌, ◌<◌, ◌==◌, nat_lt, nat_le, Bool, true, false, ◌&&◌, List, length, refl, arith, Option, Some, None, if◌then◌else◌, ◌⊎◌, inl, inr, ap, ◌∙◌}
use Rattle.std.proofs.lemmas.Grind.{common_steps}
use Rattle.std.specs.List.{list_any}
use Rattle.smart_base.specs.Lists.{Each}
use Rattle.smart_base.specs.Views.{View, is_view}
use Rattle.smart_view.specs.Making.{repeats, fault_of, sorted, view_of}
use Rattle.smart_view.specs.declared.fault.ViewFault.TheVariants.{TooFew, TooMany, Repeated, Zero, Spent}
use Rattle.smart_view.proofs.Sorting.{sorted-length, sorted-ascends}

-- what no fault says
pub record Faultless (number : ℕ) (members : List ℕ) (f : ℕ) : Type 0 where
  pub enough : nat_lt (length members) (3 * f + 1) ≡ false
  pub few : nat_lt 31 (length members) ≡ false
  pub once : repeats members ≡ false
  pub some : list_any (λ m. m == 0) members ≡ false
  pub left : nat_lt 1023 number ≡ false

none_found : {A : Type 0} (t : Bool) (fault : A) (rest : Option A) → (if t then Some fault else rest) ≡ None → (t ≡ false) × (rest ≡ None)
none_found true fault rest is = absurd (cc)
none_found false fault rest is = (refl, is)

pub faultless : (number : ℕ) (members : List ℕ) (f : ℕ) → fault_of number members f ≡ None → Faultless number members f
unfolding fault_of
faultless number members f is =
    let a = none_found (nat_lt (length members) (3 * f + 1)) TooFew _ is in
    let b = none_found (nat_lt 31 (length members)) TooMany _ a.1 in
    let c = none_found (repeats members) Repeated _ b.1 in
    let d = none_found (list_any (λ m. m == 0) members) Zero _ c.1 in
    let e = none_found (nat_lt 1023 number) Spent None d.1 in
    record { enough = a.0; few = b.0; once = c.0; some = d.0; left = e.0 }

not_below : (a b : ℕ) → nat_lt a b ≡ false → b ≤ a
not_below a b is = grind (arith, common_steps)

le_test : (a b : ℕ) → a ≤ b → nat_le a b ≡ true
le_test a b is = grind (arith, common_steps)

both : (a b : Bool) → a ≡ true → b ≡ true → (a && b) ≡ true
both true b is h = h
both false b is h = absurd (cc)

pub view_of-is_view : (number start : ℕ) (members : List ℕ) (f : ℕ) → 1 ≤ start → start ≤ 2 ^ 63 → Each (λ m. m ≤ 65535) members
    → fault_of number members f ≡ None → is_view (view_of number start members f) ≡ true
unfolding is_view
view_of-is_view number start members f low high names none =
    let parts = faultless number members f none in
    let long = sorted-length members in
    let enough = not_below (length members) (3 * f + 1) parts.enough in
    let few = not_below 31 (length members) parts.few in
    let left = not_below 1023 number parts.left in
    both _ _ (both _ _ (both _ _ (both _ _ (both _ _ (both _ _
    (le_test number 1023 left)
    (le_test 1 start low))
    (le_test start (2 ^ 63) high))
    (le_test f 10 (omega (arith, enough, few))))
    (le_test (3 * f + 1) (length (sorted members)) (omega (arith, enough, long))))
    (le_test (length (sorted members)) 31 (omega (arith, few, long))))
    (sorted-ascends members names parts.once parts.some)

view_found : (v : View) (t : Bool) → t ≡ true → (if t then Some v else None) ≡ Some v
view_found v true is = refl
view_found v false is = absurd (cc)

-- so the view is found to be one
pub view_of-checked : (number start : ℕ) (members order : List ℕ) (f : ℕ) (found : Option View) → order ≡ sorted members
    → is_view (view_of number start members f) ≡ true
    → found ≡ (if is_view (record { number = number; start = start; f = f; members = order }) then Some (record { number = number; start = start; f = f; members = order }) else None)
    → found ≡ Some (view_of number start members f)
view_of-checked number start members order f found ordered is checked =
    let view : List ℕ → View = λ ms. record { number = number; start = start; f = f; members = ms } in
    let same : view order ≡ view (sorted members) = ap view ordered in
    checked ∙ (ap (λ v. if is_view v then Some v else None) same ∙ view_found (view (sorted members)) (is_view (view (sorted members))) is)

lt_test : (a b : ℕ) → a < b → nat_lt a b ≡ true
lt_test a b is = grind (arith, common_steps)

f_past_10-test : (number : ℕ) (members : List ℕ) (f : ℕ) (t : Bool) → nat_lt (length members) (3 * f + 1) ≡ t → 10 < f
    → (fault_of number members f ≡ Some TooFew) ⊎ (fault_of number members f ≡ Some TooMany)
unfolding fault_of
f_past_10-test number members f true is past = inl (rw is refl)
f_past_10-test number members f false is past =
    let enough = not_below (length members) (3 * f + 1) is in
    inr (rw (is, lt_test 31 (length members) (omega (arith, enough))) refl)

-- where more than 10 members may be faulty, the members are too few or too many
pub f_past_10 : (number : ℕ) (members : List ℕ) (f : ℕ) → 10 < f → (fault_of number members f ≡ Some TooFew) ⊎ (fault_of number members f ≡ Some TooMany)
f_past_10 number members f past = f_past_10-test number members f (nat_lt (length members) (3 * f + 1)) refl past
