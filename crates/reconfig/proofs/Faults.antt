-- A change is refused for its first fault.
use Rattle.std.proofs.Common.{◌≡◌, ℕ, ◌+◌, ◌*◌, ◌^◌, ◌≤◌, ◌<◌, ◌==◌, nat_lt, Bool, true, false, List, [], ◌∷◌, length, refl, sym, ap, ◌∙◌, arith, Option, Some, None, Result, Ok, Err, if◌then◌else◌, subst}
use Rattle.std.proofs.lemmas.Grind.{common_steps}
use Rattle.std.specs.Prelude.{IfErr}
use Rattle.std.specs.List.{list_any, AllByRecursion}
use Rattle.smart_base.specs.Lists.{Each}
use Rattle.smart_base.specs.Views.{View, is_view}
use Rattle.smart_view.specs.Making.{repeats, fault_of, sorted, view_of, unless_fault, code_of}
use Rattle.smart_view.specs.declared.fault.ViewFault.{ViewFault}
use Rattle.smart_view.specs.declared.fault.ViewFault.TheVariants.{TooFew, TooMany, Repeated, Zero, Spent}
use Rattle.smart_view.proofs.Faults.{view_of-is_view}
use Rattle.reconfig.specs.declared.change.Change.{Change}
use Rattle.reconfig.specs.Changes.{FitsChange}
use Rattle.reconfig.specs.Applied.{applied, Has, IsFirst}

-- ---- the first of five tests

abbrev first_of : Bool → Bool → Bool → Bool → Bool → Option ViewFault
first_of a b c d e =
    if a then Some TooFew
    else (if b then Some TooMany
    else (if c then Some Repeated
    else (if d then Some Zero
    else (if e then Some Spent
    else None))))

-- the test of a fault
abbrev pick : ViewFault → Bool → Bool → Bool → Bool → Bool → Bool
pick TooFew a b c d e = a
pick TooMany a b c d e = b
pick Repeated a b c d e = c
pick Zero a b c d e = d
pick Spent a b c d e = e

abbrev Before : ViewFault → Bool → Bool → Bool → Bool → Bool → Type 0
Before fault a b c d e = (g : ViewFault) → code_of g < code_of fault → pick g a b c d e ≡ false

before_1 : (a b c d e : Bool) → Before TooFew a b c d e
before_1 a b c d e TooFew lt = absurd (omega (arith, lt))
before_1 a b c d e g lt = absurd (omega (arith, lt))

before_2 : (b c d e : Bool) → Before TooMany false b c d e
before_2 b c d e TooFew lt = refl
before_2 b c d e g lt = absurd (omega (arith, lt))

before_3 : (c d e : Bool) → Before Repeated false false c d e
before_3 c d e TooFew lt = refl
before_3 c d e TooMany lt = refl
before_3 c d e g lt = absurd (omega (arith, lt))

before_4 : (d e : Bool) → Before Zero false false false d e
before_4 d e TooFew lt = refl
before_4 d e TooMany lt = refl
before_4 d e Repeated lt = refl
before_4 d e g lt = absurd (omega (arith, lt))

before_5 : (e : Bool) → Before Spent false false false false e
before_5 e TooFew lt = refl
before_5 e TooMany lt = refl
before_5 e Repeated lt = refl
before_5 e Zero lt = refl
before_5 e Spent lt = absurd (omega (arith, lt))

first_cause : (a b c d e : Bool) (fault : ViewFault) → first_of a b c d e ≡ Some fault → (pick fault a b c d e ≡ true) × Before fault a b c d e
first_cause true b c d e TooFew is = (refl, before_1 true b c d e)
first_cause true b c d e fault is = absurd (cc)
first_cause false true c d e TooMany is = (refl, before_2 true c d e)
first_cause false true c d e fault is = absurd (cc)
first_cause false false true d e Repeated is = (refl, before_3 true d e)
first_cause false false true d e fault is = absurd (cc)
first_cause false false false true e Zero is = (refl, before_4 true e)
first_cause false false false true e fault is = absurd (cc)
first_cause false false false false true Spent is = (refl, before_5 true)
first_cause false false false false true fault is = absurd (cc)
first_cause false false false false false fault is = absurd (cc)

first_refused : (a b c d e : Bool) (fault : ViewFault) → pick fault a b c d e ≡ true → Before fault a b c d e → first_of a b c d e ≡ Some fault
first_refused a b c d e TooFew has before = rw has refl
first_refused a b c d e TooMany has before =
    let p : a ≡ false = before TooFew (omega arith) in
    rw (p, has) refl
first_refused a b c d e Repeated has before =
    let p : a ≡ false = before TooFew (omega arith) in
    let q : b ≡ false = before TooMany (omega arith) in
    rw (p, q, has) refl
first_refused a b c d e Zero has before =
    let p : a ≡ false = before TooFew (omega arith) in
    let q : b ≡ false = before TooMany (omega arith) in
    let r : c ≡ false = before Repeated (omega arith) in
    rw (p, q, r, has) refl
first_refused a b c d e Spent has before =
    let p : a ≡ false = before TooFew (omega arith) in
    let q : b ≡ false = before TooMany (omega arith) in
    let r : c ≡ false = before Repeated (omega arith) in
    let s : d ≡ false = before Zero (omega arith) in
    rw (p, q, r, s, has) refl

first_none : (a b c d e : Bool) (g : ViewFault) → first_of a b c d e ≡ None → pick g a b c d e ≡ false
first_none true b c d e g is = absurd (cc)
first_none false true c d e g is = absurd (cc)
first_none false false true d e g is = absurd (cc)
first_none false false false true e g is = absurd (cc)
first_none false false false false true g is = absurd (cc)
first_none false false false false false TooFew is = refl
first_none false false false false false TooMany is = refl
first_none false false false false false Repeated is = refl
first_none false false false false false Zero is = refl
first_none false false false false false Spent is = refl

none_first : (a b c d e : Bool) → ((g : ViewFault) → pick g a b c d e ≡ false) → first_of a b c d e ≡ None
none_first a b c d e all =
    let p : a ≡ false = all TooFew in
    let q : b ≡ false = all TooMany in
    let r : c ≡ false = all Repeated in
    let s : d ≡ false = all Zero in
    let t : e ≡ false = all Spent in
    rw (p, q, r, s, t) refl

-- ---- the tests of a change

abbrev test : ViewFault → View → Change → Bool
test g v c =
    pick g (nat_lt (length c.members) (3 * c.f + 1)) (nat_lt 31 (length c.members)) (repeats c.members) (list_any (λ m. m == 0) c.members)
    (nat_lt 1023 (v.number + 1))

lt_true : (a b : ℕ) → nat_lt a b ≡ true → a < b
lt_true a b is = grind (arith, common_steps)

lt_test : (a b : ℕ) → a < b → nat_lt a b ≡ true
lt_test a b is = grind (arith, common_steps)

has_tested : (g : ViewFault) (v : View) (c : Change) → test g v c ≡ true → Has g v c
has_tested TooFew v c is = lt_true (length c.members) (3 * c.f + 1) is
has_tested TooMany v c is = lt_true 31 (length c.members) is
has_tested Repeated v c is = is
has_tested Zero v c is = is
has_tested Spent v c is = lt_true 1023 (v.number + 1) is

tested_has : (g : ViewFault) (v : View) (c : Change) → Has g v c → test g v c ≡ true
tested_has TooFew v c has = lt_test (length c.members) (3 * c.f + 1) has
tested_has TooMany v c has = lt_test 31 (length c.members) has
tested_has Repeated v c has = has
tested_has Zero v c has = has
tested_has Spent v c has = lt_test 1023 (v.number + 1) has

not_both : (t : Bool) → t ≡ true → t ≡ false → ⊥
not_both true p q = absurd (cc)
not_both false p q = absurd (cc)

not_true : (t : Bool) → (t ≡ true → ⊥) → t ≡ false
not_true true h = absurd (h refl)
not_true false h = refl

-- ---- the fault and the view

fault_is : (o : Option ViewFault) (v : View) (fault : ViewFault) → unless_fault o v ≡ Err fault → o ≡ Some fault
fault_is None v fault e = absurd (cc)
fault_is (Some g) v fault e = cc

view_is : (o : Option ViewFault) (v w : View) → unless_fault o v ≡ Ok w → (o ≡ None) × (v ≡ w)
view_is None v w e = (refl, cc)
view_is (Some g) v w e = absurd (cc)

abbrev faults : View → Change → Option ViewFault
faults v c = fault_of (v.number + 1) c.members c.f

tests_are : (v : View) (c : Change) → faults v c
    ≡ first_of (nat_lt (length c.members) (3 * c.f + 1)) (nat_lt 31 (length c.members)) (repeats c.members) (list_any (λ m. m == 0) c.members) (nat_lt 1023 (v.number + 1))
unfolding fault_of
tests_are v c = refl

pub cause_of : (v : View) (start : ℕ) (c : Change) (fault : ViewFault) → applied v start c ≡ Err fault → IsFirst fault v c
cause_of v start c fault e =
    let some = sym (tests_are v c) ∙ fault_is (faults v c) (view_of (v.number + 1) start c.members c.f) fault e in
    let found = first_cause _ _ _ _ _ fault some in
    record { has = has_tested fault v c found.0; before = λ g lt has. not_both (test g v c) (tested_has g v c has) (found.1 g lt) }

pub is_refused : (v : View) (start : ℕ) (c : Change) (fault : ViewFault) → IsFirst fault v c → applied v start c ≡ Err fault
is_refused v start c fault first =
    let some = first_refused _ _ _ _ _ fault (tested_has fault v c first.has)
    (λ g lt. not_true (test g v c) (λ is. first.before g lt (has_tested g v c is))) in
    ap (λ o. unless_fault o (view_of (v.number + 1) start c.members c.f)) (tests_are v c ∙ some)

pub has_none : (v : View) (start : ℕ) (c : Change) (w : View) → applied v start c ≡ Ok w → (fault : ViewFault) → Has fault v c → ⊥
has_none v start c w e fault has =
    let none = sym (tests_are v c) ∙ (view_is (faults v c) (view_of (v.number + 1) start c.members c.f) w e).0 in
    not_both (test fault v c) (tested_has fault v c has) (first_none _ _ _ _ _ fault none)

pub view_begins : (v : View) (start : ℕ) (c : Change) → ((fault : ViewFault) → Has fault v c → ⊥) → applied v start c ≡ Ok (view_of (v.number + 1) start c.members c.f)
view_begins v start c all =
    let none = none_first _ _ _ _ _ (λ g. not_true (test g v c) (λ is. all g (has_tested g v c is))) in
    ap (λ o. unless_fault o (view_of (v.number + 1) start c.members c.f)) (tests_are v c ∙ none)

-- ---- the view that begins

pub view_of-applied : (v : View) (start : ℕ) (c : Change) (w : View) → applied v start c ≡ Ok w → view_of (v.number + 1) start c.members c.f ≡ w
view_of-applied v start c w e = (view_is (faults v c) (view_of (v.number + 1) start c.members c.f) w e).1

names : (ms : List ℕ) → AllByRecursion (λ m. m < 2 ^ 16) ms → Each (λ m. m ≤ 65535) ms
names [] all = tt
names (m ∷ ms) all = (omega (arith, all.0), names ms all.1)

pub is_valid : (v : View) (start : ℕ) (c : Change) (w : View) → Each (λ m. m ≤ 65535) c.members → 1 ≤ start → start ≤ 2 ^ 63 → applied v start c ≡ Ok w
    → is_view w ≡ true
is_valid v start c w small low high e =
    let none = (view_is (faults v c) (view_of (v.number + 1) start c.members c.f) w e).0 in
    subst (λ w. is_view w ≡ true) (view_of-applied v start c w e) (view_of-is_view (v.number + 1) start c.members c.f low high small none)

pub valid : (v : View) (start : ℕ) (c : Change) (w : View) → FitsChange c → 1 ≤ start → start ≤ 2 ^ 63 → applied v start c ≡ Ok w → is_view w ≡ true
valid v start c w fits low high e = is_valid v start c w (names c.members fits.members_fit) low high e

pub number_is : (v : View) (start : ℕ) (c : Change) (w : View) → applied v start c ≡ Ok w → w.number ≡ v.number + 1
number_is v start c w e = ap (λ (w : View). w.number) (sym (view_of-applied v start c w e))

pub start_is : (v : View) (start : ℕ) (c : Change) (w : View) → applied v start c ≡ Ok w → w.start ≡ start
start_is v start c w e = ap (λ (w : View). w.start) (sym (view_of-applied v start c w e))

pub faulty_is : (v : View) (start : ℕ) (c : Change) (w : View) → applied v start c ≡ Ok w → w.f ≡ c.f
faulty_is v start c w e = ap (λ (w : View). w.f) (sym (view_of-applied v start c w e))

pub members_are : (v : View) (start : ℕ) (c : Change) (w : View) → applied v start c ≡ Ok w → w.members ≡ sorted c.members
members_are v start c w e = ap (λ (w : View). w.members) (sym (view_of-applied v start c w e))

-- a view that begins has a small number
pub small_number : (v : View) (start : ℕ) (c : Change) (w : View) → applied v start c ≡ Ok w → w.number ≤ 1023
small_number v start c w e =
    let small : nat_lt 1023 (v.number + 1) ≡ false = not_true _ (λ is. has_none v start c w e Spent (has_tested Spent v c is)) in
    small_from (v.number + 1) w.number small (number_is v start c w e)
  where
    small_from : (n m : ℕ) → nat_lt 1023 n ≡ false → m ≡ n → m ≤ 1023
    small_from n m is e = grind (arith, common_steps)

pub caused : (v : View) (start : ℕ) (c : Change) (r : Result View ViewFault) → r ≡ applied v start c → IfErr r (λ fault. IsFirst fault v c)
caused v start c (Ok w) e = tt
caused v start c (Err fault) e = cause_of v start c fault (sym e)
