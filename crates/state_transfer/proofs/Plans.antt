-- What a plan takes.
use Rattle.std.proofs.Common.{◌≡◌, ◌⊎◌, inl, inr, ⊎_elim, ℕ, ◌+◌, ◌<◌, ◌≤◌, ◌==◌, ◌++◌, nat_lt, Bool, true, false, ◌&&◌, ◌||◌, cond, List, [], ◌∷◌, length, ap, sym, refl, ◌∙◌, subst, arith, eq-eqb}
use Rattle.std.specs.Prelude.{filter, Option, Some, None, Result, Ok, Err}
use Rattle.std.specs.List.{list_any}
use Rattle.std.proofs.lemmas.Bool.{eqb-true, ltb-true, ltb-false, lt-ltb}
use Rattle.smart_base.specs.Lists.{Each}
use Rattle.smart_base.specs.Views.{View, is_view}
use Rattle.smart_base.proofs.SameLists.{and_true}
use Rattle.smart_statements.specs.Forms.{SignedBy}
use Rattle.smart_statements.specs.declared.report.Mark.{Mark}
use Rattle.state_marks.specs.Tables.{certified, AreEnough, HasMarked, IsCertified}
use Rattle.state_marks.proofs.Certified.{certified_exact, none_exact, enough_from}
use Rattle.state_marks.proofs.Lists.{or_false, or_left, or_right, each_passing, each_mid}
use Rattle.transfer_form.specs.declared.transfer.StateOffer.{StateOffer}
use Rattle.state_transfer.specs.declared.choice.NotYet.{NotYet}
use Rattle.state_transfer.specs.declared.choice.Plan.{Plan}
use Rattle.state_transfer.specs.declared.choice.Seeder.{Seeder}
use Rattle.state_transfer.specs.Plans.{is_offered, counts, usable, all_marks, agreed, greater, most_of, most, not_yet, lower, lowest, seeder_of, seeded, planned_by, planned, IsSeeder, IsPlan, IsNotYet}
use Rattle.state_transfer.proofs.Lists.{standing}
use Rattle.state_transfer.proofs.Marks.{usable_is, enough_usable, enough_all}

-- ---- the seeder

-- an offer of a place by a member that goes before this one
abbrev is_lower : ℕ → ℕ → StateOffer → Bool
is_lower place member o = (o.place == place) && nat_lt o.member member

-- what was found so far: some offer of the place stands among those before, and none of a lower member
abbrev Found : ℕ → List StateOffer → Option Seeder → Type 0
Found place before None = list_any (λ (o : StateOffer). o.place == place) before ≡ false
Found place before (Some s) = IsSeeder before place s.member s.size

any_more : (p : StateOffer → Bool) (xs : List StateOffer) (x : StateOffer) → list_any p (xs ++ x ∷ []) ≡ (list_any p xs || p x)
any_more p [] x = by (p x)
  where
    by : (t : Bool) → (t || false) ≡ t
    by true = refl
    by false = refl
any_more p (y ∷ ys) x = by (p y) (any_more p ys x)
  where
    by : (t : Bool) → list_any p (ys ++ x ∷ []) ≡ (list_any p ys || p x) → (t || list_any p (ys ++ x ∷ [])) ≡ ((t || list_any p ys) || p x)
    by true rest = refl
    by false rest = rest

or_none : (a b : Bool) → a ≡ false → b ≡ false → (a || b) ≡ false
or_none true b left right = left
or_none false b left right = right

not_itself : (n : ℕ) → nat_lt n n ≡ false
not_itself n = by (nat_lt n n) refl
  where
    by : (t : Bool) → nat_lt n n ≡ t → t ≡ false
    by true is = let below = ltb-true n n is in absurd (omega (arith, below))
    by false is = refl

and_false : (a b : Bool) → b ≡ false → (a && b) ≡ false
and_false true b is = is
and_false false b is = refl

lower_false : (o : StateOffer) (place member : ℕ) → (o.place == place) ≡ false → is_lower place member o ≡ false
lower_false o place member away = rw away refl

none_lower : (place member : ℕ) (os : List StateOffer) → list_any (λ (o : StateOffer). o.place == place) os ≡ false → list_any (is_lower place member) os ≡ false
none_lower place member [] none = refl
none_lower place member (o ∷ os) none =
    let parts = or_false (o.place == place) (list_any (λ (x : StateOffer). x.place == place) os) none in
    or_none (is_lower place member o) (list_any (is_lower place member) os) (lower_false o place member parts.0) (none_lower place member os parts.1)

lower_still : (o : StateOffer) (place low high : ℕ) → low < high → is_lower place high o ≡ false → is_lower place low o ≡ false
lower_still o place low high below none = by (o.place == place) (nat_lt o.member low) (nat_lt o.member high) refl refl none
  where
    by : (t a b : Bool) → nat_lt o.member low ≡ a → nat_lt o.member high ≡ b → (t && b) ≡ false → (t && a) ≡ false
    by false a b is_a is_b both = refl
    by true false b is_a is_b both = refl
    by true true b is_a is_b both =
        let under = ltb-true o.member low is_a in
        let same : b ≡ true = sym is_b ∙ lt-ltb o.member high (omega (arith, under, below)) in
        let twice : true ≡ false = sym same ∙ both in
        absurd (cc)

all_lower : (place low high : ℕ) (os : List StateOffer) → low < high → list_any (is_lower place high) os ≡ false → list_any (is_lower place low) os ≡ false
all_lower place low high [] below none = refl
all_lower place low high (o ∷ os) below none =
    let parts = or_false (is_lower place high o) (list_any (is_lower place high) os) none in
    or_none (is_lower place low o) (list_any (is_lower place low) os) (lower_still o place low high below parts.0) (all_lower place low high os below parts.1)

here : (place : ℕ) (before : List StateOffer) (o : StateOffer) → (o.place == place) ≡ true → list_any (is_lower place o.member) before ≡ false
    → IsSeeder (before ++ o ∷ []) place o.member o.size
here place before o same none = record {
  front = before;
  offer = o;
  back = [];
  split = refl;
  place_is = eqb-true o.place place same;
  member_is = refl;
  size_is = refl;
  least = any_more (is_lower place o.member) before o
      ∙ or_none (list_any (is_lower place o.member) before) (is_lower place o.member o) none (and_false (o.place == place) (nat_lt o.member o.member) (not_itself o.member));
}

append_more : (front : List StateOffer) (x : StateOffer) (back : List StateOffer) (o : StateOffer) → (front ++ x ∷ back) ++ o ∷ [] ≡ front ++ x ∷ (back ++ o ∷ [])
append_more [] x back o = refl
append_more (y ∷ front) x back o = ap (λ ys. y ∷ ys) (append_more front x back o)

still : (place : ℕ) (before : List StateOffer) (s : Seeder) (o : StateOffer) → is_lower place s.member o ≡ false → IsSeeder before place s.member s.size
    → IsSeeder (before ++ o ∷ []) place s.member s.size
still place before s o none is = record {
  front = is.front;
  offer = is.offer;
  back = is.back ++ o ∷ [];
  split = ap (λ os. os ++ o ∷ []) is.split ∙ append_more is.front is.offer is.back o;
  place_is = is.place_is;
  member_is = is.member_is;
  size_is = is.size_is;
  least = any_more (is_lower place s.member) before o ∙ or_none (list_any (is_lower place s.member) before) (is_lower place s.member o) is.least none;
}

found_none : (place : ℕ) (before : List StateOffer) (o : StateOffer) (t : Bool) → (o.place == place) ≡ t → Found place before None
    → Found place (before ++ o ∷ []) (cond t (Some (record { member = o.member; size = o.size })) None)
found_none place before o true same none = here place before o same (none_lower place o.member before none)
found_none place before o false same none =
    any_more (λ (x : StateOffer). x.place == place) before o ∙ or_none (list_any (λ (x : StateOffer). x.place == place) before) (o.place == place) none same

found_some : (place : ℕ) (before : List StateOffer) (s : Seeder) (o : StateOffer) (t : Bool) → is_lower place s.member o ≡ t → IsSeeder before place s.member s.size
    → Found place (before ++ o ∷ []) (cond t (Some (record { member = o.member; size = o.size })) (Some s))
found_some place before s o true is was =
    let parts = and_true (o.place == place) (nat_lt o.member s.member) is in
    here place before o parts.0 (all_lower place o.member s.member before (ltb-true o.member s.member parts.1) was.least)
found_some place before s o false is was = still place before s o is was

found_more : (place : ℕ) (before : List StateOffer) (found : Option Seeder) (o : StateOffer) → Found place before found → Found place (before ++ o ∷ []) (lower place found o)
found_more place before None o none = found_none place before o (o.place == place) refl none
found_more place before (Some s) o was = found_some place before s o (is_lower place s.member o) refl was

add_one : (xs : List StateOffer) (x : StateOffer) (ys : List StateOffer) → (xs ++ x ∷ []) ++ ys ≡ xs ++ x ∷ ys
add_one [] x ys = refl
add_one (z ∷ zs) x ys = ap (λ rest. z ∷ rest) (add_one zs x ys)

found_all : (place : ℕ) (before : List StateOffer) (found : Option Seeder) (left : List StateOffer) → Found place before found → Found place (before ++ left) (lowest place found left)
found_all place before found [] was = subst (λ (os : List StateOffer). Found place os found) (sym (nothing before)) was
  where
    nothing : (xs : List StateOffer) → xs ++ [] ≡ xs
    nothing [] = refl
    nothing (x ∷ xs) = ap (λ ys. x ∷ ys) (nothing xs)
found_all place before found (o ∷ left) was =
    subst (λ (os : List StateOffer). Found place os (lowest place (lower place found o) left)) (add_one before o left)
    (found_all place (before ++ o ∷ []) (lower place found o) left (found_more place before found o was))

pub seeder_found : (place : ℕ) (offers : List StateOffer) → Found place offers (seeder_of place offers)
unfolding seeder_of
seeder_found place offers = found_all place [] None offers refl

-- ---- the place is offered

-- one of enough members marked, and so the place is offered
offered_by : (offers : List StateOffer) (table : List (SignedBy Mark)) (place k : ℕ) (digest : List ℕ) (m : ℕ) → HasMarked (filter (counts offers place) table) k digest m
    → is_offered offers place k ≡ true
offered_by offers table place k digest m has =
    let all = subst (Each (λ (x : SignedBy Mark). counts offers place x ≡ true)) has.split (each_passing (counts offers place) table) in
    ap (is_offered offers place) (sym has.place_is) ∙ each_mid (λ (x : SignedBy Mark). counts offers place x ≡ true) has.front has.mark has.back all

offered_of : (offers : List StateOffer) (table : List (SignedBy Mark)) (place k : ℕ) (digest : List ℕ) (f : ℕ) (members : List ℕ) → f + 1 ≤ length members
    → Each (HasMarked (filter (counts offers place) table) k digest) members → is_offered offers place k ≡ true
offered_of offers table place k digest f [] many all = absurd (omega (arith, many))
offered_of offers table place k digest f (m ∷ ms) many all = offered_by offers table place k digest m all.0

pub offered_is : (offers : List StateOffer) (kept : List (SignedBy Mark)) (place : ℕ) (v : View) (k : ℕ) (digest : List ℕ) → AreEnough v (usable offers kept place) k digest
    → is_offered offers place k ≡ true
offered_is offers kept place v k digest are =
    offered_of offers (all_marks offers kept) place k digest v.f are.members are.enough
    (subst (λ (table : List (SignedBy Mark)). Each (HasMarked table k digest) are.members) (usable_is offers kept place) are.marked)

-- ---- the laws

abbrev pub NoneEnough : List StateOffer → List (SignedBy Mark) → ℕ → View → Type 0
NoneEnough offers kept place v = (k : ℕ) (digest : List ℕ) → is_offered offers place k ≡ true → AreEnough v (all_marks offers kept) k digest → ⊥

abbrev told : Plan → Result Plan NotYet
told p = Ok p

ok_is : (x y : Plan) → told x ≡ told y → x ≡ y
ok_is x y same = cc

taken_by : (offers : List StateOffer) (kept : List (SignedBy Mark)) (place : ℕ) (v : View) (p : Plan) (found : ℕ × List ℕ) (s : Option Seeder) → is_view v ≡ true
    → IsCertified v (usable offers kept place) found.0 found.1 → Found found.0 offers s → seeded v (usable offers kept place) found s ≡ Ok p → IsPlan offers kept place v p
taken_by offers kept place v p found None view is who said = absurd (cc)
taken_by offers kept place v p found (Some s) view is who said =
    let offered = offered_is offers kept place v found.0 found.1 is.enough in
    let plan_is = ok_is _ p said in
    subst (IsPlan offers kept place v) plan_is (record {
      offered = offered;
      enough = enough_all offers kept place v found.0 found.1 view offered is.enough;
      greatest = λ k digest at are. is.greatest k digest (enough_usable offers kept place v k digest view at are);
      lowest = λ digest are. is.lowest digest (enough_usable offers kept place v found.0 digest view offered are);
      view_is = refl;
      marks_are = refl;
      seeder = who;
    })

plan_by : (offers : List StateOffer) (kept : List (SignedBy Mark)) (place : ℕ) (v : View) (p : Plan) (found : Option (ℕ × List ℕ)) → is_view v ≡ true
    → certified v (usable offers kept place) ≡ found → planned_by offers v (usable offers kept place) found ≡ Ok p → IsPlan offers kept place v p
plan_by offers kept place v p None view is said = absurd (cc)
plan_by offers kept place v p (Some found) view is said =
    taken_by offers kept place v p found (seeder_of found.0 offers) view
    ((certified_exact v (usable offers kept place) found.0 found.1 view).0 is) (seeder_found found.0 offers) said

pub is_plan : (offers : List StateOffer) (kept : List (SignedBy Mark)) (place : ℕ) (v : View) (p : Plan) → is_view v ≡ true → planned offers kept place v ≡ Ok p
    → IsPlan offers kept place v p
unfolding planned
is_plan offers kept place v p view said = plan_by offers kept place v p (certified v (usable offers kept place)) view refl said

-- an offered place has a seeder
seeder_there : (offers : List StateOffer) (k : ℕ) (s : Option Seeder) → list_any (λ (o : StateOffer). o.place == k) offers ≡ true → Found k offers s → s ≡ None → ⊥
seeder_there offers k None some none is = let both : true ≡ false = sym some ∙ none in absurd (cc)
seeder_there offers k (Some s) some who is = absurd (cc)

no_seeder : (offers : List StateOffer) (v : View) (table : List (SignedBy Mark)) (found : ℕ × List ℕ) (s : Option Seeder) (n : NotYet) → seeded v table found s ≡ Err n → s ≡ None
no_seeder offers v table found None n said = refl
no_seeder offers v table found (Some s) n said = absurd (cc)

-- what is certified has a seeder
never_some : (offers : List StateOffer) (kept : List (SignedBy Mark)) (place : ℕ) (v : View) (n : NotYet) (found : ℕ × List ℕ) → is_view v ≡ true
    → certified v (usable offers kept place) ≡ Some found → planned_by offers v (usable offers kept place) (Some found) ≡ Err n → ⊥
never_some offers kept place v n found view is said =
    let certain = (certified_exact v (usable offers kept place) found.0 found.1 view).0 is in
    let at = offered_is offers kept place v found.0 found.1 certain.enough in
    seeder_there offers found.0 (seeder_of found.0 offers) (and_true (nat_lt place found.0) (list_any (λ (o : StateOffer). o.place == found.0) offers) at).1
    (seeder_found found.0 offers) (no_seeder offers v (usable offers kept place) found (seeder_of found.0 offers) n said)

none_by : (offers : List StateOffer) (kept : List (SignedBy Mark)) (place : ℕ) (v : View) (n : NotYet) (found : Option (ℕ × List ℕ)) → is_view v ≡ true
    → certified v (usable offers kept place) ≡ found → planned_by offers v (usable offers kept place) found ≡ Err n → NoneEnough offers kept place v
none_by offers kept place v n None view is said k digest offered are =
    (none_exact v (usable offers kept place) view).0 is k digest (enough_usable offers kept place v k digest view offered are)
none_by offers kept place v n (Some found) view is said k digest offered are = never_some offers kept place v n found view is said

pub is_none_enough : (offers : List StateOffer) (kept : List (SignedBy Mark)) (place : ℕ) (v : View) (n : NotYet) (k : ℕ) (digest : List ℕ) → is_view v ≡ true
    → planned offers kept place v ≡ Err n → is_offered offers place k ≡ true → AreEnough v (all_marks offers kept) k digest → ⊥
unfolding planned
is_none_enough offers kept place v n k digest view said offered are =
    none_by offers kept place v n (certified v (usable offers kept place)) view refl said k digest offered are

-- ---- what is told where there is no plan

-- the most of a number and of how many marked each mark left
record IsMost (v : View) (table : List (SignedBy Mark)) (found : ℕ) (left : List (SignedBy Mark)) (greatest : ℕ) : Type 0 where
  above : found ≤ greatest
  each : Each (λ (m : SignedBy Mark). agreed v table m.statement ≤ greatest) left
  reached : (greatest ≡ found) ⊎ (list_any (λ (m : SignedBy Mark). agreed v table m.statement == greatest) left ≡ true)

most_by : (v : View) (table : List (SignedBy Mark)) (found greatest : ℕ) (m : SignedBy Mark) (left : List (SignedBy Mark)) (t : Bool) → nat_lt found (agreed v table m.statement) ≡ t
    → IsMost v table (cond t (agreed v table m.statement) found) left greatest → IsMost v table found (m ∷ left) greatest
most_by v table found greatest m left true is rest =
    let under = ltb-true found (agreed v table m.statement) is in
    let above = rest.above in
    record {
      above = omega (arith, under, above);
      each = (above, rest.each);
      reached = inr (⊎_elim (λ same. or_left (agreed v table m.statement == greatest) (list_any (λ (x : SignedBy Mark). agreed v table x.statement == greatest) left)
          (eq-eqb (agreed v table m.statement) greatest (sym same)))
          (λ some. or_right (agreed v table m.statement == greatest) (list_any (λ (x : SignedBy Mark). agreed v table x.statement == greatest) left) some) rest.reached);
    }
most_by v table found greatest m left false is rest =
    let over = ltb-false found (agreed v table m.statement) is in
    let above = rest.above in
    record {
      above = above;
      each = (omega (arith, over, above), rest.each);
      reached = ⊎_elim (λ same. inl same)
          (λ some. inr (or_right (agreed v table m.statement == greatest) (list_any (λ (x : SignedBy Mark). agreed v table x.statement == greatest) left) some)) rest.reached;
    }

most_is : (v : View) (table : List (SignedBy Mark)) (found : ℕ) (left : List (SignedBy Mark)) → IsMost v table found left (most_of v table found left)
most_is v table found [] = record { above = omega arith; each = tt; reached = inl refl }
most_is v table found (m ∷ left) =
    most_by v table found (most_of v table (greater found (agreed v table m.statement)) left) m left (nat_lt found (agreed v table m.statement)) refl
    (most_is v table (greater found (agreed v table m.statement)) left)

few_at : (v : View) (table : List (SignedBy Mark)) (m : SignedBy Mark) (greatest : ℕ) (t : Bool) → is_view v ≡ true
    → ((place : ℕ) (digest : List ℕ) → AreEnough v table place digest → ⊥) → agreed v table m.statement ≡ greatest → nat_lt v.f (agreed v table m.statement) ≡ t → greatest < v.f + 1
few_at v table m greatest true view never same is = absurd (never m.statement.place m.statement.digest (enough_from v table m.statement.place m.statement.digest view is))
few_at v table m greatest false view never same is = let under = ltb-false v.f (agreed v table m.statement) is in omega (arith, under, same)

few_most : (v : View) (table : List (SignedBy Mark)) (greatest : ℕ) → is_view v ≡ true → ((place : ℕ) (digest : List ℕ) → AreEnough v table place digest → ⊥)
    → (greatest ≡ 0) ⊎ (list_any (λ (m : SignedBy Mark). agreed v table m.statement == greatest) table ≡ true) → greatest < v.f + 1
few_most v table greatest view never (inl none) = omega (arith, none)
few_most v table greatest view never (inr some) =
    let one = standing (λ (m : SignedBy Mark). agreed v table m.statement == greatest) table some in
    few_at v table one.one greatest (nat_lt v.f (agreed v table one.one.statement)) view never (eqb-true (agreed v table one.one.statement) greatest one.holds) refl

not_yet_is : (v : View) (table : List (SignedBy Mark)) → is_view v ≡ true → certified v table ≡ None → IsNotYet v table (not_yet v table)
unfolding most
not_yet_is v table view none =
    let is = most_is v table 0 table in
    record {
      need_is = refl;
      few = few_most v table (most_of v table 0 table) view ((none_exact v table view).0 none) is.reached;
      most = is.each;
      reached = is.reached;
    }

abbrev refused : NotYet → Result Plan NotYet
refused n = Err n

told_is : (x y : NotYet) → refused x ≡ refused y → x ≡ y
told_is x y same = cc

numbers_by : (offers : List StateOffer) (kept : List (SignedBy Mark)) (place : ℕ) (v : View) (n : NotYet) (found : Option (ℕ × List ℕ)) → is_view v ≡ true
    → certified v (usable offers kept place) ≡ found → planned_by offers v (usable offers kept place) found ≡ Err n → IsNotYet v (usable offers kept place) n
numbers_by offers kept place v n None view is said =
    subst (IsNotYet v (usable offers kept place)) (told_is (not_yet v (usable offers kept place)) n said) (not_yet_is v (usable offers kept place) view is)
numbers_by offers kept place v n (Some found) view is said = absurd (never_some offers kept place v n found view is said)

pub numbers_are : (offers : List StateOffer) (kept : List (SignedBy Mark)) (place : ℕ) (v : View) (n : NotYet) → is_view v ≡ true → planned offers kept place v ≡ Err n
    → IsNotYet v (usable offers kept place) n
unfolding planned
numbers_are offers kept place v n view said = numbers_by offers kept place v n (certified v (usable offers kept place)) view refl said
