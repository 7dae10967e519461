-- What the tests of an entry say.
use Rattle.std.proofs.Common.{◌≡◌, ◌⊎◌, inl, inr, ⊎_elim, ℕ, zero, suc, ◌+◌, ◌-◌, ◌<◌, ◌≤◌, Bool, true, false, not, ◌&&◌, ◌||◌, ◌==◌, nat_lt, List, [], ◌∷◌, length, Option, None, Some, refl, sym, ap, subst, ◌∙◌, arith}
use Rattle.std.specs.Prelude.{nat_le, max}
use Rattle.std.specs.List.{list_any}
use Rattle.std.proofs.lemmas.Bool.{eqb-true, eqb-false, eq-eqb, ltb-true, ltb-false, lt-ltb, leb-true, leb-false, le-leb, not-true, not_from_false, and_parts, and_from, or_cases, or_left, or_right, both_ways, false_from_ne_true, cases_lt}
use Rattle.smart_base.specs.Lists.{or_else, same_list, same_bytes}
use Rattle.smart_statements.specs.Equality.{same_slot}
use Rattle.smart_statements.specs.declared.statement.Slot.{Slot}
use Rattle.vote_book.specs.declared.entry.LogEntry.{LogEntry}
use Rattle.vote_book.specs.declared.entry.LogEntry.TheVariants.{Opened, Wrote, Accepted, Promised, Synced, Decided, Installed, Marked}
use Rattle.vote_book.specs.declared.entry.Write.{Write}
use Rattle.vote_book.specs.declared.entry.Accept.{Accept}
use Rattle.vote_book.specs.declared.entry.Promise.{Promise}
use Rattle.vote_book.specs.declared.entry.Start.{Start}
use Rattle.vote_book.specs.Books.{number_or, place_made, latest_made, last_made, Among, HasMade, IsBelow, Allows, HasBegun, MayVote, MayWrite, MayAccept, Follows, MayInstall, Admits}
use Rattle.vote_book.specs.Admission.{writes_in, accepts_in, is_number, makes, is_below, forbids, allows, lets, begins, may_vote, follows, is_above, may_install, admits}

-- ---- lists

pub record Passing {A : Type 0} (p : A → Bool) (xs : List A) : Type 0 where
  pub value : A
  pub there : Among value xs
  pub passes : p value ≡ true

pub passing : {A : Type 0} (p : A → Bool) (xs : List A) → list_any p xs ≡ true → Passing p xs
passing p [] some = absurd (cc)
passing p (x ∷ xs) some =
    ⊎_elim (λ here. record { value = x; there = inl refl; passes = here })
    (λ later. let found = passing p xs later in record { value = found.value; there = inr found.there; passes = found.passes })
    (or_cases (p x) (list_any p xs) some)

pub among_any : {A : Type 0} (p : A → Bool) (x : A) (xs : List A) → Among x xs → p x ≡ true → list_any p xs ≡ true
among_any p x [] there passes = absurd there
among_any p x (y ∷ ys) (inl is) passes = or_left (p y) (list_any p ys) (subst (λ z. p z ≡ true) is passes)
among_any p x (y ∷ ys) (inr there) passes = or_right (p y) (list_any p ys) (among_any p x ys there passes)

pub same_bytes_is : (a b : List ℕ) → same_bytes a b ≡ true → a ≡ b
same_bytes_is [] [] same = refl
same_bytes_is [] (y ∷ ys) same = absurd (cc)
same_bytes_is (x ∷ xs) [] same = absurd (cc)
same_bytes_is (x ∷ xs) (y ∷ ys) same =
    let parts = and_parts (x == y) (same_list (λ x y. x == y) xs ys) same in
    let head : x ≡ y = eqb-true x y parts.0 in
    let tail : xs ≡ ys = same_bytes_is xs ys parts.1 in
    cc

pub same_bytes_self : (a : List ℕ) → same_bytes a a ≡ true
same_bytes_self [] = refl
same_bytes_self (x ∷ xs) = and_from (x == x) (same_list (λ x y. x == y) xs xs) (eq-eqb x x refl) (same_bytes_self xs)

-- ---- slots

pub slot_is : (a b : Slot) → same_slot a b ≡ true → a ≡ b
slot_is a b same =
    let last = and_parts ((a.view == b.view) && (a.place == b.place)) (a.regency == b.regency) same in
    let first = and_parts (a.view == b.view) (a.place == b.place) last.0 in
    let view : a.view ≡ b.view = eqb-true a.view b.view first.0 in
    let place : a.place ≡ b.place = eqb-true a.place b.place first.1 in
    let regency : a.regency ≡ b.regency = eqb-true a.regency b.regency last.1 in
    λ i. record { view = view i; place = place i; regency = regency i }

pub same_slot_self : (a : Slot) → same_slot a a ≡ true
same_slot_self a =
    and_from ((a.view == a.view) && (a.place == a.place)) (a.regency == a.regency)
    (and_from (a.view == a.view) (a.place == a.place) (eq-eqb a.view a.view refl) (eq-eqb a.place a.place refl)) (eq-eqb a.regency a.regency refl)

-- ---- places

pub number_is : (n : ℕ) (o : Option ℕ) → is_number n o ≡ true → o ≡ Some n
number_is n None is = absurd (cc)
number_is n (Some m) is = ap (λ (k : ℕ). Some k) (eqb-true m n is)

is_number_of : (n : ℕ) (o : Option ℕ) → o ≡ Some n → is_number n o ≡ true
is_number_of n o is = subst (λ (q : Option ℕ). is_number n q ≡ true) (sym is) (eq-eqb n n refl)

pub made_is : (place : ℕ) (before : List LogEntry) → list_any (makes place) before ≡ true → HasMade before place
made_is place before some =
    let found = passing (makes place) before some in
    record { entry = found.value; there = found.there; made = number_is place (place_made found.value) found.passes }

pub is_made : (place : ℕ) (before : List LogEntry) → HasMade before place → list_any (makes place) before ≡ true
is_made place before has = among_any (makes place) has.entry before has.there (is_number_of place (place_made has.entry) has.made)

-- ---- promises

pub below_is : (slot : Slot) (promise : Promise) → is_below slot promise ≡ true → IsBelow slot promise
below_is slot promise is =
    ⊎_elim (λ view. inl (ltb-true slot.view promise.view view))
    (λ same. let parts = and_parts (slot.view == promise.view) (nat_lt slot.regency promise.regency) same in
    inr (eqb-true slot.view promise.view parts.0, ltb-true slot.regency promise.regency parts.1))
    (or_cases (nat_lt slot.view promise.view) ((slot.view == promise.view) && nat_lt slot.regency promise.regency) is)

pub is_below_of : (slot : Slot) (promise : Promise) → IsBelow slot promise → is_below slot promise ≡ true
is_below_of slot promise (inl view) = or_left (nat_lt slot.view promise.view) ((slot.view == promise.view) && nat_lt slot.regency promise.regency) (lt-ltb slot.view promise.view view)
is_below_of slot promise (inr same) =
    or_right (nat_lt slot.view promise.view) ((slot.view == promise.view) && nat_lt slot.regency promise.regency)
    (and_from (slot.view == promise.view) (nat_lt slot.regency promise.regency) (eq-eqb slot.view promise.view same.0) (lt-ltb slot.regency promise.regency same.1))

forbidding : (slot : Slot) (before : List LogEntry) (e : LogEntry) → ((promise : Promise) → Among (Promised promise) before → IsBelow slot promise → ⊥)
    → Among e before → forbids slot e ≡ true → ⊥
forbidding slot before (Promised p) none there forbids = none p there (below_is slot p forbids)
forbidding slot before (Opened o) none there forbids = cc
forbidding slot before (Wrote w) none there forbids = cc
forbidding slot before (Accepted a) none there forbids = cc
forbidding slot before (Synced s) none there forbids = cc
forbidding slot before (Decided d) none there forbids = cc
forbidding slot before (Installed i) none there forbids = cc
forbidding slot before (Marked m) none there forbids = cc

pub none_forbids : (slot : Slot) (before : List LogEntry) → list_any (forbids slot) before ≡ false → (promise : Promise) → Among (Promised promise) before → IsBelow slot promise → ⊥
none_forbids slot before none promise there below = both_ways (list_any (forbids slot) before) none (among_any (forbids slot) (Promised promise) before there (is_below_of slot promise below))

pub forbids_none : (slot : Slot) (before : List LogEntry) → ((promise : Promise) → Among (Promised promise) before → IsBelow slot promise → ⊥) → list_any (forbids slot) before ≡ false
forbids_none slot before none =
    false_from_ne_true (list_any (forbids slot) before)
    (λ some. let found = passing (forbids slot) before some in forbidding slot before found.value none found.there found.passes)

-- ---- starts

allows_is : (bound : Option (List ℕ)) (digest : List ℕ) → allows bound digest ≡ true → Allows bound digest
allows_is None digest is = tt
allows_is (Some bound) digest is = same_bytes_is digest bound is

is_allowed : (bound : Option (List ℕ)) (digest : List ℕ) → Allows bound digest → allows bound digest ≡ true
is_allowed None digest is = refl
is_allowed (Some bound) digest is = subst (λ (d : List ℕ). same_bytes d bound ≡ true) (sym is) (same_bytes_self bound)

pub record Lets (slot : Slot) (digest : List ℕ) (start : Start) : Type 0 where
  pub view : start.view ≡ slot.view
  pub regency : start.regency ≡ slot.regency
  pub reached : start.base ≤ slot.place
  pub kept : start.base ≡ slot.place → Allows start.bound digest

abbrev bound_test : Slot → List ℕ → Start → Bool
bound_test slot digest start = not (start.base == slot.place) || allows start.bound digest

abbrev base_test : Slot → List ℕ → Start → Bool
base_test slot digest start = nat_le start.base slot.place && bound_test slot digest start

abbrev regency_test : Slot → List ℕ → Start → Bool
regency_test slot digest start = (start.regency == slot.regency) && base_test slot digest start

pub lets_is : (slot : Slot) (digest : List ℕ) (start : Start) → lets slot digest start ≡ true → Lets slot digest start
lets_is slot digest start is =
    let view = and_parts (start.view == slot.view) (regency_test slot digest start) is in
    let regency = and_parts (start.regency == slot.regency) (base_test slot digest start) view.1 in
    let base = and_parts (nat_le start.base slot.place) (bound_test slot digest start) regency.1 in
    record {
      view = eqb-true start.view slot.view view.0;
      regency = eqb-true start.regency slot.regency regency.0;
      reached = leb-true start.base slot.place base.0;
      kept = λ same. ⊎_elim
          (λ other. absurd (eqb-false start.base slot.place (not-true (start.base == slot.place) other) same))
          (λ allowed. allows_is start.bound digest allowed)
          (or_cases (not (start.base == slot.place)) (allows start.bound digest) base.1);
    }

bound_passes : (slot : Slot) (digest : List ℕ) (start : Start) (t : Bool) → (start.base == slot.place) ≡ t → (start.base ≡ slot.place → Allows start.bound digest)
    → (not t || allows start.bound digest) ≡ true
bound_passes slot digest start true same kept = is_allowed start.bound digest (kept (eqb-true start.base slot.place same))
bound_passes slot digest start false same kept = refl

pub is_let : (slot : Slot) (digest : List ℕ) (start : Start) → Lets slot digest start → lets slot digest start ≡ true
is_let slot digest start l =
    and_from (start.view == slot.view) (regency_test slot digest start) (eq-eqb start.view slot.view l.view)
    (and_from (start.regency == slot.regency) (base_test slot digest start) (eq-eqb start.regency slot.regency l.regency)
    (and_from (nat_le start.base slot.place) (bound_test slot digest start) (le-leb start.base slot.place l.reached)
    (bound_passes slot digest start (start.base == slot.place) refl l.kept)))

beginning : (slot : Slot) (digest : List ℕ) (before : List LogEntry) (e : LogEntry) → Among e before → begins slot digest e ≡ true → HasBegun before slot digest
beginning slot digest before (Synced s) there begins =
    let l = lets_is slot digest s begins in record { start = s; there = there; view = l.view; regency = l.regency; reached = l.reached; kept = l.kept }
beginning slot digest before (Opened o) there begins = absurd (cc)
beginning slot digest before (Wrote w) there begins = absurd (cc)
beginning slot digest before (Accepted a) there begins = absurd (cc)
beginning slot digest before (Promised p) there begins = absurd (cc)
beginning slot digest before (Decided d) there begins = absurd (cc)
beginning slot digest before (Installed i) there begins = absurd (cc)
beginning slot digest before (Marked m) there begins = absurd (cc)

pub begun_is : (slot : Slot) (digest : List ℕ) (before : List LogEntry) → list_any (begins slot digest) before ≡ true → HasBegun before slot digest
begun_is slot digest before some =
    let found = passing (begins slot digest) before some in beginning slot digest before found.value found.there found.passes

pub is_begun : (slot : Slot) (digest : List ℕ) (before : List LogEntry) → HasBegun before slot digest → list_any (begins slot digest) before ≡ true
is_begun slot digest before has =
    among_any (begins slot digest) (Synced has.start) before has.there
    (is_let slot digest has.start (record { view = has.view; regency = has.regency; reached = has.reached; kept = has.kept }))

-- ---- votes

turn_is : (before : List LogEntry) (place : ℕ) → (nat_le place 1 || list_any (makes (place - 1)) before) ≡ true → 1 < place → HasMade before (place - 1)
turn_is before place is later =
    ⊎_elim (λ (first : nat_le place 1 ≡ true). absurd (omega (arith, leb-true place 1 first))) (λ some. made_is (place - 1) before some)
    (or_cases (nat_le place 1) (list_any (makes (place - 1)) before) is)

turn_passes : (before : List LogEntry) (place : ℕ) (t : Bool) → nat_le place 1 ≡ t → (1 < place → HasMade before (place - 1)) → (t || list_any (makes (place - 1)) before) ≡ true
turn_passes before place true is in_turn = refl
turn_passes before place false is in_turn = is_made (place - 1) before (in_turn (leb-false place 1 is))

synced_is : (before : List LogEntry) (slot : Slot) (digest : List ℕ) → ((slot.regency == 0) || list_any (begins slot digest) before) ≡ true → 0 < slot.regency → HasBegun before slot digest
synced_is before slot digest is later =
    ⊎_elim (λ (first : (slot.regency == 0) ≡ true). absurd (omega (arith, eqb-true slot.regency 0 first))) (λ some. begun_is slot digest before some)
    (or_cases (slot.regency == 0) (list_any (begins slot digest) before) is)

above_zero : (n : ℕ) → (n == 0) ≡ false → 0 < n
above_zero n is = let other = eqb-false n 0 is in above n other
  where
    above : (n : ℕ) → (n ≡ 0 → ⊥) → 0 < n
    above zero other = absurd (other refl)
    above (suc n) other = omega arith

synced_passes : (before : List LogEntry) (slot : Slot) (digest : List ℕ) (t : Bool) → (slot.regency == 0) ≡ t → (0 < slot.regency → HasBegun before slot digest)
    → (t || list_any (begins slot digest) before) ≡ true
synced_passes before slot digest true is synced = refl
synced_passes before slot digest false is synced = is_begun slot digest before (synced (above_zero slot.regency is))

abbrev turn_test : List LogEntry → Slot → Bool
turn_test before slot = nat_le slot.place 1 || list_any (makes (slot.place - 1)) before

abbrev synced_test : List LogEntry → Slot → List ℕ → Bool
synced_test before slot digest = (slot.regency == 0) || list_any (begins slot digest) before

pub vote_is : (before : List LogEntry) (slot : Slot) (digest : List ℕ) → may_vote before slot digest ≡ true → MayVote before slot digest
vote_is before slot digest is =
    let first = and_parts (turn_test before slot) (not (list_any (forbids slot) before) && synced_test before slot digest) is in
    let rest = and_parts (not (list_any (forbids slot) before)) (synced_test before slot digest) first.1 in
    record {
      in_turn = turn_is before slot.place first.0;
      promises = none_forbids slot before (not-true (list_any (forbids slot) before) rest.0);
      synced = synced_is before slot digest rest.1;
    }

pub is_vote : (before : List LogEntry) (slot : Slot) (digest : List ℕ) → MayVote before slot digest → may_vote before slot digest ≡ true
is_vote before slot digest vote =
    and_from (turn_test before slot) (not (list_any (forbids slot) before) && synced_test before slot digest)
    (turn_passes before slot.place (nat_le slot.place 1) refl vote.in_turn)
    (and_from (not (list_any (forbids slot) before)) (synced_test before slot digest)
    (not_from_false (list_any (forbids slot) before) (forbids_none slot before vote.promises))
    (synced_passes before slot digest (slot.regency == 0) refl vote.synced))

-- ---- one write and one accept

writing : (slot : Slot) (before : List LogEntry) (e : LogEntry) → ((other : Write) → Among (Wrote other) before → other.slot ≡ slot → ⊥) → Among e before → writes_in slot e ≡ true → ⊥
writing slot before (Wrote w) none there writes = none w there (slot_is w.slot slot writes)
writing slot before (Opened o) none there writes = cc
writing slot before (Accepted a) none there writes = cc
writing slot before (Promised p) none there writes = cc
writing slot before (Synced s) none there writes = cc
writing slot before (Decided d) none there writes = cc
writing slot before (Installed i) none there writes = cc
writing slot before (Marked m) none there writes = cc

accepting : (slot : Slot) (before : List LogEntry) (e : LogEntry) → ((other : Accept) → Among (Accepted other) before → other.slot ≡ slot → ⊥) → Among e before → accepts_in slot e ≡ true → ⊥
accepting slot before (Accepted a) none there accepts = none a there (slot_is a.slot slot accepts)
accepting slot before (Opened o) none there accepts = cc
accepting slot before (Wrote w) none there accepts = cc
accepting slot before (Promised p) none there accepts = cc
accepting slot before (Synced s) none there accepts = cc
accepting slot before (Decided d) none there accepts = cc
accepting slot before (Installed i) none there accepts = cc
accepting slot before (Marked m) none there accepts = cc

pub write_is : (before : List LogEntry) (w : Write) → (may_vote before w.slot w.digest && not (list_any (writes_in w.slot) before)) ≡ true → MayWrite before w
write_is before w is =
    let parts = and_parts (may_vote before w.slot w.digest) (not (list_any (writes_in w.slot) before)) is in
    record {
      vote = vote_is before w.slot w.digest parts.0;
      first = λ other there same. both_ways (list_any (writes_in w.slot) before) (not-true (list_any (writes_in w.slot) before) parts.1)
          (among_any (writes_in w.slot) (Wrote other) before there (subst (λ (s : Slot). same_slot other.slot s ≡ true) same (same_slot_self other.slot)));
    }

pub is_write : (before : List LogEntry) (w : Write) → MayWrite before w → (may_vote before w.slot w.digest && not (list_any (writes_in w.slot) before)) ≡ true
is_write before w may =
    and_from (may_vote before w.slot w.digest) (not (list_any (writes_in w.slot) before)) (is_vote before w.slot w.digest may.vote)
    (not_from_false (list_any (writes_in w.slot) before) (false_from_ne_true (list_any (writes_in w.slot) before)
    (λ some. let found = passing (writes_in w.slot) before some in writing w.slot before found.value may.first found.there found.passes)))

pub accept_is : (before : List LogEntry) (a : Accept) → (may_vote before a.slot a.digest && not (list_any (accepts_in a.slot) before)) ≡ true → MayAccept before a
accept_is before a is =
    let parts = and_parts (may_vote before a.slot a.digest) (not (list_any (accepts_in a.slot) before)) is in
    record {
      vote = vote_is before a.slot a.digest parts.0;
      first = λ other there same. both_ways (list_any (accepts_in a.slot) before) (not-true (list_any (accepts_in a.slot) before) parts.1)
          (among_any (accepts_in a.slot) (Accepted other) before there (subst (λ (s : Slot). same_slot other.slot s ≡ true) same (same_slot_self other.slot)));
    }

pub is_accept : (before : List LogEntry) (a : Accept) → MayAccept before a → (may_vote before a.slot a.digest && not (list_any (accepts_in a.slot) before)) ≡ true
is_accept before a may =
    and_from (may_vote before a.slot a.digest) (not (list_any (accepts_in a.slot) before)) (is_vote before a.slot a.digest may.vote)
    (not_from_false (list_any (accepts_in a.slot) before) (false_from_ne_true (list_any (accepts_in a.slot) before)
    (λ some. let found = passing (accepts_in a.slot) before some in accepting a.slot before found.value may.first found.there found.passes)))

-- ---- places made

pub follows_is : (opening : ℕ) (latest : Option ℕ) (place : ℕ) → follows opening latest place ≡ true → Follows opening latest place
follows_is opening None place is = leb-true place (opening + 1) is
follows_is opening (Some latest) place is = eqb-true place (latest + 1) is

pub is_follower : (opening : ℕ) (latest : Option ℕ) (place : ℕ) → Follows opening latest place → follows opening latest place ≡ true
is_follower opening None place is = le-leb place (opening + 1) is
is_follower opening (Some latest) place is = eq-eqb place (latest + 1) is

made_number : (o : Option ℕ) (made : ℕ) → o ≡ Some made → number_or o 0 ≡ made
made_number o made is = ap (λ (q : Option ℕ). number_or q 0) is

-- what is made is at most the greatest
pub made_within : (e : LogEntry) (before : List LogEntry) (made : ℕ) → Among e before → place_made e ≡ Some made → made ≤ last_made before
made_within e [] made there is = absurd there
made_within e (x ∷ xs) made (inl same) is =
    let here : number_or (place_made x) 0 ≡ made = made_number (place_made x) made (ap (λ (y : LogEntry). place_made y) (sym same) ∙ is) in omega arith
made_within e (x ∷ xs) made (inr there) is = let rest : made ≤ last_made xs = made_within e xs made there is in omega arith

last_none : (later here : Option ℕ) (made : ℕ) → here ≡ Some made → or_else later here ≡ None → ⊥
last_none None here made is none = cc
last_none (Some n) here made is none = cc

rest_none : (later here : Option ℕ) → or_else later here ≡ None → later ≡ None
rest_none None here none = refl
rest_none (Some n) here none = absurd (cc)

pub none_latest : (e : LogEntry) (before : List LogEntry) (made : ℕ) → Among e before → place_made e ≡ Some made → latest_made before ≡ None → ⊥
none_latest e [] made there is none = there
none_latest e (x ∷ xs) made (inl same) is none =
    last_none (latest_made xs) (place_made x) made (ap (λ (y : LogEntry). place_made y) (sym same) ∙ is) none
none_latest e (x ∷ xs) made (inr there) is none = none_latest e xs made there is (rest_none (latest_made xs) (place_made x) none)

has_at : (before : List LogEntry) (j k : ℕ) → HasMade before j → j ≡ k → HasMade before k
has_at before j k has same = subst (λ (n : ℕ). HasMade before n) same has

later_has : (x : LogEntry) (xs : List LogEntry) (place : ℕ) → HasMade xs place → HasMade (x ∷ xs) place
later_has x xs place has = record { entry = has.entry; there = inr has.there; made = has.made }

-- the latest is made
pub latest_has : (before : List LogEntry) (latest : ℕ) → latest_made before ≡ Some latest → HasMade before latest
latest_has [] latest is = absurd (cc)
latest_has (x ∷ xs) latest is = by (latest_made xs) (λ n rest. latest_has xs n rest) is
  where
    by : (later : Option ℕ) → ((n : ℕ) → later ≡ Some n → HasMade xs n) → or_else later (place_made x) ≡ Some latest → HasMade (x ∷ xs) latest
    by None rest some = record { entry = x; there = inl refl; made = some }
    by (Some n) rest some = later_has x xs latest (rest latest some)

-- the greatest is made, or is 0
greatest_has : (before : List LogEntry) → (last_made before ≡ 0) ⊎ HasMade before (last_made before)
greatest_has [] = inl refl
greatest_has (x ∷ xs) = by (place_made x) refl (greatest_has xs)
  where
    head : (m : ℕ) → place_made x ≡ Some m → HasMade (x ∷ xs) m
    head m is = record { entry = x; there = inl refl; made = is }

    by : (here : Option ℕ) → place_made x ≡ here → (last_made xs ≡ 0) ⊎ HasMade xs (last_made xs)
        → (max (number_or here 0) (last_made xs) ≡ 0) ⊎ HasMade (x ∷ xs) (max (number_or here 0) (last_made xs))
    by None is (inl none) = inl (omega arith)
    by None is (inr has) = inr (has_at (x ∷ xs) (last_made xs) (max 0 (last_made xs)) (later_has x xs (last_made xs) has) (omega arith))
    by (Some m) is rest =
        ⊎_elim
        (λ (less : m < last_made xs). ⊎_elim
        (λ (none : last_made xs ≡ 0). absurd (omega arith))
        (λ has. inr (has_at (x ∷ xs) (last_made xs) (max m (last_made xs)) (later_has x xs (last_made xs) has) (omega arith))) rest)
        (λ (most : last_made xs ≤ m). inr (has_at (x ∷ xs) m (max m (last_made xs)) (head m is) (omega arith)))
        (cases_lt m (last_made xs))

pub last_has : (before : List LogEntry) (latest : ℕ) → latest_made before ≡ Some latest → HasMade before (last_made before)
last_has before latest some =
    let has = latest_has before latest some in
    let within : latest ≤ last_made before = made_within has.entry before latest has.there has.made in
    ⊎_elim (λ (none : last_made before ≡ 0). has_at before latest (last_made before) has (omega arith)) (λ greatest. greatest) (greatest_has before)

pub none_zero : (before : List LogEntry) → latest_made before ≡ None → last_made before ≡ 0
none_zero before none =
    ⊎_elim (λ (zero : last_made before ≡ 0). zero) (λ has. absurd (none_latest has.entry before (last_made before) has.there has.made none)) (greatest_has before)

pub above_is : (before : List LogEntry) (place : ℕ) → is_above (latest_made before) (last_made before) place ≡ true → (made : ℕ) → HasMade before made → made < place
above_is before place is made has = by (latest_made before) refl is
  where
    within : made ≤ last_made before
    within = made_within has.entry before made has.there has.made

    by : (latest : Option ℕ) → latest_made before ≡ latest → is_above latest (last_made before) place ≡ true → made < place
    by None none above = absurd (none_latest has.entry before made has.there has.made none)
    by (Some latest) some above = let e : last_made before < place = ltb-true (last_made before) place above in omega (arith, within)

pub is_above_of : (before : List LogEntry) (place : ℕ) → ((made : ℕ) → HasMade before made → made < place) → is_above (latest_made before) (last_made before) place ≡ true
is_above_of before place above = by (latest_made before) refl
  where
    by : (latest : Option ℕ) → latest_made before ≡ latest → is_above latest (last_made before) place ≡ true
    by None none = refl
    by (Some latest) some =
        lt-ltb (last_made before) place (above (last_made before) (last_has before latest some))

install_within : (opening restored count place : ℕ) (t : Bool) → nat_lt count restored ≡ t → (not t || nat_le place opening) ≡ true → count < restored → place ≤ opening
install_within opening restored count place true is passes restoring = leb-true place opening passes
install_within opening restored count place false is passes restoring = let e : restored ≤ count = ltb-false count restored is in absurd (omega arith)

within_passes : (opening restored count place : ℕ) (t : Bool) → nat_lt count restored ≡ t → (count < restored → place ≤ opening) → (not t || nat_le place opening) ≡ true
within_passes opening restored count place true is within = le-leb place opening (within (ltb-true count restored is))
within_passes opening restored count place false is within = refl

abbrev within_test : ℕ → ℕ → List LogEntry → ℕ → Bool
within_test opening restored before place = not (nat_lt (length before) restored) || nat_le place opening

pub install_is : (opening restored : ℕ) (before : List LogEntry) (place : ℕ) → may_install opening restored before place ≡ true → MayInstall opening restored before place
install_is opening restored before place is =
    let parts = and_parts (is_above (latest_made before) (last_made before) place) (within_test opening restored before place) is in
    record {
      above = above_is before place parts.0;
      within = install_within opening restored (length before) place (nat_lt (length before) restored) refl parts.1;
    }

pub is_install : (opening restored : ℕ) (before : List LogEntry) (place : ℕ) → MayInstall opening restored before place → may_install opening restored before place ≡ true
is_install opening restored before place may =
    and_from (is_above (latest_made before) (last_made before) place) (within_test opening restored before place) (is_above_of before place may.above)
    (within_passes opening restored (length before) place (nat_lt (length before) restored) refl may.within)

-- ---- all entries

pub admitted : (opening restored : ℕ) (before : List LogEntry) (e : LogEntry) → admits opening restored before e ≡ true → Admits opening restored before e
admitted opening restored before (Opened o) is = tt
admitted opening restored before (Wrote w) is = write_is before w is
admitted opening restored before (Accepted a) is = accept_is before a is
admitted opening restored before (Promised p) is = tt
admitted opening restored before (Synced s) is = tt
admitted opening restored before (Decided d) is = follows_is opening (latest_made before) d.slot.place is
admitted opening restored before (Installed i) is = install_is opening restored before i.place is
admitted opening restored before (Marked m) is = tt

pub admitting : (opening restored : ℕ) (before : List LogEntry) (e : LogEntry) → Admits opening restored before e → admits opening restored before e ≡ true
admitting opening restored before (Opened o) may = refl
admitting opening restored before (Wrote w) may = is_write before w may
admitting opening restored before (Accepted a) may = is_accept before a may
admitting opening restored before (Promised p) may = refl
admitting opening restored before (Synced s) may = refl
admitting opening restored before (Decided d) may = is_follower opening (latest_made before) d.slot.place may
admitting opening restored before (Installed i) may = is_install opening restored before i.place may
admitting opening restored before (Marked m) may = refl
