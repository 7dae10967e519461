-- The shelf of an address, and shelves with another one in its place.
use Rattle.std.proofs.Common.{◌≡◌, ◌≢◌, ℕ, zero, suc, ◌+◌, ◌<◌, ◌==◌, cond, Bool, true, false, not, ◌&&◌, nat_lt, List, [], ◌∷◌, ◌++◌, length, get_or, slice_set, Option, Some, None, IsSome, Result, Ok, Err, OnOk, refl, sym, ap, subst, ◌∙◌, arith}
use Rattle.std.specs.List.{position, position_or_len}
use Rattle.std.proofs.lemmas.Bool.{eqb-true, eq-eqb, ltb-true, ltb-false, le-ltb}
use Rattle.smart_base.specs.Lists.{same_bytes}
use Rattle.smart_base.proofs.SameLists.{and_true, same_list-equal}
use Rattle.disk_model.specs.Rooms.{Address, same_address}
use Rattle.node_rooms.specs.Shelves.{address_of, is_at, shelf_at, taken_of, taken_at, lent}
use Rattle.node_rooms.specs.declared.shelves.Shelf.{Shelf}

addresses-equal : (a b : Address) → a.dir ≡ b.dir → a.member ≡ b.member → a.device ≡ b.device → a ≡ b
addresses-equal a b d m v = rw (d, m, v) refl

same_address-equal : (a b : Address) → same_address a b ≡ true → a ≡ b
same_address-equal a b same =
    let outer = and_true (same_bytes a.dir b.dir && (a.member == b.member)) (a.device == b.device) same in
    let inner = and_true (same_bytes a.dir b.dir) (a.member == b.member) outer.0 in
    addresses-equal a b (same_list-equal (λ x y. x == y) (λ x y e. eqb-true x y e) a.dir b.dir inner.0) (eqb-true a.member b.member inner.1) (eqb-true a.device b.device outer.1)

both : (a b : Bool) → a ≡ true → b ≡ true → (a && b) ≡ true
both true b ea eb = eb
both false b ea eb = absurd (cc)

list-itself : (xs : List ℕ) → same_bytes xs xs ≡ true
list-itself [] = refl
list-itself (x ∷ xs) = both (x == x) (same_bytes xs xs) (eq-eqb x x refl) (list-itself xs)

pub address-itself : (here : Address) → same_address here here ≡ true
address-itself here =
    both (same_bytes here.dir here.dir && (here.member == here.member)) (here.device == here.device)
    (both (same_bytes here.dir here.dir) (here.member == here.member) (list-itself here.dir) (eq-eqb here.member here.member refl))
    (eq-eqb here.device here.device refl)

less_again : (a b : ℕ) → nat_lt (1 + a) (suc b) ≡ false → nat_lt a b ≡ false
less_again a b past = le-ltb a b (omega (arith, ltb-false (1 + a) (suc b) past))

-- the first shelf of an address stands at an index
abbrev pub IsShelf : Address → List Shelf → ℕ → Type 0
IsShelf here [] i = ⊥
IsShelf here (s ∷ shelves) zero = is_at here s ≡ true
IsShelf here (s ∷ shelves) (suc i) = (is_at here s ≡ false) × IsShelf here shelves i

within_step : (here : Address) (s : Shelf) (shelves : List Shelf) (t : Bool) → is_at here s ≡ t
    → (position_or_len (is_at here) shelves < length shelves → IsShelf here shelves (position_or_len (is_at here) shelves))
    → cond (not t) (1 + position_or_len (is_at here) shelves) 0 < length (s ∷ shelves) → IsShelf here (s ∷ shelves) (cond (not t) (1 + position_or_len (is_at here) shelves) 0)
within_step here s shelves true is rest lt = is
within_step here s shelves false is rest lt =
    let next : suc (position_or_len (is_at here) shelves) ≡ 1 + position_or_len (is_at here) shelves = omega arith in
    subst (IsShelf here (s ∷ shelves)) next (is, rest (omega (arith, lt)))

within : (here : Address) (shelves : List Shelf) → position_or_len (is_at here) shelves < length shelves → IsShelf here shelves (position_or_len (is_at here) shelves)
within here [] lt = absurd omega (arith, lt)
within here (s ∷ shelves) lt = within_step here s shelves (is_at here s) refl (within here shelves) lt

beyond_step : (here : Address) (s : Shelf) (shelves : List Shelf) (t : Bool) → is_at here s ≡ t
    → (nat_lt (position_or_len (is_at here) shelves) (length shelves) ≡ false → shelf_at shelves here ≡ None)
    → nat_lt (cond (not t) (1 + position_or_len (is_at here) shelves) 0) (length (s ∷ shelves)) ≡ false → cond t (Some s) (shelf_at shelves here) ≡ None
beyond_step here s shelves true is rest past = absurd omega (arith, ltb-false 0 (suc (length shelves)) past)
beyond_step here s shelves false is rest past = rest (less_again (position_or_len (is_at here) shelves) (length shelves) past)

beyond : (here : Address) (shelves : List Shelf) → nat_lt (position_or_len (is_at here) shelves) (length shelves) ≡ false → shelf_at shelves here ≡ None
beyond here [] past = refl
beyond here (s ∷ shelves) past = beyond_step here s shelves (is_at here s) refl (beyond here shelves) past

found_step : (here : Address) (shelves : List Shelf) (i : ℕ) (t : Bool) → nat_lt (position_or_len (is_at here) shelves) (length shelves) ≡ t
    → cond t (Some (position_or_len (is_at here) shelves)) None ≡ Some i → IsShelf here shelves i
found_step here shelves i true lt is =
    let at : position_or_len (is_at here) shelves ≡ i = cc in
    subst (IsShelf here shelves) at (within here shelves (ltb-true _ _ lt))
found_step here shelves i false lt is = absurd (cc)

pub found : (here : Address) (shelves : List Shelf) (i : ℕ) → position (is_at here) shelves ≡ Some i → IsShelf here shelves i
found here shelves i is = found_step here shelves i (nat_lt (position_or_len (is_at here) shelves) (length shelves)) refl is

missing_step : (here : Address) (shelves : List Shelf) (t : Bool) → nat_lt (position_or_len (is_at here) shelves) (length shelves) ≡ t
    → cond t (Some (position_or_len (is_at here) shelves)) None ≡ None → shelf_at shelves here ≡ None
missing_step here shelves true lt is = absurd (cc)
missing_step here shelves false lt is = beyond here shelves lt

pub missing : (here : Address) (shelves : List Shelf) → position (is_at here) shelves ≡ None → shelf_at shelves here ≡ None
missing here shelves is = missing_step here shelves (nat_lt (position_or_len (is_at here) shelves) (length shelves)) refl is

-- ---- what stands there

test_here : (s : Shelf) (more : Option Shelf) (t : Bool) → t ≡ true → cond t (Some s) more ≡ Some s
test_here s more true is = refl
test_here s more false is = absurd (cc)

test_behind : (s : Shelf) (more : Option Shelf) (t : Bool) → t ≡ false → cond t (Some s) more ≡ more
test_behind s more true is = absurd (cc)
test_behind s more false is = refl

pub at_shelf : (here : Address) (shelves : List Shelf) (i : ℕ) (d : Shelf) → IsShelf here shelves i → shelf_at shelves here ≡ Some (get_or shelves i d)
at_shelf here [] i d is = absurd is
at_shelf here (s ∷ shelves) zero d is = test_here s (shelf_at shelves here) (is_at here s) is
at_shelf here (s ∷ shelves) (suc i) d is = test_behind s (shelf_at shelves here) (is_at here s) is.0 ∙ at_shelf here shelves i d is.1

pub stands_at : (here : Address) (shelves : List Shelf) (i : ℕ) (d : Shelf) → IsShelf here shelves i → is_at here (get_or shelves i d) ≡ true
stands_at here [] i d is = absurd is
stands_at here (s ∷ shelves) zero d is = is
stands_at here (s ∷ shelves) (suc i) d is = stands_at here shelves i d is.1

pub set_here : (here : Address) (shelves : List Shelf) (i : ℕ) (new : Shelf) → IsShelf here shelves i → is_at here new ≡ true → shelf_at (slice_set shelves i new) here ≡ Some new
set_here here [] i new is at = absurd is
set_here here (s ∷ shelves) zero new is at = test_here new (shelf_at shelves here) (is_at here new) at
set_here here (s ∷ shelves) (suc i) new is at =
    test_behind s (shelf_at (slice_set shelves i new) here) (is_at here s) is.0 ∙ set_here here shelves i new is.1 at

-- a shelf that stands elsewhere
not_at : (here other : Address) (s : Shelf) (t : Bool) → is_at other s ≡ t → is_at here s ≡ true → other ≢ here → t ≡ false
not_at here other s true is at apart =
    absurd (apart (sym (same_address-equal (address_of s) other is) ∙ same_address-equal (address_of s) here at))
not_at here other s false is at apart = refl

elsewhere : (here other : Address) (s : Shelf) → is_at here s ≡ true → other ≢ here → is_at other s ≡ false
elsewhere here other s at apart = not_at here other s (is_at other s) refl at apart

pub set_other : (here other : Address) (shelves : List Shelf) (i : ℕ) (new : Shelf) → IsShelf here shelves i → is_at here new ≡ true → other ≢ here
    → shelf_at (slice_set shelves i new) other ≡ shelf_at shelves other
set_other here other [] i new is at apart = absurd is
set_other here other (s ∷ shelves) zero new is at apart =
    test_behind new (shelf_at shelves other) (is_at other new) (elsewhere here other new at apart)
    ∙ sym (test_behind s (shelf_at shelves other) (is_at other s) (elsewhere here other s is apart))
set_other here other (s ∷ shelves) (suc i) new is at apart =
    ap (λ (more : Option Shelf). cond (is_at other s) (Some s) more) (set_other here other shelves i new is.1 at apart)

push_step : (here : Address) (s : Shelf) (shelves : List Shelf) (new : Shelf) (t : Bool) → cond t (Some s) (shelf_at shelves here) ≡ None
    → (shelf_at shelves here ≡ None → shelf_at (shelves ++ new ∷ []) here ≡ Some new)
    → cond t (Some s) (shelf_at (shelves ++ new ∷ []) here) ≡ Some new
push_step here s shelves new true none rest = absurd (cc)
push_step here s shelves new false none rest = rest none

pub push_here : (here : Address) (shelves : List Shelf) (new : Shelf) → shelf_at shelves here ≡ None → is_at here new ≡ true → shelf_at (shelves ++ new ∷ []) here ≡ Some new
push_here here [] new none at = test_here new None (is_at here new) at
push_here here (s ∷ shelves) new none at = push_step here s shelves new (is_at here s) none (λ behind. push_here here shelves new behind at)

pub push_other : (here other : Address) (shelves : List Shelf) (new : Shelf) → is_at here new ≡ true → other ≢ here → shelf_at (shelves ++ new ∷ []) other ≡ shelf_at shelves other
push_other here other [] new at apart = test_behind new None (is_at other new) (elsewhere here other new at apart)
push_other here other (s ∷ shelves) new at apart =
    ap (λ (more : Option Shelf). cond (is_at other s) (Some s) more) (push_other here other shelves new at apart)

-- ---- what holds of the shelves behind a call

pub none_there : (here : Address) (looked shelves : List Shelf) (result : Option ℕ) → looked ≡ shelves → result ≡ position (is_at here) looked → result ≡ None
    → shelf_at shelves here ≡ None
none_there here looked shelves result same is none = missing here shelves (ap (λ (xs : List Shelf). position (is_at here) xs) (sym same) ∙ (sym is ∙ none))

pub found_there : (here : Address) (looked shelves : List Shelf) (result : Option ℕ) (i : ℕ) → looked ≡ shelves → result ≡ position (is_at here) looked → result ≡ Some i
    → IsShelf here shelves i
found_there here looked shelves result i same is some = found here shelves i (ap (λ (xs : List Shelf). position (is_at here) xs) (sym same) ∙ (sym is ∙ some))

pub pushed : (here : Address) (n : ℕ) (shelves : List Shelf) → shelf_at shelves here ≡ None → shelf_at (shelves ++ lent here n ∷ []) here ≡ Some (lent here n)
pushed here n shelves none = push_here here shelves (lent here n) none (address-itself here)

pub pushed_other : (here other : Address) (n : ℕ) (shelves : List Shelf) → other ≢ here → shelf_at (shelves ++ lent here n ∷ []) other ≡ shelf_at shelves other
pushed_other here other n shelves apart = push_other here other shelves (lent here n) (address-itself here) apart

-- a shelf that was changed in its place
pub record IsChanged (here : Address) (shelves : List Shelf) (old new : Shelf) (after : List Shelf) : Type 0 where
  pub before : shelf_at shelves here ≡ Some old
  pub now : shelf_at after here ≡ Some new
  pub others : (other : Address) → other ≢ here → shelf_at after other ≡ shelf_at shelves other

pub changed : (here : Address) (shelves : List Shelf) (i : ℕ) (old new : Shelf) → IsShelf here shelves i → old ≡ get_or shelves i old
    → address_of new ≡ address_of old → IsChanged here shelves old new (slice_set shelves i new)
changed here shelves i old new at stands same =
    let is : is_at here old ≡ true = subst (λ (s : Shelf). is_at here s ≡ true) (sym stands) (stands_at here shelves i old at) in
    let still : is_at here new ≡ true = ap (λ (a : Address). same_address a here) same ∙ is in
    record {
      before = at_shelf here shelves i old at ∙ ap Some (sym stands);
      now = set_here here shelves i new at still;
      others = λ other apart. set_other here other shelves i new at still apart;
    }

-- ---- what is taken

pub not-both : false ≡ true → ⊥
not-both is = absurd (cc)

pub not-taken : (shelves : List Shelf) (here : Address) → IsSome (taken_at shelves here) → shelf_at shelves here ≡ None → ⊥
not-taken shelves here taken none = not-both (subst (λ (s : Option Shelf). IsSome (taken_of s)) none taken)

-- what an answer that went well gives, given on
pub on-ok : {A E P Q : Type 0} (r : Result A E) → (P → Q) → OnOk r P → OnOk r Q
on-ok (Ok x) f p = f p
on-ok (Err e) f p = tt
