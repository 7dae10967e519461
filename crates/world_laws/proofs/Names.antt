-- The names of hosts, and hosts with one more.
use Rattle.std.proofs.Common.{◌≡◌, ℕ, zero, suc, ◌+◌, ◌<◌, ◌∙◌, ◌==◌, ◌&&◌, ◌||◌, not, Bool, true, false, cond, List, [], ◌∷◌, length, filter, refl, ap, sym, subst, arith, Some, None, is_some, nat_lt, eqb-true, eq-eqb, lt-ltb, ◌⊎◌, inl, inr, ⊎_elim}
use Rattle.std.specs.Prelude.{insert, map}
use Rattle.std.specs.List.{list_any, position, position_or_len}
use Rattle.std.proofs.lemmas.Bool.{ltb-true, or_parts}
use Rattle.smart_base.specs.Lists.{Distinct, Each}
use Rattle.smart_base.specs.Views.{View, is_member, is_view}
use Rattle.smart_base.proofs.ViewFacts.{view-distinct}
use Rattle.world_rules.specs.Worlds.{Host, host_index}
use Rattle.agreement_laws.proofs.Lists.{among_number, each_from, or_true}

-- ---- a value that is put among others

pub map_insert : {A B : Type 0} (f : A → B) (xs : List A) (i : ℕ) (x : A) → map f (insert xs i x) ≡ insert (map f xs) i (f x)
map_insert f xs zero x = refl
map_insert f [] (suc i) x = refl
map_insert {B = B} f (y ∷ ys) (suc i) x = ap (λ (zs : List B). f y ∷ zs) (map_insert f ys i x)

-- a test that passes none of them, and not the value
pub none_insert : {A : Type 0} (p : A → Bool) (xs : List A) (i : ℕ) (x : A) → p x ≡ false → list_any p xs ≡ false → list_any p (insert xs i x) ≡ false
none_insert p xs zero x here none = ap (λ (t : Bool). t || list_any p xs) here ∙ none
none_insert p [] (suc i) x here none = ap (λ (t : Bool). t || false) here
none_insert p (y ∷ ys) (suc i) x here none =
    let parts = or_parts (p y) (list_any p ys) none in
    ap (λ (t : Bool). t || list_any p (insert ys i x)) parts.0 ∙ none_insert p ys i x here parts.1

or_later : (a b : Bool) → b ≡ true → (a || b) ≡ true
or_later true b is = refl
or_later false b is = is

or_more : (a b c : Bool) → (b ≡ true → c ≡ true) → (a || b) ≡ true → (a || c) ≡ true
or_more true b c more is = refl
or_more false b c more is = more is

-- one that passes one of them
pub any_insert : {A : Type 0} (p : A → Bool) (xs : List A) (i : ℕ) (x : A) → list_any p xs ≡ true → list_any p (insert xs i x) ≡ true
any_insert p xs zero x some = or_later (p x) (list_any p xs) some
any_insert p [] (suc i) x some = absurd (cc)
any_insert p (y ∷ ys) (suc i) x some = or_more (p y) (list_any p ys) (list_any p (insert ys i x)) (any_insert p ys i x) some

-- one that passes none with the value
pub none_before : {A : Type 0} (p : A → Bool) (xs : List A) (i : ℕ) (x : A) → list_any p (insert xs i x) ≡ false → list_any p xs ≡ false
none_before p xs i x none = by (list_any p xs) refl
  where
    both : true ≡ false → ⊥
    both same = cc

    by : (t : Bool) → list_any p xs ≡ t → t ≡ false
    by true some = absurd (both (sym (any_insert p xs i x some) ∙ none))
    by false is = refl

-- one that passes the value
pub here_insert : {A : Type 0} (p : A → Bool) (xs : List A) (i : ℕ) (x : A) → p x ≡ true → list_any p (insert xs i x) ≡ true
here_insert p xs zero x is = ap (λ (t : Bool). t || list_any p xs) is
here_insert p [] (suc i) x is = ap (λ (t : Bool). t || false) is
here_insert p (y ∷ ys) (suc i) x is = or_later (p y) (list_any p (insert ys i x)) (here_insert p ys i x is)

-- and what it passes then: the value, or one of them
pub either_insert : {A : Type 0} (p : A → Bool) (xs : List A) (i : ℕ) (x : A) → list_any p (insert xs i x) ≡ true → (p x ≡ true) ⊎ (list_any p xs ≡ true)
either_insert p xs zero x some = or_true (p x) (list_any p xs) some
either_insert p [] (suc i) x some = or_true (p x) false some
either_insert p (y ∷ ys) (suc i) x some =
    ⊎_elim {C = (p x ≡ true) ⊎ ((p y || list_any p ys) ≡ true)} (λ here. inr (ap (λ (t : Bool). t || list_any p ys) here))
    (λ later. ⊎_elim {C = (p x ≡ true) ⊎ ((p y || list_any p ys) ≡ true)} (λ is. inl is) (λ rest. inr (or_later (p y) (list_any p ys) rest)) (either_insert p ys i x later))
    (or_true (p y) (list_any p (insert ys i x)) some)

-- one that does not pass the value
pub filter_insert : {A : Type 0} (p : A → Bool) (xs : List A) (i : ℕ) (x : A) → p x ≡ false → filter p (insert xs i x) ≡ filter p xs
filter_insert {A = A} p xs zero x here = ap (λ (t : Bool). cond t (x ∷ filter p xs) (filter p xs)) here
filter_insert {A = A} p [] (suc i) x here = ap (λ (t : Bool). cond t (x ∷ []) []) here
filter_insert {A = A} p (y ∷ ys) (suc i) x here = ap (λ (zs : List A). cond (p y) (y ∷ zs) zs) (filter_insert p ys i x here)

other_way : (a b : ℕ) → (a == b) ≡ false → (b == a) ≡ false
other_way a b differ = by (b == a) refl
  where
    both : true ≡ false → ⊥
    both same = cc

    by : (t : Bool) → (b == a) ≡ t → t ≡ false
    by true is = absurd (both (sym (eq-eqb a b (sym (eqb-true b a is))) ∙ differ))
    by false is = refl

-- a number that is none of them
pub distinct_insert : (xs : List ℕ) (i x : ℕ) → list_any (λ y. y == x) xs ≡ false → Distinct xs → Distinct (insert xs i x)
distinct_insert xs zero x none once = (none, once)
distinct_insert [] (suc i) x none once = (refl, tt)
distinct_insert (y ∷ ys) (suc i) x none once =
    let parts = or_parts (y == x) (list_any (λ z. z == x) ys) none in
    (none_insert (λ z. z == y) ys i x (other_way y x parts.0) once.0, distinct_insert ys i x parts.1 once.1)

-- ---- tests

-- two tests after another
pub filter_both : {A : Type 0} (p q : A → Bool) (xs : List A) → filter q (filter p xs) ≡ filter (λ x. p x && q x) xs
filter_both p q [] = refl
filter_both {A = A} p q (x ∷ xs) = by (p x) (filter_both p q xs)
  where
    by : (t : Bool) → filter q (filter p xs) ≡ filter (λ y. p y && q y) xs
        → filter q (cond t (x ∷ filter p xs) (filter p xs)) ≡ cond (t && q x) (x ∷ filter (λ y. p y && q y) xs) (filter (λ y. p y && q y) xs)
    by true rest = ap (λ (zs : List A). cond (q x) (x ∷ zs) zs) rest
    by false rest = rest

-- what one passes that pass another, it passes
pub any_filtered : {A : Type 0} (q p : A → Bool) (xs : List A) → list_any q (filter p xs) ≡ true → list_any q xs ≡ true
any_filtered q p [] some = some
any_filtered {A = A} q p (x ∷ xs) some = by (p x) (any_filtered q p xs) some
  where
    by : (t : Bool) → (list_any q (filter p xs) ≡ true → list_any q xs ≡ true) → list_any q (cond t (x ∷ filter p xs) (filter p xs)) ≡ true → (q x || list_any q xs) ≡ true
    by true rest is = or_more (q x) (list_any q (filter p xs)) (list_any q xs) rest is
    by false rest is = or_later (q x) (list_any q xs) (rest is)

-- one that passes all
pub filter_all : {A : Type 0} (p : A → Bool) (xs : List A) → Each (λ x. p x ≡ true) xs → filter p xs ≡ xs
filter_all p [] each = refl
filter_all {A = A} p (x ∷ xs) each =
    ap (λ (t : Bool). cond t (x ∷ filter p xs) (filter p xs)) each.0 ∙ ap (λ (zs : List A). x ∷ zs) (filter_all p xs each.1)

-- ---- where a name stands

some_cond : (t : Bool) (n : ℕ) → is_some (cond t (Some n) None) ≡ true → t ≡ true
some_cond true n is = refl
some_cond false n is = absurd (cc)

some_step : (t : Bool) (n len : ℕ) → (t ≡ false → is_some (cond (nat_lt n len) (Some n) None) ≡ true)
    → is_some (cond (nat_lt (cond (not t) (1 + n) 0) (suc len)) (Some (cond (not t) (1 + n) 0)) None) ≡ true
some_step true n len more = rw (lt-ltb 0 (suc len) (omega arith)) refl
some_step false n len more =
    let lt : n < len = ltb-true n len (some_cond (nat_lt n len) n (more refl)) in
    rw (lt-ltb (1 + n) (suc len) (omega (arith, lt))) refl

or_false : (a b : Bool) → (a || b) ≡ true → a ≡ false → b ≡ true
or_false true b is e = absurd (cc)
or_false false b is e = is

-- a number among those of some values is that of one of them
pub has_position : {A : Type 0} (number : A → ℕ) (xs : List A) (n : ℕ) → list_any (λ k. k == n) (map number xs) ≡ true → is_some (position (λ x. number x == n) xs) ≡ true
has_position number [] n among = absurd (cc)
has_position number (x ∷ xs) n among =
    some_step (number x == n) (position_or_len (λ y. number y == n) xs) (length xs)
    (λ other. has_position number xs n (or_false (number x == n) (list_any (λ k. k == n) (map number xs)) among other))

one_more : (a b : ℕ) → a ≡ b → 1 + a ≡ suc b
one_more a b same = omega (arith, same)

-- one that is not among them is of none
past_all : {A : Type 0} (number : A → ℕ) (xs : List A) (n : ℕ) → list_any (λ k. k == n) (map number xs) ≡ false → position_or_len (λ x. number x == n) xs ≡ length xs
past_all number [] n none = refl
past_all number (x ∷ xs) n none =
    let parts = or_parts (number x == n) (list_any (λ k. k == n) (map number xs)) none in
    let first : ℕ = position_or_len (λ y. number y == n) xs in
    ap (λ (t : Bool). cond (not t) (1 + first) 0) parts.0 ∙ one_more first (length xs) (past_all number xs n parts.1)

never_below : (n : ℕ) → is_some (cond (nat_lt n n) (Some n) None) ≡ false
never_below n = by (nat_lt n n) refl
  where
    by : (t : Bool) → nat_lt n n ≡ t → is_some (cond t (Some n) None) ≡ false
    by true is = let less = ltb-true n n is in absurd (omega (arith, less))
    by false is = refl

no_position : {A : Type 0} (number : A → ℕ) (xs : List A) (n : ℕ) → list_any (λ k. k == n) (map number xs) ≡ false → is_some (position (λ x. number x == n) xs) ≡ false
no_position {A = A} number xs n none = ap (λ (k : ℕ). is_some (cond (nat_lt k (length xs)) (Some k) None)) (past_all number xs n none) ∙ never_below (length xs)

-- ---- the names of hosts

abbrev pub names : {S : Type 0} → List (Host S) → List ℕ
names hosts = map (λ h. h.node.id) hosts

both_ways : true ≡ false → ⊥
both_ways same = cc

-- a member without a host has none of these names
pub none_named : {S : Type 0} (hosts : List (Host S)) (member : ℕ) → is_some (host_index hosts member) ≡ false → list_any (λ k. k == member) (names hosts) ≡ false
none_named {S = S} hosts member none = by (list_any (λ k. k == member) (names hosts)) refl
  where
    by : (t : Bool) → list_any (λ k. k == member) (names hosts) ≡ t → t ≡ false
    by true is = absurd (both_ways (sym (has_position (λ (h : Host S). h.node.id) hosts member is) ∙ none))
    by false is = refl

-- one that has a host has one of them
pub named_there : {S : Type 0} (hosts : List (Host S)) (member : ℕ) → is_some (host_index hosts member) ≡ true → list_any (λ k. k == member) (names hosts) ≡ true
named_there {S = S} hosts member some = by (list_any (λ k. k == member) (names hosts)) refl
  where
    by : (t : Bool) → list_any (λ k. k == member) (names hosts) ≡ t → t ≡ true
    by true is = refl
    by false is = absurd (both_ways (sym some ∙ no_position (λ (h : Host S). h.node.id) hosts member is))

-- Names of which those of a view's members are all of them, in their order. None stands twice.
pub record AreNames (view : View) (ids : List ℕ) : Type 0 where
  pub members : filter (is_member view) ids ≡ view.members
  pub once : Distinct ids

-- each member of the view is among them
member_named : (view : View) (ids : List ℕ) (member : ℕ) → AreNames view ids → is_member view member ≡ true → list_any (λ k. k == member) ids ≡ true
member_named view ids member are is = any_filtered (λ k. k == member) (is_member view) ids (subst (λ (ms : List ℕ). list_any (λ k. k == member) ms ≡ true) (sym are.members) is)

not_member : (view : View) (ids : List ℕ) (member : ℕ) → AreNames view ids → list_any (λ k. k == member) ids ≡ false → is_member view member ≡ false
not_member view ids member are none = by (is_member view member) refl
  where
    by : (t : Bool) → is_member view member ≡ t → t ≡ false
    by true is = absurd (both_ways (sym (member_named view ids member are is) ∙ none))
    by false is = refl

-- a name that is new
pub names_insert : (view : View) (ids : List ℕ) (i member : ℕ) → AreNames view ids → list_any (λ k. k == member) ids ≡ false → AreNames view (insert ids i member)
names_insert view ids i member are none = record {
  members = filter_insert (is_member view) ids i member (not_member view ids member are none) ∙ are.members;
  once = distinct_insert ids i member none are.once;
}

-- a view's members are such
pub names_first : (view : View) → is_view view ≡ true → AreNames view view.members
names_first view viewed = record {
  members = filter_all (is_member view) view.members (each_from (λ (m : ℕ). is_member view m ≡ true) view.members (λ m there. among_number view.members m there));
  once = view-distinct view viewed;
}
