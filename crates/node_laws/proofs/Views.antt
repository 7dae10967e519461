-- What views that follow each other have: each number once, a last one, and a holder of each place.
use Rattle.std.proofs.Common.{Bool, List, None, Option, Some, ap, arith, cond, false, inl, inr, length, nat_le, nat_lt, refl, subst, sym, true, ℕ, ◌≡◌, ◌≤◌, ◌<◌, ◌∙◌, ◌+◌, ◌-◌, ◌&&◌, ◌==◌, [], ◌∷◌}
use Rattle.std.proofs.lemmas.Bool.{and_from, eq-eqb, eqb-true, le-leb, leb-true, ltb-true, lt-ltb}
use Rattle.smart_base.specs.Lists.{or_else}
use Rattle.smart_base.specs.Views.{View, is_view, present}
use Rattle.smart_base.proofs.SameLists.{and_true}
use Rattle.certificates.specs.Collects.{view_holding, view_numbered}
use Rattle.snapshot_form.specs.Replicas.{follow, is_next_view}
use Rattle.vote_book.specs.Books.{Among}
use Rattle.agreement_laws.proofs.Lists.{each_among, some_equal}
use Rattle.node_laws.specs.Sound.{AreViews, HasBegun, IsIn, IsKnown, view_for}

-- ---- the next view

pub record IsNext (place number start : ℕ) (v : View) : Type 0 where
  pub number_is : v.number ≡ number + 1
  pub later : start < v.start
  pub low : v.start ≤ place + 1

pub next_is : (place number start : ℕ) (v : View) → is_next_view place number start v ≡ true → IsNext place number start v
next_is place number start v is =
    let outer = and_true ((v.number == number + 1) && nat_lt start v.start) (nat_le v.start (place + 1)) is in
    let inner = and_true (v.number == number + 1) (nat_lt start v.start) outer.0 in
    record { number_is = eqb-true v.number (number + 1) inner.0; later = ltb-true start v.start inner.1; low = leb-true v.start (place + 1) outer.1 }

pub next_more : (place place' number start : ℕ) (v : View) → place ≤ place' → IsNext place number start v → is_next_view place' number start v ≡ true
next_more place place' number start v more is =
    let low = is.low in
    and_from ((v.number == number + 1) && nat_lt start v.start) (nat_le v.start (place' + 1))
    (and_from (v.number == number + 1) (nat_lt start v.start) (eq-eqb v.number (number + 1) is.number_is) (lt-ltb start v.start is.later))
    (le-leb v.start (place' + 1) (omega (arith, low, more)))

pub follow_more : (place place' number start : ℕ) (vs : List View) → place ≤ place' → follow place number start vs ≡ true → follow place' number start vs ≡ true
follow_more place place' number start [] more is = refl
follow_more place place' number start (v ∷ vs) more is =
    let parts = and_true (is_next_view place number start v) (follow place v.number v.start vs) is in
    and_from (is_next_view place' number start v) (follow place' v.number v.start vs)
    (next_more place place' number start v more (next_is place number start v parts.0)) (follow_more place place' v.number v.start vs more parts.1)

-- each of them starts by the next place
pub follow_low : (place number start : ℕ) (vs : List View) (u : View) → follow place number start vs ≡ true → Among u vs → u.start ≤ place + 1
follow_low place number start [] u is none = absurd none
follow_low place number start (v ∷ vs) u is (inl same) =
    let low = (next_is place number start v (and_true (is_next_view place number start v) (follow place v.number v.start vs) is).0).low in
    subst (λ (x : View). x.start ≤ place + 1) (sym same) low
follow_low place number start (v ∷ vs) u is (inr there) =
    follow_low place v.number v.start vs u (and_true (is_next_view place number start v) (follow place v.number v.start vs) is).1 there

-- what has begun by a place has begun by each later one
pub begun_later : (views : List View) (place place' : ℕ) (v : View) → place ≤ place' → HasBegun views place v → HasBegun views place' v
begun_later views place place' v more (inl low) = inl (omega (arith, low, more))
begun_later views place place' v more (inr first) = inr first

-- views of a place are views of each later one
pub are_more : (first : View) (place place' : ℕ) (views : List View) → place ≤ place' → AreViews first place views → AreViews first place' views
are_more first place place' views more are = record {
  rest = are.rest;
  begins = are.begins;
  follows = follow_more place place' first.number 0 are.rest more are.follows;
  valid = are.valid;
}

-- ---- each number once

follow_above : (place number start : ℕ) (vs : List View) (v : View) → follow place number start vs ≡ true → Among v vs → number < v.number
follow_above place number start [] v is there = absurd there
follow_above place number start (w ∷ ws) v is (inl same) =
    let parts = and_true (is_next_view place number start w) (follow place w.number w.start ws) is in
    let at = (next_is place number start w parts.0).number_is in
    let here : v.number ≡ w.number = ap (λ (x : View). x.number) same in
    omega (arith, at, here)
follow_above place number start (w ∷ ws) v is (inr there) =
    let parts = and_true (is_next_view place number start w) (follow place w.number w.start ws) is in
    let at = (next_is place number start w parts.0).number_is in
    let above = follow_above place w.number w.start ws v parts.1 there in
    omega (arith, at, above)

follow_once : (place number start : ℕ) (vs : List View) (u v : View) → follow place number start vs ≡ true → Among u vs → Among v vs → u.number ≡ v.number → u ≡ v
follow_once place number start [] u v is there other same = absurd there
follow_once place number start (w ∷ ws) u v is (inl a) (inl b) same = a ∙ sym b
follow_once place number start (w ∷ ws) u v is (inl a) (inr b) same =
    let parts = and_true (is_next_view place number start w) (follow place w.number w.start ws) is in
    let above = follow_above place w.number w.start ws v parts.1 b in
    let here : u.number ≡ w.number = ap (λ (x : View). x.number) a in
    absurd (omega (arith, above, here, same))
follow_once place number start (w ∷ ws) u v is (inr a) (inl b) same =
    let parts = and_true (is_next_view place number start w) (follow place w.number w.start ws) is in
    let above = follow_above place w.number w.start ws u parts.1 a in
    let here : v.number ≡ w.number = ap (λ (x : View). x.number) b in
    absurd (omega (arith, above, here, same))
follow_once place number start (w ∷ ws) u v is (inr a) (inr b) same =
    let parts = and_true (is_next_view place number start w) (follow place w.number w.start ws) is in
    follow_once place w.number w.start ws u v parts.1 a b same

first_once : (place start : ℕ) (w : View) (ws : List View) (u v : View) → follow place w.number start ws ≡ true → Among u (w ∷ ws) → Among v (w ∷ ws) → u.number ≡ v.number → u ≡ v
first_once place start w ws u v is (inl a) (inl b) same = a ∙ sym b
first_once place start w ws u v is (inl a) (inr b) same =
    let above = follow_above place w.number start ws v is b in
    let here : u.number ≡ w.number = ap (λ (x : View). x.number) a in
    absurd (omega (arith, above, here, same))
first_once place start w ws u v is (inr a) (inl b) same =
    let above = follow_above place w.number start ws u is a in
    let here : v.number ≡ w.number = ap (λ (x : View). x.number) b in
    absurd (omega (arith, above, here, same))
first_once place start w ws u v is (inr a) (inr b) same = follow_once place w.number start ws u v is a b same

-- ---- the view in force

pub present_among : (v : View) (vs : List View) → Among (present (v ∷ vs)) (v ∷ vs)
present_among v [] = inl refl
present_among v (w ∷ ws) = inr (present_among w ws)

follow_most : (place number start : ℕ) (v : View) (vs : List View) (u : View) → follow place number start (v ∷ vs) ≡ true → Among u (v ∷ vs) → u.number ≤ (present (v ∷ vs)).number
follow_most place number start v [] u is (inl same) = let here : u.number ≡ v.number = ap (λ (x : View). x.number) same in omega (arith, here)
follow_most place number start v [] u is (inr none) = absurd none
follow_most place number start v (w ∷ ws) u is (inl same) =
    let parts = and_true (is_next_view place number start v) (follow place v.number v.start (w ∷ ws)) is in
    let here : u.number ≡ v.number = ap (λ (x : View). x.number) same in
    let above = follow_above place v.number v.start (w ∷ ws) (present (w ∷ ws)) parts.1 (present_among w ws) in
    omega (arith, here, above)
follow_most place number start v (w ∷ ws) u is (inr there) =
    let parts = and_true (is_next_view place number start v) (follow place v.number v.start (w ∷ ws)) is in
    follow_most place v.number v.start w ws u parts.1 there

first_most : (place start : ℕ) (v : View) (vs : List View) (u : View) → follow place v.number start vs ≡ true → Among u (v ∷ vs) → u.number ≤ (present (v ∷ vs)).number
first_most place start v [] u is (inl same) = let here : u.number ≡ v.number = ap (λ (x : View). x.number) same in omega (arith, here)
first_most place start v [] u is (inr none) = absurd none
first_most place start v (w ∷ ws) u is (inl same) =
    let here : u.number ≡ v.number = ap (λ (x : View). x.number) same in
    let above = follow_above place v.number start (w ∷ ws) (present (w ∷ ws)) is (present_among w ws) in
    omega (arith, here, above)
first_most place start v (w ∷ ws) u is (inr there) = follow_most place v.number start w ws u is there

-- where it is not the first, it starts by the next place
behind_low : (first : View) (place : ℕ) (rest : List View) → follow place first.number 0 rest ≡ true → nat_le (length (first ∷ rest)) 1 ≡ false → (present (first ∷ rest)).start ≤ place + 1
behind_low first place [] is more = absurd (cc)
behind_low first place (v ∷ vs) is more = follow_low place first.number 0 (v ∷ vs) (present (v ∷ vs)) is (present_among v vs)

-- ---- who holds a place, and who has a number

pub holding_among : (views : List View) (place : ℕ) (v : View) → view_holding views place ≡ Some v → Among v views
holding_among [] place v is = absurd (cc)
holding_among (w ∷ ws) place v is = by (view_holding ws place) refl is (λ later. holding_among ws place v later)
  where
    here : (t : Bool) → cond t (Some w) None ≡ Some v → Among v (w ∷ ws)
    here true said = inl (sym (some_equal w v said))
    here false said = absurd (cc)

    by : (o : Option View) → view_holding ws place ≡ o → or_else o (cond (nat_le w.start place) (Some w) None) ≡ Some v → (view_holding ws place ≡ Some v → Among v ws) → Among v (w ∷ ws)
    by None at said rest = here (nat_le w.start place) said
    by (Some x) at said rest = inr (rest (at ∙ said))

pub held_among : (views : List View) (place : ℕ) (v : View) → view_for views place ≡ Some v → Among v views
held_among [] place v is = absurd (cc)
held_among (w ∷ ws) place v is = by (view_holding ws place) refl is
  where
    by : (o : Option View) → view_holding ws place ≡ o → or_else o (Some w) ≡ Some v → Among v (w ∷ ws)
    by None at said = inl (sym (some_equal w v said))
    by (Some x) at said = inr (holding_among ws place v (at ∙ said))

follow_holds : (place number start : ℕ) (v : View) (vs : List View) → follow place number start (v ∷ vs) ≡ true → view_holding (v ∷ vs) (place + 1) ≡ Some (present (v ∷ vs))
follow_holds place number start v [] is =
    let parts = and_true (is_next_view place number start v) true is in
    let low = (next_is place number start v parts.0).low in
    ap (λ (t : Bool). cond t (Some v) None) (le-leb v.start (place + 1) low)
follow_holds place number start v (w ∷ ws) is =
    let parts = and_true (is_next_view place number start v) (follow place v.number v.start (w ∷ ws)) is in
    let rest = follow_holds place v.number v.start w ws parts.1 in
    ap (λ (o : Option View). or_else o (cond (nat_le v.start (place + 1)) (Some v) None)) rest

-- the view in force holds the next place
first_holds : (place start : ℕ) (v : View) (vs : List View) → follow place v.number start vs ≡ true → view_for (v ∷ vs) (place + 1) ≡ Some (present (v ∷ vs))
first_holds place start v [] is = refl
first_holds place start v (w ∷ ws) is = ap (λ (o : Option View). or_else o (Some v)) (follow_holds place v.number start w ws is)

pub record HasNumber (views : List View) (number : ℕ) (v : View) : Type 0 where
  pub there : Among v views
  pub number_is : v.number ≡ number

pub numbered_has : (views : List View) (number : ℕ) (v : View) → view_numbered views number ≡ Some v → HasNumber views number v
numbered_has [] number v is = absurd (cc)
numbered_has (w ∷ ws) number v is = by (w.number == number) refl is (λ said. numbered_has ws number v said)
  where
    by : (t : Bool) → (w.number == number) ≡ t → cond t (Some w) (view_numbered ws number) ≡ Some v → (view_numbered ws number ≡ Some v → HasNumber ws number v) → HasNumber (w ∷ ws) number v
    by true at said rest =
        let same : w ≡ v = some_equal w v said in
        record { there = inl (sym same); number_is = ap (λ (x : View). x.number) (sym same) ∙ eqb-true w.number number at }
    by false at said rest = let later = rest said in record { there = inr later.there; number_is = later.number_is }

pub some_numbered : (views : List View) (v : View) → Among v views → IsKnown views v.number
some_numbered [] v there = absurd there
some_numbered (w ∷ ws) v there = by (w.number == v.number) refl there (λ later. some_numbered ws v later)
  where
    by : (t : Bool) → (w.number == v.number) ≡ t → Among v (w ∷ ws) → (Among v ws → IsKnown ws v.number) → IsKnown (w ∷ ws) v.number
    by true at any rest = record { view = w; is = ap (λ (t : Bool). cond t (Some w) (view_numbered ws v.number)) at }
    by false at (inl same) rest = absurd (let here : (w.number == v.number) ≡ true = eq-eqb w.number v.number (ap (λ (x : View). x.number) (sym same)) in cc)
    by false at (inr later) rest =
        let known = rest later in
        record { view = known.view; is = ap (λ (t : Bool). cond t (Some w) (view_numbered ws v.number)) at ∙ known.is }

-- ---- of a replica

module _ (first : View) (place : ℕ) (views : List View) (are : AreViews first place views) where
  -- each number is of one view
  pub number_once : (u v : View) → Among u views → Among v views → u.number ≡ v.number → u ≡ v
  number_once u v there other same =
      first_once place 0 first are.rest u v are.follows (subst (Among u) are.begins there) (subst (Among v) are.begins other) same

  -- a known view is found by its number
  pub numbered_is : (v : View) → Among v views → view_numbered views v.number ≡ Some v
  numbered_is v there =
      let known = some_numbered views v there in
      let has = numbered_has views v.number known.view known.is in
      known.is ∙ ap (λ (x : View). Some x) (number_once known.view v has.there there has.number_is)

  pub in_force_among : Among (present views) views
  in_force_among = subst (λ (vs : List View). Among (present vs) vs) (sym are.begins) (present_among first are.rest)

  pub in_force_valid : is_view (present views) ≡ true
  in_force_valid = each_among (λ v. is_view v ≡ true) views (present views) are.valid in_force_among

  -- what holds of the view in force holds of each known view of its number
  pub of_number : (P : View → Type 0) (v : View) → Among v views → (present views).number ≡ v.number → P (present views) → P v
  of_number P v there same has = subst P (number_once (present views) v in_force_among there same) has

  pub in_force_known : IsKnown views (present views).number
  in_force_known = record { view = present views; is = numbered_is (present views) in_force_among }

  -- if it is not the first, it starts by the next place
  pub in_force_low : nat_le (length views) 1 ≡ false → (present views).start ≤ place + 1
  in_force_low more =
      subst (λ (vs : List View). nat_le (length vs) 1 ≡ false → (present vs).start ≤ place + 1) (sym are.begins) (behind_low first place are.rest are.follows) more

  -- it holds the next place
  pub holds_next : view_for views (place + 1) ≡ Some (present views)
  holds_next = subst (λ (vs : List View). view_for vs (place + 1) ≡ Some (present vs)) (sym are.begins) (first_holds place 0 first are.rest are.follows)

  pub in_force_next : IsIn views (place + 1) (present views).number
  in_force_next = record {
    view = present views;
    holds = subst (λ (vs : List View). view_for vs (place + 1) ≡ Some (present vs)) (sym are.begins) (first_holds place 0 first are.rest are.follows);
    number_is = refl;
  }

  -- each known view has begun by the next place
  pub known_begun : (number : ℕ) (known : IsKnown views number) → HasBegun views (place + 1) known.view
  known_begun number known = by (subst (Among known.view) are.begins (numbered_has views number known.view known.is).there)
    where
      by : Among known.view (first ∷ are.rest) → HasBegun views (place + 1) known.view
      by (inl same) = inr (are.rest, are.begins ∙ ap (λ (v : View). v ∷ are.rest) (sym same))
      by (inr behind) = inl (follow_low place first.number 0 are.rest known.view are.follows behind)

  -- no known number is later
  pub known_most : (number : ℕ) → IsKnown views number → number ≤ (present views).number
  known_most number known =
      let has = numbered_has views number known.view known.is in
      let most = subst (λ (vs : List View). known.view.number ≤ (present vs).number) (sym are.begins)
      (first_most place 0 first are.rest known.view are.follows (subst (Among known.view) are.begins has.there)) in
      let same = has.number_is in
      omega (arith, most, same)

  -- nor later than the one that holds a later place
  pub known_upto : (number k : ℕ) → IsKnown views number → place < k → (v : View) → view_for views k ≡ Some v → number ≤ v.number
  known_upto number k known more v holds =
      let before : k - 1 + 1 ≡ k = omega (arith, more) in
      let last = in_force_later (k - 1) (omega (arith, more)) in
      let same : present views ≡ v = some_equal (present views) v (sym last ∙ (ap (λ (i : ℕ). view_for views i) before ∙ holds)) in
      subst (λ (u : View). number ≤ u.number) same (known_most number known)
    where
      in_force_later : (i : ℕ) → place ≤ i → view_for views (i + 1) ≡ Some (present views)
      in_force_later i more =
          let later = are_more first place i views more are in
          subst (λ (vs : List View). view_for vs (i + 1) ≡ Some (present vs)) (sym later.begins) (first_holds i 0 first later.rest later.follows)
