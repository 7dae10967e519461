-- The views that batches make of a group's first view.
use Rattle.std.proofs.Common.{Bool, List, None, Some, ap, append-nil, append_assoc, arith, cond, drop, inl, inr, length, refl, subst, suc, sym, take, true, zero, ℕ, ◌≡◌, ◌⊎◌, ◌≤◌, ◌<◌, ◌^◌, ◌∙◌, ◌+◌, ◌-◌, ◌++◌, [], ◌∷◌}
use Rattle.std.proofs.lemmas.Bool.{le-leb}
use Rattle.std.proofs.lemmas.List.{length-take-le, take-append-drop}
use Rattle.certificates.specs.Collects.{view_holding}
use Rattle.agreement_laws.proofs.Lists.{among_either}
use Rattle.vote_book.specs.Books.{Among}
use Rattle.smart_base.specs.Lists.{Each, or_else}
use Rattle.smart_base.specs.Views.{View, is_view, present}
use Rattle.smart_statements.specs.Batches.{Batch}
use Rattle.replica_rules.specs.Replicas.{Managed, managed, managed_from, manages_all, view_at, views_after}
use Rattle.replica_rules.specs.Seals.{is_alone}
use Rattle.replica_rules.proofs.Managed.{AtMostOne, IsBegunAt, managed_append, managed_views, one_batch, views_begin, views_none}
use Rattle.node_laws.proofs.Growing.{StartPast, are_grown, for_end, present_behind, start_past}
use Rattle.node_laws.proofs.Views.{are_more, holds_next, present_among}
use Rattle.node_laws.specs.Sound.{AreViews, view_for}

-- a batch at a place makes views of the place
are_one : (first : View) (place : ℕ) (views more : List View) → AreViews first place views → AtMostOne (place + 1) views more → place + 1 < 2 ^ 63 → AreViews first (place + 1) more
are_one first place views more are (inl same) low = subst (λ (vs : List View). AreViews first (place + 1) vs) (sym same) (are_more first place (place + 1) views (omega arith) are)
are_one first place views more are (inr one) low =
    let begun = one.2 in
    let start = begun.start_is in
    subst (λ (vs : List View). AreViews first (place + 1) vs) (sym one.1)
    (are_grown first place (place + 1) views one.0 are (omega arith) (begun.valid low) begun.number_is (omega (arith, start)) (omega (arith, start)))

-- batches behind a place
are_from : (first : View) (place : ℕ) (g : Managed) (list : List Batch) → AreViews first place g.views → Each (λ (b : Batch). is_alone b ≡ true) list → place + length list < 2 ^ 63
    → AreViews first (place + length list) (managed_from (place + 1) g list).views
are_from first place g [] are alone low = let same : place ≡ place + 0 = omega arith in subst (λ (k : ℕ). AreViews first k g.views) same are
are_from first place g (b ∷ bs) are alone low =
    let same : place + 1 + length bs ≡ place + suc (length bs) = omega arith in
    subst (λ (k : ℕ). AreViews first k (managed_from (place + 1 + 1) (manages_all (place + 1) g b) bs).views) same
    (are_from first (place + 1) (manages_all (place + 1) g b) bs (are_one first place g.views (manages_all (place + 1) g b).views are (one_batch (place + 1) g b alone.0) (omega (arith, low))) alone.1
    (omega (arith, low)))

-- A list of batches in each of which a request of the view manager stands alone makes views of its last place, and of each later one.
pub after_are : (view : View) (list : List Batch) (place : ℕ) → is_view view ≡ true → Each (λ (b : Batch). is_alone b ≡ true) list → length list < 2 ^ 63 → length list ≤ place
    → AreViews view place (views_after view list)
after_are view list place viewed alone few low =
    let begun : AreViews view 0 (view ∷ []) = record { rest = []; begins = refl; follows = refl; valid = (viewed, tt) } in
    subst (λ (vs : List View). AreViews view place vs) (managed_views view list)
    (are_more view (length list) place (managed view list).views low
    (subst (λ (k : ℕ). AreViews view k (managed view list).views) (omega arith) (are_from view 0 (record { seq = 0; views = view ∷ [] }) list begun alone (omega (arith, few)))))

-- ---- where more batches are behind a list, views that they make start behind its next place

grown_from : (place : ℕ) (g : Managed) (list : List Batch) → Each (λ (b : Batch). is_alone b ≡ true) list
    → (more : List View) × ((managed_from (place + 1) g list).views ≡ g.views ++ more) × StartPast (place + 1) more
grown_from place g [] alone = ([], sym (append-nil g.views), tt)
grown_from place g (b ∷ bs) alone = by (one_batch (place + 1) g b alone.0) (grown_from (place + 1) (manages_all (place + 1) g b) bs alone.1)
  where
    by : AtMostOne (place + 1) g.views (manages_all (place + 1) g b).views
        → ((more : List View) × ((managed_from (place + 1 + 1) (manages_all (place + 1) g b) bs).views ≡ (manages_all (place + 1) g b).views ++ more) × StartPast (place + 1 + 1) more)
        → (more : List View) × ((managed_from (place + 1 + 1) (manages_all (place + 1) g b) bs).views ≡ g.views ++ more) × StartPast (place + 1) more
    by (inl same) rest = (rest.0, rest.1 ∙ ap (λ (vs : List View). vs ++ rest.0) same, start_past (place + 1 + 1) (place + 1) rest.0 (omega arith) rest.2)
    by (inr one) rest =
        let start = one.2.start_is in (
          one.0 ∷ rest.0,
          rest.1 ∙ (ap (λ (vs : List View). vs ++ rest.0) one.1 ∙ append_assoc g.views (one.0 ∷ []) rest.0),
          (omega (arith, start), start_past (place + 1 + 1) (place + 1) rest.0 (omega arith) rest.2),
        )

pub after_grown : (view : View) (xs ys : List Batch) → Each (λ (b : Batch). is_alone b ≡ true) ys
    → (more : List View) × (views_after view (xs ++ ys) ≡ views_after view xs ++ more) × StartPast (length xs + 1) more
after_grown view xs ys alone =
    let grown = grown_from (length xs) (managed view xs) ys alone in
    let same : 1 + length xs ≡ length xs + 1 = omega arith in (
      grown.0,
      sym (managed_views view (xs ++ ys))
          ∙ (ap (λ (g : Managed). g.views) (managed_append 1 (record { seq = 0; views = view ∷ [] }) xs ys)
          ∙ (ap (λ (k : ℕ). (managed_from k (managed view xs) ys).views) same ∙ (grown.1 ∙ ap (λ (vs : List View). vs ++ grown.0) (managed_views view xs)))),
      grown.2,
    )

-- ---- which view a list has in force at a place

each_front : {A : Type 0} (P : A → Type 0) (k : ℕ) (xs : List A) → Each P xs → Each P (take k xs) × Each P (drop k xs)
each_front P zero [] all = (tt, tt)
each_front P zero (x ∷ xs) all = (tt, all)
each_front P (suc k) [] all = (tt, tt)
each_front P (suc k) (x ∷ xs) all = let rest = each_front P k xs all.1 in ((all.0, rest.0), rest.1)

-- The view in force at a place of a list holds that place, also by the views behind the whole list.
pub held_at : (view : View) (list : List Batch) (place : ℕ) → is_view view ≡ true → Each (λ (b : Batch). is_alone b ≡ true) list → length list < 2 ^ 63 → 1 ≤ place → place ≤ length list + 1
    → view_for (views_after view list) place ≡ Some (view_at view list place)
held_at view list place viewed alone few low high =
    let k : ℕ = place - 1 in
    let parts = each_front (λ (b : Batch). is_alone b ≡ true) k list alone in
    let size : length (take k list) ≡ k = length-take-le k list (omega (arith, high)) in
    let fronts : List View = views_after view (take k list) in
    let grown = after_grown view (take k list) (drop k list) parts.1 in
    let whole : views_after view list ≡ fronts ++ grown.0 = ap (λ (bs : List Batch). views_after view bs) (sym (take-append-drop k list)) ∙ grown.1 in
    let next : k + 1 ≡ place = omega (arith, low) in
    let here : view_for fronts place ≡ Some (present fronts) =
    ap (λ (i : ℕ). view_for fronts i) (sym next) ∙ holds_next view k fronts (after_are view (take k list) k viewed parts.0 (omega (arith, size, high, few)) (omega (arith, size))) in
    let late : StartPast place grown.0 = start_past (length (take k list) + 1) place grown.0 (omega (arith, size, low)) grown.2 in
    ap (λ (vs : List View). view_for vs place) whole ∙ for_end fronts grown.0 (present fronts) place late here

-- a group that begins at place 1 needs no first view for the places before
pub holding_at : (view : View) (list : List Batch) (place : ℕ) → is_view view ≡ true → view.start ≤ place → Each (λ (b : Batch). is_alone b ≡ true) list → length list < 2 ^ 63 → 1 ≤ place → place ≤ length list + 1
    → view_holding (views_after view list) place ≡ Some (view_at view list place)
holding_at view list place viewed starts alone few low high =
    let begun = views_begin view list in
    subst (λ (vs : List View). view_holding vs place ≡ Some (view_at view list place)) (sym begun.1)
    (by begun.0 (subst (λ (vs : List View). view_for vs place ≡ Some (view_at view list place)) begun.1 (held_at view list place viewed alone few low high)))
  where
    by : (rest : List View) → view_for (view ∷ rest) place ≡ Some (view_at view list place) → view_holding (view ∷ rest) place ≡ Some (view_at view list place)
    by rest is = ap (λ (t : Bool). or_else (view_holding rest place) (cond t (Some view) None)) (le-leb view.start place starts) ∙ is

-- each view of a list is the one in force behind some front of it
made_from : (place : ℕ) (g : Managed) (list : List Batch) (u : View) → Each (λ (b : Batch). is_alone b ≡ true) list → Among u (managed_from (place + 1) g list).views
    → (Among u g.views) ⊎ ((k : ℕ) × (k ≤ length list) × (present (managed_from (place + 1) g (take k list)).views ≡ u))
made_from place g [] u alone there = inl there
made_from place g (b ∷ bs) u alone there = by (one_batch (place + 1) g b alone.0) (made_from (place + 1) (manages_all (place + 1) g b) bs u alone.1 there)
  where
    new : (one : (v : View) × ((manages_all (place + 1) g b).views ≡ g.views ++ v ∷ []) × IsBegunAt (place + 1) g.views v) → (Among u g.views) ⊎ (Among u (one.0 ∷ []))
        → (Among u g.views) ⊎ ((k : ℕ) × (k ≤ length (b ∷ bs)) × (present (managed_from (place + 1) g (take k (b ∷ bs))).views ≡ u))
    new one (inl old) = inl old
    new one (inr (inl same)) = inr (1, omega arith, ap (λ (vs : List View). present vs) one.1 ∙ (present_behind g.views one.0 [] ∙ sym same))
    new one (inr (inr none)) = absurd none

    by : AtMostOne (place + 1) g.views (manages_all (place + 1) g b).views
        → (Among u (manages_all (place + 1) g b).views) ⊎ ((k : ℕ) × (k ≤ length bs) × (present (managed_from (place + 1 + 1) (manages_all (place + 1) g b) (take k bs)).views ≡ u))
        → (Among u g.views) ⊎ ((k : ℕ) × (k ≤ length (b ∷ bs)) × (present (managed_from (place + 1) g (take k (b ∷ bs))).views ≡ u))
    by one (inr later) = let k : ℕ = later.0 in let low = later.1 in inr (suc k, omega (arith, low), later.2)
    by (inl same) (inl early) = inl (subst (λ (vs : List View). Among u vs) same early)
    by (inr one) (inl early) = new one (among_either u g.views (one.0 ∷ []) (subst (λ (vs : List View). Among u vs) one.1 early))

pub made_behind : (view : View) (list : List Batch) (u : View) → Each (λ (b : Batch). is_alone b ≡ true) list → Among u (views_after view list)
    → (k : ℕ) × (k ≤ length list) × (present (views_after view (take k list)) ≡ u)
made_behind view list u alone there =
    by (made_from 0 (record { seq = 0; views = view ∷ [] }) list u alone (subst (λ (vs : List View). Among u vs) (sym (managed_views view list)) there))
  where
    by : (Among u (view ∷ [])) ⊎ ((k : ℕ) × (k ≤ length list) × (present (managed view (take k list)).views ≡ u)) → (k : ℕ) × (k ≤ length list) × (present (views_after view (take k list)) ≡ u)
    by (inl (inl same)) = (0, omega arith, ap (λ (vs : List View). present vs) (views_none view) ∙ sym same)
    by (inl (inr none)) = absurd none
    by (inr made) = (made.0, made.1, ap (λ (vs : List View). present vs) (sym (managed_views view (take made.0 list))) ∙ made.2)

-- the one behind it is one of its views
pub present_there : (view : View) (list : List Batch) → Among (present (views_after view list)) (views_after view list)
present_there view list =
    let begun = views_begin view list in
    subst (λ (vs : List View). Among (present vs) vs) (sym begun.1) (present_among view begun.0)
