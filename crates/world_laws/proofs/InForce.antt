-- Which views are in force in a world, and that few members of each are faulty.
use Rattle.std.proofs.Common.{◌≡◌, ◌⊎◌, ⊎_elim, ◌||◌, Bool, List, [], ◌∷◌, inl, inr, true, false, None, ℕ, zero, suc, ◌+◌, ◌++◌, ◌-◌, ◌^◌, ◌<◌, ◌≤◌, ◌∙◌, refl, ap, sym, subst, arith, length, nat_le, take, drop}
use Rattle.std.proofs.lemmas.Bool.{leb-true, leb-false}
use Rattle.std.proofs.lemmas.List.{take-append-drop, take-take}
use Rattle.smart_base.specs.Lists.{Each}
use Rattle.smart_base.specs.Views.{View, is_view, present}
use Rattle.smart_base.proofs.ViewFacts.{each-weaken}
use Rattle.smart_statements.specs.Batches.{Batch}
use Rattle.snapshot_form.specs.Replicas.{IsOfClients}
use Rattle.vote_book.specs.Books.{Among}
use Rattle.vote_book.specs.declared.entry.LogEntry.{LogEntry}
use Rattle.replica_rules.specs.Replicas.{view_at, views_after}
use Rattle.replica_rules.specs.Seals.{digest_of}
use Rattle.agreement_laws.specs.Certificates.{IsBacked}
use Rattle.agreement_laws.specs.Statements.{Statement}
use Rattle.agreement_laws.proofs.Lists.{among_left, each_among, each_take}
use Rattle.node_laws.specs.Restored.{IsSoundBook}
use Rattle.node_laws.specs.Sound.{IsBackedIn}
use Rattle.world_rules.specs.Premises.{too_many, too_many_in}
use Rattle.world_rules.specs.Worlds.{World}
use Rattle.world_rules.specs.InForce.{IsInForce}
use Rattle.world_laws.proofs.Keeps.{few_of}
use Rattle.replica_rules.proofs.Managed.{at_front, views_grow, views_none}
use Rattle.node_laws.proofs.ListedViews.{made_behind, present_there}
use Rattle.world_laws.proofs.Listed.{all_alone, views_valid}
use Rattle.world_laws.proofs.Fronts.{front-same}

-- few members of each view in force are faulty
pub record AreFew {S : Type 0} (w : World S) : Type 0 where
  pub each : (v : View) → IsInForce w v → too_many v w.faulty ≡ false
  -- and of each behind the list, while nothing has ended the play
  pub calm : w.ending ≡ None → too_many_in (views_after w.view w.chosen) w.faulty ≡ false

-- the first view is in force
pub first_in_force : {S : Type 0} (w : World S) → IsInForce w w.view
first_in_force w = record { place = 1; low = omega arith; within = inr (inl refl); is = ap (λ (vs : List View). present vs) (views_none w.view) }

-- a front has no more batches than are asked for, nor than the list
front_few : {A : Type 0} (k : ℕ) (xs : List A) → (length (take k xs) ≤ k) × (length (take k xs) ≤ length xs)
front_few zero xs = (omega arith, omega arith)
front_few (suc k) [] = (omega arith, omega arith)
front_few (suc k) (x ∷ xs) = let rest = front_few k xs in let a = rest.0 in let b = rest.1 in (omega (arith, a), omega (arith, b))

-- each view that a front of the list makes is in force, unless too many of its members are faulty
pub known_now : {S : Type 0} (w : World S) (v : View) (k : ℕ) → too_many v w.faulty ≡ false → Each IsOfClients w.chosen → Among v (views_after w.view (take k w.chosen)) → IsInForce w v
known_now {S = S} w v k fine of there =
    let made = made_behind w.view (take k w.chosen) v (all_alone (take k w.chosen) (each_take IsOfClients k w.chosen of)) there in
    let j : ℕ = made.0 in
    let most = made.1 in
    let few = front_few k w.chosen in
    let long = few.0 in
    let shorter = few.1 in
    let same : take j (take k w.chosen) ≡ take (j + 1 - 1) w.chosen = take-take j k w.chosen (omega (arith, most, long)) ∙ ap (λ (i : ℕ). take i w.chosen) (omega arith) in
    record {
      place = j + 1;
      low = omega arith;
      within = by j (omega (arith, most, shorter));
      is = sym (ap (λ (bs : List Batch). present (views_after w.view bs)) same) ∙ made.2;
    }
  where
    by : (j : ℕ) → j ≤ length w.chosen → (j + 1 ≤ length w.chosen) ⊎ ((v ≡ w.view) ⊎ ((too_many v w.faulty ≡ false) × (j + 1 ≡ length w.chosen + 1)))
    by j low = which (nat_le (j + 1) (length w.chosen)) refl
      where
        which : (t : _) → nat_le (j + 1) (length w.chosen) ≡ t → (j + 1 ≤ length w.chosen) ⊎ ((v ≡ w.view) ⊎ ((too_many v w.faulty ≡ false) × (j + 1 ≡ length w.chosen + 1)))
        which true is = inl (leb-true (j + 1) (length w.chosen) is)
        which false is = let more = leb-false (j + 1) (length w.chosen) is in inr (inr (fine, omega (arith, low, more)))

-- the view of a place is one of those behind the list
placed_there : {S : Type 0} (w : World S) (v : View) (place : ℕ) → view_at w.view w.chosen place ≡ v → Among v (views_after w.view w.chosen)
placed_there w v place is =
    let k : ℕ = place - 1 in
    let grows = views_grow w.view (take k w.chosen) (drop k w.chosen) in
    let whole : views_after w.view w.chosen ≡ views_after w.view (take k w.chosen) ++ grows.0 = ap (λ (bs : List Batch). views_after w.view bs) (sym (take-append-drop k w.chosen)) ∙ grows.1 in
    subst (λ (vs : List View). Among v vs) (sym whole)
    (among_left v (views_after w.view (take k w.chosen)) grows.0 (subst (λ (u : View). Among u (views_after w.view (take k w.chosen))) is (present_there w.view (take k w.chosen))))

-- each in force is
pub there_now : {S : Type 0} (w : World S) (v : View) → IsInForce w v → Among v (views_after w.view w.chosen)
there_now w v force = placed_there w v force.place force.is

-- so it is valid
pub viewed_now : {S : Type 0} (w : World S) (v : View) → IsInForce w v → is_view w.view ≡ true → Each IsOfClients w.chosen → length w.chosen < 2 ^ 63 → is_view v ≡ true
viewed_now w v force viewed of low = each_among (λ u. is_view u ≡ true) (views_after w.view w.chosen) v (views_valid w.view w.chosen viewed of low) (there_now w v force)

-- while nothing ends the play, each behind the list is in force
pub among_in_force : {S : Type 0} (w : World S) (v : View) → AreFew w → w.ending ≡ None → Each IsOfClients w.chosen → Among v (views_after w.view w.chosen) → IsInForce w v
among_in_force w v few on of there =
    known_now w v (length w.chosen) (few_of w.faulty (views_after w.view w.chosen) v (few.calm on) there) of
    (subst (λ (bs : List Batch). Among v (views_after w.view bs)) (sym (front-same w.chosen)) there)

-- what a book of the list has rests, in each view in force, on what has been stated
pub backed_now : {S : Type 0} (w : World S) (v : View) → IsInForce w v → (secret : List ℕ) (stated : List Statement) (es : List LogEntry) → IsSoundBook secret stated (views_after w.view w.chosen) es
    → Each (IsBacked secret digest_of v stated) es
backed_now w v force secret stated es book =
    each-weaken (IsBackedIn secret (views_after w.view w.chosen) stated) (IsBacked secret digest_of v stated) (λ e is. is v (there_now w v force)) es book.backed

-- ---- where nothing is decided

-- a view that is in force where the list is the same, and no more of its members are faulty, was in force before
same_force : {S : Type 0} (w w' : World S) (v : View) → w'.view ≡ w.view → w'.chosen ≡ w.chosen → (too_many v w'.faulty ≡ false → too_many v w.faulty ≡ false) → IsInForce w' v → IsInForce w v
same_force w w' v view chosen fine force = record {
  place = force.place;
  low = force.low;
  within = ⊎_elim {C = (force.place ≤ length w.chosen) ⊎ ((v ≡ w.view) ⊎ ((too_many v w.faulty ≡ false) × (force.place ≡ length w.chosen + 1)))}
      (λ listed. inl (subst (λ (bs : List Batch). force.place ≤ length bs) chosen listed))
      (λ rest. inr (⊎_elim {C = (v ≡ w.view) ⊎ ((too_many v w.faulty ≡ false) × (force.place ≡ length w.chosen + 1))} (λ first. inl (first ∙ view))
      (λ behind. inr (fine behind.0, subst (λ (bs : List Batch). force.place ≡ length bs + 1) chosen behind.1)) rest))
      force.within;
  is = sym (ap (λ (bs : List Batch). view_at w'.view bs force.place) chosen ∙ ap (λ (u : View). view_at u w.chosen force.place) view) ∙ force.is;
}

-- where the list and the faulty are the same, few are faulty still
pub same_few : {S : Type 0} (w w' : World S) → w'.view ≡ w.view → w'.chosen ≡ w.chosen → w'.faulty ≡ w.faulty → (w'.ending ≡ None → w.ending ≡ None) → AreFew w → AreFew w'
same_few w w' view chosen faulty over few = record {
  each = λ v force. subst (λ (ids : List ℕ). too_many v ids ≡ false) (sym faulty)
      (few.each v (same_force w w' v view chosen (λ fine. subst (λ (ids : List ℕ). too_many v ids ≡ false) faulty fine) force));
  calm = λ on. subst (λ (ids : List ℕ). too_many_in (views_after w'.view w'.chosen) ids ≡ false) (sym faulty)
      (subst (λ (u : View). too_many_in (views_after u w'.chosen) w.faulty ≡ false) (sym view)
      (subst (λ (bs : List Batch). too_many_in (views_after w.view bs) w.faulty ≡ false) (sym chosen) (few.calm (over on))));
}

-- where too many are faulty of none of some views, too many of these views are not
pub none_many : (faulty : List ℕ) (views : List View) → ((v : View) → Among v views → too_many v faulty ≡ false) → too_many_in views faulty ≡ false
none_many faulty [] each = refl
none_many faulty (u ∷ us) each = ap (λ (t : Bool). t || too_many_in us faulty) (each u (inl refl)) ∙ none_many faulty us (λ v there. each v (inr there))

-- where more are faulty, and of no view of the list too many, few are still
pub fewer : {S : Type 0} (w w' : World S) → w'.view ≡ w.view → w'.chosen ≡ w.chosen → ((v : View) → Among v (views_after w.view w.chosen) → too_many v w.faulty ≡ false → too_many v w'.faulty ≡ false)
    → (w'.ending ≡ None → w.ending ≡ None) → AreFew w → AreFew w'
fewer {S = S} w w' view chosen how over few = record {
  each = λ v force. decide v force (too_many v w'.faulty) refl;
  calm = λ on. subst (λ (u : View). too_many_in (views_after u w'.chosen) w'.faulty ≡ false) (sym view)
      (subst (λ (bs : List Batch). too_many_in (views_after w.view bs) w'.faulty ≡ false) (sym chosen)
      (none_many w'.faulty (views_after w.view w.chosen) (λ v there. how v there (few_of w.faulty (views_after w.view w.chosen) v (few.calm (over on)) there))));
}
  where
    both : true ≡ false → ⊥
    both same = cc

    decide : (v : View) → IsInForce w' v → (t : Bool) → too_many v w'.faulty ≡ t → t ≡ false
    decide v force false is = refl
    decide v force true is =
        let before = same_force w w' v view chosen (λ fine. absurd (both (sym is ∙ fine))) force in
        sym is ∙ how v (there_now w v before) (few.each v before)

-- ---- where the list grows

-- the view of a place of the longer list, and of the one behind the shorter, was in force before, while too many were faulty of no view behind it
listed_before : {S : Type 0} (w w' : World S) (v : View) (place : ℕ) → too_many_in (views_after w.view w.chosen) w.faulty ≡ false → w'.view ≡ w.view → take (length w.chosen) w'.chosen ≡ w.chosen → 1 ≤ place
    → place ≤ length w.chosen + 1 → view_at w'.view w'.chosen place ≡ v → IsInForce w v
listed_before {S = S} w w' v place few view front low within is = record {
  place = place;
  low = low;
  within = ⊎_elim {C = (place ≤ length w.chosen) ⊎ ((v ≡ w.view) ⊎ ((too_many v w.faulty ≡ false) × (place ≡ length w.chosen + 1)))}
      (λ listed. inl listed) (λ last. inr (inr (few_of w.faulty (views_after w.view w.chosen) v few (placed_there w v place there), last))) (upto place (length w.chosen) within);
  is = there;
}
  where
    there : view_at w.view w.chosen place ≡ v
    there =
        ap (λ (u : View). view_at u w.chosen place) (sym view)
        ∙ (ap (λ (bs : List Batch). view_at w'.view bs place) (sym front) ∙ (at_front w'.view (length w.chosen) w'.chosen place within ∙ is))

    upto : (a b : ℕ) → a ≤ b + 1 → (a ≤ b) ⊎ (a ≡ b + 1)
    upto a b low = by (nat_le a b) refl
      where
        by : (t : _) → nat_le a b ≡ t → (a ≤ b) ⊎ (a ≡ b + 1)
        by true is = inl (leb-true a b is)
        by false is = let more = leb-false a b is in inr (omega (arith, low, more))

-- Few members of each view in force are faulty where the list grew by one batch at most, while nothing had ended the play: if too many of a view that
-- the batch makes are faulty, the play ends.
pub few_grown : {S : Type 0} (w w' : World S) → w.ending ≡ None → w'.view ≡ w.view → w'.faulty ≡ w.faulty → take (length w.chosen) w'.chosen ≡ w.chosen → length w'.chosen ≤ length w.chosen + 1
    → (w'.ending ≡ None → too_many_in (views_after w'.view w'.chosen) w'.faulty ≡ false) → AreFew w → AreFew w'
few_grown {S = S} w w' on view faulty front longer goes few = record {
  each = λ v force. subst (λ (ids : List ℕ). too_many v ids ≡ false) (sym faulty) (by v force force.within);
  calm = goes;
}
  where
    before : (v : View) (place : ℕ) → 1 ≤ place → place ≤ length w.chosen + 1 → view_at w'.view w'.chosen place ≡ v → too_many v w.faulty ≡ false
    before v place low within is = few.each v (listed_before w w' v place (few.calm on) view front low within is)

    by : (v : View) (force : IsInForce w' v) → (force.place ≤ length w'.chosen) ⊎ ((v ≡ w'.view) ⊎ ((too_many v w'.faulty ≡ false) × (force.place ≡ length w'.chosen + 1))) → too_many v w.faulty ≡ false
    by v force (inl listed) = before v force.place force.low (omega (arith, listed, longer)) force.is
    by v force (inr (inl first)) = subst (λ (u : View). too_many u w.faulty ≡ false) (sym (first ∙ view)) (few.each w.view (first_in_force w))
    by v force (inr (inr behind)) = subst (λ (ids : List ℕ). too_many v ids ≡ false) faulty behind.0
