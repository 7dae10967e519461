-- Recorded runs deliver one list.
use Rattle.std.proofs.Common.{◌≡◌, inl, inr, ℕ, suc, ◌<◌, ◌≤◌, Bool, true, false, nat_le, List, [], ◌∷◌, length, refl, ap, sym, ◌∙◌, subst, arith, take}
use Rattle.std.proofs.lemmas.Bool.{leb-true, leb-false}
use Rattle.smart_base.specs.Lists.{Each}
use Rattle.smart_base.specs.Views.{View}
use Rattle.smart_base.proofs.ViewFacts.{each-weaken}
use Rattle.smart_statements.specs.Batches.{Batch}
use Rattle.smart_service.specs.Services.{Meaning}
use Rattle.vote_book.specs.Books.{Among, last_made}
use Rattle.vote_book.specs.declared.entry.Decision.{Decision}
use Rattle.vote_book.specs.declared.entry.LogEntry.{LogEntry}
use Rattle.vote_book.specs.declared.entry.LogEntry.TheVariants.{Decided}
use Rattle.vote_book.proofs.Tested.{made_within}
use Rattle.replica_rules.specs.Replicas.{state}
use Rattle.node_rules.specs.Deliveries.{Segment}
use Rattle.agreement_laws.specs.Statements.{Statement}
use Rattle.agreement_laws.proofs.Lists.{each_from, split_at}
use Rattle.node_laws.specs.Restored.{IsSoundBook}
use Rattle.node_laws.specs.Restoring.{AreAlong}
use Rattle.node_laws.proofs.Books.{least_decided}
use Rattle.node_laws.proofs.Reopened.{in_turn}
use Rattle.replica_laws.proofs.Counted.{IsCounted}
use Rattle.replica_laws.proofs.Segments.{all_of}
use Rattle.audit_rules.specs.declared.recorded.Recorded.{Recorded}
use Rattle.audit_rules.specs.Audits.{first_node, is_client}
use Rattle.trail_agreement.specs.Deliveries.{Delivers, IsListed, OneList, book_of, deliveries_of, last_node, undelivered}
use Rattle.trail_agreement.proofs.Beginning.{first_place}
use Rattle.trail_agreement.proofs.Deliveries.{IsOf, counted-from, delivered-from, each-behind, each-front, of_listed}
use Rattle.trail_agreement.proofs.Group.{IsGroup, last_there, may_arrive, right_first, right_last, sound_book}
use Rattle.trail_agreement.proofs.Listing.{Listed, listed}
use Rattle.trail_agreement.proofs.Shown.{all_stated}

-- ---- the greatest place

-- a place up to which members have come, and no further
pub record Top (trails : List Recorded) (book : Recorded → List LogEntry) : Type 0 where
  pub place : ℕ
  pub most : (t : Recorded) → Among t trails → is_client t ≡ false → last_made (book t) ≤ place
  pub reached : (k : ℕ) → 0 < k → k ≤ place → (t : Recorded) × Among t trails × (is_client t ≡ false) × (k ≤ last_made (book t))

module _ (book : Recorded → List LogEntry) where
  -- one more trail that has not come further
  top_same : (t : Recorded) (ts : List Recorded) (r : Top ts book) → (is_client t ≡ false → last_made (book t) ≤ r.place) → Top (t ∷ ts) book
  top_same t ts r low = record { place = r.place; most = most; reached = reached }
    where
      most : (u : Recorded) → Among u (t ∷ ts) → is_client u ≡ false → last_made (book u) ≤ r.place
      most u (inl is) member = subst (λ (x : Recorded). is_client x ≡ false → last_made (book x) ≤ r.place) (sym is) low member
      most u (inr there) member = r.most u there member

      reached : (k : ℕ) → 0 < k → k ≤ r.place → (u : Recorded) × Among u (t ∷ ts) × (is_client u ≡ false) × (k ≤ last_made (book u))
      reached k some high = let found = r.reached k some high in (found.0, inr found.1, found.2, found.3)

  -- one more that has
  top_more : (t : Recorded) (ts : List Recorded) (r : Top ts book) → is_client t ≡ false → r.place ≤ last_made (book t) → Top (t ∷ ts) book
  top_more t ts r member high = record { place = last_made (book t); most = most; reached = λ k some low. (t, inl refl, member, low) }
    where
      most : (u : Recorded) → Among u (t ∷ ts) → is_client u ≡ false → last_made (book u) ≤ last_made (book t)
      most u (inl is) of = subst (λ (x : Recorded). last_made (book x) ≤ last_made (book t)) (sym is) (omega arith)
      most u (inr there) of = let low = r.most u there of in omega (arith, low, high)

  top_with : (t : Recorded) (ts : List Recorded) (r : Top ts book) (client low : Bool) → is_client t ≡ client → nat_le (last_made (book t)) r.place ≡ low → Top (t ∷ ts) book
  top_with t ts r true low is le = top_same t ts r (λ member. absurd (cc))
  top_with t ts r false true is le = top_same t ts r (λ member. leb-true (last_made (book t)) r.place le)
  top_with t ts r false false is le = let more = leb-false (last_made (book t)) r.place le in top_more t ts r is (omega (arith, more))

  pub top : (ts : List Recorded) → Top ts book
  top [] = record { place = 0; most = λ t there member. absurd there; reached = λ k some low. absurd (omega (arith, some, low)) }
  top (t ∷ ts) = let r = top ts in top_with t ts r (is_client t) (nat_le (last_made (book t)) r.place) refl refl

-- ---- decided places

decided_some : (secret : List ℕ) (stated : List Statement) (views : List View) (es : List LogEntry) (d : Decision) → IsSoundBook secret stated views es → Among (Decided d) es → 0 < d.slot.place
decided_some secret stated views es d book there =
    let s = split_at es (Decided d) there in
    let turn = in_turn secret stated views s.before d s.after (subst (λ (xs : List LogEntry). IsSoundBook secret stated views xs) s.is book) in
    omega (arith, turn)

-- ---- the list

module _ {S : Type 0} (m : Meaning S) (faulty : ℕ → Bool) (trails : List Recorded) (secret : List ℕ) (view : View) (g : IsGroup m faulty trails secret view) where
  abbrev stated : List Statement
  stated = all_stated secret trails

  greatest : Top trails (λ (t : Recorded). book_of m t)
  greatest = top (λ (t : Recorded). book_of m t) trails

  abbrev Whole : Type 0
  Whole = (list : List Batch) × Listed m trails view list × (length list ≡ greatest.place)

  all : Whole
  all = listed m faulty trails secret view g greatest.place (λ k low. let r = greatest.reached (suc k) (omega arith) (omega (arith, low)) in let past = r.3 in (r.0, r.1, r.2, omega (arith, past)))

  along : (t : Recorded) → Among t trails → is_client t ≡ false → AreAlong all.0 (book_of m t)
  along t there member =
      let most = greatest.most t there member in
      let count = all.2 in
      record {
        decided = λ d decided.
            let within : d.slot.place ≤ last_made (book_of m t) = made_within (Decided d) (book_of m t) d.slot.place decided refl in
            all.1.agrees t there member d decided (decided_some secret stated (last_node m t).replica.views (book_of m t) d (sound_book m faulty trails secret view g t there member) decided) (omega (arith, within, most, count));
        reached = omega (arith, most, count);
      }

  -- no member has come further
  within : (t : Recorded) → Among t trails → is_client t ≡ false → (last_node m t).replica.place ≤ length all.0
  within t there member =
      let last = (right_last m faulty trails secret view g t there member).sound.last in
      let least = least_decided (last_node m t).waiting (last_node m t).replica.place in
      let most = greatest.most t there member in
      let count = all.2 in
      omega (arith, last, least, most, count)

  -- ---- deliveries

  counted : (t : Recorded) → Among t trails → is_client t ≡ false → IsCounted (deliveries_of m t) (last_node m t).replica.place
  counted t there member =
      let o = g.over t there member in
      let zero_place = first_place m t o.snapshot o.whole o.first in
      counted-from m (first_node m t) undelivered t.events (record { count = omega (arith, zero_place); places = tt })

  delivered : (t : Recorded) → Among t trails → is_client t ≡ false → Each (IsListed all.0) (all_of (deliveries_of m t))
  delivered t there member =
      each-weaken (IsOf (book_of m t)) (IsListed all.0) (λ d is. of_listed all.0 (book_of m t) d (along t there member) is) (all_of (deliveries_of m t))
      (delivered-from m g.brief stated secret view t.opening.member (first_node m t) undelivered t.events (right_first m faulty trails secret view g t there member)
      (may_arrive m faulty trails secret view g t there) tt)

  delivers : (t : Recorded) → Among t trails → is_client t ≡ false → Delivers m all.0 t
  delivers t there member =
      let of = counted t there member in
      let s : Segment = deliveries_of m t in
      let low = within t there member in
      record {
        along = along t there member;
        within = low;
        replica = all.1.stands t (last_node m t) (last_there m faulty trails secret view g t there member) low
            ∙ ap (λ (v : View). state m v (take (last_node m t).replica.place all.0)) (sym (g.views t there));
        count = of.count;
        places = of.places;
        delivered = each-behind (IsListed all.0) s.earlier s.delivered (delivered t there member);
        earlier = each-front (IsListed all.0) s.earlier s.delivered (delivered t there member);
      }

  pub one_list_over : OneList m trails
  one_list_over = record { list = all.0; decided = all.1.decided; members = each_from (λ t. is_client t ≡ false → Delivers m all.0 t) trails (λ t there member. delivers t there member) }

  -- each node of a member stands along that list
  pub all_listed : Listed m trails view (one_list_over).list
  unfolding one_list_over
  all_listed = all.1
