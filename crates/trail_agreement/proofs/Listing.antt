-- The list of the batches that members decide, place by place. Its views are those of each member.
use Rattle.std.proofs.Common.{◌≡◌, ◌⊎◌, inl, inr, ℕ, zero, suc, ◌+◌, ◌<◌, ◌≤◌, ◌++◌, Bool, true, false, nat_le, List, [], ◌∷◌, length, take, refl, ap, sym, ◌∙◌, subst, arith, Option, Some, None, append-nil, append_assoc, length-append}
use Rattle.std.proofs.lemmas.Bool.{leb-true, leb-false}
use Rattle.std.specs.Prelude.{IfSome, slice_get}
use Rattle.smart_base.specs.Lists.{Each}
use Rattle.smart_base.specs.Views.{View, is_view, present}
use Rattle.smart_base.proofs.ViewFacts.{each-weaken, view_parts}
use Rattle.smart_statements.specs.Batches.{Batch}
use Rattle.smart_service.specs.Services.{Meaning}
use Rattle.smart_service.specs.declared.replica.Replica.{Replica}
use Rattle.vote_book.specs.Books.{Among, last_made}
use Rattle.vote_book.specs.declared.entry.Decision.{Decision}
use Rattle.vote_book.specs.declared.entry.LogEntry.{LogEntry}
use Rattle.vote_book.specs.declared.entry.LogEntry.TheVariants.{Decided}
use Rattle.replica_rules.specs.Replicas.{batch_at, delivered, empty, state, views_after}
use Rattle.replica_rules.specs.Seals.{digest_of, is_alone}
use Rattle.replica_rules.proofs.Managed.{AtMostOne, delivered_one, state_views}
use Rattle.agreement_laws.specs.Certificates.{IsBacked}
use Rattle.agreement_laws.specs.Law.{FewFaulty, Witnessed}
use Rattle.agreement_laws.specs.Lists.{Certified}
use Rattle.agreement_laws.specs.Statements.{Statement}
use Rattle.agreement_laws.proofs.Lists.{among_left, each_among, each_append, each_end}
use Rattle.agreement_laws.proofs.Regencies.{decided_once}
use Rattle.node_rules.specs.Nodes.{Node, decided_place, next_place}
use Rattle.node_laws.specs.Restored.{IsSoundBook}
use Rattle.node_laws.specs.Sound.{AreViews, IsBackedIn, view_for}
use Rattle.node_laws.specs.Sound as sounds
use Rattle.node_laws.proofs.CertifiedBooks.{certified_book}
use Rattle.node_laws.proofs.Growing.{StartPast, for_end, start_past}
use Rattle.node_laws.proofs.ListedViews.{after_are, present_there}
use Rattle.node_laws.proofs.Reopened.{after_append}
use Rattle.node_laws.proofs.Views.{holds_next, in_force_valid}
use Rattle.replica_laws.proofs.FitNodes.{FitsDecision, FitsEntry}
use Rattle.replica_laws.proofs.Onward.{HasDecided}
use Rattle.world_laws.proofs.Fronts.{batch_at-next, front-append, front-batch_at, front-same, front-take}
use Rattle.world_laws.proofs.ListViews.{IsTame, book_list, front_there}
use Rattle.audit_rules.specs.declared.recorded.Recorded.{Recorded}
use Rattle.audit_rules.specs.Audits.{is_client}
use Rattle.trail_agreement.specs.Deliveries.{AreDecided, HasDecider, book_of, last_node}
use Rattle.trail_agreement.proofs.Group.{IsGroup, IsMembers, all_rests, last_there, may_come, right_last, sound_book}
use Rattle.trail_agreement.proofs.Runs.{IsRight}
use Rattle.trail_agreement.proofs.Shown.{all_stated}
use Rattle.trail_agreement.proofs.Taking.{Behind, GoingOn, holds_at, none_at}
use Rattle.trail_agreement.proofs.Witnesses.{diary_in, witnesses}

-- ---- the last batch of a list

get_end : {A : Type 0} (xs : List A) (x : A) → slice_get (xs ++ x ∷ []) (length xs) ≡ Some x
get_end [] x = refl
get_end (y ∷ ys) x = get_end ys x

get_either : {A : Type 0} (xs : List A) (x y : A) (i : ℕ) → slice_get (xs ++ x ∷ []) i ≡ Some y → (slice_get xs i ≡ Some y) ⊎ ((i ≡ length xs) × (x ≡ y))
get_either [] x y zero at = inr (refl, cc)
get_either [] x y (suc i) at = absurd (cc)
get_either (z ∷ xs) x y zero at = inl at
get_either (z ∷ xs) x y (suc i) at = by (get_either xs x y i at)
  where
    by : (slice_get xs i ≡ Some y) ⊎ ((i ≡ length xs) × (x ≡ y)) → (slice_get xs i ≡ Some y) ⊎ ((suc i ≡ suc (length xs)) × (x ≡ y))
    by (inl there) = inl there
    by (inr last) = inr (ap suc last.0, last.1)

at_end : (list : List Batch) (b : Batch) → batch_at (list ++ b ∷ []) (length list + 1) ≡ Some b
at_end list b = batch_at-next (list ++ b ∷ []) (length list) ∙ get_end list b

at_either : (list : List Batch) (b other : Batch) (place : ℕ) → batch_at (list ++ b ∷ []) place ≡ Some other → (batch_at list place ≡ Some other) ⊎ ((length list + 1 ≡ place) × (b ≡ other))
at_either list b other zero at = absurd (cc)
at_either list b other (suc k) at = by (get_either list b other k at)
  where
    by : (slice_get list k ≡ Some other) ⊎ ((k ≡ length list) × (b ≡ other)) → (slice_get list k ≡ Some other) ⊎ ((length list + 1 ≡ suc k) × (b ≡ other))
    by (inl there) = inl there
    by (inr last) = let here = last.0 in inr (omega (arith, here), last.1)

-- ---- views past a list

-- Views that go on from those behind a list, past its next place. A member decides a batch there.
pub record Further {S : Type 0} (m : Meaning S) (trails : List Recorded) (view : View) (list : List Batch) (views : List View) : Type 0 where
  pub rest : List View
  pub is : views ≡ views_after view list ++ rest
  pub late : StartPast (length list + 1) rest
  pub batch : Batch
  pub decider : HasDecider m trails (length list + 1) batch

further_grown : {S : Type 0} (m : Meaning S) (trails : List Recorded) (view : View) (list : List Batch) (vs ws rest : List View) (bound : ℕ) → ws ≡ vs ++ rest → StartPast bound rest → length list + 1 ≤ bound
    → Further m trails view list vs → Further m trails view list ws
further_grown m trails view list vs ws rest bound same past low f = record {
  rest = f.rest ++ rest;
  is = same ∙ (ap (λ (us : List View). us ++ rest) f.is ∙ append_assoc (views_after view list) f.rest rest);
  late = each_append (λ (v : View). length list + 1 < v.start) f.rest rest f.late (start_past bound (length list + 1) rest low past);
  batch = f.batch;
  decider = f.decider;
}

further_one : {S : Type 0} (m : Meaning S) (trails : List Recorded) (view : View) (list : List Batch) (place : ℕ) (vs ws : List View) → AtMostOne place vs ws → length list + 1 ≤ place
    → Further m trails view list vs → Further m trails view list ws
further_one m trails view list place vs ws (inl same) low f = subst (λ (us : List View). Further m trails view list us) (sym same) f
further_one m trails view list place vs ws (inr one) low f =
    let start = one.2.start_is in
    further_grown m trails view list vs ws (one.0 ∷ []) place one.1 (omega (arith, start), tt) low f

-- ---- a list up to a place

-- A list of batches that members decide. A member's replica is the state of the list at its place, and what a member decides at a place of the list is
-- the list's batch.
pub record Listed {S : Type 0} (m : Meaning S) (trails : List Recorded) (view : View) (list : List Batch) : Type 0 where
  pub decided : AreDecided m trails list
  pub tame : IsTame view list
  pub stands : (t : Recorded) (x : Node S) → IsMembers m trails t x → x.replica.place ≤ length list → x.replica ≡ state m view (take x.replica.place list)
  pub agrees : (t : Recorded) → Among t trails → is_client t ≡ false → (d : Decision) → Among (Decided d) (book_of m t) → 0 < d.slot.place → d.slot.place ≤ length list → batch_at list d.slot.place ≡ Some d.batch

-- the node whose last batch waits has decided one place more
last_waits : {S : Type 0} (n : Node S) (waiting : Option Batch) → n.waiting ≡ waiting → (decided_place n ≡ n.replica.place) ⊎ ((batch : Batch) × (n.waiting ≡ Some batch) × (decided_place n ≡ next_place n))
last_waits n None at = inl (rw at refl)
last_waits n (Some batch) at = inr (batch, at, rw at refl)

waited : (es : List LogEntry) (place : ℕ) (w : Option Batch) (batch : Batch) → w ≡ Some batch → IfSome w (sounds.HasDecided es place) → sounds.HasDecided es place batch
waited es place w batch at is = subst (λ (o : Option Batch). IfSome o (sounds.HasDecided es place)) at is

module _ {S : Type 0} (m : Meaning S) (faulty : ℕ → Bool) (trails : List Recorded) (secret : List ℕ) (view : View) (g : IsGroup m faulty trails secret view) where
  abbrev stated : List Statement
  stated = all_stated secret trails

  module _ (list : List Batch) (l : Listed m trails view list) where
    abbrev next : ℕ
    next = length list + 1

    are : AreViews view (length list) (views_after view list)
    are = after_are view list (length list) l.tame.viewed l.tame.alone l.tame.low (omega arith)

    few_there : (u : View) → Among u (views_after view list) → FewFaulty u faulty
    few_there u there = record {
      room = (view_parts u (each_among (λ (x : View). is_view x ≡ true) (views_after view list) u are.valid there)).enough;
      few = g.few.each list l.decided u there;
    }

    -- the views of a member that stands along the list are the list's
    views_stand : (t : Recorded) (x : Node S) → IsMembers m trails t x → x.replica.place ≤ length list → x.replica.views ≡ views_after view (take x.replica.place list)
    views_stand t x of low = ap (λ (r : Replica S). r.views) (l.stands t x of low) ∙ state_views m view (take x.replica.place list)

    few_known : (t : Recorded) (x : Node S) → IsMembers m trails t x → x.replica.place ≤ length list → (u : View) → Among u x.replica.views → FewFaulty u faulty
    few_known t x of low u there = few_there u (front_there view x.replica.place list u (subst (λ (vs : List View). Among u vs) (views_stand t x of low) there))

    -- at its end they are those behind the list
    first_further : (t : Recorded) (x : Node S) (batch : Batch) → IsMembers m trails t x → x.replica.place ≡ length list → HasDecided (book_of m t) next batch → Further m trails view list x.replica.views
    first_further t x batch of at decided = record {
      rest = [];
      is = views_stand t x of (omega (arith, at))
          ∙ (ap (λ (k : ℕ). views_after view (take k list)) at ∙ (ap (λ (bs : List Batch). views_after view bs) (front-same list) ∙ sym (append-nil (views_after view list))));
      late = tt;
      batch = batch;
      decider = record { trail = t; there = of.there; member = of.member; decision = decided.decision; decided = decided.there; place_is = decided.place_is; batch_is = decided.batch_is };
    }

    -- behind the list's next place, up to some more places, they go on from them
    abbrev UpTo : ℕ → Type 0
    UpTo more = (t : Recorded) (x : Node S) → IsMembers m trails t x → length list < x.replica.place → x.replica.place ≤ length list + more → Further m trails view list x.replica.views

    module _ (more : ℕ) (before : UpTo more) where
      abbrev last : ℕ
      last = length list + suc more

      abbrev IsFurther : Replica S → Type 0
      IsFurther r = Further m trails view list r.views

      before_delivery : (t : Recorded) (x : Node S) (batch : Batch) → IsMembers m trails t x → HasDecided (book_of m t) (next_place x) batch → next_place x ≡ last → Further m trails view list x.replica.views
      before_delivery t x batch of decided at = by (nat_le x.replica.place (length list)) refl
        where
          by : (low : Bool) → nat_le x.replica.place (length list) ≡ low → Further m trails view list x.replica.views
          by true low =
              let least = leb-true x.replica.place (length list) low in
              let here : x.replica.place ≡ length list = omega (arith, least, at) in
              first_further t x batch of here (subst (λ (k : ℕ). HasDecided (book_of m t) (k + 1) batch) here decided)
          by false low = let past = leb-false x.replica.place (length list) low in before t x of (omega (arith, past)) (omega (arith, at))

      behind : Behind m faulty trails secret view g last IsFurther
      behind t x batch of decided fits at =
          further_one m trails view list (next_place x) x.replica.views (delivered m x.replica batch).views (delivered_one m x.replica batch fits.0.2) (omega (arith, at)) (before_delivery t x batch of decided at)

      going_on : GoingOn m faulty trails secret view g last IsFurther
      going_on t x r of low on = by (nat_le x.replica.place (length list)) refl
        where
          by : (t' : Bool) → nat_le x.replica.place (length list) ≡ t' → Further m trails view list r.views ⊎ ((u : View) → Among u x.replica.views → FewFaulty u faulty)
          by true is = inr (few_known t x of (leb-true x.replica.place (length list) is))
          by false is =
              let past = leb-false x.replica.place (length list) is in
              inl (further_grown m trails view list x.replica.views r.views on.rest (next_place x) on.is on.late (omega (arith, past)) (before t x of (omega (arith, past)) (omega (arith, low))))

      upto_more : UpTo (suc more)
      upto_more t x of past low = by (nat_le x.replica.place (length list + more)) refl
        where
          by : (t' : Bool) → nat_le x.replica.place (length list + more) ≡ t' → Further m trails view list x.replica.views
          by true is = before t x of past (leb-true x.replica.place (length list + more) is)
          by false is =
              let over = leb-false x.replica.place (length list + more) is in
              holds_at m faulty trails secret view g last IsFurther (omega arith) behind going_on t x of (omega (arith, over, low))

    upto : (more : ℕ) → UpTo more
    upto zero t x of past low = absurd (omega (arith, past, low))
    upto (suc more) t x of past low = upto_more more (upto more) t x of past low

    further : (t : Recorded) (x : Node S) → IsMembers m trails t x → length list < x.replica.place → Further m trails view list x.replica.views
    further t x of past = upto x.replica.place t x of past (omega arith)

    -- ---- the view in force behind the list

    abbrev in_force : View
    in_force = present (views_after view list)

    holds_there : view_for (views_after view list) next ≡ Some in_force
    holds_there = holds_next view (length list) (views_after view list) are

    -- a book is sound by the list's views, if its member stands along the list
    listed_book : (t : Recorded) → Among t trails → is_client t ≡ false → (last_node m t).replica.place ≤ length list → IsSoundBook secret stated (views_after view list) (book_of m t)
    listed_book t there member low =
        let x : Node S = last_node m t in
        let of = last_there m faulty trails secret view g t there member in
        book_list m secret stated view list x (book_of m t) l.tame (record { reached = low; replica = l.stands t x of low }) (right_last m faulty trails secret view g t there member).sound.within
        (sound_book m faulty trails secret view g t there member)

    -- each book rests on what has been stated, by these views
    backed : (t : Recorded) → Among t trails → is_client t ≡ false → Each (IsBackedIn secret (views_after view list) stated) (book_of m t)
    backed t there member = by (nat_le (last_node m t).replica.place (length list)) refl
      where
        by : (low : Bool) → nat_le (last_node m t).replica.place (length list) ≡ low → Each (IsBackedIn secret (views_after view list) stated) (book_of m t)
        by true low = (listed_book t there member (leb-true (last_node m t).replica.place (length list) low)).backed
        by false low =
            let past = leb-false (last_node m t).replica.place (length list) low in
            let f = further t (last_node m t) (last_there m faulty trails secret view g t there member) (omega (arith, past)) in
            each-weaken (IsBackedIn secret (last_node m t).replica.views stated) (IsBackedIn secret (views_after view list) stated)
            (λ e rests u known. rests u (subst (λ (vs : List View). Among u vs) (sym f.is) (among_left u (views_after view list) f.rest known))) (book_of m t) (sound_book m faulty trails secret view g t there member).backed

    known : Witnessed secret digest_of in_force faulty (diary_in (λ (t : Recorded). book_of m t) trails) stated
    known =
        witnesses faulty secret in_force trails (λ (t : Recorded). book_of m t) (few_there in_force (present_there view list)) (in_force_valid view (length list) (views_after view list) are) g.spelled.once (may_come m faulty trails secret view g)
        (record {
          lawful = λ t there member. (sound_book m faulty trails secret view g t there member).lawful;
          backed = λ t there member.
              each-weaken (IsBackedIn secret (views_after view list) stated) (IsBacked secret digest_of in_force stated) (λ e rests. rests in_force (present_there view list)) (book_of m t) (backed t there member);
          rests = all_rests m faulty trails secret view g;
        })

    -- what a book decides at the next place is certified there
    certified_next : (t : Recorded) → Among t trails → is_client t ≡ false → (d : Decision) → Among (Decided d) (book_of m t) → d.slot.place ≡ next → Certified secret stated in_force next (digest_of d.batch)
    certified_next t there member d decided at = subst (λ (k : ℕ). Certified secret stated in_force k (digest_of d.batch)) at (by (nat_le (last_node m t).replica.place (length list)) refl)
      where
        by : (low : Bool) → nat_le (last_node m t).replica.place (length list) ≡ low → Certified secret stated in_force d.slot.place (digest_of d.batch)
        by true low =
            certified_book secret stated (views_after view list) (book_of m t) d (listed_book t there member (leb-true (last_node m t).replica.place (length list) low)) decided in_force
            (ap (λ (k : ℕ). view_for (views_after view list) k) at ∙ holds_there)
        by false low =
            let past = leb-false (last_node m t).replica.place (length list) low in
            let f = further t (last_node m t) (last_there m faulty trails secret view g t there member) (omega (arith, past)) in
            let here : view_for (views_after view list ++ f.rest) next ≡ Some in_force = for_end (views_after view list) f.rest in_force next f.late holds_there in
            certified_book secret stated (last_node m t).replica.views (book_of m t) d (sound_book m faulty trails secret view g t there member) decided in_force
            (ap (λ (k : ℕ). view_for (last_node m t).replica.views k) at ∙ (ap (λ (vs : List View). view_for vs next) f.is ∙ here))

    -- so it is one batch
    one_batch : (t u : Recorded) → Among t trails → Among u trails → is_client t ≡ false → is_client u ≡ false → (d e : Decision) → Among (Decided d) (book_of m t) → Among (Decided e) (book_of m u) → d.slot.place ≡ next
        → e.slot.place ≡ next → d.batch ≡ e.batch
    one_batch t u at au mt mu d e td ue dp ep =
        let a : Certified secret stated in_force next (digest_of d.batch) = certified_next t at mt d td dp in
        let b : Certified secret stated in_force next (digest_of e.batch) = certified_next u au mu e ue ep in
        g.apart.batches t u at au mt mu d e td ue
        (decided_once secret digest_of in_force faulty (diary_in (λ (x : Recorded). book_of m x) trails) stated known next a.regency b.regency (digest_of d.batch) (digest_of e.batch) a.accepts b.accepts a.decision b.decision)

    -- ---- where a member has come further, it decides the next place

    next_decider : (t : Recorded) → Among t trails → is_client t ≡ false → length list < last_made (book_of m t) → (batch : Batch) × HasDecider m trails next batch
    next_decider t there member more = by (nat_le (last_node m t).replica.place (length list)) refl
      where
        right : IsRight m stated secret view t.opening.member (last_node m t)
        right = right_last m faulty trails secret view g t there member

        waits : (last_node m t).replica.place ≤ length list
            → (decided_place (last_node m t) ≡ (last_node m t).replica.place) ⊎ ((batch : Batch) × ((last_node m t).waiting ≡ Some batch) × (decided_place (last_node m t) ≡ next_place (last_node m t)))
            → (batch : Batch) × HasDecider m trails next batch
        waits low (inl free) = let made = right.sound.last in absurd (omega (arith, low, free, made, more))
        waits low (inr one) =
            let made = right.sound.last in
            let last = one.2 in
            let here : next_place (last_node m t) ≡ next = omega (arith, low, last, made, more) in
            let decided = waited (book_of m t) (next_place (last_node m t)) (last_node m t).waiting one.0 one.1 right.sound.waiting in
            (one.0, record { trail = t; there = there; member = member; decision = decided.decision; decided = decided.there; place_is = decided.place_is ∙ here; batch_is = decided.batch_is })

        by : (low : Bool) → nat_le (last_node m t).replica.place (length list) ≡ low → (batch : Batch) × HasDecider m trails next batch
        by true low = waits (leb-true (last_node m t).replica.place (length list) low) (last_waits (last_node m t) (last_node m t).waiting refl)
        by false low =
            let past = leb-false (last_node m t).replica.place (length list) low in
            let f = further t (last_node m t) (last_there m faulty trails secret view g t there member) (omega (arith, past)) in
            (f.batch, f.decider)

    -- ---- the list with that batch

    module _ (batch : Batch) (one : HasDecider m trails next batch) where
      abbrev longer : List Batch
      longer = list ++ batch ∷ []

      long : length (list ++ batch ∷ []) ≡ next
      long = length-append list (batch ∷ [])

      front : take (length list) (list ++ batch ∷ []) ≡ list
      front = front-append list list (batch ∷ []) (front-same list)

      fits : FitsDecision secret one.decision
      fits = each_among (FitsEntry secret) (book_of m one.trail) (Decided one.decision) (right_last m faulty trails secret view g one.trail one.there one.member).fit.book one.decided

      longer_tame : IsTame view (list ++ batch ∷ [])
      longer_tame =
          let low = fits.place_fits.1 in
          let at = one.place_is in
          let count = long in
          record {
            viewed = l.tame.viewed;
            alone = each_end (λ (b : Batch). is_alone b ≡ true) list batch l.tame.alone (subst (λ (b : Batch). is_alone b ≡ true) one.batch_is fits.batch_fits.0.2);
            low = omega (arith, low, at, count);
          }

      longer_decided : AreDecided m trails (list ++ batch ∷ [])
      longer_decided place b at = by (at_either list batch b place at)
        where
          by : (batch_at list place ≡ Some b) ⊎ ((length list + 1 ≡ place) × (batch ≡ b)) → HasDecider m trails place b
          by (inl there) = l.decided place b there
          by (inr end) = subst (λ (k : ℕ). HasDecider m trails k b) end.0 (subst (λ (x : Batch). HasDecider m trails next x) end.1 one)

      -- what is decided at the next place is this batch
      same_batch : (t : Recorded) → Among t trails → is_client t ≡ false → (d : Decision) → Among (Decided d) (book_of m t) → d.slot.place ≡ next → batch ≡ d.batch
      same_batch t there member d decided at = sym one.batch_is ∙ one_batch one.trail t one.there there one.member member one.decision d one.decided decided one.place_is at

      longer_agrees : (t : Recorded) → Among t trails → is_client t ≡ false → (d : Decision) → Among (Decided d) (book_of m t) → 0 < d.slot.place → d.slot.place ≤ length (list ++ batch ∷ [])
          → batch_at (list ++ batch ∷ []) d.slot.place ≡ Some d.batch
      longer_agrees t there member d decided some low = by (nat_le d.slot.place (length list)) refl
        where
          by : (t' : Bool) → nat_le d.slot.place (length list) ≡ t' → batch_at (list ++ batch ∷ []) d.slot.place ≡ Some d.batch
          by true is = front-batch_at list (list ++ batch ∷ []) d.slot.place d.batch front (l.agrees t there member d decided some (leb-true d.slot.place (length list) is))
          by false is =
              let past = leb-false d.slot.place (length list) is in
              let count = long in
              let at : d.slot.place ≡ next = omega (arith, past, low, count) in
              ap (λ (k : ℕ). batch_at (list ++ batch ∷ []) k) at ∙ (at_end list batch ∙ ap (λ (b : Batch). Some b) (same_batch t there member d decided at))

      abbrev IsLast : Replica S → Type 0
      IsLast r = r ≡ state m view (list ++ batch ∷ [])

      behind_last : Behind m faulty trails secret view g next IsLast
      behind_last t x b of decided fit at =
          let here : x.replica.place ≡ length list = omega (arith, at) in
          let before : x.replica ≡ state m view list =
          l.stands t x of (omega (arith, here)) ∙ (ap (λ (k : ℕ). state m view (take k list)) here ∙ ap (λ (bs : List Batch). state m view bs) (front-same list)) in
          let same : batch ≡ b = same_batch t of.there of.member decided.decision decided.there (decided.place_is ∙ at) ∙ decided.batch_is in
          ap (λ (r : Replica S). delivered m r b) before ∙ (ap (λ (y : Batch). delivered m (state m view list) y) (sym same) ∙ after_append m (empty m view) list (batch ∷ []))

      going_last : GoingOn m faulty trails secret view g next IsLast
      going_last t x r of low on = inr (few_known t x of (omega (arith, low)))

      longer_stands : (t : Recorded) (x : Node S) → IsMembers m trails t x → x.replica.place ≤ length (list ++ batch ∷ []) → x.replica ≡ state m view (take x.replica.place (list ++ batch ∷ []))
      longer_stands t x of low = by (nat_le x.replica.place (length list)) refl
        where
          by : (t' : Bool) → nat_le x.replica.place (length list) ≡ t' → x.replica ≡ state m view (take x.replica.place (list ++ batch ∷ []))
          by true is =
              let least = leb-true x.replica.place (length list) is in
              l.stands t x of least ∙ ap (λ (bs : List Batch). state m view bs) (front-take list (list ++ batch ∷ []) x.replica.place front least)
          by false is =
              let past = leb-false x.replica.place (length list) is in
              let count = long in
              let at : x.replica.place ≡ length (list ++ batch ∷ []) = omega (arith, past, low, count) in
              holds_at m faulty trails secret view g next IsLast (omega arith) behind_last going_last t x of (at ∙ count)
              ∙ (ap (λ (bs : List Batch). state m view bs) (sym (front-same (list ++ batch ∷ []))) ∙ ap (λ (k : ℕ). state m view (take k (list ++ batch ∷ []))) (sym at))

      longer_listed : Listed m trails view (list ++ batch ∷ [])
      longer_listed = record { decided = longer_decided; tame = longer_tame; stands = longer_stands; agrees = longer_agrees }

  -- ---- from the empty list on

  no_batch : (place : ℕ) (b : Batch) → batch_at [] place ≡ Some b → ⊥
  no_batch zero b at = cc
  no_batch (suc k) b at = cc

  none_listed : Listed m trails view []
  none_listed = record {
    decided = λ place b at. absurd (no_batch place b at);
    tame = record { viewed = g.viewed; alone = tt; low = omega arith };
    stands = λ t x of low.
        let at : x.replica.place ≡ 0 = omega (arith, low) in
        none_at m faulty trails secret view g t x of at ∙ ap (λ (k : ℕ). state m view (take k [])) (sym at);
    agrees = λ t there member d decided some low. absurd (omega (arith, some, low));
  }

  -- a list up to a place that a member has made
  pub listed : (n : ℕ) → ((k : ℕ) → k < n → (t : Recorded) × Among t trails × (is_client t ≡ false) × (k < last_made (book_of m t))) → (list : List Batch) × Listed m trails view list × (length list ≡ n)
  listed zero made = ([], none_listed, refl)
  listed (suc n) made =
      let before = listed n (λ k low. made k (omega (arith, low))) in
      let list : List Batch = before.0 in
      let count = before.2 in
      let found = made n (omega arith) in
      let past = found.3 in
      let next = next_decider list before.1 found.0 found.1 found.2 (omega (arith, count, past)) in
      let long = length-append list (next.0 ∷ []) in
      (list ++ next.0 ∷ [], longer_listed list before.1 next.0 next.1, omega (arith, long, count))
