-- A replica that has a snapshot has one behind each batch whose clients there are.
use Rattle.std.proofs.Common.{◌≡◌, ℕ, ◌+◌, ◌-◌, ◌*◌, ◌^◌, ◌<◌, ◌≤◌, ◌==◌, Bool, true, false, ltb, leb, not, ◌&&◌, ◌||◌, List, [], ◌∷◌, ◌++◌, length, inl, inr, refl, ap, sym, subst, cond, arith, length-append}
use Rattle.std.proofs.lemmas.Bool.{eq-eqb, eqb-true, leb-true, le-leb, lt-ltb}
use Rattle.std.specs.List.{AllByRecursion, list_any}
use Rattle.smart_base.specs.FieldLaws.{and_true}
use Rattle.smart_base.specs.Lists.{Each}
use Rattle.smart_base.specs.Spelling.{IsCount}
use Rattle.smart_base.specs.Views.{View, ascends, is_view, present}
use Rattle.smart_base.proofs.ViewFacts.{each-weaken}
use Rattle.smart_statements.specs.Batches.{Batch}
use Rattle.smart_statements.specs.Kinds.{requests}
use Rattle.smart_statements.specs.Spelling.{FitsSigned, FitsRequest}
use Rattle.smart_statements.specs.declared.statement.Request.{Request}
use Rattle.smart_service.specs.Services.{Meaning}
use Rattle.smart_service.specs.Tables.{noting, with_line}
use Rattle.smart_service.specs.declared.replica.Replica.{Replica}
use Rattle.smart_service.specs.declared.table.TableLine.{TableLine}
use Rattle.smart_service.proofs.TableLines.{ascends_with}
use Rattle.reconfig.specs.Outcomes.{reply_of, views_behind}
use Rattle.reconfig.specs.declared.outcome.Outcome.{Outcome}
use Rattle.reconfig.specs.declared.outcome.Outcome.TheVariants.{Begins, NoChange, Refused}
use Rattle.reconfig.proofs.Replies.{brief as reply_brief}
use Rattle.replica_rules.specs.Replicas.{is_next, is_of_manager, line_of, outcome_at, reply_made, service_made, views_made, execute, execute_all, at_next, delivered, empty, after_batches}
use Rattle.replica_rules.specs.Seals.{is_alone, is_managers}
use Rattle.replica_rules.proofs.Managed.{AtMostOne, one_outcome}
use Rattle.replica_rules.proofs.Places.{place_execute, place_delivered}
use Rattle.snapshot_form.specs.Replicas.{is_next_view, follow, is_first_view, views_follow, FitsLine, FitsReplica, IsOfClients}

-- ---- views

-- views that follow at a place do so at the next
follow_later : (place number start : ℕ) (vs : List View) → follow place number start vs ≡ true → follow (place + 1) number start vs ≡ true
follow_later place number start [] e = refl
follow_later place number start (v ∷ vs) e =
    let a = and_true (is_next_view place number start v) (follow place v.number v.start vs) e in
    let b = and_true ((v.number == number + 1) && ltb start v.start) (leb v.start (place + 1)) a.0 in
    let low = leb-true v.start (place + 1) b.1 in
    rw (b.0, le-leb v.start (place + 1 + 1) (omega (arith, low))) (follow_later place v.number v.start vs a.1)

views_later : (place : ℕ) (vs : List View) → views_follow place vs ≡ true → views_follow (place + 1) vs ≡ true
views_later place [] e = absurd cc
views_later place (v ∷ vs) e =
    let a = and_true (is_first_view v) (follow place 0 1 vs) e in
    rw a.0 (follow_later place 0 1 vs a.1)

-- the last of views that follow one
last_number : (place : ℕ) (v : View) (vs : List View) → follow place v.number v.start vs ≡ true → (present (v ∷ vs)).number ≡ v.number + length vs
last_number place v [] e = omega arith
last_number place v (w ∷ vs) e =
    let a = and_true (is_next_view place v.number v.start w) (follow place w.number w.start vs) e in
    let b = and_true ((w.number == v.number + 1) && ltb v.start w.start) (leb w.start (place + 1)) a.0 in
    let c = and_true (w.number == v.number + 1) (ltb v.start w.start) b.0 in
    let is = eqb-true w.number (v.number + 1) c.0 in
    let rest = last_number place w vs a.1 in
    omega (arith, is, rest)

-- the present view has a line's number of a view
present_low : (place : ℕ) (vs : List View) → views_follow place vs ≡ true → (present vs).number < length vs
present_low place [] e = absurd cc
present_low place (v ∷ vs) e =
    let a = and_true (is_first_view v) (follow place 0 1 vs) e in
    let b = and_true (v.number == 0) (v.start == 1) a.0 in
    let number = eqb-true v.number 0 b.0 in
    let start = eqb-true v.start 1 b.1 in
    let last = last_number place v vs (rw (number, start) a.1) in
    omega (arith, number, last)

-- so many views there are
pub number_count : (place : ℕ) (vs : List View) → views_follow place vs ≡ true → (present vs).number + 1 ≡ length vs
number_count place [] e = absurd cc
number_count place (v ∷ vs) e =
    let a = and_true (is_first_view v) (follow place 0 1 vs) e in
    let b = and_true (v.number == 0) (v.start == 1) a.0 in
    let number = eqb-true v.number 0 b.0 in
    let start = eqb-true v.start 1 b.1 in
    let last = last_number place v vs (rw (number, start) a.1) in
    omega (arith, number, last)

-- ---- lines

each_if : (P : TableLine → Type 0) (b : Bool) (xs ys : List TableLine) → Each P xs → Each P ys → Each P (cond b xs ys)
each_if P true xs ys ex ey = ex
each_if P false xs ys ex ey = ey

-- a table with one more line
each_with : (P : TableLine → Type 0) (table : List TableLine) (line : TableLine) → Each P table → P line → Each P (with_line table line)
each_with P [] line each is = (is, tt)
each_with P (old ∷ olds) line each is =
    each_if P (old.last.client == line.last.client) (line ∷ olds) (cond (ltb line.last.client old.last.client) (line ∷ old ∷ olds) (old ∷ with_line olds line)) (is, each.1)
    (each_if P (ltb line.last.client old.last.client) (line ∷ old ∷ olds) (old ∷ with_line olds line) (is, each) (each.0, each_with P olds line each.1 is))

line_later : (place views : ℕ) (line : TableLine) → FitsLine place views line → FitsLine (place + 1) views line
line_later place views line h = record {
  client_fits = h.client_fits;
  seq_fits = h.seq_fits;
  some_place = h.some_place;
  past_place = omega (arith, h.past_place);
  index_fits = h.index_fits;
  view_fits = h.view_fits;
  reply_fits = h.reply_fits;
}

-- a line of one of some views is a line of one of more
line_wider : (place views more : ℕ) (line : TableLine) → views ≤ more → FitsLine place views line → FitsLine place more line
line_wider place views more line wide h = record {
  client_fits = h.client_fits;
  seq_fits = h.seq_fits;
  some_place = h.some_place;
  past_place = h.past_place;
  index_fits = h.index_fits;
  view_fits = omega (arith, wide, h.view_fits);
  reply_fits = h.reply_fits;
}

-- ---- views with one more

each_end : {A : Type 0} (P : A → Type 0) (xs : List A) (x : A) → Each P xs → P x → Each P (xs ++ x ∷ [])
each_end P [] x each is = (is, tt)
each_end P (y ∷ ys) x each is = (each.0, each_end P ys x each.1 is)

-- views that a replica at a place may have
record FitViews (place : ℕ) (views : List View) : Type 0 where
  pub valid : Each (λ v. is_view v ≡ true) views
  pub few : length views ≤ 1024
  pub in_turn : views_follow place views ≡ true

fit_if : (c : Bool) (place : ℕ) (one other : List View) → FitViews place one → FitViews place other → FitViews place (cond c one other)
fit_if true place one other is also = is
fit_if false place one other is also = also

long_if : (c : Bool) (views one : List View) → length views ≤ length one → length views ≤ length (cond c one views)
long_if true views one more = more
long_if false views one more = omega arith

longer_behind : (views : List View) (o : Outcome) → length views ≤ length (views_behind views o)
longer_behind views (Begins v) = omega (arith, length-append views (v ∷ []))
longer_behind views (Refused fault) = omega arith
longer_behind views NoChange = omega arith

own_views : {S : Type 0} {valid : S → Type 0} (r : Replica S) → FitsReplica valid r → FitViews r.place r.views
own_views r h = record { valid = h.views_fit; few = h.few_views; in_turn = h.views_in_turn }

-- a valid view has a number up to 1,023
pub number_low : (v : View) → is_view v ≡ true → v.number ≤ 1023
unfolding is_view
number_low v is =
    let a = and_true (leb v.number 1023 && leb 1 v.start && leb v.start (2 ^ 63) && leb v.f 10 && leb (3 * v.f + 1) (length v.members) && leb (length v.members) 31) (ascends 0 v.members) is in
    let b = and_true (leb v.number 1023 && leb 1 v.start && leb v.start (2 ^ 63) && leb v.f 10 && leb (3 * v.f + 1) (length v.members)) (leb (length v.members) 31) a.0 in
    let c = and_true (leb v.number 1023 && leb 1 v.start && leb v.start (2 ^ 63) && leb v.f 10) (leb (3 * v.f + 1) (length v.members)) b.0 in
    let d = and_true (leb v.number 1023 && leb 1 v.start && leb v.start (2 ^ 63)) (leb v.f 10) c.0 in
    let e = and_true (leb v.number 1023 && leb 1 v.start) (leb v.start (2 ^ 63)) d.0 in
    leb-true v.number 1023 (and_true (leb v.number 1023) (leb 1 v.start) e.0).0

-- the next view, which starts behind the next place, follows
follow_next : (place : ℕ) (v : View) (vs : List View) (w : View) → follow place v.number v.start vs ≡ true → v.start ≤ place + 1 → w.number ≡ (present (v ∷ vs)).number + 1 → w.start ≡ place + 1 + 1
    → follow (place + 1) v.number v.start (vs ++ w ∷ []) ≡ true
follow_next place v [] w e low number start =
    rw (eq-eqb w.number (v.number + 1) number, lt-ltb v.start w.start (omega (arith, low, start)), le-leb w.start (place + 1 + 1) (omega (arith, start))) refl
follow_next place v (u ∷ us) w e low number start =
    let a = and_true (is_next_view place v.number v.start u) (follow place u.number u.start us) e in
    let b = and_true ((u.number == v.number + 1) && ltb v.start u.start) (leb u.start (place + 1)) a.0 in
    let at = leb-true u.start (place + 1) b.1 in
    rw (b.0, le-leb u.start (place + 1 + 1) (omega (arith, at))) (follow_next place u us w a.1 at number start)

views_next : (place : ℕ) (vs : List View) (w : View) → views_follow place vs ≡ true → w.number ≡ (present vs).number + 1 → w.start ≡ place + 1 + 1 → views_follow (place + 1) (vs ++ w ∷ []) ≡ true
views_next place [] w e number start = absurd cc
views_next place (v ∷ vs) w e number start =
    let a = and_true (is_first_view v) (follow place 0 1 vs) e in
    let b = and_true (v.number == 0) (v.start == 1) a.0 in
    let zero = eqb-true v.number 0 b.0 in
    let one = eqb-true v.start 1 b.1 in
    let rest : follow (place + 1) v.number v.start (vs ++ w ∷ []) ≡ true = follow_next place v vs w (rw (zero, one) a.1) (omega (arith, one)) number start in
    rw a.0 (subst (λ (k : ℕ). follow (place + 1) 0 k (vs ++ w ∷ []) ≡ true) one (subst (λ (k : ℕ). follow (place + 1) k v.start (vs ++ w ∷ []) ≡ true) zero rest))

-- what is behind the view manager's request
behind_fit : {S : Type 0} {valid : S → Type 0} (r : Replica S) (q : Request) → FitsReplica valid r → views_follow (r.place - 1) r.views ≡ true → 1 ≤ r.place
    → FitViews r.place (views_behind r.views (outcome_at r q))
behind_fit r q h early some = by (one_outcome r.place r.views q.op (outcome_at r q) refl)
  where
    by : AtMostOne r.place r.views (views_behind r.views (outcome_at r q)) → FitViews r.place (views_behind r.views (outcome_at r q))
    by (inl same) = subst (λ (vs : List View). FitViews r.place vs) (sym same) (own_views r h)
    by (inr one) =
        let v : View = one.0 in
        let begun = one.2 in
        let viewed : is_view v ≡ true = begun.valid h.place_fits in
        let numbered = begun.number_is in
        let started = begun.start_is in
        let low = number_low v viewed in
        let same : r.place - 1 + 1 ≡ r.place = omega (arith, some) in
        let long = length-append r.views (v ∷ []) in
        let count = number_count (r.place - 1) r.views early in
        subst (λ (vs : List View). FitViews r.place vs) (sym one.1) (record {
          valid = each_end (λ w. is_view w ≡ true) r.views v h.views_fit viewed;
          few = omega (arith, long, numbered, low, count);
          in_turn = subst (λ (k : ℕ). views_follow k (r.views ++ v ∷ []) ≡ true) same (views_next (r.place - 1) r.views v early numbered (omega (arith, started, some)));
        })

-- a batch of more than one request has none of the view manager, where such a one stands alone
or_true : (a b : Bool) → (a || b) ≡ true → a ≡ false → b ≡ true
or_true true b is isnt = absurd (cc)
or_true false b is isnt = is

long_batch : (batch : Batch) → 1 < length batch → leb (length batch) 1 ≡ false
long_batch batch long = by (leb (length batch) 1) refl
  where
    by : (t : Bool) → leb (length batch) 1 ≡ t → t ≡ false
    by true is = absurd (let low = leb-true (length batch) 1 is in omega (arith, low, long))
    by false is = refl

many_alone : (batch : Batch) → 1 < length batch → is_alone batch ≡ true → not (list_any is_managers batch) ≡ true
many_alone batch long is = or_true (leb (length batch) 1) (not (list_any is_managers batch)) is (long_batch batch long)

none_more : (a b : Bool) → not (a || b) ≡ true → (a ≡ false) × (not b ≡ true)
none_more true b is = absurd (cc)
none_more false b is = (refl, is)

-- ---- replicas

module _ {S : Type 0} (m : Meaning S) (valid : S → Type 0) (next : (s : S) (op : List ℕ) → valid s → valid (m.next s op)) (brief : (s : S) (op : List ℕ) → valid s → length (m.reply s op) ≤ 4096) where
  fits_next : (r : Replica S) → FitsReplica valid r → r.place + 1 < 2 ^ 63 → FitsReplica valid (at_next r)
  fits_next r h small = record {
    place_fits = small;
    views_fit = h.views_fit;
    few_views = h.few_views;
    views_in_turn = views_later r.place r.views h.views_in_turn;
    lines_fit = each-weaken (FitsLine r.place (length r.views)) (FitsLine (r.place + 1) (length r.views)) (line_later r.place (length r.views)) r.table h.lines_fit;
    lines_in_turn = h.lines_in_turn;
    service_fits = h.service_fits;
  }

  fits_if : (b : Bool) (x y : Replica S) → FitsReplica valid x → FitsReplica valid y → FitsReplica valid (cond b x y)
  fits_if true x y one other = one
  fits_if false x y one other = other

  -- what a request leaves of the service, and its reply
  service_fits_by : (r : Replica S) (q : Request) → valid r.service → valid (service_made m r q)
  service_fits_by r q is = by (is_of_manager q)
    where
      by : (c : Bool) → valid (cond c r.service (m.next r.service q.op))
      by true = is
      by false = next r.service q.op is

  reply_fits_by : (r : Replica S) (q : Request) → valid r.service → length (reply_made m r q) ≤ 4096
  reply_fits_by r q is = by (is_of_manager q)
    where
      by : (c : Bool) → length (cond c (reply_of (outcome_at r q)) (m.reply r.service q.op)) ≤ 4096
      by true = reply_brief r.views q.op r.place
      by false = brief r.service q.op is

  -- the replica with the views that a request makes, before its line
  abbrev with_made : Replica S → ℕ → Request → List View → Replica S
  with_made r i q views = record { service = service_made m r q; table = noting r.table (line_of m r i q); views = views; place = r.place }

  fits_line : (r : Replica S) (i : ℕ) (q : Request) (views : List View) → FitsReplica valid r → 1 ≤ r.place → i < 64 → q.client ≤ 1024 → IsCount q.seq → FitViews r.place views → length r.views ≤ length views
      → FitsReplica valid (with_made r i q views)
  fits_line r i q views h some low known count fit more =
      let now = present_low r.place r.views h.views_in_turn in
      record {
        place_fits = h.place_fits;
        views_fit = fit.valid;
        few_views = fit.few;
        views_in_turn = fit.in_turn;
        lines_fit = each_with (FitsLine r.place (length views)) r.table (record { last = line_of m r i q })
            (each-weaken (FitsLine r.place (length r.views)) (FitsLine r.place (length views)) (λ line is. line_wider r.place (length r.views) (length views) line more is) r.table h.lines_fit)
            (record {
              client_fits = known;
              seq_fits = count;
              some_place = some;
              past_place = omega arith;
              index_fits = low;
              view_fits = omega (arith, now, more);
              reply_fits = reply_fits_by r q h.service_fits;
            });
        lines_in_turn = ascends_with r.table (record { last = line_of m r i q }) h.lines_in_turn;
        service_fits = service_fits_by r q h.service_fits;
      }

  -- a request that may begin a view, if none has begun at its place
  fits_execute : (r : Replica S) (i : ℕ) (q : Request) → FitsReplica valid r → views_follow (r.place - 1) r.views ≡ true → 1 ≤ r.place → i < 64 → q.client ≤ 1024 → IsCount q.seq
      → FitsReplica valid (execute m r i q)
  unfolding execute
  fits_execute r i q h early some low known count =
      let o : Outcome = outcome_at r q in
      fits_if (is_next r.table q) (with_made r i q (views_made r q)) r
      (fits_line r i q (views_made r q) h some low known count (fit_if (is_of_manager q) r.place (views_behind r.views o) r.views (behind_fit r q h early some) (own_views r h))
      (long_if (is_of_manager q) r.views (views_behind r.views o) (longer_behind r.views o)))
      h

  -- any other client's leaves the views
  fits_other : (r : Replica S) (i : ℕ) (q : Request) → is_of_manager q ≡ false → FitsReplica valid r → 1 ≤ r.place → i < 64 → q.client ≤ 1024 → IsCount q.seq → FitsReplica valid (execute m r i q)
  unfolding execute
  fits_other r i q other h some low known count =
      let same : views_made r q ≡ r.views = ap (λ (c : Bool). cond c (views_behind r.views (outcome_at r q)) r.views) other in
      fits_if (is_next r.table q) (with_made r i q (views_made r q)) r
      (subst (λ (vs : List View). FitsReplica valid (with_made r i q vs)) (sym same) (fits_line r i q r.views h some low known count (own_views r h) (omega arith)))
      h

  fits_all : (r : Replica S) (i : ℕ) (qs : Batch) → not (list_any is_managers qs) ≡ true → FitsReplica valid r → 1 ≤ r.place → i + length qs ≤ 64 → Each (λ q. q.statement.client ≤ 1024) qs
      → AllByRecursion (FitsSigned requests FitsRequest) qs → FitsReplica valid (execute_all m r i qs)
  fits_all r i [] none h some few known each = h
  fits_all r i (q ∷ qs) none h some few known each =
      let place = place_execute m r i q.statement in
      let parts = none_more (is_managers q) (list_any is_managers qs) none in
      fits_all (execute m r i q.statement) (i + 1) qs parts.1
      (fits_other r i q.statement parts.0 h some (omega (arith, few)) known.0 each.0.statement_fits.seq_fits)
      (omega (arith, some, place)) (omega (arith, few)) known.1 each.1

  pub fits_delivered : (r : Replica S) (batch : Batch) → FitsReplica valid r → r.place + 1 < 2 ^ 63 → IsOfClients batch → FitsReplica valid (delivered m r batch)
  unfolding delivered
  fits_delivered r [] h small of = fits_next r h small
  fits_delivered r (q ∷ []) h small of =
      let same : r.place ≡ r.place + 1 - 1 = omega arith in
      fits_execute (at_next r) 0 q.statement (fits_next r h small) (subst (λ (k : ℕ). views_follow k r.views ≡ true) same h.views_in_turn) (omega arith) (omega arith) of.1.0 of.0.each_fits.0.statement_fits.seq_fits
  fits_delivered r (q ∷ p ∷ qs) h small of =
      fits_all (at_next r) 0 (q ∷ p ∷ qs) (many_alone (q ∷ p ∷ qs) (omega arith) of.2) (fits_next r h small) (omega arith) (omega (arith, of.0.count_fits.1)) of.1 of.0.each_fits

  pub fits_after : (r : Replica S) (list : List Batch) → FitsReplica valid r → r.place + length list < 2 ^ 63 → Each IsOfClients list → FitsReplica valid (after_batches m r list)
  fits_after r [] h small of = h
  fits_after r (batch ∷ list) h small of =
      let place = place_delivered m r batch in
      fits_after (delivered m r batch) list (fits_delivered r batch h (omega (arith, small)) of.0) (omega (arith, small, place)) of.1

-- the replica before any batch
pub fits_empty : {S : Type 0} (m : Meaning S) (valid : S → Type 0) (view : View) → valid m.first → is_view view ≡ true → is_first_view view ≡ true → FitsReplica valid (empty m view)
fits_empty m valid view first is begins = record {
  place_fits = omega arith;
  views_fit = (is, tt);
  few_views = omega arith;
  views_in_turn = rw begins refl;
  lines_fit = tt;
  lines_in_turn = tt;
  service_fits = first;
}
