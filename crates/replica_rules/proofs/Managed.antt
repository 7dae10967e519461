-- The views of a replica follow from its list of batches alone, and grow at the end: by at most one a place, where a request of the view manager
-- stands alone.
use Rattle.std.proofs.Common.{◌≡◌, ◌⊎◌, inl, inr, ℕ, suc, ◌+◌, ◌-◌, ◌^◌, ◌<◌, ◌≤◌, ◌++◌, ◌==◌, ◌&&◌, ◌||◌, Bool, true, false, cond, List, [], ◌∷◌, length, take, Option, Some, None, Result, Ok, Err, nat_le, not, refl, ap, sym, subst, ◌∙◌, arith, append-nil, append_assoc}
use Rattle.std.specs.List.{list_any}
use Rattle.std.proofs.lemmas.Bool.{eqb-true, leb-true}
use Rattle.std.proofs.lemmas.List.{take-take}
use Rattle.smart_base.specs.Views.{View, is_view, present}
use Rattle.smart_base.proofs.SameLists.{and_true}
use Rattle.smart_view.specs.Making.{unless_fault}
use Rattle.smart_view.specs.declared.fault.ViewFault.{ViewFault}
use Rattle.reconfig.specs.Changes.{change_of}
use Rattle.reconfig.specs.Outcomes.{outcome_made, outcome_of, outcome_read, views_behind}
use Rattle.reconfig.specs.declared.change.Change.{Change}
use Rattle.reconfig.specs.declared.outcome.Outcome.{Outcome}
use Rattle.reconfig.specs.declared.outcome.Outcome.TheVariants.{Begins, NoChange, Refused}
use Rattle.reconfig.proofs.Outcomes.{begun_valid}
use Rattle.smart_statements.specs.Batches.{Batch}
use Rattle.smart_statements.specs.declared.statement.Request.{Request}
use Rattle.smart_service.specs.Services.{Meaning}
use Rattle.smart_service.specs.Tables.{last_seq, noting}
use Rattle.smart_service.specs.declared.replica.Replica.{Replica}
use Rattle.smart_service.specs.declared.table.Execution.{Execution}
use Rattle.smart_service.specs.declared.table.TableLine.{TableLine}
use Rattle.replica_rules.specs.Replicas.{after_batches, at_next, delivered, empty, execute, execute_all, is_next, is_of_manager, line_of, Managed, managed, managed_from, managed_of, manages, manages_all, service_made, state, view_at, views_after, views_made}
use Rattle.replica_rules.specs.Seals.{fits, is_alone, is_managers}
use Rattle.replica_rules.proofs.Executed.{last_other, last_same}
use Rattle.replica_rules.proofs.Places.{place_delivered, place_execute}

-- ---- a replica has what the view manager's requests make

managed_if : {S : Type 0} (t : Bool) (x y : Replica S) (g : Managed) → (t ≡ true → managed_of x ≡ g) → (t ≡ false → managed_of y ≡ g) → managed_of (cond t x y) ≡ g
managed_if true x y g one other = one refl
managed_if false x y g one other = other refl

-- an execution of client 0 has the last number of client 0
last_zero : (table : List TableLine) (x : Execution) → x.client ≡ 0 → last_seq (noting table x) 0 ≡ x.seq
last_zero table x is = subst (λ (k : ℕ). last_seq (noting table x) k ≡ x.seq) is (last_same table x)

-- a request that is executed
executed : {S : Type 0} (m : Meaning S) (r : Replica S) (i : ℕ) (q : Request) → is_next r.table q ≡ true → (c : Bool) → (q.client == 0) ≡ c
    → (record { seq = last_seq (noting r.table (line_of m r i q)) 0; views = cond c (views_behind r.views (outcome_of r.views q.op r.place)) r.views })
    ≡ cond (c && (q.seq == last_seq r.table 0 + 1)) (record { seq = q.seq; views = views_behind r.views (outcome_of r.views q.op r.place) }) (managed_of r)
executed m r i q next true is =
    let client : q.client ≡ 0 = eqb-true q.client 0 is in
    let views : List View = views_behind r.views (outcome_of r.views q.op r.place) in
    let now : (q.seq == last_seq r.table 0 + 1) ≡ true = subst (λ (k : ℕ). (q.seq == last_seq r.table k + 1) ≡ true) client next in
    ap (λ (k : ℕ). record { seq = k; views = views }) (last_zero r.table (line_of m r i q) client)
    ∙ sym (ap (λ (t : Bool). cond t (record { seq = q.seq; views = views }) (managed_of r)) now)
executed m r i q next false is = ap (λ (k : ℕ). record { seq = k; views = r.views }) (last_other r.table (line_of m r i q) 0 is)

-- one that is passed over
passed : {S : Type 0} (r : Replica S) (q : Request) (g : Managed) → is_next r.table q ≡ false → (c : Bool) → (q.client == 0) ≡ c
    → managed_of r ≡ cond (c && (q.seq == last_seq r.table 0 + 1)) g (managed_of r)
passed r q g none true is =
    let now : (q.seq == last_seq r.table 0 + 1) ≡ false = subst (λ (k : ℕ). (q.seq == last_seq r.table k + 1) ≡ false) (eqb-true q.client 0 is) none in
    sym (ap (λ (t : Bool). cond t g (managed_of r)) now)
passed r q g none false is = refl

managed_execute : {S : Type 0} (m : Meaning S) (r : Replica S) (i : ℕ) (q : Request) → managed_of (execute m r i q) ≡ manages r.place (managed_of r) q
unfolding execute
managed_execute m r i q =
    managed_if (is_next r.table q) (record { service = service_made m r q; table = noting r.table (line_of m r i q); views = views_made r q; place = r.place }) r (manages r.place (managed_of r) q)
    (λ next. executed m r i q next (q.client == 0) refl)
    (λ none. passed r q (record { seq = q.seq; views = views_behind r.views (outcome_of r.views q.op r.place) }) none (q.client == 0) refl)

managed_all : {S : Type 0} (m : Meaning S) (r : Replica S) (i : ℕ) (qs : Batch) → managed_of (execute_all m r i qs) ≡ manages_all r.place (managed_of r) qs
managed_all m r i [] = refl
managed_all m r i (q ∷ qs) =
    managed_all m (execute m r i q.statement) (i + 1) qs
    ∙ (ap (λ (k : ℕ). manages_all k (managed_of (execute m r i q.statement)) qs) (place_execute m r i q.statement)
    ∙ ap (λ (g : Managed). manages_all r.place g qs) (managed_execute m r i q.statement))

-- a batch, at the next place
pub managed_delivered : {S : Type 0} (m : Meaning S) (r : Replica S) (batch : Batch) → managed_of (delivered m r batch) ≡ manages_all (r.place + 1) (managed_of r) batch
unfolding delivered
managed_delivered m r batch = managed_all m (at_next r) 0 batch

-- more batches
pub managed_after : {S : Type 0} (m : Meaning S) (r : Replica S) (list : List Batch) → managed_of (after_batches m r list) ≡ managed_from (r.place + 1) (managed_of r) list
managed_after m r [] = refl
managed_after m r (batch ∷ list) =
    managed_after m (delivered m r batch) list
    ∙ (ap (λ (k : ℕ). managed_from (k + 1) (managed_of (delivered m r batch)) list) (place_delivered m r batch)
    ∙ ap (λ (g : Managed). managed_from (r.place + 1 + 1) g list) (managed_delivered m r batch))

-- a list of batches
pub managed_state : {S : Type 0} (m : Meaning S) (view : View) (list : List Batch) → managed_of (state m view list) ≡ managed view list
managed_state m view list = managed_after m (empty m view) list

-- a replica has the views that its list of batches makes
pub state_views : {S : Type 0} (m : Meaning S) (view : View) (list : List Batch) → (state m view list).views ≡ views_after view list
unfolding views_after
state_views m view list = ap (λ (g : Managed). g.views) (managed_state m view list)

-- ---- views grow at the end

-- views, and more behind them
abbrev pub GrowsTo : List View → List View → Type 0
GrowsTo views more = (rest : List View) × (more ≡ views ++ rest)

grows_none : (views : List View) → GrowsTo views views
grows_none views = ([], sym (append-nil views))

grows_through : (xs ys zs : List View) → GrowsTo xs ys → GrowsTo ys zs → GrowsTo xs zs
grows_through xs ys zs a b = (a.0 ++ b.0, b.1 ∙ (ap (λ (vs : List View). vs ++ b.0) a.1 ∙ append_assoc xs a.0 b.0))

grows_outcome : (views : List View) (o : Outcome) → GrowsTo views (views_behind views o)
grows_outcome views (Begins v) = (v ∷ [], refl)
grows_outcome views (Refused fault) = grows_none views
grows_outcome views NoChange = grows_none views

grows_if : (t : Bool) (g one : Managed) → GrowsTo g.views one.views → GrowsTo g.views (cond t one g).views
grows_if true g one grows = grows
grows_if false g one grows = grows_none g.views

grows_request : (place : ℕ) (g : Managed) (q : Request) → GrowsTo g.views (manages place g q).views
grows_request place g q =
    grows_if (is_of_manager q && (q.seq == g.seq + 1)) g (record { seq = q.seq; views = views_behind g.views (outcome_of g.views q.op place) }) (grows_outcome g.views (outcome_of g.views q.op place))

grows_batch : (place : ℕ) (g : Managed) (batch : Batch) → GrowsTo g.views (manages_all place g batch).views
grows_batch place g [] = grows_none g.views
grows_batch place g (q ∷ qs) =
    grows_through g.views (manages place g q.statement).views (manages_all place (manages place g q.statement) qs).views (grows_request place g q.statement)
    (grows_batch place (manages place g q.statement) qs)

grows_from : (place : ℕ) (g : Managed) (list : List Batch) → GrowsTo g.views (managed_from place g list).views
grows_from place g [] = grows_none g.views
grows_from place g (batch ∷ list) =
    grows_through g.views (manages_all place g batch).views (managed_from (place + 1) (manages_all place g batch) list).views (grows_batch place g batch)
    (grows_from (place + 1) (manages_all place g batch) list)

-- batches behind others
pub managed_append : (place : ℕ) (g : Managed) (xs ys : List Batch) → managed_from place g (xs ++ ys) ≡ managed_from (place + length xs) (managed_from place g xs) ys
managed_append place g [] ys = let same : place ≡ place + 0 = omega arith in ap (λ (k : ℕ). managed_from k g ys) same
managed_append place g (x ∷ xs) ys =
    let same : place + 1 + length xs ≡ place + suc (length xs) = omega arith in
    managed_append (place + 1) (manages_all place g x) xs ys
    ∙ ap (λ (k : ℕ). managed_from k (managed_from (place + 1) (manages_all place g x) xs) ys) same

-- the views of a longer list begin with those of the list
pub views_grow : (view : View) (xs ys : List Batch) → GrowsTo (views_after view xs) (views_after view (xs ++ ys))
unfolding views_after
views_grow view xs ys =
    subst (λ (g : Managed). GrowsTo (managed view xs).views g.views) (sym (managed_append 1 (record { seq = 0; views = view ∷ [] }) xs ys)) (grows_from (1 + length xs) (managed view xs) ys)

-- and with the first one
pub views_begin : (view : View) (list : List Batch) → GrowsTo (view ∷ []) (views_after view list)
unfolding views_after
views_begin view list = grows_from 1 (record { seq = 0; views = view ∷ [] }) list

pub views_none : (view : View) → views_after view [] ≡ view ∷ []
unfolding views_after
views_none view = refl

-- the views of a list with one batch more
pub views_end : (view : View) (list : List Batch) (batch : Batch) → views_after view (list ++ batch ∷ []) ≡ (manages_all (1 + length list) (managed view list) batch).views
unfolding views_after
views_end view list batch = ap (λ (g : Managed). g.views) (managed_append 1 (record { seq = 0; views = view ∷ [] }) list (batch ∷ []))

pub managed_views : (view : View) (list : List Batch) → (managed view list).views ≡ views_after view list
unfolding views_after
managed_views view list = refl

-- ---- at most one a place

-- a view that a place begins behind others: it has the next number, starts at the next place, and is valid
pub record IsBegunAt (place : ℕ) (views : List View) (v : View) : Type 0 where
  pub number_is : v.number ≡ (present views).number + 1
  pub start_is : v.start ≡ place + 1
  pub valid : place < 2 ^ 63 → is_view v ≡ true

-- views behind a place: those before it, or one more
abbrev pub AtMostOne : ℕ → List View → List View → Type 0
AtMostOne place views more = (more ≡ views) ⊎ ((v : View) × (more ≡ views ++ v ∷ []) × IsBegunAt place views v)

made_is : (o : Option ViewFault) (w v : View) → outcome_made (unless_fault o w) ≡ Begins v → w ≡ v
made_is None w v is = cc
made_is (Some fault) w v is = absurd (cc)

read_next : (place : ℕ) (views : List View) (r : Result Change ℕ) (v : View) → outcome_read views r place ≡ Begins v → (v.number ≡ (present views).number + 1) × (v.start ≡ place + 1)
read_next place views (Ok c) v is =
    let same = made_is _ _ v is in
    (ap (λ (u : View). u.number) (sym same), ap (λ (u : View). u.start) (sym same))
read_next place views (Err at) v is = absurd (cc)

pub one_outcome : (place : ℕ) (views : List View) (op : List ℕ) (o : Outcome) → outcome_of views op place ≡ o → AtMostOne place views (views_behind views o)
one_outcome place views op (Begins v) is =
    let next = read_next place views (change_of op) v is in
    inr (v, refl, record { number_is = next.0; start_is = next.1; valid = λ low. begun_valid views op place v low is })
one_outcome place views op (Refused fault) is = inl refl
one_outcome place views op NoChange is = inl refl

one_if : (place : ℕ) (t : Bool) (g one : Managed) → AtMostOne place g.views one.views → AtMostOne place g.views (cond t one g).views
one_if place true g one is = is
one_if place false g one is = inl refl

one_request : (place : ℕ) (g : Managed) (q : Request) → AtMostOne place g.views (manages place g q).views
one_request place g q =
    one_if place (is_of_manager q && (q.seq == g.seq + 1)) g (record { seq = q.seq; views = views_behind g.views (outcome_of g.views q.op place) })
    (one_outcome place g.views q.op (outcome_of g.views q.op place) refl)

or_true : (a b : Bool) → (a || b) ≡ true → (a ≡ true) ⊎ (b ≡ true)
or_true true b is = inl refl
or_true false b is = inr is

-- requests of others make nothing
none_made : (place : ℕ) (g : Managed) (qs : Batch) → not (list_any is_managers qs) ≡ true → manages_all place g qs ≡ g
none_made place g [] is = refl
none_made place g (q ∷ qs) is =
    by (q.statement.client == 0) refl is (λ rest. none_made place g qs rest)
  where
    by : (c : Bool) → (q.statement.client == 0) ≡ c → not (c || list_any is_managers qs) ≡ true → (not (list_any is_managers qs) ≡ true → manages_all place g qs ≡ g)
        → manages_all place (manages place g q.statement) qs ≡ g
    by true at said later = absurd (cc)
    by false at said later =
        ap (λ (t : Bool). manages_all place (cond (t && (q.statement.seq == g.seq + 1)) (record { seq = q.statement.seq; views = views_behind g.views (outcome_of g.views q.statement.op place) }) g) qs) at
        ∙ later said

-- a batch in which a request of the view manager stands alone
pub one_batch : (place : ℕ) (g : Managed) (batch : Batch) → is_alone batch ≡ true → AtMostOne place g.views (manages_all place g batch).views
one_batch place g [] is = inl refl
one_batch place g (q ∷ []) is = one_request place g q.statement
one_batch place g (q ∷ p ∷ qs) is = by (or_true (nat_le (length (q ∷ p ∷ qs)) 1) (not (list_any is_managers (q ∷ p ∷ qs))) is)
  where
    by : (nat_le (length (q ∷ p ∷ qs)) 1 ≡ true) ⊎ (not (list_any is_managers (q ∷ p ∷ qs)) ≡ true) → AtMostOne place g.views (manages_all place g (q ∷ p ∷ qs)).views
    by (inl short) = absurd (let few = leb-true (length (q ∷ p ∷ qs)) 1 short in omega (arith, few))
    by (inr none) = inl (ap (λ (x : Managed). x.views) (none_made place g (q ∷ p ∷ qs) none))

-- a batch that may stand at a place is one
pub fits_alone : (secret : List ℕ) (batch : Batch) (place : ℕ) → fits secret batch place ≡ true → is_alone batch ≡ true
unfolding fits
fits_alone secret batch place is = (and_true _ (is_alone batch) is).1

-- so the views of a list with such a batch more
pub views_one : (view : View) (list : List Batch) (batch : Batch) → is_alone batch ≡ true → AtMostOne (1 + length list) (views_after view list) (views_after view (list ++ batch ∷ []))
views_one view list batch alone =
    subst (λ (more : List View). AtMostOne (1 + length list) (views_after view list) more) (sym (views_end view list batch))
    (subst (λ (vs : List View). AtMostOne (1 + length list) vs (manages_all (1 + length list) (managed view list) batch).views) (managed_views view list)
    (one_batch (1 + length list) (managed view list) batch alone))

-- and of a replica that executes one
pub delivered_one : {S : Type 0} (m : Meaning S) (r : Replica S) (batch : Batch) → is_alone batch ≡ true → AtMostOne (r.place + 1) r.views (delivered m r batch).views
delivered_one m r batch alone =
    subst (λ (more : List View). AtMostOne (r.place + 1) r.views more) (sym (ap (λ (g : Managed). g.views) (managed_delivered m r batch))) (one_batch (r.place + 1) (managed_of r) batch alone)

-- ---- the view at a place

-- the view of a place follows from the batches before it
pub at_front : (view : View) (k : ℕ) (list : List Batch) (place : ℕ) → place ≤ k + 1 → view_at view (take k list) place ≡ view_at view list place
at_front view k list place low = ap (λ (bs : List Batch). present (views_after view bs)) (take-take (place - 1) k list (omega (arith, low)))
