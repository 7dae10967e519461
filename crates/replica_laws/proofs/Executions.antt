-- What a longer list executes, and what a line of a list's executions says.
use Rattle.std.proofs.Common.{⊎_elim, ◌⊎◌, ◌≡◌, ℕ, zero, suc, ◌+◌, ◌-◌, ◌++◌, ◌||◌, not, Bool, true, false, List, [], ◌∷◌, length, nat_le, refl, ap, ◌∙◌, sym, cond, Some, None, inl, inr, subst, take, arith, add-one}
use Rattle.std.proofs.lemmas.Bool.{leb-true}
use Rattle.std.specs.List.{list_any}
use Rattle.std.specs.Prelude.{slice_get}
use Rattle.std.specs.Option.{option_to_list}
use Rattle.smart_base.specs.Lists.{Each}
use Rattle.smart_base.specs.Views.{View, present}
use Rattle.smart_statements.specs.Forms.{SignedBy}
use Rattle.smart_statements.specs.Batches.{Batch}
use Rattle.smart_statements.specs.declared.statement.Request.{Request}
use Rattle.smart_service.specs.Services.{Meaning}
use Rattle.smart_service.specs.declared.table.Execution.{Execution}
use Rattle.smart_service.specs.declared.replica.Replica.{Replica}
use Rattle.smart_service.specs.Tables.{noting}
use Rattle.reconfig.specs.Outcomes.{views_behind}
use Rattle.replica_rules.specs.Seals.{is_alone, is_managers}
use Rattle.replica_rules.specs.Replicas.{is_next, is_of_manager, outcome_at, service_made, views_made, line_of, execute, line_made, lines_of, at_next, delivered, executed_lines, empty, after_batches, state, executions_from, executions, batch_at, request_at, views_after, view_at}
use Rattle.replica_laws.specs.Lines.{HasLine}
use Rattle.replica_laws.proofs.OnePlace.{each_line}
use Rattle.agreement_laws.proofs.Lists.{each_append}
use Rattle.smart_base.proofs.ViewFacts.{each-weaken}
use Rattle.replica_rules.proofs.Managed.{state_views}
use Rattle.replica_rules.proofs.Places.{executions_append, place_execute, place_delivered}

-- lines among lines

-- a line of the first list is among both
pub has_left : (xs ys : List Execution) (l : Execution) → HasLine xs l → HasLine (xs ++ ys) l
has_left [] ys l has = absurd has
has_left (x ∷ xs) ys l has = elim has [ inl here ↦ inl here | inr later ↦ inr (has_left xs ys l later) ]

-- a line of both is among the first or the second
pub has_either : (xs ys : List Execution) (l : Execution) → HasLine (xs ++ ys) l → HasLine xs l ⊎ HasLine ys l
has_either [] ys l has = inr has
has_either (x ∷ xs) ys l has =
    elim has [ inl here ↦ inl (inl here) | inr later ↦ ⊎_elim (λ (some : HasLine xs l). inl (inr some)) (λ (more : HasLine ys l). inr more) (has_either xs ys l later) ]

-- a line of the second list is among both
pub has_right : (xs ys : List Execution) (l : Execution) → HasLine ys l → HasLine (xs ++ ys) l
has_right [] ys l has = has
has_right (x ∷ xs) ys l has = inr (has_right xs ys l has)

-- a longer list

-- what is executed stays executed
pub executions-more : {S : Type 0} (m : Meaning S) (v : View) (list more : List Batch) (l : Execution) → HasLine (executions m v list) l → HasLine (executions m v (list ++ more)) l
executions-more m v list more l has =
    subst (λ lines. HasLine lines l) (sym (executions_append m (empty m v) list more))
    (has_left (executions m v list) (executions_from m (state m v list) more) l has)

-- what a batch executes in its turn, the batches execute
executed_from : {S : Type 0} (m : Meaning S) (r : Replica S) (list : List Batch) (k : ℕ) (batch : Batch) (l : Execution)
    → slice_get list k ≡ Some batch → HasLine (executed_lines m (after_batches m r (take k list)) batch) l → HasLine (executions_from m r list) l
executed_from m r [] k batch l at has = absurd (cc)
executed_from m r (b ∷ list) zero batch l at has =
    let same : b ≡ batch = cc in
    has_left (executed_lines m r b) (executions_from m (delivered m r b) list) l (subst (λ c. HasLine (executed_lines m r c) l) (sym same) has)
executed_from m r (b ∷ list) (suc k) batch l at has =
    has_right (executed_lines m r b) (executions_from m (delivered m r b) list) l (executed_from m (delivered m r b) list k batch l at has)

-- what the batch at a place executes, the list executes
pub executed-at : {S : Type 0} (m : Meaning S) (v : View) (list : List Batch) (k : ℕ) (batch : Batch) (l : Execution)
    → batch_at list (k + 1) ≡ Some batch → HasLine (executed_lines m (state m v (take k list)) batch) l → HasLine (executions m v list) l
executed-at m v list k batch l at has = executed_from m (empty m v) list k batch l (sym (ap (batch_at list) (add-one k)) ∙ at) has

-- what a line says

-- the request that a line is of, among requests that stand from an index on
pub record OfRequest {S : Type 0} (r : Replica S) (from : ℕ) (qs : Batch) (l : Execution) : Type 0 where
  pub request : SignedBy Request
  pub step : ℕ
  pub at_place : l.place ≡ r.place
  pub at_index : l.index ≡ from + step
  pub in_view : not (list_any is_managers (take step qs)) ≡ true → l.view ≡ (present r.views).number
  pub there : slice_get qs step ≡ Some request
  pub own_client : request.statement.client ≡ l.client
  pub own_seq : request.statement.seq ≡ l.seq

-- the line of the first request
of_one : {S : Type 0} (m : Meaning S) (r : Replica S) (i : ℕ) (q : SignedBy Request) (qs : Batch) (next : Bool) → Each (OfRequest r i (q ∷ qs)) (option_to_list (cond next (Some (line_of m r i q.statement)) None))
of_one m r i q qs true = (record { request = q; step = 0; at_place = refl; at_index = omega arith; in_view = λ none. refl; there = refl; own_client = refl; own_seq = refl }, tt)
of_one m r i q qs false = tt

-- a request of another client than the view manager leaves the views
pub views_other : {S : Type 0} (m : Meaning S) (r : Replica S) (i : ℕ) (q : Request) → is_of_manager q ≡ false → (execute m r i q).views ≡ r.views
unfolding execute
views_other {S = S} m r i q other = by (is_next r.table q)
  where
    made : views_made r q ≡ r.views
    made = ap (λ (c : Bool). cond c (views_behind r.views (outcome_at r q)) r.views) other

    by : (t : Bool) → (cond t (record { service = service_made m r q; table = noting r.table (line_of m r i q); views = views_made r q; place = r.place }) r).views ≡ r.views
    by true = made
    by false = refl

none_more : (a b : Bool) → not (a || b) ≡ true → (a ≡ false) × (not b ≡ true)
none_more true b is = absurd (cc)
none_more false b is = (refl, is)

-- a line of the later requests is of the requests
of_later : {S : Type 0} (m : Meaning S) (r : Replica S) (i : ℕ) (q : SignedBy Request) (qs : Batch) (l : Execution) → OfRequest (execute m r i q.statement) (i + 1) qs l → OfRequest r i (q ∷ qs) l
of_later m r i q qs l is = record {
  request = is.request;
  step = suc is.step;
  at_place = is.at_place ∙ place_execute m r i q.statement;
  at_index = omega (arith, is.at_index);
  in_view = λ none. let parts = none_more (is_managers q) (list_any is_managers (take is.step qs)) none in is.in_view parts.1 ∙ ap (λ (vs : List View). (present vs).number) (views_other m r i q.statement parts.0);
  there = is.there;
  own_client = is.own_client;
  own_seq = is.own_seq;
}

-- each line of requests is of one of them
of_all : {S : Type 0} (m : Meaning S) (r : Replica S) (i : ℕ) (qs : Batch) → Each (OfRequest r i qs) (lines_of m r i qs)
of_all m r i [] = tt
of_all m r i (q ∷ qs) =
    each_append (OfRequest r i (q ∷ qs)) (option_to_list (line_made m r i q.statement)) (lines_of m (execute m r i q.statement) (i + 1) qs)
    (of_one m r i q qs (is_next r.table q.statement))
    (each-weaken (OfRequest (execute m r i q.statement) (i + 1) qs) (OfRequest r i (q ∷ qs)) (of_later m r i q qs) _ (of_all m (execute m r i q.statement) (i + 1) qs))

-- each line of a batch is of one of its requests
pub of_delivered : {S : Type 0} (m : Meaning S) (r : Replica S) (batch : Batch) → Each (OfRequest (at_next r) 0 batch) (executed_lines m r batch)
unfolding executed_lines
of_delivered m r batch = of_all m (at_next r) 0 batch

-- the batch and the request that a line is of, among batches behind a replica
record OfBatch {S : Type 0} (m : Meaning S) (r : Replica S) (list : List Batch) (l : Execution) : Type 0 where
  batch : Batch
  request : SignedBy Request
  step : ℕ
  at_place : l.place ≡ r.place + suc step
  in_view : is_alone batch ≡ true → l.view ≡ (present (after_batches m r (take step list)).views).number
  batch_there : slice_get list step ≡ Some batch
  there : slice_get batch l.index ≡ Some request
  own_client : request.statement.client ≡ l.client
  own_seq : request.statement.seq ≡ l.seq

-- a part of a batch without requests of the view manager has none
none_with : (a b : Bool) → a ≡ false → not b ≡ true → not (a || b) ≡ true
none_with true b isnt is = absurd (cc)
none_with false b isnt is = is

fewer_managers : (n : ℕ) (xs : Batch) → not (list_any is_managers xs) ≡ true → not (list_any is_managers (take n xs)) ≡ true
fewer_managers zero xs is = refl
fewer_managers (suc n) [] is = refl
fewer_managers (suc n) (x ∷ xs) is =
    let parts = none_more (is_managers x) (list_any is_managers xs) is in
    none_with (is_managers x) (list_any is_managers (take n xs)) parts.0 (fewer_managers n xs parts.1)

second_of : (a b : Bool) → (a ≡ true → ⊥) → (a || b) ≡ true → b ≡ true
second_of true b isnt is = absurd (isnt refl)
second_of false b isnt is = is

-- where a request of the view manager stands alone, none is before another request
none_before : (batch : Batch) (step : ℕ) (q : SignedBy Request) → is_alone batch ≡ true → slice_get batch step ≡ Some q → not (list_any is_managers (take step batch)) ≡ true
none_before batch zero q alone at = refl
none_before [] (suc k) q alone at = absurd (cc)
none_before (p ∷ []) (suc k) q alone at = absurd (cc)
none_before (p ∷ o ∷ ps) (suc k) q alone at =
    fewer_managers (suc k) (p ∷ o ∷ ps)
    (second_of (nat_le (length (p ∷ o ∷ ps)) 1) (not (list_any is_managers (p ∷ o ∷ ps))) (λ short. let few = leb-true (length (p ∷ o ∷ ps)) 1 short in omega (arith, few)) alone)

-- a line of the first batch
batch_here : {S : Type 0} (m : Meaning S) (r : Replica S) (batch : Batch) (list : List Batch) (l : Execution) → OfRequest (at_next r) 0 batch l → OfBatch m r (batch ∷ list) l
batch_here m r batch list l is =
    let index : l.index ≡ is.step = omega (arith, is.at_index) in
    record {
      batch = batch;
      request = is.request;
      step = 0;
      at_place = omega (arith, is.at_place);
      in_view = λ alone. is.in_view (none_before batch is.step is.request alone is.there);
      batch_there = refl;
      there = ap (slice_get batch) index ∙ is.there;
      own_client = is.own_client;
      own_seq = is.own_seq;
    }

-- a line of the later batches is of the batches
batch_later : {S : Type 0} (m : Meaning S) (r : Replica S) (batch : Batch) (list : List Batch) (l : Execution) → OfBatch m (delivered m r batch) list l → OfBatch m r (batch ∷ list) l
batch_later m r batch list l is =
    let place = place_delivered m r batch in
    record {
      batch = is.batch;
      request = is.request;
      step = suc is.step;
      at_place = omega (arith, place, is.at_place);
      in_view = is.in_view;
      batch_there = is.batch_there;
      there = is.there;
      own_client = is.own_client;
      own_seq = is.own_seq;
    }

-- each line of batches is of one of them
batch_all : {S : Type 0} (m : Meaning S) (r : Replica S) (list : List Batch) → Each (OfBatch m r list) (executions_from m r list)
batch_all m r [] = tt
batch_all m r (batch ∷ list) =
    each_append (OfBatch m r (batch ∷ list)) (executed_lines m r batch) (executions_from m (delivered m r batch) list)
    (each-weaken (OfRequest (at_next r) 0 batch) (OfBatch m r (batch ∷ list)) (batch_here m r batch list) _ (of_delivered m r batch))
    (each-weaken (OfBatch m (delivered m r batch) list) (OfBatch m r (batch ∷ list)) (batch_later m r batch list) _ (batch_all m (delivered m r batch) list))

-- a line of a list's executions is of one of its batches
of_line : {S : Type 0} (m : Meaning S) (v : View) (list : List Batch) (l : Execution) → HasLine (executions m v list) l → OfBatch m (empty m v) list l
of_line m v list l has = each_line (OfBatch m (empty m v) list) (executions m v list) l (batch_all m (empty m v) list) has

-- the request of a line: it stands at the line's place and index
pub record IsOfRequest (list : List Batch) (l : Execution) : Type 0 where
  pub request : Request
  pub there : request_at list l.place l.index ≡ Some request
  pub client : request.client ≡ l.client
  pub seq : request.seq ≡ l.seq

-- the request at a place that counts from 1
request_there : (list : List Batch) (place k index : ℕ) (batch : Batch) (q : SignedBy Request) → place ≡ suc k → slice_get list k ≡ Some batch → slice_get batch index ≡ Some q
    → request_at list place index ≡ Some q.statement
request_there list place k index batch q is at there = rw (is, at, there) refl

-- a line is of the request at its place and index
pub request-line : {S : Type 0} (m : Meaning S) (v : View) (list : List Batch) (l : Execution) → HasLine (executions m v list) l → IsOfRequest list l
request-line m v list l has =
    let is = of_line m v list l has in
    record {
      request = is.request.statement;
      there = request_there list l.place is.step l.index is.batch is.request (omega (arith, is.at_place)) is.batch_there is.there;
      client = is.own_client;
      seq = is.own_seq;
    }

-- what holds of each batch holds of the one at an index
each_get : (P : Batch → Type 0) (list : List Batch) (k : ℕ) (batch : Batch) → Each P list → slice_get list k ≡ Some batch → P batch
each_get P [] k batch each at = absurd (cc)
each_get P (b ∷ list) zero batch each at = let same : b ≡ batch = cc in subst P same each.0
each_get P (b ∷ list) (suc k) batch each at = each_get P list k batch each.1 at

-- a line states the view in force at its place, also where its request begins another one
pub view-line : {S : Type 0} (m : Meaning S) (v : View) (list : List Batch) (l : Execution) → Each (λ (b : Batch). is_alone b ≡ true) list → HasLine (executions m v list) l → l.view ≡ (view_at v list l.place).number
view-line m v list l alone has =
    let is = of_line m v list l has in
    let behind : is.step ≡ l.place - 1 = omega (arith, is.at_place) in
    is.in_view (each_get (λ (b : Batch). is_alone b ≡ true) list is.step is.batch alone is.batch_there)
    ∙ (ap (λ (vs : List View). (present vs).number) (state_views m v (take is.step list))
    ∙ ap (λ (k : ℕ). (present (views_after v (take k list))).number) behind)
