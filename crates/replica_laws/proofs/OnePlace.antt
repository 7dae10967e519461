-- A request is executed once: executions stand in order, and no two are of one client and number.
use Rattle.std.proofs.Common.{◌≡◌, ℕ, ◌+◌, ◌<◌, ◌≤◌, ◌==◌, ◌++◌, Bool, true, false, ◌&&◌, List, [], ◌∷◌, refl, ap, ◌∙◌, sym, cond, Some, None, inl, inr, ◌⊎◌, subst, arith}
use Rattle.std.proofs.lemmas.Bool.{eq-eqb, eqb-true}
use Rattle.std.specs.Prelude.{option_map}
use Rattle.std.specs.Option.{option_to_list}
use Rattle.smart_base.specs.Lists.{Each}
use Rattle.smart_base.specs.Views.{View}
use Rattle.smart_statements.specs.Batches.{Batch}
use Rattle.smart_statements.specs.declared.statement.Request.{Request}
use Rattle.smart_service.specs.Services.{Meaning}
use Rattle.smart_service.specs.Tables.{is_executed}
use Rattle.smart_service.specs.declared.table.Execution.{Execution}
use Rattle.smart_service.specs.declared.table.TableLine.{TableLine}
use Rattle.smart_service.specs.declared.replica.Replica.{Replica}
use Rattle.replica_rules.specs.Replicas.{is_next, line_of, execute, execute_all, line_made, lines_of, at_next, delivered, executed_lines, empty, executions_from, executions, first_line, answer, place_of}
use Rattle.replica_laws.specs.Lines.{HasLine, Before, InOrder}
use Rattle.smart_base.proofs.SameLists.{and_true}
use Rattle.agreement_laws.proofs.Lists.{each_append}
use Rattle.smart_base.proofs.ViewFacts.{each-weaken}
use Rattle.replica_rules.proofs.Executed.{may_is_fresh, noted_is_done, done_stays}
use Rattle.replica_rules.proofs.Places.{place_execute, place_delivered}

-- what has been executed

-- a request that is executed has been
executed_done : {S : Type 0} (m : Meaning S) (r : Replica S) (i : ℕ) (q : Request) → is_next r.table q ≡ true → is_executed (execute m r i q).table q.client q.seq ≡ true
unfolding execute
executed_done m r i q is = rw is (noted_is_done r.table (line_of m r i q))

-- what has been executed stays so behind a request
execute_stays : {S : Type 0} (m : Meaning S) (r : Replica S) (i : ℕ) (q : Request) (next : Bool) → is_next r.table q ≡ next → (c s : ℕ) → is_executed r.table c s ≡ true
    → is_executed (execute m r i q).table c s ≡ true
unfolding execute
execute_stays m r i q true is c s done = rw is (done_stays r.table (line_of m r i q) c s is done)
execute_stays m r i q false is c s done = rw is done

-- and behind requests
execute_all_stays : {S : Type 0} (m : Meaning S) (r : Replica S) (i : ℕ) (qs : Batch) (c s : ℕ) → is_executed r.table c s ≡ true → is_executed (execute_all m r i qs).table c s ≡ true
execute_all_stays m r i [] c s done = done
execute_all_stays m r i (q ∷ qs) c s done =
    execute_all_stays m (execute m r i q.statement) (i + 1) qs c s (execute_stays m r i q.statement (is_next r.table q.statement) refl c s done)

-- so what has not been executed behind, was not before
not_before_it : (before behind : Bool) → (before ≡ true → behind ≡ true) → behind ≡ false → before ≡ false
not_before_it true behind stays fresh = sym (stays refl) ∙ fresh
not_before_it false behind stays fresh = refl

-- what has been executed and what has not are not one client's one number
no_repeat : (table : List TableLine) (c s d e : ℕ) → is_executed table c s ≡ true → is_executed table d e ≡ false → c ≡ d → s ≡ e → ⊥
no_repeat table c s d e done fresh client seq =
    clash (sym (ap (λ k. is_executed table k s) client ∙ ap (λ k. is_executed table d k) seq) ∙ done)
  where
    clash : is_executed table d e ≡ true → ⊥
    clash is = let no : true ≡ false = sym is ∙ fresh in absurd (cc)

-- lines in order

-- lists in order, each line of the first before all of the second, are in order together
order_append : (xs ys : List Execution) → InOrder xs → InOrder ys → Each (λ x. Each (Before x) ys) xs → InOrder (xs ++ ys)
order_append [] ys ox oy each = oy
order_append (x ∷ xs) ys ox oy each = (each_append (Before x) xs ys ox.0 each.0, order_append xs ys ox.1 oy each.1)

-- a line that requests from an index on make of a replica, with the last replica behind them
record Made {S : Type 0} (r last : Replica S) (from : ℕ) (l : Execution) : Type 0 where
  there : l.place ≡ r.place
  behind : from ≤ l.index
  fresh : is_executed r.table l.client l.seq ≡ false
  done : is_executed last.table l.client l.seq ≡ true

-- the line that the first request makes, if it is executed
made_one : {S : Type 0} (m : Meaning S) (r last : Replica S) (i : ℕ) (q : Request) (next : Bool) → is_next r.table q ≡ next
    → ((c s : ℕ) → is_executed (execute m r i q).table c s ≡ true → is_executed last.table c s ≡ true) → Each (Made r last i) (option_to_list (cond next (Some (line_of m r i q)) None))
made_one m r last i q true is stays =
    (record { there = refl; behind = omega arith; fresh = may_is_fresh r.table q.client q.seq is; done = stays q.client q.seq (executed_done m r i q is) }, tt)
made_one m r last i q false is stays = tt

-- a line that the later requests make, the requests make
made_later : {S : Type 0} (m : Meaning S) (r last : Replica S) (i : ℕ) (q : Request) (l : Execution) → Made (execute m r i q) last (i + 1) l → Made r last i l
made_later m r last i q l made = record {
  there = made.there ∙ place_execute m r i q;
  behind = omega (arith, made.behind);
  fresh = not_before_it (is_executed r.table l.client l.seq) (is_executed (execute m r i q).table l.client l.seq)
      (execute_stays m r i q (is_next r.table q) refl l.client l.seq) made.fresh;
  done = made.done;
}

-- all lines that requests make
made_all : {S : Type 0} (m : Meaning S) (r : Replica S) (i : ℕ) (qs : Batch) → Each (Made r (execute_all m r i qs) i) (lines_of m r i qs)
made_all m r i [] = tt
made_all {S = S} m r i (q ∷ qs) =
    let last : Replica S = execute_all m (execute m r i q.statement) (i + 1) qs in
    each_append (Made r last i) (option_to_list (line_made m r i q.statement)) (lines_of m (execute m r i q.statement) (i + 1) qs)
    (made_one m r last i q.statement (is_next r.table q.statement) refl (execute_all_stays m (execute m r i q.statement) (i + 1) qs))
    (each-weaken (Made (execute m r i q.statement) last (i + 1)) (Made r last i) (made_later m r last i q.statement) _ (made_all m (execute m r i q.statement) (i + 1) qs))

-- the line of the first request stands before the later ones
order_one : {S : Type 0} (m : Meaning S) (r last : Replica S) (i : ℕ) (q : Request) (rest : List Execution) (next : Bool) → is_next r.table q ≡ next
    → Each (Made (execute m r i q) last (i + 1)) rest → InOrder rest → InOrder (option_to_list (cond next (Some (line_of m r i q)) None) ++ rest)
order_one m r last i q rest true is made order = (
  each-weaken (Made (execute m r i q) last (i + 1)) (Before (line_of m r i q))
      (λ l is_made. record {
        stands = inr (sym (is_made.there ∙ place_execute m r i q), omega (arith, is_made.behind));
        apart = no_repeat (execute m r i q).table q.client q.seq l.client l.seq (executed_done m r i q is) is_made.fresh;
      }) rest made,
  order,
)
order_one m r last i q rest false is made order = order

-- the lines of requests stand in order
order_lines : {S : Type 0} (m : Meaning S) (r : Replica S) (i : ℕ) (qs : Batch) → InOrder (lines_of m r i qs)
order_lines m r i [] = tt
order_lines m r i (q ∷ qs) =
    order_one m r (execute_all m (execute m r i q.statement) (i + 1) qs) i q.statement (lines_of m (execute m r i q.statement) (i + 1) qs) (is_next r.table q.statement) refl
    (made_all m (execute m r i q.statement) (i + 1) qs) (order_lines m (execute m r i q.statement) (i + 1) qs)

-- a line that batches make behind a replica
record Later {S : Type 0} (r : Replica S) (l : Execution) : Type 0 where
  beyond : r.place < l.place
  fresh : is_executed r.table l.client l.seq ≡ false

-- the lines that a batch makes
made_delivered : {S : Type 0} (m : Meaning S) (r : Replica S) (batch : Batch) → Each (Made (at_next r) (delivered m r batch) 0) (executed_lines m r batch)
unfolding delivered executed_lines
made_delivered m r batch = made_all m (at_next r) 0 batch

-- the lines of a batch stand in order
order_delivered : {S : Type 0} (m : Meaning S) (r : Replica S) (batch : Batch) → InOrder (executed_lines m r batch)
unfolding executed_lines
order_delivered m r batch = order_lines m (at_next r) 0 batch

-- what has been executed stays so behind a batch
delivered_stays : {S : Type 0} (m : Meaning S) (r : Replica S) (batch : Batch) (c s : ℕ) → is_executed r.table c s ≡ true → is_executed (delivered m r batch).table c s ≡ true
unfolding delivered
delivered_stays m r batch c s done = execute_all_stays m (at_next r) 0 batch c s done

-- a line of the next batch stands behind the replica
later_here : {S : Type 0} (r last : Replica S) (l : Execution) → Made (at_next r) last 0 l → Later r l
later_here r last l made = record { beyond = omega (arith, made.there); fresh = made.fresh }

-- what stands behind a batch stands behind the replica before it
later_on : {S : Type 0} (m : Meaning S) (r : Replica S) (batch : Batch) (l : Execution) → Later (delivered m r batch) l → Later r l
later_on m r batch l later =
    let place = place_delivered m r batch in
    record {
      beyond = omega (arith, place, later.beyond);
      fresh = not_before_it (is_executed r.table l.client l.seq) (is_executed (delivered m r batch).table l.client l.seq) (delivered_stays m r batch l.client l.seq) later.fresh;
    }

-- all lines that batches make
later_all : {S : Type 0} (m : Meaning S) (r : Replica S) (bs : List Batch) → Each (Later r) (executions_from m r bs)
later_all m r [] = tt
later_all m r (batch ∷ bs) =
    each_append (Later r) (executed_lines m r batch) (executions_from m (delivered m r batch) bs)
    (each-weaken (Made (at_next r) (delivered m r batch) 0) (Later r) (later_here r (delivered m r batch)) _ (made_delivered m r batch))
    (each-weaken (Later (delivered m r batch)) (Later r) (later_on m r batch) _ (later_all m (delivered m r batch) bs))

-- a line of a batch stands before the lines of later batches
made_before : {S : Type 0} (m : Meaning S) (r : Replica S) (batch : Batch) (a b : Execution) → Made (at_next r) (delivered m r batch) 0 a → Later (delivered m r batch) b → Before a b
made_before m r batch a b made later =
    let place = place_delivered m r batch in
    record {
      stands = inl (omega (arith, place, made.there, later.beyond));
      apart = no_repeat (delivered m r batch).table a.client a.seq b.client b.seq made.done later.fresh;
    }

-- the lines of batches stand in order
order_from : {S : Type 0} (m : Meaning S) (r : Replica S) (bs : List Batch) → InOrder (executions_from m r bs)
order_from m r [] = tt
order_from m r (batch ∷ bs) =
    order_append (executed_lines m r batch) (executions_from m (delivered m r batch) bs) (order_delivered m r batch) (order_from m (delivered m r batch) bs)
    (each-weaken (Made (at_next r) (delivered m r batch) 0) (λ a. Each (Before a) (executions_from m (delivered m r batch) bs))
    (λ a made. each-weaken (Later (delivered m r batch)) (Before a) (λ b later. made_before m r batch a b made later) _ (later_all m (delivered m r batch) bs))
    (executed_lines m r batch) (made_delivered m r batch))

-- the lines of a list's executions stand in order
pub order-executions : {S : Type 0} (m : Meaning S) (v : View) (list : List Batch) → InOrder (executions m v list)
order-executions m v list = order_from m (empty m v) list

-- one line

-- what holds of each line, holds of a line among them
pub each_line : (P : Execution → Type 0) (lines : List Execution) (l : Execution) → Each P lines → HasLine lines l → P l
each_line P [] l each has = absurd has
each_line P (x ∷ xs) l each has = elim has [ inl here ↦ subst P here each.0 | inr later ↦ each_line P xs l each.1 later ]

-- an equal line stands before the same lines
before_first : (x a b : Execution) → x ≡ a → Before x b → Before a b
before_first x a b same before = subst (λ y. Before y b) same before

-- of two lines, one stands before the other, or they are one
pub order_of : (lines : List Execution) → InOrder lines → (a b : Execution) → HasLine lines a → HasLine lines b → (a ≡ b) ⊎ (Before a b ⊎ Before b a)
order_of [] order a b ha hb = absurd ha
order_of (x ∷ xs) order a b ha hb =
    elim ha [
      | inl here ↦ elim hb [ inl too ↦ inl (sym here ∙ too) | inr later ↦ inr (inl (before_first x a b here (each_line (Before x) xs b order.0 later))) ]
      | inr behind ↦ elim hb [ inl here ↦ inr (inr (before_first x b a here (each_line (Before x) xs a order.0 behind))) | inr later ↦ order_of xs order.1 a b behind later ]
    ]

-- a request is executed once
pub once-executions : {S : Type 0} (m : Meaning S) (v : View) (list : List Batch) (a b : Execution) → HasLine (executions m v list) a → HasLine (executions m v list) b
    → a.client ≡ b.client → a.seq ≡ b.seq → a ≡ b
once-executions m v list a b ha hb client seq =
    elim (order_of (executions m v list) (order-executions m v list) a b ha hb) [
      | inl same ↦ same
      | inr apart ↦ elim apart [ inl before ↦ absurd (before.apart client seq) | inr before ↦ absurd (before.apart (sym client) (sym seq)) ]
    ]

-- a line stands before none at its own place and index
not_before : (a b : Execution) → Before a b → a.place ≡ b.place → a.index ≡ b.index → ⊥
not_before a b before place index = elim before.stands [ inl less ↦ omega (arith, less, place) | inr same ↦ omega (arith, same.1, index) ]

-- at a place and an index, one request is executed
pub one_there : {S : Type 0} (m : Meaning S) (v : View) (list : List Batch) (a b : Execution) → HasLine (executions m v list) a → HasLine (executions m v list) b
    → a.place ≡ b.place → a.index ≡ b.index → a ≡ b
one_there m v list a b ha hb place index =
    elim (order_of (executions m v list) (order-executions m v list) a b ha hb) [
      | inl same ↦ same
      | inr apart ↦ elim apart [ inl before ↦ absurd (not_before a b before place index) | inr before ↦ absurd (not_before b a before (sym place) (sym index)) ]
    ]

-- a first line that passes is found, one that fails is passed over
first_step : (p : Execution → Bool) (x : Execution) (lines : List Execution) (l : Execution) (t : Bool) → p x ≡ t → (p x ≡ true → x ≡ l) → (p x ≡ false → first_line p lines ≡ Some l)
    → first_line p (x ∷ lines) ≡ Some l
first_step p x lines l true is here later = rw is (ap (λ (y : Execution). Some y) (here is))
first_step p x lines l false is here later = rw is (later is)

-- a line that passes is not a first one that fails
is_there : (p : Execution → Bool) (x : Execution) (lines : List Execution) (l : Execution) → HasLine (x ∷ lines) l → p l ≡ true → p x ≡ false → HasLine lines l
is_there p x lines l has passes fails =
    elim has [
      | inl here ↦ let clash : true ≡ false = sym passes ∙ (ap p (sym here) ∙ fails) in absurd (cc)
      | inr later ↦ later
    ]

-- the first line that passes a test that one line alone passes
first_line-one : (p : Execution → Bool) (lines : List Execution) (l : Execution) → HasLine lines l → p l ≡ true → ((x : Execution) → HasLine lines x → p x ≡ true → x ≡ l) → first_line p lines ≡ Some l
first_line-one p [] l has passes one = absurd has
first_line-one p (x ∷ lines) l has passes one =
    first_step p x lines l (p x) refl (one x (inl refl)) (λ fails. first_line-one p lines l (is_there p x lines l has passes fails) passes (λ y there. one y (inr there)))

-- equal pairs pass the test
both_true : (a b c d : ℕ) → a ≡ c → b ≡ d → ((a == c) && (b == d)) ≡ true
both_true a b c d first second = rw (eq-eqb a c first, eq-eqb b d second) refl

-- pairs that pass the test are equal
both_equal : (a b c d : ℕ) → ((a == c) && (b == d)) ≡ true → (a ≡ c) × (b ≡ d)
both_equal a b c d is = let parts = and_true (a == c) (b == d) is in (eqb-true a c parts.0, eqb-true b d parts.1)

-- the place of a request is that of its line
pub place_of-line : {S : Type 0} (m : Meaning S) (v : View) (list : List Batch) (l : Execution) → HasLine (executions m v list) l → place_of m v list l.client l.seq ≡ Some (l.place, l.index)
place_of-line m v list l has =
    ap (option_map (λ (line : Execution). (line.place, line.index)))
    (first_line-one (λ line. (line.client == l.client) && (line.seq == l.seq)) (executions m v list) l has (both_true l.client l.seq l.client l.seq refl refl)
    (λ x there is. let same = both_equal x.client x.seq l.client l.seq is in once-executions m v list x l there has same.0 same.1))

-- the answer at the place of a line is its reply
pub answer-line : {S : Type 0} (m : Meaning S) (v : View) (list : List Batch) (l : Execution) → HasLine (executions m v list) l → answer m v list l.place l.index ≡ Some l.reply
answer-line m v list l has =
    ap (option_map (λ (line : Execution). line.reply))
    (first_line-one (λ line. (line.place == l.place) && (line.index == l.index)) (executions m v list) l has (both_true l.place l.index l.place l.index refl refl)
    (λ x there is. let same = both_equal x.place x.index l.place l.index is in one_there m v list x l there has same.0 same.1))
