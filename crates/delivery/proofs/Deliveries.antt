-- Batches delivered one after another: the state, the lines, and the answers.
use Rattle.std.proofs.Common.{◌≡◌, ℕ, ◌+◌, ◌<◌, ◌≤◌, ◌==◌, ◌++◌, Bool, true, false, ◌&&◌, List, [], ◌∷◌, refl, ap, ◌∙◌, sym, subst, cond, Option, Some, None, arith}
use Rattle.std.proofs.lemmas.Bool.{eq-eqb}
use Rattle.std.proofs.lemmas.Bool.Decides.{nat_tests}
use Rattle.std.proofs.lemmas.List.{append-nil}
use Rattle.std.specs.Prelude.{option_map}
use Rattle.std.specs.Option.{option_to_list}
use Rattle.smart_base.specs.Lists.{Each}
use Rattle.smart_base.specs.Views.{View}
use Rattle.smart_statements.specs.Batches.{Batch}
use Rattle.smart_statements.specs.declared.statement.Request.{Request}
use Rattle.smart_service.specs.Services.{Meaning}
use Rattle.smart_service.specs.declared.table.Execution.{Execution}
use Rattle.smart_service.specs.declared.replica.Replica.{Replica}
use Rattle.replica_rules.specs.Replicas.{is_next, line_of, execute, line_made, lines_of, at_next, delivered, executed_lines, empty, after_batches, state, executions_from, executions, first_line, answer}
use Rattle.delivery.proofs.Lists.{each_append, each_right, each_both}
use Rattle.replica_rules.proofs.Places.{place_execute, place_delivered, executions_append}
use Rattle.smart_base.proofs.ViewFacts.{each-weaken}

-- one more batch

after-end : {S : Type 0} (m : Meaning S) (r : Replica S) (list : List Batch) (batch : Batch) → delivered m (after_batches m r list) batch ≡ after_batches m r (list ++ batch ∷ [])
after-end m r [] batch = refl
after-end m r (b ∷ list) batch = after-end m (delivered m r b) list batch

-- one more batch is delivered to the state before it
pub state-end : {S : Type 0} (m : Meaning S) (v : View) (list : List Batch) (batch : Batch) → delivered m (state m v list) batch ≡ state m v (list ++ batch ∷ [])
state-end m v list batch = after-end m (empty m v) list batch

-- the executions grow by the lines of one more batch
pub executions-end : {S : Type 0} (m : Meaning S) (v : View) (list : List Batch) (batch : Batch) → executions m v list ++ executed_lines m (state m v list) batch ≡ executions m v (list ++ batch ∷ [])
executions-end m v list batch =
    sym (executions_append m (empty m v) list (batch ∷ []) ∙ ap (λ lines. executions m v list ++ lines) (append-nil (executed_lines m (state m v list) batch)))

-- no two lines at one place and index

-- a line stands at a place and an index
abbrev here : ℕ → ℕ → Execution → Bool
here place index line = (line.place == place) && (line.index == index)

-- of two lines, the first does not stand where the second does
abbrev Elsewhere : Execution → Execution → Type 0
Elsewhere a b = here b.place b.index a ≡ false

-- no line stands where a later one does
abbrev Apart : List Execution → Type 0
Apart [] = Unit {0}
Apart (l ∷ ls) = Each (Elsewhere l) ls × Apart ls

apart-append : (xs ys : List Execution) → Apart xs → Apart ys → Each (λ x. Each (Elsewhere x) ys) xs → Apart (xs ++ ys)
apart-append [] ys ax ay each = ay
apart-append (x ∷ xs) ys ax ay each = (each_append (Elsewhere x) xs ys ax.0 each.0, apart-append xs ys ax.1 ay each.1)

below : (m n : ℕ) → m < n → (m == n) ≡ false
below m n less = grind (arith, nat_tests, less)

both_false : (a b : Bool) → b ≡ false → (a && b) ≡ false
both_false true b is = is
both_false false b is = refl

by_place : (a b : Execution) → a.place < b.place → Elsewhere a b
by_place a b less = rw (below a.place b.place less) refl

by_index : (a b : Execution) → a.index < b.index → Elsewhere a b
by_index a b less = both_false (a.place == b.place) (a.index == b.index) (below a.index b.index less)

-- a line at a place, from an index on
record At (place from : ℕ) (l : Execution) : Type 0 where
  there : l.place ≡ place
  behind : from ≤ l.index

-- the line of the first request
at_one : {S : Type 0} (m : Meaning S) (r : Replica S) (i : ℕ) (q : Request) (next : Bool) → Each (At r.place i) (option_to_list (cond next (Some (line_of m r i q)) None))
at_one m r i q true = (record { there = refl; behind = omega arith }, tt)
at_one m r i q false = tt

-- a request leaves the place at which later lines stand
at_rest : {S : Type 0} (m : Meaning S) (r : Replica S) (i : ℕ) (q : Request) (lines : List Execution) → Each (At (execute m r i q).place (i + 1)) lines → Each (At r.place (i + 1)) lines
at_rest m r i q lines = subst (λ place. Each (At place (i + 1)) lines) (place_execute m r i q)

-- the lines of requests stand at one place
at_lines : {S : Type 0} (m : Meaning S) (r : Replica S) (i : ℕ) (qs : Batch) → Each (At r.place i) (lines_of m r i qs)
at_lines m r i [] = tt
at_lines m r i (q ∷ qs) =
    each_append (At r.place i) (option_to_list (line_made m r i q.statement)) (lines_of m (execute m r i q.statement) (i + 1) qs)
    (at_one m r i q.statement (is_next r.table q.statement))
    (each-weaken (At r.place (i + 1)) (At r.place i) (λ l at. record { there = at.there; behind = omega (arith, at.behind) }) _
    (at_rest m r i q.statement _ (at_lines m (execute m r i q.statement) (i + 1) qs)))

apart_one : {S : Type 0} (m : Meaning S) (r : Replica S) (i : ℕ) (q : Request) (rest : List Execution) (next : Bool) → Each (At r.place (i + 1)) rest → Apart rest
    → Apart (option_to_list (cond next (Some (line_of m r i q)) None) ++ rest)
apart_one m r i q rest true at apart =
    (each-weaken (At r.place (i + 1)) (Elsewhere (line_of m r i q)) (λ l at. by_index (line_of m r i q) l (omega (arith, at.behind))) rest at, apart)
apart_one m r i q rest false at apart = apart

apart_lines : {S : Type 0} (m : Meaning S) (r : Replica S) (i : ℕ) (qs : Batch) → Apart (lines_of m r i qs)
apart_lines m r i [] = tt
apart_lines m r i (q ∷ qs) =
    apart_one m r i q.statement (lines_of m (execute m r i q.statement) (i + 1) qs) (is_next r.table q.statement)
    (at_rest m r i q.statement _ (at_lines m (execute m r i q.statement) (i + 1) qs))
    (apart_lines m (execute m r i q.statement) (i + 1) qs)

at_delivered : {S : Type 0} (m : Meaning S) (r : Replica S) (batch : Batch) → Each (At (r.place + 1) 0) (executed_lines m r batch)
unfolding executed_lines
at_delivered m r batch = at_lines m (at_next r) 0 batch

apart_delivered : {S : Type 0} (m : Meaning S) (r : Replica S) (batch : Batch) → Apart (executed_lines m r batch)
unfolding executed_lines
apart_delivered m r batch = apart_lines m (at_next r) 0 batch

-- what stands behind a batch stands behind its place
beyond_next : {S : Type 0} (m : Meaning S) (r : Replica S) (batch : Batch) (lines : List Execution) → Each (λ l. (delivered m r batch).place < l.place) lines → Each (λ l. r.place + 1 < l.place) lines
beyond_next m r batch lines = subst (λ (place : ℕ). Each (λ l. place < l.place) lines) (place_delivered m r batch)

-- the lines of batches stand behind the replica's place
beyond : {S : Type 0} (m : Meaning S) (r : Replica S) (list : List Batch) → Each (λ l. r.place < l.place) (executions_from m r list)
beyond m r [] = tt
beyond m r (batch ∷ list) =
    each_append (λ l. r.place < l.place) (executed_lines m r batch) (executions_from m (delivered m r batch) list)
    (each-weaken (At (r.place + 1) 0) (λ l. r.place < l.place) (λ l at. omega (arith, at.there)) _ (at_delivered m r batch))
    (each-weaken (λ l. r.place + 1 < l.place) (λ l. r.place < l.place) (λ l less. omega (arith, less)) _ (beyond_next m r batch _ (beyond m (delivered m r batch) list)))

apart_from : {S : Type 0} (m : Meaning S) (r : Replica S) (list : List Batch) → Apart (executions_from m r list)
apart_from m r [] = tt
apart_from m r (batch ∷ list) =
    apart-append (executed_lines m r batch) (executions_from m (delivered m r batch) list) (apart_delivered m r batch) (apart_from m (delivered m r batch) list)
    (each-weaken (At (r.place + 1) 0) (λ a. Each (Elsewhere a) (executions_from m (delivered m r batch) list))
    (λ a at. each-weaken (λ l. r.place + 1 < l.place) (Elsewhere a) (λ l less. by_place a l (omega (arith, at.there, less))) _ (beyond_next m r batch _ (beyond m (delivered m r batch) list)))
    _ (at_delivered m r batch))

-- the first line that passes a test

first_own : (p : Execution → Bool) (x : Execution) (lines : List Execution) → p x ≡ true → first_line p (x ∷ lines) ≡ Some x
first_own p x lines is = rw is refl

first_past : (p : Execution → Bool) (x : Execution) (lines : List Execution) (l : Execution) → p x ≡ false → first_line p lines ≡ Some l → first_line p (x ∷ lines) ≡ Some l
first_past p x lines l is found = rw is found

own_here : (l : Execution) → here l.place l.index l ≡ true
own_here l = rw (eq-eqb l.place l.place refl, eq-eqb l.index l.index refl) refl

-- each line is the first at its place and index
first_here : (lines : List Execution) → Apart lines → Each (λ l. first_line (here l.place l.index) lines ≡ Some l) lines
first_here [] apart = tt
first_here (x ∷ xs) apart = (
  first_own (here x.place x.index) x xs (own_here x),
  each_both (Elsewhere x) (λ l. first_line (here l.place l.index) xs ≡ Some l) (λ l. first_line (here l.place l.index) (x ∷ xs) ≡ Some l)
      (λ l other found. first_past (here l.place l.index) x xs l other found) xs apart.0 (first_here xs apart.1),
)

first_front-step : (p : Execution → Bool) (x : Execution) (xs ys : List Execution) (l : Execution) (t : Bool) → p x ≡ t → (first_line p xs ≡ Some l → first_line p (xs ++ ys) ≡ Some l)
    → first_line p (x ∷ xs) ≡ Some l → first_line p (x ∷ (xs ++ ys)) ≡ Some l
first_front-step p x xs ys l true is more found = rw is (sym (first_own p x xs is) ∙ found)
first_front-step p x xs ys l false is more found = rw is (more (past is found))
  where
    past : p x ≡ false → first_line p (x ∷ xs) ≡ Some l → first_line p xs ≡ Some l
    past is found = cc

-- the first of a list is the first of a longer one
first_front : (p : Execution → Bool) (xs ys : List Execution) (l : Execution) → first_line p xs ≡ Some l → first_line p (xs ++ ys) ≡ Some l
first_front p [] ys l found = absurd cc
first_front p (x ∷ xs) ys l found = first_front-step p x xs ys l (p x) refl (first_front p xs ys l) found

-- answers

-- the answer at the place and index of each line is its reply
answers : {S : Type 0} (m : Meaning S) (v : View) (list : List Batch) → Each (λ l. answer m v list l.place l.index ≡ Some l.reply) (executions m v list)
answers m v list =
    each-weaken (λ l. first_line (here l.place l.index) (executions m v list) ≡ Some l) (λ l. answer m v list l.place l.index ≡ Some l.reply)
    (λ l found. ap (option_map (λ (line : Execution). line.reply)) found) (executions m v list) (first_here (executions m v list) (apart_from m (empty m v) list))

-- so it is of the lines of the last batch
pub answers-end : {S : Type 0} (m : Meaning S) (v : View) (list : List Batch) (batch : Batch)
    → Each (λ l. answer m v (list ++ batch ∷ []) l.place l.index ≡ Some l.reply) (executed_lines m (state m v list) batch)
answers-end m v list batch =
    each_right (λ l. answer m v (list ++ batch ∷ []) l.place l.index ≡ Some l.reply) (executions m v list) (executed_lines m (state m v list) batch)
    (subst (Each (λ l. answer m v (list ++ batch ∷ []) l.place l.index ≡ Some l.reply)) (sym (executions-end m v list batch)) (answers m v (list ++ batch ∷ [])))

mapped : (f : Execution → List ℕ) (a b : Option Execution) (reply : List ℕ) → ((l : Execution) → a ≡ Some l → b ≡ Some l) → option_map f a ≡ Some reply → option_map f b ≡ Some reply
mapped f None b reply more found = absurd cc
mapped f (Some l) b reply more found = rw (more l refl) found

-- an answer stays
pub answer-more : {S : Type 0} (m : Meaning S) (v : View) (list more : List Batch) (place index : ℕ) (reply : List ℕ)
    → answer m v list place index ≡ Some reply → answer m v (list ++ more) place index ≡ Some reply
answer-more m v list more place index reply =
    mapped (λ line. line.reply) (first_line (here place index) (executions m v list)) (first_line (here place index) (executions m v (list ++ more))) reply
    (λ l found. subst (λ lines. first_line (here place index) lines ≡ Some l) (sym (executions_append m (empty m v) list more))
    (first_front (here place index) (executions m v list) (executions_from m (state m v list) more) l found))
