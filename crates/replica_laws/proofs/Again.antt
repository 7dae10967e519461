-- The table lines that a node answers with again.
use Rattle.std.proofs.Common.{◌≡◌, ℕ, ◌+◌, ◌++◌, Bool, true, false, List, [], ◌∷◌, refl, cond, Option, Some, None}
use Rattle.std.specs.Prelude.{IfSome}
use Rattle.std.specs.Option.{option_to_list}
use Rattle.smart_base.specs.Lists.{Each}
use Rattle.smart_statements.specs.Batches.{Batch}
use Rattle.smart_statements.specs.declared.statement.Request.{Request}
use Rattle.smart_service.specs.Services.{Meaning}
use Rattle.smart_service.specs.Tables.{kept_in}
use Rattle.smart_service.specs.declared.table.Execution.{Execution}
use Rattle.smart_service.specs.declared.replica.Replica.{Replica}
use Rattle.replica_rules.specs.Replicas.{is_next, line_of, execute, execute_all, line_made, lines_of, at_next, delivered, executed_lines, after_batches, executions_from}
use Rattle.node_rules.specs.Nodes.{Node}
use Rattle.node_rules.specs.Rules.{answering}
use Rattle.node_laws.proofs.Delivering.{each_noting, answering_each}
use Rattle.node_rules.specs.declared.node.Asked.{Asked}

-- the line of an answer

-- what holds of a line, if there is one
abbrev pub ForLine : Option Execution → (Execution → Type 0) → Type 0
ForLine None P = Unit {0}
ForLine (Some line) P = P line

for_line : (P : Execution → Type 0) (found : Option Execution) → IfSome found P → ForLine found P
for_line P None is = tt
for_line P (Some line) is = is

-- what holds of each kept reply holds of the one that is an answer
pub answering-each : {S : Type 0} (P : Execution → Type 0) (n : Node S) (asked : Asked) → Each P (kept_in n.replica.table) → ForLine (answering n asked) P
answering-each P n asked each = for_line P (answering n asked) (answering_each P n asked each)

-- the lines of a table

-- both parts of a list
each_parts : (P : Execution → Type 0) (xs ys : List Execution) → Each P (xs ++ ys) → Each P xs × Each P ys
each_parts P [] ys each = (tt, each)
each_parts P (x ∷ xs) ys each = let rest = each_parts P xs ys each.1 in ((each.0, rest.0), rest.1)

-- a request puts the line that it makes
each-execute : {S : Type 0} (P : Execution → Type 0) (m : Meaning S) (r : Replica S) (i : ℕ) (q : Request) (next : Bool) → is_next r.table q ≡ next → Each P (kept_in r.table)
    → Each P (option_to_list (cond next (Some (line_of m r i q)) None)) → Each P (kept_in (execute m r i q).table)
unfolding execute
each-execute P m r i q true is table made = rw is (each_noting P r.table (line_of m r i q) table made.0)
each-execute P m r i q false is table made = rw is table

-- requests put the lines that they make
each-execute_all : {S : Type 0} (P : Execution → Type 0) (m : Meaning S) (r : Replica S) (i : ℕ) (qs : Batch) → Each P (kept_in r.table) → Each P (lines_of m r i qs) → Each P (kept_in (execute_all m r i qs).table)
each-execute_all P m r i [] table each = table
each-execute_all P m r i (q ∷ qs) table each =
    let parts = each_parts P (option_to_list (line_made m r i q.statement)) (lines_of m (execute m r i q.statement) (i + 1) qs) each in
    each-execute_all P m (execute m r i q.statement) (i + 1) qs (each-execute P m r i q.statement (is_next r.table q.statement) refl table parts.0) parts.1

-- so does a batch
pub each-delivered : {S : Type 0} (P : Execution → Type 0) (m : Meaning S) (r : Replica S) (batch : Batch) → Each P (kept_in r.table) → Each P (executed_lines m r batch) → Each P (kept_in (delivered m r batch).table)
unfolding delivered executed_lines
each-delivered P m r batch table each = each-execute_all P m (at_next r) 0 batch table each

-- and a list of batches
pub each-after_batches : {S : Type 0} (P : Execution → Type 0) (m : Meaning S) (r : Replica S) (list : List Batch) → Each P (kept_in r.table) → Each P (executions_from m r list) → Each P (kept_in (after_batches m r list).table)
each-after_batches P m r [] table each = table
each-after_batches P m r (batch ∷ list) table each =
    let parts = each_parts P (executed_lines m r batch) (executions_from m (delivered m r batch) list) each in
    each-after_batches P m (delivered m r batch) list (each-delivered P m r batch table parts.0) parts.1
