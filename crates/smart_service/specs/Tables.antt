-- The table of clients: a line for each client that had a request executed, by ascending client.
use Rattle.std.specs.Prelude.{◌≡◌, ℕ, suc, ◌+◌, ◌<◌, ◌≤◌, ◌==◌, nat_lt, nat_le, Bool, true, length, slice_index_or, map, List, [], ◌∷◌, if◌then◌else◌, Option, Some, None, option_map}
use Rattle.smart_service.specs.declared.table.Execution.{Execution}
use Rattle.smart_service.specs.declared.table.TableLine.{TableLine}

-- the number of a client's last executed request; 0 if there is none
abbrev pub last_seq : List TableLine → ℕ → ℕ
last_seq [] client = 0
last_seq (line ∷ lines) client = if line.last.client == client then line.last.seq else last_seq lines client

-- the line of a client, if it had a request executed
abbrev pub line_for : List TableLine → ℕ → Option TableLine
line_for [] client = None
line_for (line ∷ lines) client = if line.last.client == client then Some line else line_for lines client

-- the table with a line in place of its client's earlier one
abbrev pub with_line : List TableLine → TableLine → List TableLine
with_line [] line = line ∷ []
with_line (old ∷ olds) line =
    if old.last.client == line.last.client then line ∷ olds
    else if nat_lt line.last.client old.last.client then line ∷ old ∷ olds
    else old ∷ with_line olds line

-- ---- what is asked of a table

-- a client's number that may be executed now
abbrev pub may_execute : List TableLine → ℕ → ℕ → Bool
may_execute table client seq = seq == last_seq table client + 1

-- a client's number that has been executed, as far as the table tells
abbrev pub is_executed : List TableLine → ℕ → ℕ → Bool
is_executed table client seq = nat_le seq (last_seq table client)

-- a number beyond those that a client may use now
abbrev pub is_beyond : List TableLine → ℕ → ℕ → Bool
is_beyond table client seq = nat_lt (last_seq table client + 1) seq

-- the execution of a client's number, if its reply is kept
abbrev pub kept_reply : List TableLine → ℕ → ℕ → Option Execution
kept_reply table client seq = if seq == last_seq table client then option_map (λ line. line.last) (line_for table client) else None

-- the table with one more execution
abbrev pub noting : List TableLine → Execution → List TableLine
noting table execution = with_line table (record { last = execution })

-- all executions whose replies are kept
abbrev pub kept_in : List TableLine → List Execution
kept_in table = map (λ line. line.last) table

-- ---- order

-- lines that ascend by client, all above one client
abbrev pub Above : ℕ → List TableLine → Type 0
Above client [] = Unit {0}
Above client (line ∷ lines) = (client < line.last.client) × Above line.last.client lines

-- lines that ascend by client
abbrev pub Ascends : List TableLine → Type 0
Ascends [] = Unit {0}
Ascends (line ∷ lines) = Above line.last.client lines

-- the number of lines before a client's
abbrev pub lines_before : List TableLine → ℕ → ℕ
lines_before [] client = 0
lines_before (line ∷ lines) client = if nat_lt line.last.client client then suc (lines_before lines client) else 0

-- an index at which a client's line stands
pub record Found (lines : List TableLine) (client at : ℕ) : Type 0 where
  pub place : at ≡ lines_before lines client
  pub within : at < length lines
  pub same : (d : TableLine) → ((slice_index_or lines at d).last.client == client) ≡ true

-- an index at which a line of a client belongs that has none
pub record Missing (lines : List TableLine) (client at : ℕ) : Type 0 where
  pub place : at ≡ lines_before lines client
  pub within : at ≤ length lines
  pub none : line_for lines client ≡ None
