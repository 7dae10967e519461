-- The entries of a log as a stream.
use Rattle.std.specs.Prelude.{◌≡◌, ◌==◌, ℕ, Bool, true, not, get_or, List, [], ◌++◌, length, drop, None}
use Rattle.std.specs.List.{flat_map}
use Rattle.smart_base.specs.Lists.{Each}
use Rattle.store_form.specs.Spelling.{Group, IsEntry}
use Rattle.batch_log.specs.Log.{log_bytes, AreGroups, first_group, restored}
use Rattle.batch_log.specs.Exact.{end_opened}
use Rattle.log_stream.specs.Windows.{Shows}
use Rattle.log_stream.specs.Walks.{texts}
use Rattle.log_stream.specs.declared.reader.LogReader.{LogReader}

abbrev pub entries_of : List Group → List (List ℕ)
entries_of groups = flat_map (λ group. group) groups

-- the entries that a log with these bytes restores
abbrev pub entries_in : List ℕ → List (List ℕ)
entries_in bytes = entries_of (restored bytes)

-- the entries that are still to come: those that the log restores, but for those that were given
abbrev pub to_come : List ℕ → LogReader → List (List ℕ)
to_come bytes reader = drop reader.restored (entries_in bytes)

-- A place in a log. The groups that were walked over end at `end`. Their first `count` entries were given, and `left` of them stand from
-- `at` on.
pub record Place (bytes : List ℕ) (at left end count : ℕ) : Type 0 where
  pub groups : List Group
  pub fit : AreGroups groups
  pub are : bytes ≡ log_bytes groups ++ drop end bytes
  pub ends : end ≡ length (log_bytes groups)
  pub given : Group
  pub coming : Group
  pub parts : entries_of groups ≡ given ++ coming
  pub gave : length given ≡ count
  pub gives : length coming ≡ left
  pub each : Each IsEntry coming
  pub there : drop at bytes ≡ texts coming ++ drop end bytes

-- the end of a log: no whole group stands there after an open gate
pub record IsEnd (bytes : List ℕ) (end : ℕ) (torn : Bool) : Type 0 where
  pub nothing : first_group (drop end bytes) ≡ None
  pub gate : torn ≡ not (get_or (drop end bytes) 0 1 == 0)

-- a reader over a log with these bytes
pub record Reads (bytes : List ℕ) (reader : LogReader) : Type 0 where
  pub place : Place bytes reader.at reader.left reader.end reader.restored
  pub shows : Shows bytes reader.window
  pub long : reader.length ≡ length bytes
  pub over : reader.ended ≡ true → IsEnd bytes reader.end reader.torn

-- a reader that has given all entries of a log: what the opening of a log finds
pub record HasRead (bytes : List ℕ) (reader : LogReader) : Type 0 where
  pub all : to_come bytes reader ≡ []
  pub count : reader.restored ≡ length (entries_in bytes)
  pub end : reader.end ≡ end_opened bytes
  pub torn : reader.torn ≡ not (get_or bytes (end_opened bytes) 1 == 0)
  -- whole groups, and then none
  pub are : bytes ≡ log_bytes (restored bytes) ++ drop reader.end bytes
  pub fit : AreGroups (restored bytes)
  pub nothing : first_group (drop reader.end bytes) ≡ None
