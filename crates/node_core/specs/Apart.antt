-- The rules before the answers. None of them reads the snapshots that a node took before a step.
use Rattle.std.specs.Prelude.{◌≡◌, List, [], ◌∷◌, ◌++◌, length, take}
use Rattle.smart_service.specs.Services.{Meaning}
use Rattle.node_rules.specs.Nodes.{Node}
use Rattle.node_rules.specs.Steps.{Row, install_row, deliver_row, decide_row, time_row, turn_rows, vote_rows}

-- the rules behind the votes and before the answers
abbrev pub time_rows : {S : Type 0} → List (Row S)
time_rows = decide_row ∷ (time_row ∷ [])

-- all rules before the answers
abbrev pub front_rows : {S : Type 0} → Meaning S → List (Row S)
front_rows m = install_row m ∷ (deliver_row m ∷ (turn_rows ++ (vote_rows ++ time_rows)))

-- a node whose first snapshots are those that it took before
pub record KeepsTaken {S : Type 0} (before now : Node S) : Type 0 where
  pub same : take (length before.taken) now.taken ≡ before.taken
