-- The undoing of the changes of a disk in memory since its last sync.
use Rattle.std.specs.Prelude.{ℕ, List, [], ◌∷◌, take}
use Rattle.disk_model.specs.declared.platter.Undo.{Undo}
use Rattle.disk_model.specs.Cells.{put}

-- bytes after one change is undone: they are cut to the earlier length, and what was there is put back
abbrev pub undone : Undo → List ℕ → List ℕ
undone u now = put u.at u.bytes (take u.length now)

-- bytes after all changes are undone, the last one first
abbrev pub all_undone : List Undo → List ℕ → List ℕ
all_undone [] now = now
all_undone (u ∷ us) now = undone u (all_undone us now)
