-- The contents of a disk in memory.
use Rattle.disk_model.specs.Cells.{Cells}
use Rattle.disk_model.specs.Undo.{all_undone}
use Rattle.disk_model.specs.declared.platter.Platter.{Platter}

-- the contents of a platter
abbrev pub cells_of : Platter → Cells
cells_of p = record { now = p.contents.items; sure = all_undone p.undo.items p.contents.items; shortest = p.shortest; greatest = p.greatest; touched = p.touched.items }
