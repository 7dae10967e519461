-- The history of a disk in memory: its first contents, and each change since.
use Rattle.std.specs.Prelude.{◌≤◌, ℕ, min, max, List, [], ◌∷◌, ◌++◌, length, take}
use Rattle.disk_model.specs.declared.platter.Change.{Change}
use Rattle.disk_model.specs.declared.platter.Change.TheVariants.{Wrote, Cut, Synced, TornWrite, TornCut}
use Rattle.disk_model.specs.declared.platter.Range.{Range}
use Rattle.disk_model.specs.Cells.{Cells, IsImage, settled, written, cut_to}

-- contents after a write that failed: nothing is written yet, and a crash may leave any part of it
abbrev pub torn_write : Range → Cells → Cells
torn_write range s = record {
  now = s.now;
  sure = s.sure;
  shortest = s.shortest;
  greatest = max s.greatest range.upto;
  touched = s.touched ++ range ∷ [];
}

-- contents after a cut that failed: nothing is cut yet, and a crash may leave any part of it
abbrev pub torn_cut : ℕ → Cells → Cells
torn_cut n s = record { now = s.now; sure = s.sure; shortest = min s.shortest n; greatest = s.greatest; touched = s.touched }

-- contents after a change
abbrev pub change_cells : Change → Cells → Cells
change_cells (Wrote at bytes) s = written at bytes s
change_cells (Cut n) s = cut_to n s
change_cells Synced s = settled s.now
change_cells (TornWrite range) s = torn_write range s
change_cells (TornCut n) s = torn_cut n s

-- a change that is allowed: a write begins within the contents, or at their end
abbrev pub Begins : Change → Cells → Type 0
Begins (Wrote at bytes) s = at ≤ length s.now
Begins (Cut n) s = Unit {0}
Begins Synced s = Unit {0}
Begins (TornWrite range) s = Unit {0}
Begins (TornCut n) s = Unit {0}

-- contents after changes, in order
abbrev pub replay : List Change → Cells → Cells
replay [] s = s
replay (x ∷ xs) s = replay xs (change_cells x s)

-- bytes that a crash at some moment since t might have left
pub record LeftSince (first : List ℕ) (changes : List Change) (t : ℕ) (image : List ℕ) : Type 0 where
  pub at : ℕ
  pub since : t ≤ at
  pub by_now : at ≤ length changes
  pub left : IsImage (replay (take at changes) (settled first)) image
