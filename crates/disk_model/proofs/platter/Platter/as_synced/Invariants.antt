use Rattle.std.proofs.Common.{◌≡◌, ◌≤◌, length, drop}
use Rattle.disk_model.specs.Undo.{all_undone}
use Rattle.disk_model.proofs.platter.Platter.as_synced.Given as goal

abbrev pub invariant-loop-left : goal.invariant-loop-left
invariant-loop-left l = record {
  within : l.left ≤ length l.self.undo.items;
  so_far : l.bytes.items ≡ all_undone (drop l.left l.self.undo.items) l.self.contents.items;
}

abbrev pub decreases-loop-left : goal.decreases-loop-left
decreases-loop-left l = l.left
