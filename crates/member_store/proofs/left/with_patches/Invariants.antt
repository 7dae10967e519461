use Rattle.std.proofs.Common.{take}
use Rattle.disk_model.specs.Memory.{plain_cells}
use Rattle.world_rules.specs.Crashes.{cells_left, with_patches}
use Rattle.member_store.specs.Left.{IsLeft}
use Rattle.member_store.proofs.left.with_patches.Given as goal

-- the patches so far are put
abbrev pub invariant-loop-patch : goal.invariant-loop-patch
invariant-loop-patch l = IsLeft (plain_cells l.disk).greatest (with_patches l.device (take l.patch-index l.patches) (cells_left l.fn.image (plain_cells l.disk))) l.left
