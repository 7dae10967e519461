use Rattle.std.proofs.Common.{◌≡◌, drop}
use Rattle.disk_model.specs.Cells.{covers}
use Rattle.disk_model.proofs.platter.is_touched.Given as goal

abbrev pub invariant-loop-range : goal.invariant-loop-range
invariant-loop-range l = covers (drop l.range-index l.ranges) l.place ≡ covers l.ranges l.place
