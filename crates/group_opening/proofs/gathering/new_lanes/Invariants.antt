use Rattle.std.proofs.Common.{◌≡◌, vec_len}
use Rattle.smart_base.specs.Lists.{Each}
use Rattle.group_opening.specs.Lanes.{AreFreshLanes}
use Rattle.group_opening.proofs.gathering.new_lanes.Given as goal

abbrev pub invariant-loop-made : goal.invariant-loop-made
invariant-loop-made l = record {
  fresh : Each AreFreshLanes l.lanes.items;
  many : vec_len l.lanes ≡ l._made;
}
