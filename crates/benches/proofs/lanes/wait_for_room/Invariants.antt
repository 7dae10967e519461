use Rattle.std.proofs.Common.{◌≡◌}
use Rattle.log_lane.specs.Lane.{in_lane}
use Rattle.benches.proofs.lanes.wait_for_room.Given as goal

abbrev pub invariant-loop : goal.invariant-loop
invariant-loop g l = in_lane l.inward ≡ in_lane l.initial.inward
