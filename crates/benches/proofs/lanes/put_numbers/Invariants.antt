use Rattle.std.proofs.Common.{◌≡◌}
use Rattle.log_lane.specs.Lane.{in_lane}
use Rattle.benches.proofs.lanes.put_numbers.Given as goal

abbrev pub invariant-loop-number : goal.invariant-loop-number
invariant-loop-number g l = in_lane l.inward ≡ in_lane l.initial.inward
