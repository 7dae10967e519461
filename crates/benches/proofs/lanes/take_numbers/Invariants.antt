use Rattle.std.proofs.Common.{◌≡◌}
use Rattle.log_lane.specs.Lane.{out_lane}
use Rattle.benches.proofs.lanes.take_numbers.Given as goal

abbrev pub invariant-loop : goal.invariant-loop
invariant-loop g l = out_lane l.outward ≡ out_lane l.initial.outward
