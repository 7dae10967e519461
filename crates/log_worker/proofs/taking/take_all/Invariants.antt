use Rattle.std.proofs.Common.{◌≡◌, ◌++◌}
use Rattle.log_lane.specs.Lane.{lane_taken, lane_heard_put, lane_raised, out_lane}
use Rattle.store_plan.specs.Fit.{AreEntries}
use Rattle.log_worker.proofs.taking.take_all.Given as goal

abbrev pub invariant-loop : goal.invariant-loop
invariant-loop g l = record {
  lane : out_lane l.lane ≡ out_lane l.initial.lane;
  taken : lane_taken l.lane ≡ lane_taken l.initial.lane ++ l.group.items;
  same : lane_raised l.lane ≡ lane_raised l.initial.lane;
  heard : lane_heard_put l.lane ≡ lane_heard_put l.initial.lane;
  fit : AreEntries l.group.items;
}
