use Rattle.std.proofs.Common.{◌≡◌}
use Rattle.log_lane.specs.Lane.{lane_put, lane_read, lane_heard, lane_capacity, in_lane}
use Rattle.log_lane.proofs.inward.LaneIn.put.Given as goal

abbrev pub invariant-loop : goal.invariant-loop
invariant-loop g l = record {
  lane : in_lane l.self ≡ in_lane l.initial.self;
  put : lane_put l.self ≡ lane_put l.initial.self;
  same : (lane_read l.self ≡ lane_read l.initial.self) × (lane_heard l.self ≡ lane_heard l.initial.self) × (lane_capacity l.self ≡ lane_capacity l.initial.self);
  entry : l.entry ≡ l.initial.entry;
}
