use Rattle.std.proofs.Common.{◌≡◌, ◌≤◌, length, max}
use Rattle.queue_ends.specs.Rule.{IsFront}
use Rattle.log_lane.specs.Lane.{lane_taken, lane_heard_put, lane_raised, out_lane}
use Rattle.log_worker.proofs.taking.pass_over.Given as goal

abbrev pub invariant-loop : goal.invariant-loop
invariant-loop g l = record {
  lane : out_lane l.lane ≡ out_lane l.initial.lane;
  front : IsFront (lane_taken l.initial.lane) (lane_taken l.lane);
  within : length (lane_taken l.lane) ≤ max (length (lane_taken l.initial.lane)) l.upto;
  same : lane_raised l.lane ≡ lane_raised l.initial.lane;
  heard : lane_heard_put l.lane ≡ lane_heard_put l.initial.lane;
}
