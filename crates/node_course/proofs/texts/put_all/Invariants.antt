use Rattle.std.proofs.Common.{◌≡◌, ◌≤◌, ◌++◌, length}
use Rattle.log_lane.specs.Lane.{lane_put, lane_read, lane_capacity, lane_room, in_lane}
use Rattle.node_course.proofs.texts.put_all.Given as goal

-- what is put and what is left are all
abbrev pub invariant-loop-text : goal.invariant-loop-text
invariant-loop-text g l = record {
  lane : in_lane l.lane ≡ in_lane l.initial.lane;
  put : lane_put l.lane ++ l.text-iterator.rest.items ≡ lane_put l.initial.lane ++ l.fn.texts.items;
  same : (lane_read l.lane ≡ lane_read l.initial.lane) × (lane_capacity l.lane ≡ lane_capacity l.initial.lane);
  room : length l.text-iterator.rest.items ≤ lane_room l.lane;
}
