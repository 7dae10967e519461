-- The lanes of a group before it runs.
use Rattle.std.specs.Prelude.{◌≡◌, ◌≤◌, []}
use Rattle.log_lane.specs.Lane.{in_lane, out_lane, lane_put, lane_room, lane_raised, lane_taken}
use Rattle.group_opening.specs.declared.gathering.Lane.{Lane}

-- a lane that carries nothing
pub record AreFreshLanes (l : Lane) : Type 0 where
  pub lane : in_lane l.inward ≡ out_lane l.outward
  pub none_put : lane_put l.inward ≡ []
  pub room : 1 ≤ lane_room l.inward
  pub none_taken : (lane_taken l.outward ≡ []) × (lane_raised l.outward ≡ 0)
