-- A lane and two links that carry nothing yet.
use Rattle.std.specs.Prelude.{◌≡◌, ◌≤◌, []}
use Rattle.log_lane.specs.Lane.{in_lane, out_lane, lane_put, lane_room, lane_taken, lane_raised}
use Rattle.group_links.specs.Link.{in_link, out_link, link_put, link_taken}
use Rattle.node_run.specs.declared.wires.Wires.{Wires}

pub record AreFresh (w : Wires) : Type 0 where
  pub lane : in_lane w.lane_in ≡ out_lane w.lane_out
  pub none_put : lane_put w.lane_in ≡ []
  pub room : 1 ≤ lane_room w.lane_in
  pub none_taken : lane_taken w.lane_out ≡ []
  pub none_raised : lane_raised w.lane_out ≡ 0
  pub arriving : in_link w.arriving_in ≡ out_link w.arriving_out
  pub none_came : link_put w.arriving_in ≡ []
  pub none_heard : link_taken w.arriving_out ≡ []
  pub leaving : in_link w.leaving_in ≡ out_link w.leaving_out
  pub none_left : link_put w.leaving_in ≡ []
  pub none_wrote : link_taken w.leaving_out ≡ []
