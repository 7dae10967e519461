-- What a clause sees of the two ends of a lane, and of what the far end tells.
use Rattle.std.specs.Prelude.{ℕ, List, length, ◌-◌, ◌^◌, min}
use Rattle.atomic_table.specs.Seated.{TableId}
use Rattle.queue_ends.specs.Ends.{put_list, taken_list, heard_put, put_queue, take_queue, told_queue}
use Rattle.log_lane.specs.declared.inward.LaneIn.{LaneIn}
use Rattle.log_lane.specs.declared.outward.LaneOut.{LaneOut}
use Rattle.log_lane.specs.declared.stored.Stored.{Stored}

module _ {T : Type 0} where
  -- the entries put, oldest first
  abbrev pub lane_put : LaneIn T → List T
  lane_put l = put_list l.items

  -- how many of them `firm` has answered as stored, and how many this end has heard were
  abbrev pub lane_read : LaneIn T → ℕ
  lane_read l = l.read

  abbrev pub lane_heard : LaneIn T → ℕ
  lane_heard l = l.seat.me.0.heard

  -- how many entries may be put and not answered as stored
  abbrev pub lane_capacity : LaneIn T → ℕ
  lane_capacity l = l.capacity

  -- the entries taken, oldest first, and those that this end has heard were put
  abbrev pub lane_taken : LaneOut T → List T
  lane_taken l = taken_list l.items

  abbrev pub lane_heard_put : LaneOut T → List T
  lane_heard_put l = heard_put l.items

  -- how many entries this end has said are stored
  abbrev pub lane_raised : LaneOut T → ℕ
  lane_raised l = l.raised

  -- how many entries are told to be stored
  abbrev pub told_stored : Stored T → ℕ
  told_stored t = t.seat.me.0.heard

  -- which lane it is: its queue and its word
  abbrev pub in_lane : LaneIn T → TableId × TableId
  in_lane l = (put_queue l.items, l.seat.table_id)

  abbrev pub out_lane : LaneOut T → TableId × TableId
  out_lane l = (take_queue l.items, l.seat.table_id)

  abbrev pub stored_lane : Stored T → TableId × TableId
  stored_lane t = (told_queue t.taken, t.seat.table_id)

  -- the capacity less the entries put that `firm` has not yet answered as stored, and at most 2^62 less the entries put
  abbrev pub lane_room : LaneIn T → ℕ
  lane_room l = min (lane_capacity l - (length (lane_put l) - lane_read l)) (2 ^ 62 - length (lane_put l))
