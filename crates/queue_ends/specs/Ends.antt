-- What a clause sees of the two ends of a queue, and of what one end tells the other.
use Rattle.std.specs.Prelude.{◌≡◌, ℕ, List}
use Rattle.std.specs.Arc.{arc_value}
use Rattle.atomic_table.specs.Seated.{TableId}
use Rattle.crossbeam_queue.specs.Passes.{view, ruled_capacity}
use Rattle.queue_ends.specs.declared.put_end.PutEnd.{PutEnd}
use Rattle.queue_ends.specs.declared.take_end.TakeEnd.{TakeEnd}
use Rattle.queue_ends.specs.declared.told.Told.{Told}

module _ {T : Type 0} where
  -- all that was put, oldest first, and what the end that puts has heard was taken
  abbrev pub put_list : PutEnd T → List T
  put_list p = (view p.pass).put

  abbrev pub heard_taken : PutEnd T → List T
  heard_taken p = (view p.pass).taken

  -- all that was taken, oldest first, and what the end that takes has heard was put
  abbrev pub taken_list : TakeEnd T → List T
  taken_list t = (view t.pass).taken

  abbrev pub heard_put : TakeEnd T → List T
  heard_put t = (view t.pass).put

  -- what is told was put, and was taken
  abbrev pub told_put : Told T → List T
  told_put t = (view t.pass).put

  abbrev pub told_taken : Told T → List T
  told_taken t = (view t.pass).taken

  -- which queue it is
  abbrev pub put_queue : PutEnd T → TableId
  put_queue p = p.pass.table_id

  abbrev pub take_queue : TakeEnd T → TableId
  take_queue t = t.pass.table_id

  abbrev pub told_queue : Told T → TableId
  told_queue t = t.pass.table_id

  -- how many items it holds at most
  abbrev pub put_capacity : PutEnd T → ℕ
  put_capacity p = ruled_capacity (arc_value p.queue)

  abbrev pub IsSamePut : PutEnd T → PutEnd T → Type 0
  IsSamePut old new = (put_queue new ≡ put_queue old) × (put_capacity new ≡ put_capacity old)

  abbrev pub IsSameTake : TakeEnd T → TakeEnd T → Type 0
  IsSameTake old new = take_queue new ≡ take_queue old

  -- the two ends of one queue
  abbrev pub ArePair : PutEnd T → TakeEnd T → Type 0
  ArePair p t = take_queue t ≡ put_queue p
