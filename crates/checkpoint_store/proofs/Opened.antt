-- A store that was just opened.
use Rattle.std.proofs.Common.{◌≡◌, ℕ, ◌+◌, ◌≤◌, Bool, true, false, not, cond, List, Option, Some, None, sym, ap, subst, arith}
use Rattle.disk_model.specs.Cells.{Cells, IsImage, settled}
use Rattle.disk_model.proofs.Images.{image_settled}
use Rattle.store_form.specs.declared.checkpoint.Checkpoint.{Checkpoint}
use Rattle.checkpoint_store.specs.declared.store.CheckpointStore.{CheckpointStore}
use Rattle.checkpoint_store.specs.Slots.{is_odd, slot_of, newest, generation_of, InEachImage, NoneAbove}
use Rattle.checkpoint_store.specs.Stores.{beside, UnderWayAt}
use Rattle.checkpoint_store.specs.SlotJobs.{IsSlotUnderWay}
use Rattle.checkpoint_store.proofs.Newest.{greatest}

weaker : (m n : ℕ) (o : Option Checkpoint) → m ≤ n → NoneAbove m o → NoneAbove n o
weaker m n None le above = tt
weaker m n (Some x) le above = omega (arith, le, above)

pub opened_stands : {D : Type 0} (cells : D → Cells) (store : CheckpointStore D) (n : ℕ) → IsSlotUnderWay false (cells store.even.device) store.even.job → IsSlotUnderWay true (cells store.odd.device) store.odd.job → UnderWayAt cells n store
opened_stands cells store n even odd = by (is_odd n)
  where
    by : (t : Bool) → IsSlotUnderWay t (cells (cond t store.odd store.even).device) (cond t store.odd store.even).job
    by true = odd
    by false = even
