-- What the loop of a log needs of its worker, and what the loops leave.
use Rattle.std.specs.Prelude.{◌≡◌, ◌≤◌, ◌-◌, ℕ, min, not, Bool, false, List, length, Option}
use Rattle.std.specs.Io.KnownBytes.{IsAtEnd}
use Rattle.faults.specs.Counts.{Rose}
use Rattle.disk_model.specs.Cells.{Cells}
use Rattle.group_links.specs.Link.{in_link, out_link}
use Rattle.durable_store.specs.Disks.{NoneFell}
use Rattle.durable_store.specs.Stores.{state_of, Stands}
use Rattle.durable_store.specs.declared.store.Store.{Store}
use Rattle.node_ends.specs.Intakes.{IsDone, Reads}
use Rattle.node_ends.specs.Outlets.{Writes}
use Rattle.node_ends.specs.declared.intake.Intake.{Intake}
use Rattle.node_ends.specs.declared.outlet.Outlet.{Outlet}
use Rattle.node_endings.specs.Loops.{gave_up, loses, EndsByForm, FailsByDisk}
use Rattle.node_endings.specs.declared.ending.LoopEnd.{LoopEnd}
use Rattle.node_endings.specs.declared.ending.LoopEnd.TheVariants.{Done, Failed}

module _ {D : Type 0} where
  -- No round of the worker has failed. A store whose disks tell their contents stands.
  pub record MayWork (told : Type 0) (cells : D → Cells) (faulty : Bool) (store : Store D) : Type 0 where
    pub whole : faulty ≡ false
    pub sound : told → Stands (state_of cells store)

  -- The number of firm entries did not fall. After a loop that is done, all that is firm and was taken is said to be stored, and no round has failed.
  -- The loop fails only for a device whose count of failures rose.
  pub record WorkMade (counts : D → ℕ) (restored : ℕ) (end : LoopEnd) (faulty : Bool) (taken : List (List ℕ)) (raised : ℕ) (old new : Store D) : Type 0 where
    pub rose : old.plan.firm ≤ new.plan.firm
    pub stored : end ≡ Done → min (new.plan.firm - restored) (length taken) ≤ raised
    pub well : end ≡ Done → faulty ≡ false
    pub cause : FailsByDisk end counts old.disks new.disks
    pub later : NoneFell counts old.disks new.disks

-- More of the input was taken in. The loop that reads it ends well only at its end, with nothing left in hand.
-- It fails only for an input whose count of failures rose.
pub record ReadMade (left left' : Option (List ℕ)) (before now : ℕ) (end : LoopEnd) (old new : Intake) : Type 0 where
  pub link : in_link new.link ≡ in_link old.link
  pub reads : Reads left left' (loses end) old new
  pub whole : end ≡ Done → IsAtEnd left' × IsDone new
  pub form : EndsByForm end left' new
  pub cause : end ≡ Failed → Rose before now
  pub later : before ≤ now

-- More messages were taken, and their frames were written. The loop fails only for an output whose count of failures rose.
pub record WriteMade (written written' : Option (List ℕ)) (before now : ℕ) (end : LoopEnd) (old new : Outlet) : Type 0 where
  pub link : out_link new.link ≡ out_link old.link
  pub wrote : Writes written written' (not (gave_up end)) old new
  pub cause : end ≡ Failed → Rose before now
  pub later : before ≤ now
