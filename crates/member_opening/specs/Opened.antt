-- A store that was just opened.
use Rattle.std.specs.Prelude.{◌≡◌, ◌≤◌, ◌^◌, [], length, None}
use Rattle.disk_model.specs.Cells.{Cells}
use Rattle.checkpoint_store.specs.Slots.{generation_of}
use Rattle.store_form.specs.declared.ends.State.TheVariants.{Open}
use Rattle.store_laws.specs.Restored.{Images}
use Rattle.store_laws.specs.States.{Devices, store_opened}
use Rattle.store_laws.specs.declared.job.Kept.{Kept}
use Rattle.store_plan.specs.Plans.{state_with}
use Rattle.durable_store.specs.Stores.{state_of, Stands}
use Rattle.durable_store.specs.declared.store.Store.{Store}

pub record IsOpened {D : Type 0} (told : Type 0) (cells : D → Cells) (store : Store D) : Type 0 where
  pub few : store.plan.restored ≤ 2 ^ 63
  pub firm : store.plan.firm ≡ store.plan.restored
  pub idle : store.plan.running ≡ []
  pub unasked : store.plan.asked ≡ None
  pub is_open : store.state ≡ Open
  pub none : told → store.plan.adding ≡ []
  pub stands : told → Stands (state_of cells store)

-- A store over the devices of another one, with as many firm entries. What it is about to do is the same, if disks tell their contents.
pub record IsAsOpened {D : Type 0} (told : Type 0) (opened begun : Store D) : Type 0 where
  pub disks : begun.disks ≡ opened.disks
  pub firm : begun.plan.firm ≡ opened.plan.firm
  pub generation : begun.plan.generation ≡ opened.plan.generation
  pub waiting : begun.plan.waiting ≡ opened.plan.waiting
  pub state : begun.state ≡ opened.state
  pub plan : told → (d : Devices) → state_with begun.plan d ≡ state_with opened.plan d

-- A store that was opened and restored this. It is open, all that it restored is firm, and nothing waits. If disks tell their contents, it is the
-- store that these bytes open, and its devices hold them.
pub record OpensWith {D : Type 0} (told : Type 0) (cells : D → Cells) (images : Images) (kept : Kept) (store : Store D) : Type 0 where
  pub firm : store.plan.firm ≡ length kept.entries
  pub generation : store.plan.generation ≡ generation_of kept.present
  pub waiting : store.plan.waiting ≡ []
  pub is_open : store.state ≡ Open
  pub state : told → state_of cells store ≡ store_opened images
  pub stands : told → Stands (state_of cells store)
