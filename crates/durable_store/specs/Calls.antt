-- The first device call of a running job.
use Rattle.std.specs.Prelude.{◌≡◌, ◌⊎◌, ℕ, Bool, true, false, not, List, [], ◌∷◌, Result, Ok, IfOk, OnOk, OnErr}
use Rattle.faults.specs.declared.Fault.{Fault}
use Rattle.faults.specs.declared.Fault.TheVariants.{Failed, NoMemory}
use Rattle.disk_model.specs.Cells.{Cells, IsImage, Within}
use Rattle.disk_model.specs.Calls.{Elapses}
use Rattle.disk_model.specs.DeviceCalls.{made, during, CanBeMade}
use Rattle.disk_model.specs.declared.call.DeviceCall.{DeviceCall}
use Rattle.store_form.specs.declared.ends.LogFault.{LogFault}
use Rattle.store_form.specs.declared.ends.LogFault.TheVariants.{Disk, NoMemory as no_memory}
use Rattle.store_form.specs.declared.ends.State.{State}
use Rattle.store_form.specs.declared.ends.State.TheVariants.{Open, Failed as failed, NoMemory as wanted}
use Rattle.store_laws.specs.States.{Devices, some, ended, cells_on}
use Rattle.store_laws.specs.declared.job.Device.{Device}
use Rattle.store_laws.specs.declared.job.StoreCall.{StoreCall}
use Rattle.store_laws.specs.declared.job.StoreCall.TheVariants.{On, WriteTail}
use Rattle.store_plan.specs.Plans.{state_with, leaves_calls}
use Rattle.durable_store.specs.Disks.{disk_at, OthersSame}
use Rattle.durable_store.specs.declared.store.Store.{Store}

-- what a store answers for a fault of a device call
abbrev pub fault_told : Fault → LogFault
fault_told Failed = Disk false
fault_told NoMemory = no_memory

-- the state in which it closes the store
abbrev pub closed_by : Fault → State
closed_by Failed = failed
closed_by NoMemory = wanted

-- The first of these calls can be made, over these contents.
abbrev pub FirstCan : List StoreCall → Devices → Type 0
FirstCan [] d = Unit {0}
FirstCan (On device call ∷ left) d = CanBeMade call (cells_on device d)
FirstCan (WriteTail ∷ left) d = Unit {0}

module _ {D : Type 0} (told : Type 0) (cells : D → Cells) (moment : D → ℕ) (left_since : D → ℕ → List ℕ → Type 0) where
  -- The first call of the job was made on its device. With an error the plan is as before, and the store is closed.
  pub record FirstMade (old new : Store D) (result : Result Bool LogFault) : Type 0 where
    pub device : Device
    pub call : DeviceCall
    pub left : List StoreCall
    pub first : old.plan.running ≡ On device call ∷ left
    pub others : OthersSame device old.disks new.disks
    pub time : Elapses (moment (disk_at device old.disks)) (moment (disk_at device new.disks)) (left_since (disk_at device old.disks)) (left_since (disk_at device new.disks)) (IsImage (cells (disk_at device new.disks)))
    pub torn : told → Within (cells (disk_at device new.disks)) (during call (cells (disk_at device old.disks)))
    pub made : OnOk result (told → cells (disk_at device new.disks) ≡ made call (cells (disk_at device old.disks)))
    pub next : OnOk result ((d : Devices) (c : StoreCall) (l : List StoreCall) → old.plan.running ≡ c ∷ l → state_with new.plan d ≡ ended l (leaves_calls l (state_with old.plan d)))
    pub done : IfOk result (λ done. done ≡ not (some new.plan.running))
    pub same : OnErr result (new.plan ≡ old.plan)
    pub shut : OnErr result (new.state ≡ Open → ⊥)

  -- No job runs, and nothing was done.
  pub record NoneMade (old new : Store D) (result : Result Bool LogFault) : Type 0 where
    pub idle : old.plan.running ≡ []
    pub same : new ≡ old
    pub done : result ≡ Ok true

  abbrev pub FirstCalled : Store D → Store D → Result Bool LogFault → Type 0
  FirstCalled old new result = NoneMade old new result ⊎ FirstMade old new result
