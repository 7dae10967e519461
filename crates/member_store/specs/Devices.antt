-- The devices of a member: those of a store that runs, or those of one that a crash stopped.
use Rattle.std.specs.Prelude.{◌≡◌, true, false}
use Rattle.disk_model.specs.Memory.{plain_cells}
use Rattle.store_form.specs.declared.ends.State.TheVariants.{Open}
use Rattle.store_laws.specs.States.{store_opened}
use Rattle.durable_store.specs.Disks.{contents, AreSettled}
use Rattle.durable_store.specs.Stores.{state_of, Stands}
use Rattle.member_store.specs.Members.{MemberState}
use Rattle.member_store.specs.declared.store.Devices.{Devices}
use Rattle.member_store.specs.declared.store.Devices.TheVariants.{Running, Stopped}

-- the state of a member's store, as its devices tell it
abbrev pub state_in : Devices → MemberState
state_in (Running store) = record { runs = true; state = state_of plain_cells store }
state_in (Stopped disks) = record { runs = false; state = store_opened (contents plain_cells disks) }

-- devices of an open store that its calls have left, or devices on which nothing is pending after a crash
abbrev pub AreSound : Devices → Type 0
AreSound (Running store) = store.state ≡ Open → Stands (state_of plain_cells store)
AreSound (Stopped disks) = AreSettled plain_cells disks
