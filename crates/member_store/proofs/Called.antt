-- The state of a store after a call of it, as its plan and its devices tell it.
use Rattle.std.proofs.Common.{◌≡◌, ℕ, List, ap, ◌∙◌}
use Rattle.disk_model.specs.Memory.{plain_cells}
use Rattle.disk_model.specs.declared.plain.PlainDisk.{PlainDisk}
use Rattle.store_laws.specs.States.{Devices, StoreState, store_called, given, asked}
use Rattle.store_laws.specs.Stops.{is_installed}
use Rattle.store_laws.specs.declared.job.Tail.{Tail}
use Rattle.store_plan.specs.declared.plan.Plan.{Plan}
use Rattle.store_plan.specs.Plans.{state_with}
use Rattle.durable_store.specs.Disks.{cells_of}
use Rattle.durable_store.specs.Stores.{state_of}
use Rattle.durable_store.specs.declared.disks.Disks.{Disks}
use Rattle.durable_store.specs.declared.store.Store.{Store}

-- the devices hold what a state says
over_devices : (p : Plan) (d : Devices) (s : StoreState) → state_with p s.devices ≡ s → d ≡ s.devices → state_with p d ≡ s
over_devices p d s is same = ap (λ (e : Devices). state_with p e) same ∙ is

pub called_over : (tail : Tail) (old new : Store PlainDisk)
    → ((d : Devices) → state_with new.plan (store_called is_installed tail (state_with old.plan d)).devices ≡ store_called is_installed tail (state_with old.plan d))
    → cells_of plain_cells new.disks ≡ (store_called is_installed tail (state_of plain_cells old)).devices → state_of plain_cells new ≡ store_called is_installed tail (state_of plain_cells old)
called_over tail old new called made =
    over_devices new.plan (cells_of plain_cells new.disks) (store_called is_installed tail (state_of plain_cells old)) (called (cells_of plain_cells old.disks)) made

pub given_over : (entries : List (List ℕ)) (old new : Store PlainDisk) → ((d : Devices) → state_with new.plan d ≡ given entries (state_with old.plan d)) → new.disks ≡ old.disks
    → state_of plain_cells new ≡ given entries (state_of plain_cells old)
given_over entries old new given_is same =
    given_is (cells_of plain_cells new.disks) ∙ ap (λ (d : Disks PlainDisk). given entries (state_with old.plan (cells_of plain_cells d))) same

pub asked_over : (snapshot : List ℕ) (old new : Store PlainDisk) → ((d : Devices) → state_with new.plan d ≡ asked snapshot (state_with old.plan d)) → new.disks ≡ old.disks
    → state_of plain_cells new ≡ asked snapshot (state_of plain_cells old)
asked_over snapshot old new asked_is same =
    asked_is (cells_of plain_cells new.disks) ∙ ap (λ (d : Disks PlainDisk). asked snapshot (state_with old.plan (cells_of plain_cells d))) same
