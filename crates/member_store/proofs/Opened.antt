-- Devices that are opened hold what was left of them.
use Rattle.std.proofs.Common.{◌≡◌, true, false, refl, ap}
use Rattle.disk_model.specs.Memory.{plain_cells}
use Rattle.store_laws.specs.Restored.{Images}
use Rattle.store_laws.specs.States.{store_opened}
use Rattle.durable_store.specs.Disks.{contents}
use Rattle.world_rules.specs.Crashes.{bytes_held}
use Rattle.member_store.specs.Devices.{state_in}
use Rattle.member_store.specs.declared.store.Devices.{Devices}
use Rattle.member_store.specs.declared.store.Devices.TheVariants.{Running, Stopped}

pub held_opened : (left : Images) → bytes_held (store_opened left) ≡ left
held_opened left = refl

-- so a store that has crashed is what opens over what it holds
pub as_left : (d : Devices) → (state_in d).runs ≡ false → store_opened (bytes_held (state_in d).state) ≡ (state_in d).state
as_left (Running store) down = absurd (apart down)
  where
    apart : true ≡ false → ⊥
    apart same = cc
as_left (Stopped disks) down = ap (λ (left : Images). store_opened left) (held_opened (contents plain_cells disks))
