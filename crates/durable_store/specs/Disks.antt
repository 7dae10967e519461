-- The four devices of a store, whether it is open or not.
use Rattle.std.specs.Prelude.{◌≡◌, ◌≤◌, ◌⊎◌, ℕ, List, [], ◌∷◌, true, false}
use Rattle.faults.specs.Counts.{Rose}
use Rattle.disk_model.specs.Cells.{Cells, IsImage, settled}
use Rattle.disk_model.specs.Calls.{Elapses}
use Rattle.store_laws.specs.Restored.{Images}
use Rattle.store_laws.specs.States.{Devices, StoreState, device_of}
use Rattle.store_laws.specs.declared.job.Device.{Device}
use Rattle.store_laws.specs.declared.job.Device.TheVariants.{Log, Slot}
use Rattle.store_laws.specs.declared.job.StoreCall.{StoreCall}
use Rattle.durable_store.specs.declared.disks.Disks.{Disks}

module _ {D : Type 0} where
  abbrev pub disk_at : Device → Disks D → D
  disk_at (Log false) d = d.even_log
  disk_at (Log true) d = d.odd_log
  disk_at (Slot false) d = d.even_slot
  disk_at (Slot true) d = d.odd_slot

  -- every device but this one is as it was
  abbrev pub OthersSame : Device → Disks D → Disks D → Type 0
  OthersSame (Log false) old new = (new.odd_log ≡ old.odd_log) × ((new.even_slot ≡ old.even_slot) × (new.odd_slot ≡ old.odd_slot))
  OthersSame (Log true) old new = (new.even_log ≡ old.even_log) × ((new.even_slot ≡ old.even_slot) × (new.odd_slot ≡ old.odd_slot))
  OthersSame (Slot false) old new = (new.even_log ≡ old.even_log) × ((new.odd_log ≡ old.odd_log) × (new.odd_slot ≡ old.odd_slot))
  OthersSame (Slot true) old new = (new.even_log ≡ old.even_log) × ((new.odd_log ≡ old.odd_log) × (new.even_slot ≡ old.even_slot))

  -- every device but that of the first of these calls is as it was
  abbrev pub OthersBy : StoreState → List StoreCall → Disks D → Disks D → Type 0
  OthersBy s [] old new = new ≡ old
  OthersBy s (call ∷ left) old new = OthersSame (device_of s call) old new

  -- the contents of the devices
  abbrev pub cells_of : (D → Cells) → Disks D → Devices
  cells_of cells d = record { even_log = cells d.even_log; odd_log = cells d.odd_log; even_slot = cells d.even_slot; odd_slot = cells d.odd_slot }

  -- the bytes that the devices hold
  abbrev pub contents : (D → Cells) → Disks D → Images
  contents cells d = record { even_log = (cells d.even_log).now; odd_log = (cells d.odd_log).now; even_slot = (cells d.even_slot).now; odd_slot = (cells d.odd_slot).now }

  -- devices on which nothing is pending
  pub record AreSettled (cells : D → Cells) (d : Disks D) : Type 0 where
    pub even_log : cells d.even_log ≡ settled (cells d.even_log).now
    pub odd_log : cells d.odd_log ≡ settled (cells d.odd_log).now
    pub even_slot : cells d.even_slot ≡ settled (cells d.even_slot).now
    pub odd_slot : cells d.odd_slot ≡ settled (cells d.odd_slot).now

  -- devices that hold what they held
  pub record AreSame (cells : D → Cells) (old new : Disks D) : Type 0 where
    pub even_log : cells new.even_log ≡ cells old.even_log
    pub odd_log : cells new.odd_log ≡ cells old.odd_log
    pub even_slot : cells new.even_slot ≡ cells old.even_slot
    pub odd_slot : cells new.odd_slot ≡ cells old.odd_slot

  -- devices of which the count of one has risen: of failures, or of wants of memory
  abbrev pub DiskRose : (D → ℕ) → Disks D → Disks D → Type 0
  DiskRose counts old new =
      Rose (counts old.even_log) (counts new.even_log)
      ⊎ (Rose (counts old.odd_log) (counts new.odd_log) ⊎ (Rose (counts old.even_slot) (counts new.even_slot) ⊎ Rose (counts old.odd_slot) (counts new.odd_slot)))

  -- devices over which time passed
  pub record TimeWent (moment : D → ℕ) (left_since : D → ℕ → List ℕ → Type 0) (cells : D → Cells) (old new : Disks D) : Type 0 where
    pub even_log : Elapses (moment old.even_log) (moment new.even_log) (left_since old.even_log) (left_since new.even_log) (IsImage (cells new.even_log))
    pub odd_log : Elapses (moment old.odd_log) (moment new.odd_log) (left_since old.odd_log) (left_since new.odd_log) (IsImage (cells new.odd_log))
    pub even_slot : Elapses (moment old.even_slot) (moment new.even_slot) (left_since old.even_slot) (left_since new.even_slot) (IsImage (cells new.even_slot))
    pub odd_slot : Elapses (moment old.odd_slot) (moment new.odd_slot) (left_since old.odd_slot) (left_since new.odd_slot) (IsImage (cells new.odd_slot))

  -- devices whose counts did not fall: of failures, or of wants of memory
  pub record NoneFell (counts : D → ℕ) (old new : Disks D) : Type 0 where
    pub even_log : counts old.even_log ≤ counts new.even_log
    pub odd_log : counts old.odd_log ≤ counts new.odd_log
    pub even_slot : counts old.even_slot ≤ counts new.even_slot
    pub odd_slot : counts old.odd_slot ≤ counts new.odd_slot

  -- bytes that a crash at some moment since `old` might have left
  pub record LeftSince (moment : D → ℕ) (left_since : D → ℕ → List ℕ → Type 0) (old new : Disks D) (images : Images) : Type 0 where
    pub even_log : left_since new.even_log (moment old.even_log) images.even_log
    pub odd_log : left_since new.odd_log (moment old.odd_log) images.odd_log
    pub even_slot : left_since new.even_slot (moment old.even_slot) images.even_slot
    pub odd_slot : left_since new.odd_slot (moment old.odd_slot) images.odd_slot
