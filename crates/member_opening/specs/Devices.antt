-- The devices of a node in a room.
use Rattle.std.specs.Prelude.{◌≡◌, ◌≢◌, ◌≤◌, ◌+◌, ℕ, List, Option, Some, None}
use Rattle.disk_model.specs.Cells.{Cells, Within}
use Rattle.disk_model.specs.Rooms.{Address, address}
use Rattle.store_laws.specs.Restored.{Images}
use Rattle.store_laws.specs.States.{Devices}
use Rattle.durable_store.specs.declared.disks.Disks.{Disks}

-- A thing that is taken, and that had failed no more often then than now.
pub record IsHeld (taken : Option ℕ) (faults : ℕ) : Type 0 where
  pub before : ℕ
  pub is : taken ≡ Some before
  pub later : before ≤ faults

-- two devices that are taken from a room, with numbers one after the other
pub record ArePair {D : Type 0} (taken : Address → Option ℕ) (faults : D → ℕ) (dir : List ℕ) (member first : ℕ) (one other : D) : Type 0 where
  pub one_held : IsHeld (taken (address dir member first)) (faults one)
  pub other_held : IsHeld (taken (address dir member (first + 1))) (faults other)

-- the four devices of a member that are taken from a room
pub record AreHeld {D : Type 0} (taken : Address → Option ℕ) (faults : D → ℕ) (dir : List ℕ) (member : ℕ) (d : Disks D) : Type 0 where
  pub even_log : IsHeld (taken (address dir member 0)) (faults d.even_log)
  pub odd_log : IsHeld (taken (address dir member 1)) (faults d.odd_log)
  pub even_slot : IsHeld (taken (address dir member 2)) (faults d.even_slot)
  pub odd_slot : IsHeld (taken (address dir member 3)) (faults d.odd_slot)

-- a change of a room that leaves a member's devices as they are, but for two with numbers one after the other
abbrev pub KeepsDevices : {A : Type 0} → List ℕ → ℕ → ℕ → (Address → A) → (Address → A) → Type 0
KeepsDevices dir member first old new = (device : ℕ) → device ≢ first → device ≢ first + 1 → new (address dir member device) ≡ old (address dir member device)

-- a change of a room that leaves all addresses as they are, but for two devices of a member with numbers one after the other
abbrev pub KeepsBesidePair : {A : Type 0} → List ℕ → ℕ → ℕ → (Address → A) → (Address → A) → Type 0
KeepsBesidePair dir member first old new = (other : Address) → other ≢ address dir member first → other ≢ address dir member (first + 1) → new other ≡ old other

-- a change of a room that leaves all addresses as they are, but for a member's four devices
abbrev pub KeepsBeside : {A : Type 0} → List ℕ → ℕ → (Address → A) → (Address → A) → Type 0
KeepsBeside dir member old new =
    (other : Address) → other ≢ address dir member 0 → other ≢ address dir member 1 → other ≢ address dir member 2 → other ≢ address dir member 3 → new other ≡ old other

-- none of two devices of a member, with numbers one after the other, is taken
abbrev pub IsFreePair : (Address → Option ℕ) → List ℕ → ℕ → ℕ → Type 0
IsFreePair taken dir member first = (taken (address dir member first) ≡ None) × (taken (address dir member (first + 1)) ≡ None)

-- none of a member's four devices is taken
abbrev pub AreFree : (Address → Option ℕ) → List ℕ → ℕ → Type 0
AreFree taken dir member = IsFreePair taken dir member 0 × IsFreePair taken dir member 2

-- as many of two devices are taken as before, and for each as many failures were told of
abbrev pub IsPairAsBefore : (Address → Option ℕ) → (Address → Option ℕ) → List ℕ → ℕ → ℕ → Type 0
IsPairAsBefore old new dir member first =
    (new (address dir member first) ≡ old (address dir member first)) × (new (address dir member (first + 1)) ≡ old (address dir member (first + 1)))

-- the same of a member's four devices
abbrev pub AreAsBefore : (Address → Option ℕ) → (Address → Option ℕ) → List ℕ → ℕ → Type 0
AreAsBefore old new dir member = IsPairAsBefore old new dir member 0 × IsPairAsBefore old new dir member 2

-- the bytes of a member's four devices in a room
abbrev pub images_at : (Address → Cells) → List ℕ → ℕ → Images
images_at cells dir member = record {
  even_log = (cells (address dir member 0)).now;
  odd_log = (cells (address dir member 1)).now;
  even_slot = (cells (address dir member 2)).now;
  odd_slot = (cells (address dir member 3)).now;
}

-- what a member's four devices in a room hold, and what is not yet sure of it
abbrev pub devices_at : (Address → Cells) → List ℕ → ℕ → Devices
devices_at cells dir member = record {
  even_log = cells (address dir member 0);
  odd_log = cells (address dir member 1);
  even_slot = cells (address dir member 2);
  odd_slot = cells (address dir member 3);
}

-- two devices of which a crash leaves nothing but what it might leave of a member's two in a room, with numbers one after the other
pub record IsPairWithin (cells : Address → Cells) (dir : List ℕ) (member first : ℕ) (one other : Cells) : Type 0 where
  pub one_within : Within one (cells (address dir member first))
  pub other_within : Within other (cells (address dir member (first + 1)))

-- four devices of which a crash leaves nothing but what it might leave of others
pub record AreWithin (new old : Devices) : Type 0 where
  pub even_log : Within new.even_log old.even_log
  pub odd_log : Within new.odd_log old.odd_log
  pub even_slot : Within new.even_slot old.even_slot
  pub odd_slot : Within new.odd_slot old.odd_slot
