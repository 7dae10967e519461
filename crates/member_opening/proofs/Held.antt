-- Devices that are taken from a room.
use Rattle.std.proofs.Common.{◌≤◌, ℕ, List, Option, arith}
use Rattle.disk_model.specs.Rooms.{Address}
use Rattle.durable_store.specs.Disks.{NoneFell}
use Rattle.durable_store.specs.declared.disks.Disks.{Disks}
use Rattle.member_opening.specs.Devices.{AreHeld}

-- devices that were taken may be put back, however often they failed since
pub held-still : {D : Type 0} (taken : Address → Option ℕ) (faults : D → ℕ) (dir : List ℕ) (member : ℕ) (old new : Disks D) → AreHeld taken faults dir member old → NoneFell faults old new
    → AreHeld taken faults dir member new
held-still taken faults dir member old new held fell = record {
  even_log = record { before = held.even_log.before; is = held.even_log.is; later = omega (arith, held.even_log.later, fell.even_log) };
  odd_log = record { before = held.odd_log.before; is = held.odd_log.is; later = omega (arith, held.odd_log.later, fell.odd_log) };
  even_slot = record { before = held.even_slot.before; is = held.even_slot.is; later = omega (arith, held.even_slot.later, fell.even_slot) };
  odd_slot = record { before = held.odd_slot.before; is = held.odd_slot.is; later = omega (arith, held.odd_slot.later, fell.odd_slot) };
}
