-- Counts of failures over several calls.
use Rattle.std.proofs.Common.{◌≡◌, ℕ, Bool, true, false, ◌≤◌, inl, inr, arith}
use Rattle.faults.specs.Counts.{Rose}
use Rattle.durable_store.specs.Disks.{NoneFell, DiskRose}
use Rattle.store_form.specs.declared.ends.LogFault.{LogFault}
use Rattle.store_form.specs.declared.ends.LogFault.TheVariants.{Disk}
use Rattle.durable_store.specs.declared.disks.Disks.{Disks}

pub rose_after : (before mid now : ℕ) → before ≤ mid → Rose mid now → Rose before now
rose_after before mid now le rose = omega (arith, le, rose)

module _ {D : Type 0} where
  pub fell_none : (counts : D → ℕ) (a : Disks D) → NoneFell counts a a
  fell_none counts a = record { even_log = omega arith; odd_log = omega arith; even_slot = omega arith; odd_slot = omega arith }

  pub fell_after : (counts : D → ℕ) (a b c : Disks D) → NoneFell counts a b → NoneFell counts b c → NoneFell counts a c
  fell_after counts a b c p q = record {
    even_log = omega (arith, p.even_log, q.even_log);
    odd_log = omega (arith, p.odd_log, q.odd_log);
    even_slot = omega (arith, p.even_slot, q.even_slot);
    odd_slot = omega (arith, p.odd_slot, q.odd_slot);
  }

  pub disk_rose_after : (counts : D → ℕ) (a b c : Disks D) → NoneFell counts a b → DiskRose counts b c → DiskRose counts a c
  disk_rose_after counts a b c p (inl rose) = inl (rose_after _ _ _ p.even_log rose)
  disk_rose_after counts a b c p (inr (inl rose)) = inr (inl (rose_after _ _ _ p.odd_log rose))
  disk_rose_after counts a b c p (inr (inr (inl rose))) = inr (inr (inl (rose_after _ _ _ p.even_slot rose)))
  disk_rose_after counts a b c p (inr (inr (inr rose))) = inr (inr (inr (rose_after _ _ _ p.odd_slot rose)))

  -- a call that failed for a device, by the count of it
  pub disk_failed : (counts : D → ℕ) (a b c : Disks D) (fault : LogFault) → NoneFell counts a b → (fault ≡ Disk false → DiskRose counts b c) → (fault ≡ Disk true → ⊥)
      → (closed : Bool) × (fault ≡ Disk closed) → DiskRose counts a c
  disk_failed counts a b c fault fell cause not_closed (true, is) = absurd (not_closed is)
  disk_failed counts a b c fault fell cause not_closed (false, is) = disk_rose_after counts a b c fell (cause is)
