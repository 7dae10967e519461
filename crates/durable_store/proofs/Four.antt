-- What a call of one device makes of the four.
use Rattle.std.proofs.Common.{◌≡◌, ◌⊎◌, inl, inr, ⊎_elim, ℕ, ◌≤◌, Bool, true, false, List, [], ◌∷◌, refl, sym, subst, arith}
use Rattle.faults.specs.Counts.{Rose}
use Rattle.disk_model.specs.Cells.{Cells, IsImage, Within}
use Rattle.disk_model.specs.Calls.{Elapses}
use Rattle.store_laws.specs.Restored.{Images, log_image, slot_image}
use Rattle.store_laws.specs.States.{Devices, StoreState, device_of, log_at, slot_at, change, cells_on, MayLeave}
use Rattle.store_laws.specs.declared.job.Device.{Device}
use Rattle.store_laws.specs.declared.job.Device.TheVariants.{Log, Slot}
use Rattle.store_laws.specs.declared.job.StoreCall.{StoreCall}
use Rattle.durable_store.specs.Disks.{disk_at, OthersSame, OthersBy, cells_of, TimeWent, NoneFell, DiskRose, LeftSince}
use Rattle.durable_store.specs.declared.disks.Disks.{Disks}

all_leave : (d : Devices) (images : Images) → IsImage d.even_log images.even_log → IsImage d.odd_log images.odd_log → IsImage d.even_slot images.even_slot → IsImage d.odd_slot images.odd_slot → MayLeave d images
all_leave d images even_log odd_log even_slot odd_slot = record { logs = logs; slots = slots }
  where
    logs : (odd : Bool) → IsImage (log_at odd d) (log_image odd images)
    logs false = even_log
    logs true = odd_log

    slots : (odd : Bool) → IsImage (slot_at odd d) (slot_image odd images)
    slots false = even_slot
    slots true = odd_slot

module _ {D : Type 0} where
  pub at_device : (cells : D → Cells) (device : Device) (d : Disks D) → cells (disk_at device d) ≡ cells_on device (cells_of cells d)
  at_device cells (Log false) d = refl
  at_device cells (Log true) d = refl
  at_device cells (Slot false) d = refl
  at_device cells (Slot true) d = refl

  same_device : (device : Device) (d : Disks D) → OthersSame device d d
  same_device (Log false) d = (refl, (refl, refl))
  same_device (Log true) d = (refl, (refl, refl))
  same_device (Slot false) d = (refl, (refl, refl))
  same_device (Slot true) d = (refl, (refl, refl))

  pub same_others : (s : StoreState) (calls : List StoreCall) (d : Disks D) → OthersBy s calls d d
  same_others s [] d = refl
  same_others s (call ∷ left) d = same_device (device_of s call) d

  -- the contents after a call that changes those of a device by `f`
  pub four_made : (cells : D → Cells) (f : Cells → Cells) (device : Device) (old new : Disks D) → OthersSame device old new → cells (disk_at device new) ≡ f (cells (disk_at device old)) → cells_of cells new ≡ change f device (cells_of cells old)
  four_made cells f (Log false) old new same is = λ i. record { even_log = is i; odd_log = cells (same.0 i); even_slot = cells (same.1.0 i); odd_slot = cells (same.1.1 i) }
  four_made cells f (Log true) old new same is = λ i. record { even_log = cells (same.0 i); odd_log = is i; even_slot = cells (same.1.0 i); odd_slot = cells (same.1.1 i) }
  four_made cells f (Slot false) old new same is = λ i. record { even_log = cells (same.0 i); odd_log = cells (same.1.0 i); even_slot = is i; odd_slot = cells (same.1.1 i) }
  four_made cells f (Slot true) old new same is = λ i. record { even_log = cells (same.0 i); odd_log = cells (same.1.0 i); even_slot = cells (same.1.1 i); odd_slot = is i }

  as_before : (cells : D → Cells) (old new : D) (c : List ℕ) → new ≡ old → IsImage (cells new) c → IsImage (cells old) c
  as_before cells old new c same is = subst (λ (d : D). IsImage (cells d) c) same is

  -- what a crash leaves after a call, whether it went well or failed
  pub four_torn : (cells : D → Cells) (f : Cells → Cells) (device : Device) (old new : Disks D) → OthersSame device old new → Within (cells (disk_at device new)) (f (cells (disk_at device old))) → (images : Images) → MayLeave (cells_of cells new) images
      → MayLeave (change f device (cells_of cells old)) images
  four_torn cells f (Log false) old new same within images m =
      all_leave _ images (within images.even_log (m.logs false)) (as_before cells old.odd_log new.odd_log images.odd_log same.0 (m.logs true)) (as_before cells old.even_slot new.even_slot images.even_slot same.1.0 (m.slots false))
      (as_before cells old.odd_slot new.odd_slot images.odd_slot same.1.1 (m.slots true))
  four_torn cells f (Log true) old new same within images m =
      all_leave _ images (as_before cells old.even_log new.even_log images.even_log same.0 (m.logs false)) (within images.odd_log (m.logs true)) (as_before cells old.even_slot new.even_slot images.even_slot same.1.0 (m.slots false))
      (as_before cells old.odd_slot new.odd_slot images.odd_slot same.1.1 (m.slots true))
  four_torn cells f (Slot false) old new same within images m =
      all_leave _ images (as_before cells old.even_log new.even_log images.even_log same.0 (m.logs false)) (as_before cells old.odd_log new.odd_log images.odd_log same.1.0 (m.logs true)) (within images.even_slot (m.slots false))
      (as_before cells old.odd_slot new.odd_slot images.odd_slot same.1.1 (m.slots true))
  four_torn cells f (Slot true) old new same within images m =
      all_leave _ images (as_before cells old.even_log new.even_log images.even_log same.0 (m.logs false)) (as_before cells old.odd_log new.odd_log images.odd_log same.1.0 (m.logs true))
      (as_before cells old.even_slot new.even_slot images.even_slot same.1.1 (m.slots false)) (within images.odd_slot (m.slots true))

  -- ---- counts

  kept : (counts : D → ℕ) (old new : D) → new ≡ old → counts old ≤ counts new
  kept counts old new same = subst (λ (d : D). counts old ≤ counts d) (sym same) (omega arith)

  pub four_later : (counts : D → ℕ) (device : Device) (old new : Disks D) → OthersSame device old new → counts (disk_at device old) ≤ counts (disk_at device new) → NoneFell counts old new
  four_later counts (Log false) old new same later = record { even_log = later; odd_log = kept counts old.odd_log new.odd_log same.0; even_slot = kept counts old.even_slot new.even_slot same.1.0; odd_slot = kept counts old.odd_slot new.odd_slot same.1.1 }
  four_later counts (Log true) old new same later = record { even_log = kept counts old.even_log new.even_log same.0; odd_log = later; even_slot = kept counts old.even_slot new.even_slot same.1.0; odd_slot = kept counts old.odd_slot new.odd_slot same.1.1 }
  four_later counts (Slot false) old new same later = record { even_log = kept counts old.even_log new.even_log same.0; odd_log = kept counts old.odd_log new.odd_log same.1.0; even_slot = later; odd_slot = kept counts old.odd_slot new.odd_slot same.1.1 }
  four_later counts (Slot true) old new same later = record { even_log = kept counts old.even_log new.even_log same.0; odd_log = kept counts old.odd_log new.odd_log same.1.0; even_slot = kept counts old.even_slot new.even_slot same.1.1; odd_slot = later }

  pub four_rose : (counts : D → ℕ) (device : Device) (old new : Disks D) → Rose (counts (disk_at device old)) (counts (disk_at device new)) → DiskRose counts old new
  four_rose counts (Log false) old new rose = inl rose
  four_rose counts (Log true) old new rose = inr (inl rose)
  four_rose counts (Slot false) old new rose = inr (inr (inl rose))
  four_rose counts (Slot true) old new rose = inr (inr (inr rose))

  -- ---- time

  module _ (moment : D → ℕ) (left_since : D → ℕ → List ℕ → Type 0) (cells : D → Cells) where
    abbrev Goes : D → D → Type 0
    Goes old new = Elapses (moment old) (moment new) (left_since old) (left_since new) (IsImage (cells new))

    stays : (old new : D) → new ≡ old → Goes old new
    stays old new same = subst (λ (d : D). Goes old d) (sym same) (record { later = omega arith; nothing_else = λ t c before left. inl left; keeps = λ t c before left. left })

    pub four_time : (device : Device) (old new : Disks D) → OthersSame device old new → Goes (disk_at device old) (disk_at device new) → TimeWent moment left_since cells old new
    four_time (Log false) old new same goes = record { even_log = goes; odd_log = stays old.odd_log new.odd_log same.0; even_slot = stays old.even_slot new.even_slot same.1.0; odd_slot = stays old.odd_slot new.odd_slot same.1.1 }
    four_time (Log true) old new same goes = record { even_log = stays old.even_log new.even_log same.0; odd_log = goes; even_slot = stays old.even_slot new.even_slot same.1.0; odd_slot = stays old.odd_slot new.odd_slot same.1.1 }
    four_time (Slot false) old new same goes = record { even_log = stays old.even_log new.even_log same.0; odd_log = stays old.odd_log new.odd_log same.1.0; even_slot = goes; odd_slot = stays old.odd_slot new.odd_slot same.1.1 }
    four_time (Slot true) old new same goes = record { even_log = stays old.even_log new.even_log same.0; odd_log = stays old.odd_log new.odd_log same.1.0; even_slot = stays old.even_slot new.even_slot same.1.1; odd_slot = goes }

    pub four_still : (d : Disks D) → TimeWent moment left_since cells d d
    four_still d = record { even_log = stays d.even_log d.even_log refl; odd_log = stays d.odd_log d.odd_log refl; even_slot = stays d.even_slot d.even_slot refl; odd_slot = stays d.odd_slot d.odd_slot refl }

    -- what a crash at any moment since `old` might have left: what it may leave now, or might have left then
    module _ (only : (disk : D) (c : List ℕ) → left_since disk (moment disk) c → IsImage (cells disk) c) where
      then_left : (old new : D) (c : List ℕ) → Goes old new → left_since new (moment old) c → IsImage (cells old) c ⊎ IsImage (cells new) c
      then_left old new c goes left = by (goes.nothing_else (moment old) c (omega arith) left)
        where
          by : left_since old (moment old) c ⊎ IsImage (cells new) c → IsImage (cells old) c ⊎ IsImage (cells new) c
          by (inl past) = inl (only old c past)
          by (inr now) = inr now

      only_then : (old new : D) (c : List ℕ) → new ≡ old → left_since new (moment old) c → IsImage (cells old) c
      only_then old new c same left = only old c (subst (λ (d : D). left_since d (moment old) c) same left)

      only_now : (old new : D) (c : List ℕ) → new ≡ old → IsImage (cells old) c → IsImage (cells new) c
      only_now old new c same is = subst (λ (d : D). IsImage (cells d) c) (sym same) is

      pub four_still_moments : (d : Disks D) (images : Images) → LeftSince moment left_since d d images → MayLeave (cells_of cells d) images
      four_still_moments d images l = all_leave _ images (only d.even_log images.even_log l.even_log) (only d.odd_log images.odd_log l.odd_log) (only d.even_slot images.even_slot l.even_slot) (only d.odd_slot images.odd_slot l.odd_slot)

      pub four_moments : (device : Device) (old new : Disks D) → OthersSame device old new → Goes (disk_at device old) (disk_at device new) → (images : Images) → LeftSince moment left_since old new images
          → MayLeave (cells_of cells old) images ⊎ MayLeave (cells_of cells new) images
      four_moments (Log false) old new same goes images l =
          let x = only_then old.odd_log new.odd_log images.odd_log same.0 l.odd_log in
          let y = only_then old.even_slot new.even_slot images.even_slot same.1.0 l.even_slot in
          let z = only_then old.odd_slot new.odd_slot images.odd_slot same.1.1 l.odd_slot in
          ⊎_elim (λ (w : IsImage (cells old.even_log) images.even_log). inl (all_leave _ images w x y z))
          (λ (w : IsImage (cells new.even_log) images.even_log).
          inr (all_leave _ images w (only_now old.odd_log new.odd_log images.odd_log same.0 x) (only_now old.even_slot new.even_slot images.even_slot same.1.0 y) (only_now old.odd_slot new.odd_slot images.odd_slot same.1.1 z)))
          (then_left old.even_log new.even_log images.even_log goes l.even_log)
      four_moments (Log true) old new same goes images l =
          let x = only_then old.even_log new.even_log images.even_log same.0 l.even_log in
          let y = only_then old.even_slot new.even_slot images.even_slot same.1.0 l.even_slot in
          let z = only_then old.odd_slot new.odd_slot images.odd_slot same.1.1 l.odd_slot in
          ⊎_elim (λ (w : IsImage (cells old.odd_log) images.odd_log). inl (all_leave _ images x w y z))
          (λ (w : IsImage (cells new.odd_log) images.odd_log).
          inr (all_leave _ images (only_now old.even_log new.even_log images.even_log same.0 x) w (only_now old.even_slot new.even_slot images.even_slot same.1.0 y) (only_now old.odd_slot new.odd_slot images.odd_slot same.1.1 z)))
          (then_left old.odd_log new.odd_log images.odd_log goes l.odd_log)
      four_moments (Slot false) old new same goes images l =
          let x = only_then old.even_log new.even_log images.even_log same.0 l.even_log in
          let y = only_then old.odd_log new.odd_log images.odd_log same.1.0 l.odd_log in
          let z = only_then old.odd_slot new.odd_slot images.odd_slot same.1.1 l.odd_slot in
          ⊎_elim (λ (w : IsImage (cells old.even_slot) images.even_slot). inl (all_leave _ images x y w z))
          (λ (w : IsImage (cells new.even_slot) images.even_slot).
          inr (all_leave _ images (only_now old.even_log new.even_log images.even_log same.0 x) (only_now old.odd_log new.odd_log images.odd_log same.1.0 y) w (only_now old.odd_slot new.odd_slot images.odd_slot same.1.1 z)))
          (then_left old.even_slot new.even_slot images.even_slot goes l.even_slot)
      four_moments (Slot true) old new same goes images l =
          let x = only_then old.even_log new.even_log images.even_log same.0 l.even_log in
          let y = only_then old.odd_log new.odd_log images.odd_log same.1.0 l.odd_log in
          let z = only_then old.even_slot new.even_slot images.even_slot same.1.1 l.even_slot in
          ⊎_elim (λ (w : IsImage (cells old.odd_slot) images.odd_slot). inl (all_leave _ images x y z w))
          (λ (w : IsImage (cells new.odd_slot) images.odd_slot).
          inr (all_leave _ images (only_now old.even_log new.even_log images.even_log same.0 x) (only_now old.odd_log new.odd_log images.odd_log same.1.0 y) (only_now old.even_slot new.even_slot images.even_slot same.1.1 z) w))
          (then_left old.odd_slot new.odd_slot images.odd_slot goes l.odd_slot)
