-- Sound devices stay sound. What the end of a job leaves settled, a crash before its last call might have left.
use Rattle.std.proofs.Common.{◌≡◌, ℕ, ◌+◌, Bool, true, false, List, [], ◌∷◌, ◌++◌, length, take, sym, ◌∙◌, ap, subst, arith}
use Rattle.std.proofs.lemmas.List.{take_all, length-take}
use Rattle.disk_model.specs.Cells.{Cells, IsImage, IsSound, settled}
use Rattle.disk_model.specs.DeviceCalls.{made, CanBeMade}
use Rattle.disk_model.specs.declared.platter.Range.{Range}
use Rattle.disk_model.specs.declared.call.DeviceCall.{DeviceCall}
use Rattle.disk_model.specs.declared.call.DeviceCall.TheVariants.{Write, Cut, Sync}
use Rattle.disk_model.proofs.Sound.{sound_settled, sound_written, sound_cut}
use Rattle.store_laws.specs.Restored.{Images, log_image, slot_image}
use Rattle.store_laws.specs.States.{Devices, log_at, slot_at, change, cells_on, all_settled, MayLeave}
use Rattle.store_laws.specs.declared.job.Device.{Device}
use Rattle.store_laws.specs.declared.job.Device.TheVariants.{Log, Slot}
use Rattle.durable_store.specs.BookRuns.{AreSound}

-- ---- sound devices

four_sound : (d : Devices) → IsSound d.even_log → IsSound d.odd_log → IsSound d.even_slot → IsSound d.odd_slot → AreSound d
four_sound d even_log odd_log even_slot odd_slot = record { logs = logs; slots = slots }
  where
    logs : (odd : Bool) → IsSound (log_at odd d)
    logs false = even_log
    logs true = odd_log

    slots : (odd : Bool) → IsSound (slot_at odd d)
    slots false = even_slot
    slots true = odd_slot

pub settled_sound : (images : Images) → AreSound (all_settled images)
settled_sound images = four_sound (all_settled images) (sound_settled images.even_log) (sound_settled images.odd_log) (sound_settled images.even_slot) (sound_settled images.odd_slot)

made_sound : (call : DeviceCall) (cells : Cells) → CanBeMade call cells → IsSound cells → IsSound (made call cells)
made_sound (Write from bytes) cells can sound = sound_written from bytes cells can sound
made_sound (Cut to) cells can sound = sound_cut to cells sound
made_sound Sync cells can sound = sound_settled cells.now

pub change_sound : (call : DeviceCall) (device : Device) (d : Devices) → CanBeMade call (cells_on device d) → AreSound d → AreSound (change (made call) device d)
change_sound call (Log false) d can s = four_sound (change (made call) (Log false) d) (made_sound call d.even_log can (s.logs false)) (s.logs true) (s.slots false) (s.slots true)
change_sound call (Log true) d can s = four_sound (change (made call) (Log true) d) (s.logs false) (made_sound call d.odd_log can (s.logs true)) (s.slots false) (s.slots true)
change_sound call (Slot false) d can s = four_sound (change (made call) (Slot false) d) (s.logs false) (s.logs true) (made_sound call d.even_slot can (s.slots false)) (s.slots true)
change_sound call (Slot true) d can s = four_sound (change (made call) (Slot true) d) (s.logs false) (s.logs true) (s.slots false) (made_sound call d.odd_slot can (s.slots true))

-- ---- a call that leaves all settled

reads_as : (cells : Cells) (image : List ℕ) → IsSound cells → cells.now ≡ image → IsImage cells image
reads_as cells image sound is = subst (λ (l : List ℕ). IsImage cells l) is sound.reads

none_behind : (ranges : List Range) (r : Range) → ranges ++ r ∷ [] ≡ [] → ⊥
none_behind [] r is = cc
none_behind (first ∷ ranges) r is = cc

made_settled : (call : DeviceCall) (cells : Cells) (image : List ℕ) → IsSound cells → made call cells ≡ settled image → IsImage cells image
made_settled (Write from bytes) cells image sound is = absurd (none_behind cells.touched (record { from = from; upto = from + length bytes }) (ap (λ (c : Cells). c.touched) is))
made_settled (Cut to) cells image sound is =
    let now : take to cells.now ≡ image = ap (λ (c : Cells). c.now) is in
    let most : cells.greatest ≡ length image = ap (λ (c : Cells). c.greatest) is in
    let size = ap (λ (l : List ℕ). length l) now in
    let cut = length-take to cells.now in
    let longest = sound.reads.no_longer in
    reads_as cells image sound (sym (take_all to cells.now (omega (arith, most, size, cut, longest))) ∙ now)
made_settled Sync cells image sound is = reads_as cells image sound (ap (λ (c : Cells). c.now) is)

same_settled : (cells : Cells) (image : List ℕ) → IsSound cells → cells ≡ settled image → IsImage cells image
same_settled cells image sound is = reads_as cells image sound (ap (λ (c : Cells). c.now) is)

four_leave : (d : Devices) (images : Images) → IsImage d.even_log images.even_log → IsImage d.odd_log images.odd_log → IsImage d.even_slot images.even_slot → IsImage d.odd_slot images.odd_slot → MayLeave d images
four_leave d images even_log odd_log even_slot odd_slot = record { logs = logs; slots = slots }
  where
    logs : (odd : Bool) → IsImage (log_at odd d) (log_image odd images)
    logs false = even_log
    logs true = odd_log

    slots : (odd : Bool) → IsImage (slot_at odd d) (slot_image odd images)
    slots false = even_slot
    slots true = odd_slot

pub settled_leaves : (call : DeviceCall) (device : Device) (d : Devices) (images : Images) → AreSound d → change (made call) device d ≡ all_settled images → MayLeave d images
settled_leaves call (Log false) d images s is =
    four_leave d images (made_settled call d.even_log images.even_log (s.logs false) (ap (λ (x : Devices). x.even_log) is)) (same_settled d.odd_log images.odd_log (s.logs true) (ap (λ (x : Devices). x.odd_log) is))
    (same_settled d.even_slot images.even_slot (s.slots false) (ap (λ (x : Devices). x.even_slot) is)) (same_settled d.odd_slot images.odd_slot (s.slots true) (ap (λ (x : Devices). x.odd_slot) is))
settled_leaves call (Log true) d images s is =
    four_leave d images (same_settled d.even_log images.even_log (s.logs false) (ap (λ (x : Devices). x.even_log) is)) (made_settled call d.odd_log images.odd_log (s.logs true) (ap (λ (x : Devices). x.odd_log) is))
    (same_settled d.even_slot images.even_slot (s.slots false) (ap (λ (x : Devices). x.even_slot) is)) (same_settled d.odd_slot images.odd_slot (s.slots true) (ap (λ (x : Devices). x.odd_slot) is))
settled_leaves call (Slot false) d images s is =
    four_leave d images (same_settled d.even_log images.even_log (s.logs false) (ap (λ (x : Devices). x.even_log) is)) (same_settled d.odd_log images.odd_log (s.logs true) (ap (λ (x : Devices). x.odd_log) is))
    (made_settled call d.even_slot images.even_slot (s.slots false) (ap (λ (x : Devices). x.even_slot) is)) (same_settled d.odd_slot images.odd_slot (s.slots true) (ap (λ (x : Devices). x.odd_slot) is))
settled_leaves call (Slot true) d images s is =
    four_leave d images (same_settled d.even_log images.even_log (s.logs false) (ap (λ (x : Devices). x.even_log) is)) (same_settled d.odd_log images.odd_log (s.logs true) (ap (λ (x : Devices). x.odd_log) is))
    (same_settled d.even_slot images.even_slot (s.slots false) (ap (λ (x : Devices). x.even_slot) is)) (made_settled call d.odd_slot images.odd_slot (s.slots true) (ap (λ (x : Devices). x.odd_slot) is))
