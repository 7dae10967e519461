-- Devices and their bytes by parity: those of one parity, and those of the other.
use Rattle.std.proofs.Common.{◌≡◌, ℕ, Bool, true, false, not, List, refl, subst}
use Rattle.disk_model.specs.Cells.{Cells, IsImage, settled}
use Rattle.disk_model.proofs.Images.{image_settled}
use Rattle.store_laws.specs.Restored.{Images, log_image, slot_image}
use Rattle.store_laws.specs.States.{Devices, log_at, slot_at, change, all_settled}
use Rattle.store_laws.specs.declared.job.Device.TheVariants.{Log, Slot}

pub twice_not : (b : Bool) → not (not b) ≡ b
twice_not true = refl
twice_not false = refl

-- ---- a device is changed

pub log_is : (f : Cells → Cells) (d : Devices) (odd : Bool) → log_at odd (change f (Log odd) d) ≡ f (log_at odd d)
log_is f d true = refl
log_is f d false = refl

pub log_beside : (f : Cells → Cells) (d : Devices) (odd : Bool) → log_at (not odd) (change f (Log odd) d) ≡ log_at (not odd) d
log_beside f d true = refl
log_beside f d false = refl

pub beside_log : (f : Cells → Cells) (d : Devices) (odd : Bool) → log_at odd (change f (Log (not odd)) d) ≡ log_at odd d
beside_log f d true = refl
beside_log f d false = refl

pub log_slot : (f : Cells → Cells) (d : Devices) (odd b : Bool) → slot_at b (change f (Log odd) d) ≡ slot_at b d
log_slot f d true true = refl
log_slot f d true false = refl
log_slot f d false true = refl
log_slot f d false false = refl

pub slot_is : (f : Cells → Cells) (d : Devices) (odd : Bool) → slot_at odd (change f (Slot odd) d) ≡ f (slot_at odd d)
slot_is f d true = refl
slot_is f d false = refl

pub slot_beside : (f : Cells → Cells) (d : Devices) (odd : Bool) → slot_at (not odd) (change f (Slot odd) d) ≡ slot_at (not odd) d
slot_beside f d true = refl
slot_beside f d false = refl

pub beside_slot : (f : Cells → Cells) (d : Devices) (odd : Bool) → slot_at odd (change f (Slot (not odd)) d) ≡ slot_at odd d
beside_slot f d true = refl
beside_slot f d false = refl

pub slot_log : (f : Cells → Cells) (d : Devices) (odd b : Bool) → log_at b (change f (Slot odd) d) ≡ log_at b d
slot_log f d true true = refl
slot_log f d true false = refl
slot_log f d false true = refl
slot_log f d false false = refl

-- ---- all is sure

pub log_settled : (images : Images) (odd : Bool) → log_at odd (all_settled images) ≡ settled (log_image odd images)
log_settled images true = refl
log_settled images false = refl

pub slot_settled : (images : Images) (odd : Bool) → slot_at odd (all_settled images) ≡ settled (slot_image odd images)
slot_settled images true = refl
slot_settled images false = refl

pub devices_are : (d : Devices) (images : Images) → ((odd : Bool) → log_at odd d ≡ settled (log_image odd images)) → ((odd : Bool) → slot_at odd d ≡ settled (slot_image odd images)) → d ≡ all_settled images
devices_are d images logs slots = λ i. record { even_log = logs false i; odd_log = logs true i; even_slot = slots false i; odd_slot = slots true i }

-- a property of both parities, from that of one and that of the other
pub both : (P : Bool → Type 0) (b : Bool) → P b → P (not b) → (odd : Bool) → P odd
both P true here beside true = here
both P true here beside false = beside
both P false here beside true = beside
both P false here beside false = here

pub as_was : (cells : Cells) (bytes c : List ℕ) → cells ≡ settled bytes → IsImage cells c → c ≡ bytes
as_was cells bytes c same image = image_settled bytes c (subst (λ (q : Cells). IsImage q c) same image)

pub by : (cells is : Cells) (c : List ℕ) → cells ≡ is → IsImage cells c → IsImage is c
by cells is c same image = subst (λ (q : Cells). IsImage q c) same image

pub images_are : (a b : Images) → ((odd : Bool) → log_image odd a ≡ log_image odd b) → ((odd : Bool) → slot_image odd a ≡ slot_image odd b) → a ≡ b
images_are a b logs slots = λ i. record { even_log = logs false i; odd_log = logs true i; even_slot = slots false i; odd_slot = slots true i }

-- ---- other bytes of one device

abbrev pub with_log : Bool → List ℕ → Images → Images
with_log false bytes images = record { even_log = bytes; odd_log = images.odd_log; even_slot = images.even_slot; odd_slot = images.odd_slot }
with_log true bytes images = record { even_log = images.even_log; odd_log = bytes; even_slot = images.even_slot; odd_slot = images.odd_slot }

abbrev pub with_slot : Bool → List ℕ → Images → Images
with_slot false bytes images = record { even_log = images.even_log; odd_log = images.odd_log; even_slot = bytes; odd_slot = images.odd_slot }
with_slot true bytes images = record { even_log = images.even_log; odd_log = images.odd_log; even_slot = images.even_slot; odd_slot = bytes }

pub log_image_is : (odd : Bool) (bytes : List ℕ) (images : Images) → log_image odd (with_log odd bytes images) ≡ bytes
log_image_is true bytes images = refl
log_image_is false bytes images = refl

pub log_image_beside : (odd : Bool) (bytes : List ℕ) (images : Images) → log_image (not odd) (with_log odd bytes images) ≡ log_image (not odd) images
log_image_beside true bytes images = refl
log_image_beside false bytes images = refl

pub log_image_slot : (odd b : Bool) (bytes : List ℕ) (images : Images) → slot_image b (with_log odd bytes images) ≡ slot_image b images
log_image_slot true true bytes images = refl
log_image_slot true false bytes images = refl
log_image_slot false true bytes images = refl
log_image_slot false false bytes images = refl

pub slot_image_is : (odd : Bool) (bytes : List ℕ) (images : Images) → slot_image odd (with_slot odd bytes images) ≡ bytes
slot_image_is true bytes images = refl
slot_image_is false bytes images = refl

pub slot_image_beside : (odd : Bool) (bytes : List ℕ) (images : Images) → slot_image (not odd) (with_slot odd bytes images) ≡ slot_image (not odd) images
slot_image_beside true bytes images = refl
slot_image_beside false bytes images = refl

pub slot_image_log : (odd b : Bool) (bytes : List ℕ) (images : Images) → log_image b (with_slot odd bytes images) ≡ log_image b images
slot_image_log true true bytes images = refl
slot_image_log true false bytes images = refl
slot_image_log false true bytes images = refl
slot_image_log false false bytes images = refl
