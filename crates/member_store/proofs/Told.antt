-- No byte is told as wrong exactly where a crash may leave the bytes of all devices.
use Rattle.std.proofs.Common.{◌≡◌, ℕ, Bool, true, false, List, Option, Some, None, option_map, refl, ap}
use Rattle.smart_base.specs.Lists.{or_else}
use Rattle.disk_model.specs.Cells.{Cells, IsImage}
use Rattle.store_laws.specs.Restored.{Images, log_image, slot_image}
use Rattle.store_laws.specs.States.{Devices, StoreState, log_at, slot_at, MayLeave}
use Rattle.world_rules.specs.Wrong.{wrong_in}
use Rattle.world_rules.specs.Crashes.{wrong_on, wrong_images}
use Rattle.world_rules.specs.declared.crash.NotAnImage.{NotAnImage}
use Rattle.member_store.proofs.Wrong.{wrong-none, none-wrong}

none_else : {A : Type 0} → (one other : Option A) → or_else one other ≡ None → (one ≡ None) × (other ≡ None)
none_else None other is = (refl, is)
none_else (Some x) other is = absurd cc

pub all_none : {A : Type 0} → (a b c d : Option A) → a ≡ None → b ≡ None → c ≡ None → d ≡ None → or_else a (or_else b (or_else c d)) ≡ None
all_none a b c d a_is b_is c_is d_is = rw (a_is, b_is, c_is, d_is) refl

unmapped : {A B : Type 0} → (f : A → B) (o : Option A) → option_map f o ≡ None → o ≡ None
unmapped f None is = refl
unmapped f (Some x) is = absurd cc

none_on : (device : ℕ) (cells : Cells) (bytes : List ℕ) → wrong_on device cells bytes ≡ None → IsImage cells bytes
none_on device cells bytes is =
    let told : ℕ → NotAnImage = λ at. record { device = device; at = at } in
    none-wrong cells bytes (unmapped told (wrong_in cells bytes) is)

pub on_none : (device : ℕ) (cells : Cells) (bytes : List ℕ) → IsImage cells bytes → wrong_on device cells bytes ≡ None
on_none device cells bytes image =
    let told : ℕ → NotAnImage = λ at. record { device = device; at = at } in
    ap (option_map told) (wrong-none cells bytes image)

logs_on : (d : Devices) (left : Images) → IsImage d.even_log left.even_log → IsImage d.odd_log left.odd_log → (odd : Bool) → IsImage (log_at odd d) (log_image odd left)
logs_on d left even_is odd_is false = even_is
logs_on d left even_is odd_is true = odd_is

slots_on : (d : Devices) (left : Images) → IsImage d.even_slot left.even_slot → IsImage d.odd_slot left.odd_slot → (odd : Bool) → IsImage (slot_at odd d) (slot_image odd left)
slots_on d left even_is odd_is false = even_is
slots_on d left even_is odd_is true = odd_is

pub may_leave : (s : StoreState) (left : Images) → wrong_images s left ≡ None → MayLeave s.devices left
unfolding wrong_images
may_leave s left is =
    let even = none_else (wrong_on 0 s.devices.even_log left.even_log) _ is in
    let odd = none_else (wrong_on 1 s.devices.odd_log left.odd_log) _ even.1 in
    let slots = none_else (wrong_on 2 s.devices.even_slot left.even_slot) (wrong_on 3 s.devices.odd_slot left.odd_slot) odd.1 in
    record {
      logs = logs_on s.devices left (none_on 0 s.devices.even_log left.even_log even.0) (none_on 1 s.devices.odd_log left.odd_log odd.0);
      slots = slots_on s.devices left (none_on 2 s.devices.even_slot left.even_slot slots.0) (none_on 3 s.devices.odd_slot left.odd_slot slots.1);
    }

pub none_told : (s : StoreState) (left : Images) → MayLeave s.devices left → wrong_images s left ≡ None
unfolding wrong_images
none_told s left may =
    all_none (wrong_on 0 s.devices.even_log left.even_log) (wrong_on 1 s.devices.odd_log left.odd_log) (wrong_on 2 s.devices.even_slot left.even_slot)
    (wrong_on 3 s.devices.odd_slot left.odd_slot)
    (on_none 0 s.devices.even_log left.even_log (may.logs false))
    (on_none 1 s.devices.odd_log left.odd_log (may.logs true))
    (on_none 2 s.devices.even_slot left.even_slot (may.slots false))
    (on_none 3 s.devices.odd_slot left.odd_slot (may.slots true))
