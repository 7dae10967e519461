-- A job begins in a store over any bytes. Up to three gates may be torn, with anything after them.
use Rattle.std.proofs.Common.{◌≡◌, ◌≢◌, inl, inr, ⊎_elim, ℕ, suc, eqb, Bool, true, false, not, cond, List, [], ◌∷◌, ◌++◌, length, get_or, take, drop, Option, Some, None, refl, sym, ◌∙◌, ap, subst, arith, length-append}
use Rattle.std.proofs.lemmas.Bool.{cases_eq}
use Rattle.std.proofs.lemmas.List.{take_at}
use Rattle.disk_model.specs.Cells.{Cells, settled, written}
use Rattle.disk_model.proofs.Images.{image_byte}
use Rattle.disk_model.specs.DeviceCalls.{made, CanBeMade}
use Rattle.disk_model.specs.declared.call.DeviceCall.TheVariants.{Write, Sync}
use Rattle.store_form.specs.Spelling.{Group}
use Rattle.store_form.specs.declared.checkpoint.Checkpoint.{Checkpoint}
use Rattle.batch_log.specs.Log.{log_bytes, AreGroups, restored}
use Rattle.batch_log.specs.Exact.{end_opened}
use Rattle.batch_log.proofs.Restored.{restored_is, closed}
use Rattle.batch_log.proofs.Steps.{closing_leaves, closed_after}
use Rattle.checkpoint_store.specs.Slots.{slot_of, newer, generation_of}
use Rattle.checkpoint_store.proofs.SlotBytes.{shut}
use Rattle.store_laws.specs.Restored.{Images, log_image, slot_image, side_of, present_in, entries_of, restores, slot_gate, counts_or_torn, log_torn, slot_opened, opened_at, log_opened}
use Rattle.store_laws.specs.States.{Devices, StoreState, log_at, slot_at, change, all_settled, MayLeave}
use Rattle.store_laws.specs.Lives.{Either}
use Rattle.store_laws.specs.Stands.{Rests, IsRead, AnyRests, instead}
use Rattle.store_laws.specs.declared.job.Kept.{Kept}
use Rattle.store_laws.specs.declared.job.Gate.{Gate}
use Rattle.store_laws.specs.declared.job.Gate.TheVariants.{Closed, Torn}
use Rattle.store_laws.specs.declared.job.Device.TheVariants.{Log, Slot}
use Rattle.store_laws.proofs.Calm.{closed_is, end_is}
use Rattle.store_laws.proofs.Roles.{log_is, log_beside, log_slot, slot_is, slot_beside, slot_log, log_settled, slot_settled, devices_are, both, as_was, by, images_are, with_log, with_slot, log_image_is, log_image_beside, log_image_slot, slot_image_is, slot_image_beside, slot_image_log}

-- ---- what is restored depends on what the slots have and on the logs

present_same : (x y : Images) → ((odd : Bool) → slot_of odd (slot_image odd x) ≡ slot_of odd (slot_image odd y)) → present_in x ≡ present_in y
present_same x y slots = λ i. newer (slots false i) (slots true i)

pub restores_same : (x y : Images) → ((odd : Bool) → slot_of odd (slot_image odd x) ≡ slot_of odd (slot_image odd y)) → restored (log_image (side_of (present_in y)) x) ≡ restored (log_image (side_of (present_in y)) y) → restores x ≡ restores y
restores_same x y slots groups =
    let p : present_in x ≡ present_in y = present_same x y slots in
    let own : entries_of (restored (log_image (side_of (present_in x)) x)) ≡ entries_of (restored (log_image (side_of (present_in y)) y)) =
    ap (λ (o : Option Checkpoint). entries_of (restored (log_image (side_of o) x))) p ∙ ap entries_of groups in
    λ i. record { present = p i; entries = own i }

-- ---- a torn slot

none_by : (o : Option Checkpoint) → counts_or_torn o ≡ Torn → o ≡ None
none_by None is = refl
none_by (Some x) is = absurd cc

-- a torn slot has a first byte, and no checkpoint
pub record IsTornSlot (odd : Bool) (bytes : List ℕ) : Type 0 where
  pub gate : ℕ
  pub rest : List ℕ
  pub are : bytes ≡ gate ∷ rest
  pub none : slot_of odd bytes ≡ None

pub torn_slot : (odd : Bool) (bytes : List ℕ) → slot_gate odd bytes ≡ Torn → IsTornSlot odd bytes
torn_slot odd [] is = absurd cc
torn_slot odd (x ∷ rest) is = record { gate = x; rest = rest; are = refl; none = by (eqb x 0) is }
  where
    by : (t : Bool) → cond t Closed (counts_or_torn (slot_of odd (x ∷ rest))) ≡ Torn → slot_of odd (x ∷ rest) ≡ None
    by true is = absurd cc
    by false is = none_by (slot_of odd (x ∷ rest)) is

opened_slot : (odd : Bool) (images : Images) → slot_image odd (slot_opened odd images) ≡ 1 ∷ drop 1 (slot_image odd images)
opened_slot true images = refl
opened_slot false images = refl

opened_slot_beside : (odd : Bool) (images : Images) → slot_image (not odd) (slot_opened odd images) ≡ slot_image (not odd) images
opened_slot_beside true images = refl
opened_slot_beside false images = refl

opened_slot_log : (odd b : Bool) (images : Images) → log_image b (slot_opened odd images) ≡ log_image b images
opened_slot_log true true images = refl
opened_slot_log true false images = refl
opened_slot_log false true images = refl
opened_slot_log false false images = refl

gates_closed : (odd : Bool) (old new : Images) (even_gate odd_gate : Gate) → even_gate ≡ slot_gate false old.even_slot → odd_gate ≡ slot_gate true old.odd_slot → slot_image (not odd) new ≡ slot_image (not odd) old → slot_gate odd (slot_image odd new) ≡ Closed
    → (cond odd even_gate Closed ≡ slot_gate false new.even_slot) × (cond odd Closed odd_gate ≡ slot_gate true new.odd_slot)
gates_closed true old new even_gate odd_gate even_is odd_is same is = (even_is ∙ ap (slot_gate false) (sym same), sym is)
gates_closed false old new even_gate odd_gate even_is odd_is same is = (sym is, odd_is ∙ ap (slot_gate true) (sym same))

module _ (sure : Images) (odd : Bool) (t : IsTornSlot odd (slot_image odd sure)) where
  abbrev h0 : Devices
  h0 = all_settled sure

  abbrev h1 : Devices
  h1 = change (made (Write 0 (0 ∷ []))) (Slot odd) h0

  abbrev h2 : Devices
  h2 = change (made Sync) (Slot odd) h1

  new1 : slot_at odd h1 ≡ written 0 (0 ∷ []) (settled (t.gate ∷ t.rest))
  new1 = slot_is (made (Write 0 (0 ∷ []))) h0 odd ∙ ap (made (Write 0 (0 ∷ []))) (slot_settled sure odd ∙ ap settled t.are)

  other1 : slot_at (not odd) h1 ≡ settled (slot_image (not odd) sure)
  other1 = slot_beside (made (Write 0 (0 ∷ []))) h0 odd ∙ slot_settled sure (not odd)

  logs1 : (b : Bool) → log_at b h1 ≡ settled (log_image b sure)
  logs1 b = slot_log (made (Write 0 (0 ∷ []))) h0 odd b ∙ log_settled sure b

  pub any_leaves1 : (images : Images) → MayLeave h1 images → Either images (restores sure) (restores (slot_opened odd sure))
  any_leaves1 images may =
      let c = slot_image odd images in
      let parts : c ≡ get_or c 0 0 ∷ t.rest = image_byte 0 0 (t.gate ∷ t.rest) c (omega arith) (by (slot_at odd h1) (written 0 (0 ∷ []) (settled (t.gate ∷ t.rest))) c new1 (may.slots odd)) in
      let beside : slot_image (not odd) images ≡ slot_image (not odd) sure = as_was (slot_at (not odd) h1) (slot_image (not odd) sure) (slot_image (not odd) images) other1 (may.slots (not odd)) in
      let logs : (b : Bool) → log_image b images ≡ log_image b sure = λ b. as_was (log_at b h1) (log_image b sure) (log_image b images) (logs1 b) (may.logs b) in
      ⊎_elim
      (λ (one : get_or c 0 0 ≡ 1). inr (ap restores (images_are images (slot_opened odd sure) (λ b. logs b ∙ sym (opened_slot_log odd b sure))
      (both (λ (b : Bool). slot_image b images ≡ slot_image b (slot_opened odd sure)) odd
      (parts ∙ ap (λ (x : ℕ). x ∷ t.rest) one ∙ ap (λ (l : List ℕ). 1 ∷ drop 1 l) (sym t.are) ∙ sym (opened_slot odd sure)) (beside ∙ sym (opened_slot_beside odd sure))))))
      (λ (differs : get_or c 0 0 ≢ 1). inl (restores_same images sure
      (both (λ (b : Bool). slot_of b (slot_image b images) ≡ slot_of b (slot_image b sure)) odd (ap (slot_of odd) parts ∙ shut odd (get_or c 0 0) t.rest differs ∙ sym t.none) (ap (slot_of (not odd)) beside))
      (ap restored (logs (side_of (present_in sure))))))
      (cases_eq (get_or c 0 0) 1)

  pub any_fits : CanBeMade (Write 0 (0 ∷ [])) (slot_at odd h0)
  any_fits = omega arith

  abbrev shut_images : Images
  shut_images = with_slot odd (0 ∷ t.rest) sure

  shut_logs : (b : Bool) → log_image b shut_images ≡ log_image b sure
  shut_logs b = slot_image_log odd b (0 ∷ t.rest) sure

  shut_here : slot_image odd shut_images ≡ 0 ∷ t.rest
  shut_here = slot_image_is odd (0 ∷ t.rest) sure

  shut_beside : slot_image (not odd) shut_images ≡ slot_image (not odd) sure
  shut_beside = slot_image_beside odd (0 ∷ t.rest) sure

  shut_slots : (b : Bool) → slot_of b (slot_image b shut_images) ≡ slot_of b (slot_image b sure)
  shut_slots = both (λ (b : Bool). slot_of b (slot_image b shut_images) ≡ slot_of b (slot_image b sure)) odd (ap (slot_of odd) shut_here ∙ shut odd 0 t.rest (omega arith) ∙ sym t.none) (ap (slot_of (not odd)) shut_beside)

  shut_present : present_in shut_images ≡ present_in sure
  shut_present = present_same shut_images sure shut_slots

  shut_log : log_image (side_of (present_in shut_images)) shut_images ≡ log_image (side_of (present_in sure)) sure
  shut_log = ap (λ (o : Option Checkpoint). log_image (side_of o) shut_images) shut_present ∙ shut_logs (side_of (present_in sure))

  pub any_rests : (old s : StoreState) → Rests old sure → IsRead (log_image (side_of (present_in sure)) sure) → s.devices ≡ h2 → s.even ≡ cond odd old.even Closed → s.odd ≡ cond odd Closed old.odd → s.generation ≡ old.generation → s.torn ≡ old.torn → s.end ≡ old.end
      → AnyRests s (restores sure) (instead s shut_images)
  any_rests old s rests read devices even odd_is generation torn end =
      let gates = gates_closed odd sure shut_images old.even old.odd rests.even rests.odd shut_beside (ap (slot_gate odd) shut_here) in
      record {
        images = shut_images;
        rests = record {
          settled = devices ∙ devices_are h2 shut_images (λ b. slot_log (made Sync) h1 odd b ∙ logs1 b ∙ ap settled (sym (shut_logs b)))
              (both (λ (b : Bool). slot_at b h2 ≡ settled (slot_image b shut_images)) odd (slot_is (made Sync) h1 odd ∙ ap (made Sync) new1 ∙ ap settled (sym shut_here)) (slot_beside (made Sync) h1 odd ∙ other1 ∙ ap settled (sym shut_beside)));
          even = even ∙ gates.0;
          odd = odd_is ∙ gates.1;
          generation = generation ∙ rests.generation ∙ ap generation_of (sym shut_present);
          torn = torn ∙ rests.torn ∙ ap log_torn (sym shut_log);
          end = end ∙ rests.end ∙ ap end_opened (sym shut_log);
        };
        log = subst IsRead (sym shut_log) read;
        kept_is = sym (restores_same shut_images sure shut_slots (ap restored (shut_logs (side_of (present_in sure)))));
        other_is = refl;
      }

-- ---- the log

opened_log : (odd : Bool) (images : Images) → log_image odd (log_opened odd images) ≡ opened_at (end_opened (log_image odd images)) (log_image odd images)
opened_log true images = refl
opened_log false images = refl

opened_log_slot : (odd b : Bool) (images : Images) → slot_image b (log_opened odd images) ≡ slot_image b images
opened_log_slot true true images = refl
opened_log_slot true false images = refl
opened_log_slot false true images = refl
opened_log_slot false false images = refl

pub behind : (front rest : List ℕ) → drop (suc (length front)) (front ++ rest) ≡ drop 1 rest
behind [] rest = refl
behind (x ∷ front) rest = behind front rest

pub front_of : (front rest : List ℕ) → take (length front) (front ++ rest) ≡ front
front_of front rest = take_at front rest (length front) refl

module _ (sure : Images) (read : IsRead (log_image (side_of (present_in sure)) sure)) where
  abbrev b : Bool
  b = side_of (present_in sure)

  abbrev bytes : List ℕ
  bytes = log_image b sure

  abbrev gs : List Group
  gs = restored bytes

  abbrev e : ℕ
  e = end_opened bytes

  abbrev r0 : Devices
  r0 = all_settled sure

  abbrev r1 : Devices
  r1 = change (made (Write e (0 ∷ []))) (Log b) r0

  abbrev r2 : Devices
  r2 = change (made Sync) (Log b) r1

  log1 : log_at b r1 ≡ written e (0 ∷ []) (settled (log_bytes gs ++ read.rest))
  log1 = log_is (made (Write e (0 ∷ []))) r0 b ∙ ap (made (Write e (0 ∷ []))) (log_settled sure b ∙ ap settled read.are)

  beside1 : log_at (not b) r1 ≡ settled (log_image (not b) sure)
  beside1 = log_beside (made (Write e (0 ∷ []))) r0 b ∙ log_settled sure (not b)

  kept_slots1 : (odd : Bool) → slot_at odd r1 ≡ settled (slot_image odd sure)
  kept_slots1 odd = log_slot (made (Write e (0 ∷ []))) r0 b odd ∙ slot_settled sure odd

  opened_is : log_image b (log_opened b sure) ≡ log_bytes gs ++ 1 ∷ drop 1 read.rest
  opened_is =
      opened_log b sure ∙ ap (λ (l : List ℕ). take e l ++ 1 ∷ drop (suc e) l) read.are ∙ ap (λ (l : List ℕ). l ++ 1 ∷ drop (suc e) (log_bytes gs ++ read.rest)) (front_of (log_bytes gs) read.rest)
      ∙ ap (λ (l : List ℕ). log_bytes gs ++ 1 ∷ l) (behind (log_bytes gs) read.rest)

  opened_present : present_in (log_opened b sure) ≡ present_in sure
  opened_present = present_same (log_opened b sure) sure (λ odd. ap (slot_of odd) (opened_log_slot b odd sure))

  pub repair_any_leaves1 : (images : Images) → MayLeave r1 images → Either images (restores sure) (restores (log_opened b sure))
  repair_any_leaves1 images may =
      let c = log_image b images in
      let slots : (odd : Bool) → slot_image odd images ≡ slot_image odd sure = λ odd. as_was (slot_at odd r1) (slot_image odd sure) (slot_image odd images) (kept_slots1 odd) (may.slots odd) in
      ⊎_elim (λ (same : restored c ≡ gs). inl (restores_same images sure (λ odd. ap (slot_of odd) (slots odd)) same))
      (λ (back : restored c ≡ restored (log_bytes gs ++ 1 ∷ drop 1 read.rest)). inr (restores_same images (log_opened b sure) (λ odd. ap (slot_of odd) (slots odd ∙ sym (opened_log_slot b odd sure)))
      (ap (λ (o : Option Checkpoint). restored (log_image (side_of o) images)) opened_present ∙ back ∙ ap restored (sym opened_is) ∙ ap (λ (o : Option Checkpoint). restored (log_image (side_of o) (log_opened b sure))) (sym opened_present))))
      (closing_leaves gs e refl read.fit read.rest c read.nothing (by (log_at b r1) (written e (0 ∷ []) (settled (log_bytes gs ++ read.rest))) c log1 (may.logs b)))

  pub repair_any_fits : CanBeMade (Write e (0 ∷ [])) (log_at b r0)
  repair_any_fits = omega (arith, ap (λ (c : Cells). length c.now) (log_settled sure b ∙ ap settled read.are), length-append (log_bytes gs) read.rest)

  abbrev fixed : List ℕ
  fixed = log_bytes gs ++ 0 ∷ drop 1 read.rest

  abbrev repaired : Images
  repaired = with_log b fixed sure

  log2 : log_at b r2 ≡ settled fixed
  log2 = log_is (made Sync) r1 b ∙ ap (made Sync) log1 ∙ ap settled (closed_after gs e refl read.fit read.rest)

  repaired_slots : (odd : Bool) → slot_image odd repaired ≡ slot_image odd sure
  repaired_slots odd = log_image_slot b odd fixed sure

  repaired_present : present_in repaired ≡ present_in sure
  repaired_present = present_same repaired sure (λ odd. ap (slot_of odd) (repaired_slots odd))

  repaired_log : log_image (side_of (present_in repaired)) repaired ≡ fixed
  repaired_log = ap (λ (o : Option Checkpoint). log_image (side_of o) repaired) repaired_present ∙ log_image_is b fixed sure

  has : restored fixed ≡ gs
  has = restored_is gs (0 ∷ drop 1 read.rest) read.fit (closed 0 (drop 1 read.rest) (omega arith))

  read_again : IsRead fixed
  read_again = record {
    rest = 0 ∷ drop 1 read.rest;
    are = ap (λ (l : List Group). log_bytes l ++ 0 ∷ drop 1 read.rest) (sym has);
    fit = subst AreGroups (sym has) read.fit;
    nothing = closed 0 (drop 1 read.rest) (omega arith);
  }

  pub repair_any_rests : (s : StoreState) → s.devices ≡ r2 → s.even ≡ slot_gate false sure.even_slot → s.odd ≡ slot_gate true sure.odd_slot → s.generation ≡ generation_of (present_in sure) → s.torn ≡ false → s.end ≡ e
      → AnyRests s (restores sure) (instead s repaired)
  repair_any_rests s devices even odd_is generation torn end = record {
    images = repaired;
    rests = record {
      settled = devices ∙ devices_are r2 repaired
          (both (λ (odd : Bool). log_at odd r2 ≡ settled (log_image odd repaired)) b (log2 ∙ ap settled (sym (log_image_is b fixed sure))) (log_beside (made Sync) r1 b ∙ beside1 ∙ ap settled (sym (log_image_beside b fixed sure))))
          (λ odd. log_slot (made Sync) r1 b odd ∙ kept_slots1 odd ∙ ap settled (sym (repaired_slots odd)));
      even = even ∙ ap (slot_gate false) (sym (repaired_slots false));
      odd = odd_is ∙ ap (slot_gate true) (sym (repaired_slots true));
      generation = generation ∙ ap generation_of (sym repaired_present);
      torn = torn ∙ sym (ap log_torn repaired_log ∙ closed_is gs (drop 1 read.rest) read.fit);
      end = end ∙ sym (ap end_opened repaired_log ∙ end_is gs (drop 1 read.rest) read.fit);
    };
    log = subst IsRead (sym repaired_log) read_again;
    kept_is = sym (restores_same repaired sure (λ odd. ap (slot_of odd) (repaired_slots odd)) (ap restored (log_image_is b fixed sure) ∙ has));
    other_is = refl;
  }

-- ---- nothing is pending

pub any_still : (s : StoreState) (kept other : Kept) → AnyRests s kept other → (images : Images) → MayLeave s.devices images → Either images kept other
any_still s kept other r images may =
    let logs : (odd : Bool) → log_image odd images ≡ log_image odd r.images = λ odd. as_was (log_at odd s.devices) (log_image odd r.images) (log_image odd images) (ap (log_at odd) r.rests.settled ∙ log_settled r.images odd) (may.logs odd) in
    let slots : (odd : Bool) → slot_image odd images ≡ slot_image odd r.images = λ odd. as_was (slot_at odd s.devices) (slot_image odd r.images) (slot_image odd images) (ap (slot_at odd) r.rests.settled ∙ slot_settled r.images odd) (may.slots odd) in
    inl (ap restores (images_are images r.images logs slots) ∙ sym r.kept_is)
