-- A store switches to the next generation, from a closed gate of its slot on.
use Rattle.std.proofs.Common.{◌≡◌, inl, ℕ, ◌+◌, ◌<◌, Bool, true, false, not, cond, List, [], ◌∷◌, ◌++◌, length, get_or, drop, Option, Some, refl, sym, ◌∙◌, ap, subst, arith, length-append}
use Rattle.std.proofs.lemmas.List.{append-nil, drop_all}
use Rattle.disk_model.specs.Cells.{Cells, IsImage, settled, written}
use Rattle.disk_model.proofs.Images.{image_byte}
use Rattle.disk_model.specs.DeviceCalls.{made, CanBeMade}
use Rattle.disk_model.specs.declared.call.DeviceCall.TheVariants.{Write, Cut, Sync}
use Rattle.store_form.specs.Spelling.{Group, group_text, IsGroup, checkpoint_text}
use Rattle.store_form.specs.declared.checkpoint.Checkpoint.{Checkpoint}
use Rattle.batch_log.specs.Log.{log_bytes, AreGroups}
use Rattle.batch_log.specs.LogCalls.{anew_text}
use Rattle.batch_log.specs.Wires.{LeavesWire}
use Rattle.batch_log.specs.Exact.{end_opened}
use Rattle.batch_log.proofs.Restored.{log_push}
use Rattle.checkpoint_store.specs.Slots.{generation_of}
use Rattle.checkpoint_store.specs.SlotJobs.{IsFor}
use Rattle.store_laws.specs.Restored.{Images, log_image, slot_image, side_of, present_in, entries_of, switched, slot_gate, log_torn}
use Rattle.store_laws.specs.States.{Devices, StoreState, log_at, slot_at, change, all_settled, MayLeave}
use Rattle.store_laws.specs.Lives.{Present, IsShut, LogTorn, Held, StoreNext}
use Rattle.store_laws.specs.Stands.{OwnRests}
use Rattle.store_laws.specs.declared.job.Kept.{Kept}
use Rattle.store_laws.specs.declared.job.Gate.{Gate}
use Rattle.store_laws.specs.declared.job.Gate.TheVariants.{Open}
use Rattle.store_laws.specs.declared.job.Device.TheVariants.{Log, Slot}
use Rattle.store_laws.proofs.Roles.{log_is, beside_log, log_slot, slot_is, beside_slot, slot_log, log_settled, slot_settled, devices_are, both, as_was, by, with_log, with_slot, log_image_is, log_image_slot, slot_image_is, slot_image_log}
use Rattle.store_laws.proofs.Restores.{wire_present}
use Rattle.store_laws.proofs.Crashes.{shut_again, gate_next, returns, opens}
use Rattle.store_laws.proofs.Calm.{calm_leaves, closed_is, end_is}

-- ---- the bytes of the other parity, where those of this one are changed

with_log_other : (odd : Bool) (bytes : List ℕ) (images : Images) → log_image odd (with_log (not odd) bytes images) ≡ log_image odd images
with_log_other true bytes images = refl
with_log_other false bytes images = refl

with_slot_other : (odd : Bool) (bytes : List ℕ) (images : Images) → slot_image odd (with_slot (not odd) bytes images) ≡ slot_image odd images
with_slot_other true bytes images = refl
with_slot_other false bytes images = refl

-- the gates of the slots after a switch
pub gates_after : (odd : Bool) (old new : Images) (even_gate odd_gate : Gate) → cond odd odd_gate even_gate ≡ slot_gate odd (slot_image odd old) → slot_image odd new ≡ slot_image odd old → slot_gate (not odd) (slot_image (not odd) new) ≡ Open
    → (cond odd Open even_gate ≡ slot_gate false new.even_slot) × (cond odd odd_gate Open ≡ slot_gate true new.odd_slot)
gates_after true old new even_gate odd_gate here same opened = (sym opened, here ∙ ap (slot_gate true) (sym same))
gates_after false old new even_gate odd_gate here same opened = (here ∙ ap (slot_gate false) (sym same), sym opened)

settled_wire : (cells : Cells) (own : List Group) (tail : List ℕ) → AreGroups own → cells ≡ settled (log_bytes own ++ 0 ∷ tail) → LeavesWire cells own own
settled_wire cells own tail fit same c image = inl (fit, inl (record { tail = tail; are = as_was cells (log_bytes own ++ 0 ∷ tail) c same image; nothing = refl }))

module _ (sure : Images) (kept : Kept) (own : List Group) (tail : List ℕ) (fit : AreGroups own) (log : log_image (side_of kept.present) sure ≡ log_bytes own ++ 0 ∷ tail)
    (present : Present (side_of kept.present) (slot_image (side_of kept.present) sure) kept.present) (entries : kept.entries ≡ entries_of own)
    (rest : List ℕ) (shut : slot_image (not (side_of kept.present)) sure ≡ 0 ∷ rest) (next : Checkpoint) (is_for : IsFor (not (side_of kept.present)) next) (beyond : generation_of kept.present < next.generation) where
  abbrev b : Bool
  b = side_of kept.present

  abbrev text : List ℕ
  text = checkpoint_text next

  abbrev after_text : List ℕ
  after_text = drop (1 + length text) (0 ∷ rest)

  abbrev full : List ℕ
  full = 0 ∷ (text ++ after_text)

  abbrev f0 : Devices
  f0 = all_settled sure

  abbrev f1 : Devices
  f1 = change (made (Write 1 text)) (Slot (not b)) f0

  abbrev f2 : Devices
  f2 = change (made Sync) (Slot (not b)) f1

  abbrev f3 : Devices
  f3 = change (made (Cut 0)) (Log (not b)) f2

  -- ---- the slot that is filled

  new0 : slot_at (not b) f0 ≡ settled (0 ∷ rest)
  new0 = slot_settled sure (not b) ∙ ap settled shut

  new1 : slot_at (not b) f1 ≡ written 1 text (settled (0 ∷ rest))
  new1 = slot_is (made (Write 1 text)) f0 (not b) ∙ ap (made (Write 1 text)) new0

  new2 : slot_at (not b) f2 ≡ settled full
  new2 = slot_is (made Sync) f1 (not b) ∙ ap (made Sync) new1

  new3 : slot_at (not b) f3 ≡ settled full
  new3 = log_slot (made (Cut 0)) f2 (not b) (not b) ∙ new2

  -- ---- the present slot and log

  slot0 : slot_at b f0 ≡ settled (slot_image b sure)
  slot0 = slot_settled sure b

  slot1 : slot_at b f1 ≡ settled (slot_image b sure)
  slot1 = beside_slot (made (Write 1 text)) f0 b ∙ slot0

  slot2 : slot_at b f2 ≡ settled (slot_image b sure)
  slot2 = beside_slot (made Sync) f1 b ∙ slot1

  slot3 : slot_at b f3 ≡ settled (slot_image b sure)
  slot3 = log_slot (made (Cut 0)) f2 (not b) b ∙ slot2

  log0 : log_at b f0 ≡ settled (log_bytes own ++ 0 ∷ tail)
  log0 = log_settled sure b ∙ ap settled log

  log1 : log_at b f1 ≡ settled (log_bytes own ++ 0 ∷ tail)
  log1 = slot_log (made (Write 1 text)) f0 (not b) b ∙ log0

  log2 : log_at b f2 ≡ settled (log_bytes own ++ 0 ∷ tail)
  log2 = slot_log (made Sync) f1 (not b) b ∙ log1

  log3 : log_at b f3 ≡ settled (log_bytes own ++ 0 ∷ tail)
  log3 = beside_log (made (Cut 0)) f2 b ∙ log2

  -- ---- what crashes leave

  same : kept ≡ record { present = kept.present; entries = entries_of own }
  same = λ i. record { present = kept.present; entries = entries i }

  leaves : (d : Devices) → slot_at b d ≡ settled (slot_image b sure) → log_at b d ≡ settled (log_bytes own ++ 0 ∷ tail) → ((image : List ℕ) → IsImage (slot_at (not b) d) image → IsShut image) → (images : Images) → MayLeave d images → StoreNext images kept kept
  leaves d slot own_log closed = calm_leaves d sure kept kept own own slot present (λ image is. inl (closed image is)) entries same (settled_wire (log_at b d) own tail fit own_log)

  stays_shut : (cells : Cells) (more : List ℕ) → cells ≡ settled (0 ∷ more) → (image : List ℕ) → IsImage cells image → IsShut image
  stays_shut cells more is image may = record { rest = more; are = as_was cells (0 ∷ more) image is may }

  pub switch0 : (images : Images) → MayLeave f0 images → StoreNext images kept kept
  switch0 = leaves f0 slot0 log0 (stays_shut (slot_at (not b) f0) rest new0)

  pub switch1 : (images : Images) → MayLeave f1 images → StoreNext images kept kept
  switch1 = leaves f1 slot1 log1 (λ image may. shut_again rest text image (by (slot_at (not b) f1) (written 1 text (settled (0 ∷ rest))) image new1 may))

  pub switch2 : (images : Images) → MayLeave f2 images → StoreNext images kept kept
  switch2 = leaves f2 slot2 log2 (stays_shut (slot_at (not b) f2) (text ++ after_text) new2)

  pub switch3 : (images : Images) → MayLeave f3 images → StoreNext images kept kept
  switch3 = leaves f3 slot3 log3 (stays_shut (slot_at (not b) f3) (text ++ after_text) new3)

  pub fill_fits : CanBeMade (Write 1 text) (slot_at (not b) f0)
  fill_fits = omega (arith, ap (λ (c : Cells). length c.now) new0)

  -- ---- the tail

  module _ (g : Group) (fits : IsGroup g) where
    abbrev f4 : Devices
    f4 = change (made (Write 0 (anew_text g))) (Log (not b)) f3

    abbrev f5 : Devices
    f5 = change (made Sync) (Log (not b)) f4

    abbrev f6 : Devices
    f6 = change (made (Write 0 (1 ∷ []))) (Slot (not b)) f5

    abbrev f7 : Devices
    f7 = change (made Sync) (Slot (not b)) f6

    pub tail_fits : CanBeMade (Write 0 (anew_text g)) (log_at (not b) f3)
    tail_fits = omega arith

    written_anew : (log_at (not b) f4).now ≡ anew_text g
    written_anew =
        ap (λ (c : Cells). c.now) (log_is (made (Write 0 (anew_text g))) f3 (not b) ∙ ap (made (Write 0 (anew_text g))) (log_is (made (Cut 0)) f2 (not b)))
        ∙ ap (λ (l : List ℕ). anew_text g ++ l) (drop_all (0 + length (anew_text g)) [] (omega arith)) ∙ append-nil (anew_text g)

    tail5 : log_at (not b) f5 ≡ settled (anew_text g)
    tail5 = log_is (made Sync) f4 (not b) ∙ ap settled written_anew

    new4 : slot_at (not b) f4 ≡ settled full
    new4 = log_slot (made (Write 0 (anew_text g))) f3 (not b) (not b) ∙ new3

    new5 : slot_at (not b) f5 ≡ settled full
    new5 = log_slot (made Sync) f4 (not b) (not b) ∙ new4

    slot4 : slot_at b f4 ≡ settled (slot_image b sure)
    slot4 = log_slot (made (Write 0 (anew_text g))) f3 (not b) b ∙ slot3

    slot5 : slot_at b f5 ≡ settled (slot_image b sure)
    slot5 = log_slot (made Sync) f4 (not b) b ∙ slot4

    log4 : log_at b f4 ≡ settled (log_bytes own ++ 0 ∷ tail)
    log4 = beside_log (made (Write 0 (anew_text g))) f3 b ∙ log3

    log5 : log_at b f5 ≡ settled (log_bytes own ++ 0 ∷ tail)
    log5 = beside_log (made Sync) f4 b ∙ log4

    pub switch4 : (images : Images) → MayLeave f4 images → StoreNext images kept kept
    switch4 = leaves f4 slot4 log4 (stays_shut (slot_at (not b) f4) (text ++ after_text) new4)

    pub switch5 : (images : Images) → MayLeave f5 images → StoreNext images kept kept
    switch5 = leaves f5 slot5 log5 (stays_shut (slot_at (not b) f5) (text ++ after_text) new5)

    -- ---- the gate

    abbrev ready : Images
    ready = with_log (not b) (anew_text g) (with_slot (not b) full sure)

    ready_log : log_image b ready ≡ log_bytes own ++ 0 ∷ tail
    ready_log = with_log_other b (anew_text g) (with_slot (not b) full sure) ∙ slot_image_log (not b) b full sure ∙ log

    ready_new_log : log_image (not b) ready ≡ anew_text g
    ready_new_log = log_image_is (not b) (anew_text g) (with_slot (not b) full sure)

    ready_slot : slot_image b ready ≡ slot_image b sure
    ready_slot = log_image_slot (not b) b (anew_text g) (with_slot (not b) full sure) ∙ with_slot_other b full sure

    ready_new_slot : slot_image (not b) ready ≡ full
    ready_new_slot = log_image_slot (not b) (not b) (anew_text g) (with_slot (not b) full sure) ∙ slot_image_is (not b) full sure

    one_group : anew_text g ≡ log_bytes (g ∷ []) ++ 0 ∷ []
    one_group = sym (log_push [] g (0 ∷ []))

    abbrev held : Held full ready kept (switched next g)
    held = record {
      next = next;
      is_for = is_for;
      beyond = beyond;
      gate = 0;
      rest = after_text;
      are = refl;
      present = subst (λ (l : List ℕ). Present b l kept.present) (sym ready_slot) present;
      own = own;
      fit = fit;
      log = record { tail = tail; are = ready_log; nothing = refl };
      entries = entries;
      next_own = g ∷ [];
      next_fit = (fits, tt);
      next_log = record { tail = []; are = ready_new_log ∙ one_group; nothing = refl };
      is = λ i. record { present = Some next; entries = sym (append-nil g) i };
    }

    slot6 : slot_at b f6 ≡ settled (slot_image b sure)
    slot6 = beside_slot (made (Write 0 (1 ∷ []))) f5 b ∙ slot5

    log6 : log_at b f6 ≡ settled (log_bytes own ++ 0 ∷ tail)
    log6 = slot_log (made (Write 0 (1 ∷ []))) f5 (not b) b ∙ log5

    tail6 : log_at (not b) f6 ≡ settled (anew_text g)
    tail6 = slot_log (made (Write 0 (1 ∷ []))) f5 (not b) (not b) ∙ tail5

    new6 : slot_at (not b) f6 ≡ written 0 (1 ∷ []) (settled full)
    new6 = slot_is (made (Write 0 (1 ∷ []))) f5 (not b) ∙ ap (made (Write 0 (1 ∷ []))) new5

    pub gate_fits : CanBeMade (Write 0 (1 ∷ [])) (slot_at (not b) f5)
    gate_fits = omega arith

    pub switch6 : (images : Images) → MayLeave f6 images → StoreNext images kept (switched next g)
    switch6 images may =
        let c = slot_image (not b) images in
        let parts : c ≡ get_or c 0 0 ∷ (text ++ after_text) = image_byte 0 1 full c (omega arith) (by (slot_at (not b) f6) (written 0 (1 ∷ []) (settled full)) c new6 (may.slots (not b))) in
        gate_next full ready images kept (switched next g) held
        (as_was (slot_at b f6) (slot_image b sure) (slot_image b images) slot6 (may.slots b) ∙ sym ready_slot)
        (as_was (log_at b f6) (log_bytes own ++ 0 ∷ tail) (log_image b images) log6 (may.logs b) ∙ sym ready_log)
        (as_was (log_at (not b) f6) (anew_text g) (log_image (not b) images) tail6 (may.logs (not b)) ∙ sym ready_new_log)
        (get_or c 0 0) parts

    -- ---- the end

    abbrev after : Images
    after = with_log (not b) (anew_text g) (with_slot (not b) (1 ∷ (text ++ after_text)) sure)

    after_log : log_image b after ≡ log_bytes own ++ 0 ∷ tail
    after_log = with_log_other b (anew_text g) (with_slot (not b) (1 ∷ (text ++ after_text)) sure) ∙ slot_image_log (not b) b (1 ∷ (text ++ after_text)) sure ∙ log

    after_new_log : log_image (not b) after ≡ anew_text g
    after_new_log = log_image_is (not b) (anew_text g) (with_slot (not b) (1 ∷ (text ++ after_text)) sure)

    after_slot : slot_image b after ≡ slot_image b sure
    after_slot = log_image_slot (not b) b (anew_text g) (with_slot (not b) (1 ∷ (text ++ after_text)) sure) ∙ with_slot_other b (1 ∷ (text ++ after_text)) sure

    after_new_slot : slot_image (not b) after ≡ 1 ∷ (text ++ after_text)
    after_new_slot = log_image_slot (not b) (not b) (anew_text g) (with_slot (not b) (1 ∷ (text ++ after_text)) sure) ∙ slot_image_is (not b) (1 ∷ (text ++ after_text)) sure

    wire_after : LogTorn after (switched next g) (switched next g)
    wire_after = returns full ready after kept (switched next g) held (after_slot ∙ sym ready_slot) (after_log ∙ sym ready_log) (after_new_log ∙ sym ready_new_log) after_new_slot

    logs7 : (odd : Bool) → log_at odd f7 ≡ settled (log_image odd after)
    logs7 =
        both (λ (odd : Bool). log_at odd f7 ≡ settled (log_image odd after)) b (slot_log (made Sync) f6 (not b) b ∙ log6 ∙ ap settled (sym after_log))
        (slot_log (made Sync) f6 (not b) (not b) ∙ tail6 ∙ ap settled (sym after_new_log))

    slots7 : (odd : Bool) → slot_at odd f7 ≡ settled (slot_image odd after)
    slots7 =
        both (λ (odd : Bool). slot_at odd f7 ≡ settled (slot_image odd after)) b (beside_slot (made Sync) f6 b ∙ slot6 ∙ ap settled (sym after_slot))
        (slot_is (made Sync) f6 (not b) ∙ ap (made Sync) new6 ∙ ap settled (sym after_new_slot))

    new_side : log_image (side_of (present_in after)) after ≡ log_bytes (g ∷ []) ++ 0 ∷ []
    new_side =
        ap (λ (o : Option Checkpoint). log_image (side_of o) after) (wire_present after (switched next g) (switched next g) (inl wire_after)) ∙ ap (λ (odd : Bool). log_image odd after) is_for.uses ∙ after_new_log ∙ one_group

    open_after : slot_gate (not b) (slot_image (not b) after) ≡ Open
    open_after = ap (slot_gate (not b)) after_new_slot ∙ opens (not b) next after_text is_for

    pub switch7 : (s : StoreState) (even_gate odd_gate : Gate) → cond b odd_gate even_gate ≡ slot_gate b (slot_image b sure) → s.devices ≡ f7 → s.even ≡ cond b Open even_gate → s.odd ≡ cond b odd_gate Open
        → s.generation ≡ next.generation → s.torn ≡ false → s.end ≡ 1 + length (group_text g) → OwnRests s (switched next g) (switched next g)
    switch7 s even_gate odd_gate here devices even odd generation torn end =
        let gates = gates_after b sure after even_gate odd_gate here after_slot open_after in
        record {
          images = after;
          rests = record {
            settled = devices ∙ devices_are f7 after logs7 slots7;
            even = even ∙ gates.0;
            odd = odd ∙ gates.1;
            generation = generation ∙ ap generation_of (sym (wire_present after (switched next g) (switched next g) (inl wire_after)));
            torn = torn ∙ sym (ap log_torn new_side ∙ closed_is (g ∷ []) [] (fits, tt));
            end = end ∙ length_is ∙ sym (ap end_opened new_side ∙ end_is (g ∷ []) [] (fits, tt));
          };
          wire = inl wire_after;
        }
      where
        length_is : 1 + length (group_text g) ≡ length (log_bytes (g ∷ []))
        length_is = omega (arith, length-append (group_text g) [])
