-- A gate that a crash left torn is closed: that of a slot, or that of the log.
use Rattle.std.proofs.Common.{◌≡◌, ◌≢◌, inl, inr, ℕ, ◌==◌, Bool, true, false, not, cond, List, [], ◌∷◌, ◌++◌, length, get_or, drop, Option, None, refl, sym, ◌∙◌, ap, subst, arith, length-append}
use Rattle.std.proofs.lemmas.List.{drop_all}
use Rattle.disk_model.specs.Cells.{Cells, settled, written}
use Rattle.disk_model.proofs.Images.{image_byte}
use Rattle.disk_model.specs.DeviceCalls.{made, CanBeMade}
use Rattle.disk_model.specs.declared.call.DeviceCall.TheVariants.{Write, Sync}
use Rattle.store_form.specs.Spelling.{Group, group_text, checkpoint_text}
use Rattle.store_form.specs.declared.checkpoint.Checkpoint.{Checkpoint}
use Rattle.batch_log.specs.Log.{log_bytes, restored}
use Rattle.batch_log.specs.Exact.{end_opened}
use Rattle.batch_log.specs.Jobs.{Stands, IsTorn}
use Rattle.batch_log.specs.Wires.{Wire, LeavesWire, Wired}
use Rattle.batch_log.specs.declared.job.Job.TheVariants.{Rest, Close, SyncClose}
use Rattle.batch_log.proofs.Restored.{restored_is, closed}
use Rattle.batch_log.proofs.Steps.{short, added}
use Rattle.batch_log.proofs.Lives.{lives, wire_restores}
use Rattle.batch_log.proofs.Synced.{called_goes, called_wired}
use Rattle.checkpoint_store.specs.Slots.{generation_of}
use Rattle.store_laws.specs.Restored.{Images, log_image, slot_image, side_of, present_in, slot_gate, log_torn}
use Rattle.store_laws.specs.States.{Devices, StoreState, log_at, slot_at, change, all_settled, MayLeave}
use Rattle.store_laws.specs.Lives.{Present, Old, Beside, LogTorn, SlotTorn, StoreWire, StoreNext}
use Rattle.store_laws.specs.Stands.{Rests, OwnRests}
use Rattle.store_laws.specs.declared.job.Kept.{Kept}
use Rattle.store_laws.specs.declared.job.Gate.{Gate}
use Rattle.store_laws.specs.declared.job.Gate.TheVariants.{Closed}
use Rattle.store_laws.specs.declared.job.Device.TheVariants.{Log, Slot}
use Rattle.store_laws.proofs.Roles.{log_is, log_beside, log_slot, slot_is, beside_slot, slot_log, log_settled, slot_settled, devices_are, both, as_was, by, with_log, with_slot, log_image_is, log_image_beside, log_image_slot, slot_image_is, slot_image_log}
use Rattle.store_laws.proofs.Restores.{wire_present}
use Rattle.store_laws.proofs.Crashes.{gate_next, old_again, rest_next, stays}
use Rattle.store_laws.proofs.Calm.{gate_is, closed_is, calm_leaves, settled_beside, calm_rests}

with_slot_other : (odd : Bool) (bytes : List ℕ) (images : Images) → slot_image odd (with_slot (not odd) bytes images) ≡ slot_image odd images
with_slot_other true bytes images = refl
with_slot_other false bytes images = refl

-- the gates of the slots after the one of this parity is closed
gates_closed : (odd : Bool) (old new : Images) (even_gate odd_gate : Gate) → even_gate ≡ slot_gate false old.even_slot → odd_gate ≡ slot_gate true old.odd_slot → slot_image odd new ≡ slot_image odd old → slot_gate (not odd) (slot_image (not odd) new) ≡ Closed
    → (cond (not odd) even_gate Closed ≡ slot_gate false new.even_slot) × (cond (not odd) Closed odd_gate ≡ slot_gate true new.odd_slot)
gates_closed true old new even_gate odd_gate even_is odd_is same shut = (sym shut, odd_is ∙ ap (slot_gate true) (sym same))
gates_closed false old new even_gate odd_gate even_is odd_is same shut = (even_is ∙ ap (slot_gate false) (sym same), sym shut)

-- ---- the gate of the other slot

module _ (sure : Images) (kept : Kept) where
  abbrev b : Bool
  b = side_of kept.present

  abbrev bytes : List ℕ
  bytes = slot_image (not b) sure

  abbrev pub g0 : Devices
  g0 = all_settled sure

  abbrev pub g1 : Devices
  g1 = change (made (Write 0 (0 ∷ []))) (Slot (not b)) g0

  abbrev pub g2 : Devices
  g2 = change (made Sync) (Slot (not b)) g1

  new1 : slot_at (not b) g1 ≡ written 0 (0 ∷ []) (settled bytes)
  new1 = slot_is (made (Write 0 (0 ∷ []))) g0 (not b) ∙ ap (made (Write 0 (0 ∷ []))) (slot_settled sure (not b))

  slot1 : slot_at b g1 ≡ settled (slot_image b sure)
  slot1 = beside_slot (made (Write 0 (0 ∷ []))) g0 b ∙ slot_settled sure b

  logs1 : (odd : Bool) → log_at odd g1 ≡ settled (log_image odd sure)
  logs1 odd = slot_log (made (Write 0 (0 ∷ []))) g0 (not b) odd ∙ log_settled sure odd

  abbrev pub after : Images
  after = with_slot (not b) (0 ∷ drop 1 bytes) sure

  pub after_log : (odd : Bool) → log_image odd after ≡ log_image odd sure
  after_log odd = slot_image_log (not b) odd (0 ∷ drop 1 bytes) sure

  pub after_slot : slot_image b after ≡ slot_image b sure
  after_slot = with_slot_other b (0 ∷ drop 1 bytes) sure

  pub after_new_slot : slot_image (not b) after ≡ 0 ∷ drop 1 bytes
  after_new_slot = slot_image_is (not b) (0 ∷ drop 1 bytes) sure

  pub close_fits : CanBeMade (Write 0 (0 ∷ [])) (slot_at (not b) g0)
  close_fits = omega arith

  pub logs2 : (odd : Bool) → log_at odd g2 ≡ settled (log_image odd after)
  logs2 odd = slot_log (made Sync) g1 (not b) odd ∙ logs1 odd ∙ ap settled (sym (after_log odd))

  pub slots2 : (odd : Bool) → slot_at odd g2 ≡ settled (slot_image odd after)
  slots2 =
      both (λ (odd : Bool). slot_at odd g2 ≡ settled (slot_image odd after)) b (beside_slot (made Sync) g1 b ∙ slot1 ∙ ap settled (sym after_slot))
      (slot_is (made Sync) g1 (not b) ∙ ap (made Sync) new1 ∙ ap settled (sym after_new_slot))

  -- ---- the gate is closed

  pub closed_rests : (old s : StoreState) (other then : Kept) → Rests old sure → StoreWire sure kept other → StoreWire after kept then → s.devices ≡ g2 → s.even ≡ cond (not b) old.even Closed → s.odd ≡ cond (not b) Closed old.odd
      → s.generation ≡ old.generation → s.torn ≡ old.torn → s.end ≡ old.end → OwnRests s kept then
  closed_rests old s other then rests wire wire_after devices even odd generation torn end =
      let gates = gates_closed b sure after old.even old.odd rests.even rests.odd after_slot (ap (slot_gate (not b)) after_new_slot) in
      let was = wire_present sure kept other wire in
      let now = wire_present after kept then wire_after in
      let same : log_image (side_of (present_in sure)) sure ≡ log_image (side_of (present_in after)) after =
      ap (λ (o : Option Checkpoint). log_image (side_of o) sure) was ∙ sym (after_log b) ∙ ap (λ (o : Option Checkpoint). log_image (side_of o) after) (sym now) in
      record {
        images = after;
        rests = record {
          settled = devices ∙ devices_are g2 after logs2 slots2;
          even = even ∙ gates.0;
          odd = odd ∙ gates.1;
          generation = generation ∙ rests.generation ∙ ap generation_of (was ∙ sym now);
          torn = torn ∙ rests.torn ∙ ap log_torn same;
          end = end ∙ rests.end ∙ ap end_opened same;
        };
        wire = wire_after;
      }

  -- ---- nothing or an older checkpoint stands after it

  module _ (other : Kept) (w : LogTorn sure kept other) (old : Old (not b) bytes kept.present) where
    pub old_leaves0 : (images : Images) → MayLeave g0 images → StoreNext images kept other
    old_leaves0 = rest_next g0 sure kept other refl (inl w)

    log_leaves : LeavesWire (log_at b g1) w.own w.own_other
    log_leaves c image = inr (inl (subst (λ (l : List ℕ). Wire l w.own w.own_other) (sym (as_was (log_at b g1) (log_image b sure) c (logs1 b) image)) w.log))

    pub old_leaves1 : (images : Images) → MayLeave g1 images → StoreNext images kept other
    old_leaves1 =
        calm_leaves g1 sure kept other w.own w.own_other slot1 w.present (λ image is. inr (old_again (not b) 0 bytes image kept.present old (by (slot_at (not b) g1) (written 0 (0 ∷ []) (settled bytes)) image new1 is))) w.entries w.is log_leaves

    pub old_wire : StoreWire after kept other
    old_wire = inl (record {
      present = subst (λ (l : List ℕ). Present b l kept.present) (sym after_slot) w.present;
      beside = inl (record { rest = drop 1 bytes; are = after_new_slot });
      own = w.own;
      own_other = w.own_other;
      log = subst (λ (l : List ℕ). Wire l w.own w.own_other) (sym (after_log b)) w.log;
      entries = w.entries;
      is = w.is;
    })

  -- ---- a later checkpoint stands after it

  module _ (other : Kept) (t : SlotTorn sure kept other) where
    pub torn_leaves0 : (images : Images) → MayLeave g0 images → StoreNext images kept other
    torn_leaves0 = rest_next g0 sure kept other refl (inr t)

    pub torn_leaves1 : (images : Images) → MayLeave g1 images → StoreNext images kept other
    torn_leaves1 images may =
        let h = t.held in
        let c = slot_image (not b) images in
        let now = h.gate ∷ (checkpoint_text h.next ++ h.rest) in
        let parts : c ≡ get_or c 0 0 ∷ (checkpoint_text h.next ++ h.rest) =
        image_byte 0 0 now c (omega arith) (by (slot_at (not b) g1) (written 0 (0 ∷ []) (settled now)) c (new1 ∙ ap (λ (l : List ℕ). written 0 (0 ∷ []) (settled l)) h.are) (may.slots (not b))) in
        gate_next bytes sure images kept other h (as_was (slot_at b g1) (slot_image b sure) (slot_image b images) slot1 (may.slots b))
        (as_was (log_at b g1) (log_image b sure) (log_image b images) (logs1 b) (may.logs b))
        (as_was (log_at (not b) g1) (log_image (not b) sure) (log_image (not b) images) (logs1 (not b)) (may.logs (not b))) (get_or c 0 0) parts

    pub torn_wire : StoreWire after kept kept
    torn_wire = inl (stays bytes sure after kept other t.held after_slot (after_log b) (after_log (not b)) (drop 1 bytes) after_new_slot)

-- ---- the gate of the log

not_true : (x : ℕ) → not (x == 0) ≡ true → x ≢ 0
not_true x is zero_is =
    let clash : not (0 == 0) ≡ true = ap (λ (y : ℕ). not (y == 0)) (sym zero_is) ∙ is in
    cc

-- what stands after the groups of a log whose gate is torn
pub wire_torn : (bytes : List ℕ) (own other : List Group) → Wire bytes own other → log_torn bytes ≡ true → (rest : List ℕ) × ((bytes ≡ log_bytes own ++ rest) × IsTorn (length (log_bytes own)) rest own other)
wire_torn bytes own other (fit, inl e) torn =
    let clash : false ≡ true = sym (closed_is own e.tail fit) ∙ ap log_torn (sym e.are) ∙ torn in
    absurd cc
wire_torn bytes own other (fit, inr (inl r)) torn =
    let nothing : drop 1 r.rest ≡ [] = drop_all 1 r.rest (omega (arith, r.short)) in (
      r.rest,
      (
        r.are,
        record {
          ends = refl;
          fit = fit;
          torn = λ is. not_true (get_or bytes (end_opened bytes) 1) torn (gate_is own r.rest bytes (wire_restores bytes own other (fit, inr (inl r))) r.are ∙ is);
          nothing = short r.rest r.short;
          is = r.nothing ∙ sym (ap (λ (l : List ℕ). restored (log_bytes own ++ 1 ∷ l)) nothing ∙ restored_is own (1 ∷ []) fit (short (1 ∷ []) (omega arith)));
        },
      ),
    )
wire_torn bytes own other (fit, inr (inr a)) torn = (
  a.gate ∷ (group_text a.group ++ 0 ∷ a.tail),
  (
    a.are,
    record {
      ends = refl;
      fit = fit;
      torn = a.torn.0;
      nothing = closed a.gate (group_text a.group ++ 0 ∷ a.tail) a.torn.1;
      is = a.is ∙ sym (added own (length (log_bytes own)) refl fit a.group a.tail a.fits);
    },
  ),
)

module _ (sure : Images) (kept other : Kept) (w : LogTorn sure kept other) (torn : log_torn (log_image (side_of kept.present) sure) ≡ true) where
  abbrev side : Bool
  side = side_of kept.present

  abbrev e : ℕ
  e = length (log_bytes w.own)

  abbrev r0 : Devices
  r0 = all_settled sure

  abbrev r1 : Devices
  r1 = change (made (Write e (0 ∷ []))) (Log side) r0

  abbrev r2 : Devices
  r2 = change (made Sync) (Log side) r1

  parts : (rest : List ℕ) × ((log_image side sure ≡ log_bytes w.own ++ rest) × IsTorn e rest w.own w.own_other)
  parts = wire_torn (log_image side sure) w.own w.own_other w.log torn

  is0 : log_at side r0 ≡ settled (log_image side sure)
  is0 = log_settled sure side

  s0 : Stands (log_at side r0) e (Close None) [] w.own w.own_other
  s0 = (record { rest = parts.0; are = is0 ∙ ap settled parts.1.0; torn = parts.1.1 }, tt)

  s1 : Stands (log_at side r1) e (SyncClose None) [] w.own w.own_other
  s1 = called_goes (log_at side r0) (log_at side r1) e (Close None) [] w.own w.own_other (log_is (made (Write e (0 ∷ []))) r0 side) s0

  s2 : Stands (log_at side r2) e Rest [] w.own w.own
  s2 = called_goes (log_at side r1) (log_at side r2) e (SyncClose None) [] w.own w.own_other (log_is (made Sync) r1 side) s1

  w0 : Wired (log_at side r0) w.own
  w0 = record { instead = w.own_other; wire = subst (λ (l : List ℕ). Wire l w.own w.own_other) (sym (ap (λ (c : Cells). c.sure) is0)) w.log }

  w1 : Wired (log_at side r1) w.own
  w1 = called_wired (log_at side r0) (log_at side r1) e (Close None) [] w.own w.own_other (log_is (made (Write e (0 ∷ []))) r0 side) s0 w0

  kept_slots1 : (odd : Bool) → slot_at odd r1 ≡ settled (slot_image odd sure)
  kept_slots1 odd = log_slot (made (Write e (0 ∷ []))) r0 side odd ∙ slot_settled sure odd

  kept_slots2 : (odd : Bool) → slot_at odd r2 ≡ settled (slot_image odd sure)
  kept_slots2 odd = log_slot (made Sync) r1 side odd ∙ kept_slots1 odd

  pub repair_leaves0 : (images : Images) → MayLeave r0 images → StoreNext images kept other
  repair_leaves0 = rest_next r0 sure kept other refl (inl w)

  pub repair_leaves1 : (images : Images) → MayLeave r1 images → StoreNext images kept other
  repair_leaves1 =
      calm_leaves r1 sure kept other w.own w.own_other (kept_slots1 side) w.present (settled_beside (slot_at (not side) r1) (not side) (slot_image (not side) sure) kept (kept_slots1 (not side)) w.beside) w.entries w.is
      (lives (log_at side r1) e (SyncClose None) [] w.own w.own_other s1 w1)

  pub repair_fits : CanBeMade (Write e (0 ∷ [])) (log_at side r0)
  repair_fits = omega (arith, ap (λ (c : Cells). length c.now) (is0 ∙ ap settled parts.1.0), length-append (log_bytes w.own) parts.0)

  abbrev repaired : Images
  repaired = with_log side (log_bytes w.own ++ 0 ∷ s2.0.tail) sure

  repaired_slot : (odd : Bool) → slot_image odd repaired ≡ slot_image odd sure
  repaired_slot odd = log_image_slot side odd (log_bytes w.own ++ 0 ∷ s2.0.tail) sure

  repaired_logs : (odd : Bool) → log_at odd r2 ≡ settled (log_image odd repaired)
  repaired_logs =
      both (λ (odd : Bool). log_at odd r2 ≡ settled (log_image odd repaired)) side (s2.0.are ∙ ap settled (sym (log_image_is side (log_bytes w.own ++ 0 ∷ s2.0.tail) sure)))
      (log_beside (made Sync) r1 side ∙ log_beside (made (Write e (0 ∷ []))) r0 side ∙ log_settled sure (not side) ∙ ap settled (sym (log_image_beside side (log_bytes w.own ++ 0 ∷ s2.0.tail) sure)))

  pub repaired_rests : (s : StoreState) → s.devices ≡ r2 → s.even ≡ slot_gate false sure.even_slot → s.odd ≡ slot_gate true sure.odd_slot → s.generation ≡ generation_of kept.present → s.torn ≡ false → s.end ≡ e → OwnRests s kept kept
  repaired_rests s devices even odd generation torn_is end =
      calm_rests s repaired kept w.own s2.0.tail s2.0.fit (log_image_is side (log_bytes w.own ++ 0 ∷ s2.0.tail) sure)
      (subst (λ (l : List ℕ). Present side l kept.present) (sym (repaired_slot side)) w.present) (subst (λ (l : List ℕ). Beside (not side) l kept.present) (sym (repaired_slot (not side))) w.beside) w.entries
      (devices ∙ devices_are r2 repaired repaired_logs (λ odd. kept_slots2 odd ∙ ap settled (sym (repaired_slot odd)))) (even ∙ ap (slot_gate false) (sym (repaired_slot false))) (odd ∙ ap (slot_gate true) (sym (repaired_slot true))) generation torn_is end
