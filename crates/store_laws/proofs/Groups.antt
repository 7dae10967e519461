-- A group is added to the log of a store.
use Rattle.std.proofs.Common.{◌≡◌, ℕ, ◌+◌, Bool, true, false, not, List, [], ◌∷◌, ◌++◌, length, refl, sym, ◌∙◌, ap, subst, arith, length-append}
use Rattle.disk_model.specs.Cells.{Cells, settled}
use Rattle.disk_model.specs.DeviceCalls.{made, CanBeMade}
use Rattle.disk_model.specs.declared.call.DeviceCall.TheVariants.{Write, Sync}
use Rattle.store_form.specs.Spelling.{Group, group_text, IsGroup}
use Rattle.batch_log.specs.Log.{log_bytes, AreGroups}
use Rattle.batch_log.specs.LogCalls.{body_text}
use Rattle.batch_log.specs.Jobs.{Stands}
use Rattle.batch_log.specs.Wires.{LeavesWire, Wired}
use Rattle.batch_log.specs.declared.job.Job.TheVariants.{Rest, Body, SyncBody, Gate, SyncGate}
use Rattle.batch_log.proofs.Lives.{lives}
use Rattle.batch_log.proofs.Synced.{called_goes, called_wired}
use Rattle.checkpoint_store.specs.Slots.{generation_of}
use Rattle.store_laws.specs.Restored.{Images, log_image, slot_image, side_of, entries_of, with, slot_gate}
use Rattle.store_laws.specs.States.{Devices, StoreState, log_at, slot_at, change, all_settled, MayLeave}
use Rattle.store_laws.specs.Lives.{Present, Beside, StoreNext}
use Rattle.store_laws.specs.Stands.{OwnRests}
use Rattle.store_laws.specs.declared.job.Kept.{Kept}
use Rattle.store_laws.specs.declared.job.Device.TheVariants.{Log}
use Rattle.store_laws.proofs.Roles.{log_is, log_beside, log_slot, log_settled, slot_settled, devices_are, both, with_log, log_image_is, log_image_beside, log_image_slot}
use Rattle.store_laws.proofs.Calm.{entries_push, wired, calm_leaves, settled_beside, calm_rests}

module _ (sure : Images) (kept : Kept) (own : List Group) (tail : List ℕ) (g : Group) (fit : AreGroups own) (fits : IsGroup g) (log : log_image (side_of kept.present) sure ≡ log_bytes own ++ 0 ∷ tail)
    (present : Present (side_of kept.present) (slot_image (side_of kept.present) sure) kept.present) (beside : Beside (not (side_of kept.present)) (slot_image (not (side_of kept.present)) sure) kept.present) (entries : kept.entries ≡ entries_of own) where
  abbrev b : Bool
  b = side_of kept.present

  abbrev e : ℕ
  e = length (log_bytes own)

  abbrev next : ℕ
  next = e + length (body_text g)

  -- ---- the devices after each call

  abbrev d0 : Devices
  d0 = all_settled sure

  abbrev d1 : Devices
  d1 = change (made (Write (e + 1) (body_text g))) (Log b) d0

  abbrev d2 : Devices
  d2 = change (made Sync) (Log b) d1

  abbrev d3 : Devices
  d3 = change (made (Write e (1 ∷ []))) (Log b) d2

  abbrev d4 : Devices
  d4 = change (made Sync) (Log b) d3

  is0 : log_at b d0 ≡ settled (log_bytes own ++ 0 ∷ tail)
  is0 = log_settled sure b ∙ ap settled log

  s0 : Stands (log_at b d0) e (Body (body_text g)) g own own
  s0 = (record { tail = tail; are = is0; ends = refl; fit = fit }, (record { are = refl; fits = fits }, refl))

  s1 : Stands (log_at b d1) e (SyncBody next) g own own
  s1 = called_goes (log_at b d0) (log_at b d1) e (Body (body_text g)) g own own (log_is (made (Write (e + 1) (body_text g))) d0 b) s0

  s2 : Stands (log_at b d2) e (Gate next) g own own
  s2 = called_goes (log_at b d1) (log_at b d2) e (SyncBody next) g own own (log_is (made Sync) d1 b) s1

  s3 : Stands (log_at b d3) e (SyncGate next) g own (own ++ g ∷ [])
  s3 = called_goes (log_at b d2) (log_at b d3) e (Gate next) g own own (log_is (made (Write e (1 ∷ []))) d2 b) s2

  s4 : Stands (log_at b d4) next Rest g (own ++ g ∷ []) (own ++ g ∷ [])
  s4 = called_goes (log_at b d3) (log_at b d4) e (SyncGate next) g own (own ++ g ∷ []) (log_is (made Sync) d3 b) s3

  w0 : Wired (log_at b d0) own
  w0 = wired (log_at b d0) own tail fit (ap (λ (c : Cells). c.sure) is0)

  w1 : Wired (log_at b d1) own
  w1 = called_wired (log_at b d0) (log_at b d1) e (Body (body_text g)) g own own (log_is (made (Write (e + 1) (body_text g))) d0 b) s0 w0

  w2 : Wired (log_at b d2) own
  w2 = called_wired (log_at b d1) (log_at b d2) e (SyncBody next) g own own (log_is (made Sync) d1 b) s1 w1

  w3 : Wired (log_at b d3) own
  w3 = called_wired (log_at b d2) (log_at b d3) e (Gate next) g own own (log_is (made (Write e (1 ∷ []))) d2 b) s2 w2

  -- ---- the slots stay

  slots0 : (odd : Bool) → slot_at odd d0 ≡ settled (slot_image odd sure)
  slots0 odd = slot_settled sure odd

  slots1 : (odd : Bool) → slot_at odd d1 ≡ settled (slot_image odd sure)
  slots1 odd = log_slot (made (Write (e + 1) (body_text g))) d0 b odd ∙ slots0 odd

  slots2 : (odd : Bool) → slot_at odd d2 ≡ settled (slot_image odd sure)
  slots2 odd = log_slot (made Sync) d1 b odd ∙ slots1 odd

  slots3 : (odd : Bool) → slot_at odd d3 ≡ settled (slot_image odd sure)
  slots3 odd = log_slot (made (Write e (1 ∷ []))) d2 b odd ∙ slots2 odd

  slots4 : (odd : Bool) → slot_at odd d4 ≡ settled (slot_image odd sure)
  slots4 odd = log_slot (made Sync) d3 b odd ∙ slots3 odd

  -- ---- what crashes leave

  leaves : (d : Devices) (other : Kept) (own_other : List Group) → ((odd : Bool) → slot_at odd d ≡ settled (slot_image odd sure)) → other ≡ record { present = kept.present; entries = entries_of own_other }
      → LeavesWire (log_at b d) own own_other → (images : Images) → MayLeave d images → StoreNext images kept other
  leaves d other own_other slots is log_leaves =
      calm_leaves d sure kept other own own_other (slots b) present (settled_beside (slot_at (not b) d) (not b) (slot_image (not b) sure) kept (slots (not b)) beside) entries is log_leaves

  same : kept ≡ record { present = kept.present; entries = entries_of own }
  same = λ i. record { present = kept.present; entries = entries i }

  more : with kept g ≡ record { present = kept.present; entries = entries_of (own ++ g ∷ []) }
  more = λ i. record { present = kept.present; entries = (ap (λ (l : List (List ℕ)). l ++ g) entries ∙ sym (entries_push own g)) i }

  pub leaves0 : (images : Images) → MayLeave d0 images → StoreNext images kept kept
  leaves0 = leaves d0 kept own slots0 same (lives (log_at b d0) e (Body (body_text g)) g own own s0 w0)

  pub leaves1 : (images : Images) → MayLeave d1 images → StoreNext images kept kept
  leaves1 = leaves d1 kept own slots1 same (lives (log_at b d1) e (SyncBody next) g own own s1 w1)

  pub leaves2 : (images : Images) → MayLeave d2 images → StoreNext images kept kept
  leaves2 = leaves d2 kept own slots2 same (lives (log_at b d2) e (Gate next) g own own s2 w2)

  pub leaves3 : (images : Images) → MayLeave d3 images → StoreNext images kept (with kept g)
  leaves3 = leaves d3 (with kept g) (own ++ g ∷ []) slots3 more (lives (log_at b d3) e (SyncGate next) g own (own ++ g ∷ []) s3 w3)

  -- ---- the calls can be made

  pub fits1 : CanBeMade (Write (e + 1) (body_text g)) (log_at b d0)
  fits1 = omega (arith, ap (λ (c : Cells). length c.now) is0, length-append (log_bytes own) (0 ∷ tail))

  pub fits3 : CanBeMade (Write e (1 ∷ [])) (log_at b d2)
  fits3 = omega (arith, ap (λ (c : Cells). length c.now) s2.0.are, s2.0.ends, length-append (log_bytes own) (0 ∷ (group_text g ++ 0 ∷ s2.0.tail)))

  -- ---- the end

  abbrev after : Images
  after = with_log b (log_bytes (own ++ g ∷ []) ++ 0 ∷ s4.0.tail) sure

  logs4 : (odd : Bool) → log_at odd d4 ≡ settled (log_image odd after)
  logs4 =
      both (λ (odd : Bool). log_at odd d4 ≡ settled (log_image odd after)) b (s4.0.are ∙ ap settled (sym (log_image_is b (log_bytes (own ++ g ∷ []) ++ 0 ∷ s4.0.tail) sure)))
      (log_beside (made Sync) d3 b ∙ log_beside (made (Write e (1 ∷ []))) d2 b ∙ log_beside (made Sync) d1 b ∙ log_beside (made (Write (e + 1) (body_text g))) d0 b ∙ log_settled sure (not b) ∙ ap settled (sym (log_image_beside b (log_bytes (own ++ g ∷ []) ++ 0 ∷ s4.0.tail) sure)))

  slot_after : (odd : Bool) → slot_image odd after ≡ slot_image odd sure
  slot_after odd = log_image_slot b odd (log_bytes (own ++ g ∷ []) ++ 0 ∷ s4.0.tail) sure

  pub rests4 : (s : StoreState) → s.devices ≡ d4 → s.even ≡ slot_gate false sure.even_slot → s.odd ≡ slot_gate true sure.odd_slot → s.generation ≡ generation_of kept.present → s.torn ≡ false → s.end ≡ e + (1 + length (group_text g)) → OwnRests s (with kept g) (with kept g)
  rests4 s devices even odd generation torn end =
      calm_rests s after (with kept g) (own ++ g ∷ []) s4.0.tail s4.0.fit (log_image_is b (log_bytes (own ++ g ∷ []) ++ 0 ∷ s4.0.tail) sure)
      (subst (λ (l : List ℕ). Present b l kept.present) (sym (slot_after b)) present) (subst (λ (l : List ℕ). Beside (not b) l kept.present) (sym (slot_after (not b))) beside)
      (ap (λ (l : List (List ℕ)). l ++ g) entries ∙ sym (entries_push own g))
      (devices ∙ devices_are d4 after logs4 (λ odd. slots4 odd ∙ ap settled (sym (slot_after odd))))
      (even ∙ ap (slot_gate false) (sym (slot_after false))) (odd ∙ ap (slot_gate true) (sym (slot_after true))) generation torn
      (omega (arith, end, s4.0.ends, length-append (group_text g) (0 ∷ [])))
