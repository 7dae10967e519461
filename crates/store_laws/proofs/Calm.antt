-- A store of which no gate of a slot is torn, and whose log ends with a closed gate.
use Rattle.std.proofs.Common.{◌≡◌, inl, inr, ℕ, ◌≤◌, ◌==◌, Bool, true, false, not, eqb, List, [], ◌∷◌, ◌++◌, length, get_or, Option, refl, sym, ◌∙◌, ap, subst, arith}
use Rattle.std.proofs.lemmas.Bool.{eqb-true}
use Rattle.std.proofs.lemmas.List.{append-nil, get_or-append-add}
use Rattle.std.proofs.lemmas.Grind.{flat_map-append}
use Rattle.disk_model.specs.Cells.{Cells, IsImage, settled}
use Rattle.store_form.specs.Spelling.{Group, group_text}
use Rattle.store_form.specs.declared.checkpoint.Checkpoint.{Checkpoint}
use Rattle.batch_log.specs.Log.{log_bytes, AreGroups, restored}
use Rattle.batch_log.specs.Exact.{end_opened}
use Rattle.batch_log.specs.Wires.{Ends, Wire, LeavesWire, Wired}
use Rattle.batch_log.proofs.Restored.{restored_is, closed}
use Rattle.batch_log.proofs.Lives.{wire_restores}
use Rattle.checkpoint_store.specs.Slots.{generation_of}
use Rattle.store_laws.specs.Restored.{Images, log_image, slot_image, side_of, present_in, entries_of, slot_gate, log_torn}
use Rattle.store_laws.specs.States.{Devices, StoreState, log_at, slot_at, all_settled, MayLeave}
use Rattle.store_laws.specs.Lives.{Present, Beside, StoreWire, StoreNext}
use Rattle.store_laws.specs.Stands.{OwnRests}
use Rattle.store_laws.specs.declared.job.Kept.{Kept}
use Rattle.store_laws.proofs.Roles.{as_was}
use Rattle.store_laws.proofs.Restores.{wire_present}
use Rattle.store_laws.proofs.Crashes.{calm_next}

pub entries_push : (gs : List Group) (added : Group) → entries_of (gs ++ added ∷ []) ≡ entries_of gs ++ added
entries_push gs added = flat_map-append (λ (group : Group). group) gs (added ∷ []) ∙ ap (λ (l : Group). entries_of gs ++ l) (append-nil added)

-- ---- the end of a log

pub end_is : (gs : List Group) (tail : List ℕ) → AreGroups gs → end_opened (log_bytes gs ++ 0 ∷ tail) ≡ length (log_bytes gs)
end_is gs tail fit = ap (λ (l : List Group). length (log_bytes l)) (restored_is gs (0 ∷ tail) fit (closed 0 tail (omega arith)))

pub gate_is : (gs : List Group) (rest bytes : List ℕ) → restored bytes ≡ gs → bytes ≡ log_bytes gs ++ rest → get_or bytes (end_opened bytes) 1 ≡ get_or rest 0 1
gate_is gs rest bytes has parts =
    ap (λ (l : List Group). get_or bytes (length (log_bytes l)) 1) has
    ∙ ap (λ (l : List ℕ). get_or l (length (log_bytes gs)) 1) parts ∙ ap (λ (n : ℕ). get_or (log_bytes gs ++ rest) n 1) (omega arith) ∙ get_or-append-add (log_bytes gs) rest 0 1

pub closed_is : (gs : List Group) (tail : List ℕ) → AreGroups gs → log_torn (log_bytes gs ++ 0 ∷ tail) ≡ false
closed_is gs tail fit =
    ap (λ (x : ℕ). not (x == 0)) (gate_is gs (0 ∷ tail) (log_bytes gs ++ 0 ∷ tail) (restored_is gs (0 ∷ tail) fit (closed 0 tail (omega arith))) refl)

pub not_false : (x : ℕ) → not (x == 0) ≡ false → x ≡ 0
not_false x is = by (eqb x 0) refl is
  where
    by : (t : Bool) → eqb x 0 ≡ t → not t ≡ false → x ≡ 0
    by true same none = eqb-true x 0 same
    by false same none = absurd cc

-- a log whose gate is not torn ends with a closed one
pub wire_ends : (bytes : List ℕ) (own other : List Group) → Wire bytes own other → log_torn bytes ≡ false → Ends bytes own own
wire_ends bytes own other (fit, inl e) calm = record { tail = e.tail; are = e.are; nothing = refl }
wire_ends bytes own other (fit, inr (inl b)) calm =
    let gate : get_or b.rest 0 1 ≡ 0 = sym (gate_is own b.rest bytes (wire_restores bytes own other (fit, inr (inl b))) b.are) ∙ not_false (get_or bytes (end_opened bytes) 1) calm in
    by b.rest b.are b.short gate
  where
    by : (rest : List ℕ) → bytes ≡ log_bytes own ++ rest → length rest ≤ 1 → get_or rest 0 1 ≡ 0 → Ends bytes own own
    by [] are le gate = absurd (omega (arith, gate))
    by (x ∷ []) are le gate = record { tail = []; are = are ∙ ap (λ (y : ℕ). log_bytes own ++ y ∷ []) gate; nothing = refl }
    by (x ∷ y ∷ rest) are le gate = absurd (omega arith)
wire_ends bytes own other (fit, inr (inr a)) calm =
    let gate : a.gate ≡ 0 =
    sym (gate_is own (a.gate ∷ (group_text a.group ++ 0 ∷ a.tail)) bytes (wire_restores bytes own other (fit, inr (inr a))) a.are) ∙ not_false (get_or bytes (end_opened bytes) 1) calm in
    absurd (a.torn.0 gate)

-- and with a gate of 1 it would bring back no other group
pub wire_calm : (bytes : List ℕ) (own other : List Group) → Wire bytes own other → log_torn bytes ≡ false → other ≡ own
wire_calm bytes own other (fit, inl e) calm = e.nothing
wire_calm bytes own other (fit, inr (inl b)) calm = b.nothing
wire_calm bytes own other (fit, inr (inr a)) calm =
    let gate : a.gate ≡ 0 =
    sym (gate_is own (a.gate ∷ (group_text a.group ++ 0 ∷ a.tail)) bytes (wire_restores bytes own other (fit, inr (inr a))) a.are) ∙ not_false (get_or bytes (end_opened bytes) 1) calm in
    absurd (a.torn.0 gate)

pub wired : (cells : Cells) (gs : List Group) (tail : List ℕ) → AreGroups gs → cells.sure ≡ log_bytes gs ++ 0 ∷ tail → Wired cells gs
wired cells gs tail fit sure = record { instead = gs; wire = (fit, inl (record { tail = tail; are = sure; nothing = refl })) }

-- ---- what a crash leaves while a job runs on the log, or on what is not in use

pub calm_leaves : (d : Devices) (sure : Images) (kept other : Kept) (own own_other : List Group)
    → slot_at (side_of kept.present) d ≡ settled (slot_image (side_of kept.present) sure) → Present (side_of kept.present) (slot_image (side_of kept.present) sure) kept.present
    → ((image : List ℕ) → IsImage (slot_at (not (side_of kept.present)) d) image → Beside (not (side_of kept.present)) image kept.present)
    → kept.entries ≡ entries_of own → other ≡ record { present = kept.present; entries = entries_of own_other }
    → LeavesWire (log_at (side_of kept.present) d) own own_other → (images : Images) → MayLeave d images → StoreNext images kept other
calm_leaves d sure kept other own own_other slot present beside entries is leaves images may =
    let b = side_of kept.present in
    let same = as_was (slot_at (side_of kept.present) d) (slot_image (side_of kept.present) sure) (slot_image (side_of kept.present) images) slot (may.slots (side_of kept.present)) in
    calm_next images kept other own own_other (subst (λ (l : List ℕ). Present (side_of kept.present) l kept.present) (sym same) present)
    (beside (slot_image (not (side_of kept.present)) images) (may.slots (not (side_of kept.present)))) entries is
    (leaves (log_image (side_of kept.present) images) (may.logs (side_of kept.present)))

pub settled_beside : (cells : Cells) (odd : Bool) (bytes : List ℕ) (kept : Kept) → cells ≡ settled bytes → Beside odd bytes kept.present → (image : List ℕ) → IsImage cells image → Beside odd image kept.present
settled_beside cells odd bytes kept same beside image is = subst (λ (l : List ℕ). Beside odd l kept.present) (sym (as_was cells bytes image same is)) beside

-- ---- a job has ended

module _ (s : StoreState) (images : Images) (kept : Kept) (own : List Group) (tail : List ℕ) (fit : AreGroups own) (log : log_image (side_of kept.present) images ≡ log_bytes own ++ 0 ∷ tail)
    (present : Present (side_of kept.present) (slot_image (side_of kept.present) images) kept.present) (beside : Beside (not (side_of kept.present)) (slot_image (not (side_of kept.present)) images) kept.present) (entries : kept.entries ≡ entries_of own) where
  pub calm_wire : StoreWire images kept kept
  calm_wire = inl (record {
    present = present;
    beside = beside;
    own = own;
    own_other = own;
    log = (fit, inl (record { tail = tail; are = log; nothing = refl }));
    entries = entries;
    is = λ i. record { present = kept.present; entries = entries i };
  })

  here : log_image (side_of (present_in images)) images ≡ log_bytes own ++ 0 ∷ tail
  here = ap (λ (o : Option Checkpoint). log_image (side_of o) images) (wire_present images kept kept calm_wire) ∙ log

  pub calm_rests : s.devices ≡ all_settled images → s.even ≡ slot_gate false images.even_slot → s.odd ≡ slot_gate true images.odd_slot → s.generation ≡ generation_of kept.present → s.torn ≡ false → s.end ≡ length (log_bytes own) → OwnRests s kept kept
  calm_rests settled even odd generation torn end = record {
    images = images;
    rests = record {
      settled = settled;
      even = even;
      odd = odd;
      generation = generation ∙ ap generation_of (sym (wire_present images kept kept calm_wire));
      torn = torn ∙ sym (ap log_torn here ∙ closed_is own tail fit);
      end = end ∙ sym (ap end_opened here ∙ end_is own tail fit);
    };
    wire = calm_wire;
  }
