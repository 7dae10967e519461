-- What bytes between two lives restore.
use Rattle.std.proofs.Common.{◌≡◌, ◌≢◌, ◌⊎◌, inl, inr, ⊎_elim, ℕ, ◌<◌, Bool, true, false, not, cond, eqb, List, [], ◌∷◌, ◌++◌, Option, Some, None, refl, sym, ◌∙◌, ap, subst, arith}
use Rattle.std.proofs.lemmas.Bool.{cases_eq, eqb-true}
use Rattle.store_form.specs.Spelling.{Group, checkpoint_text}
use Rattle.store_form.specs.declared.checkpoint.Checkpoint.{Checkpoint}
use Rattle.batch_log.specs.Log.{restored}
use Rattle.batch_log.proofs.Lives.{wire_restores}
use Rattle.checkpoint_store.specs.Slots.{is_odd, slot_of, newest, generation_of, NoneAbove}
use Rattle.checkpoint_store.proofs.SlotBytes.{shut, alone}
use Rattle.checkpoint_store.proofs.Newest.{open_newest, closed_newest}
use Rattle.store_laws.specs.Restored.{Images, log_image, slot_image, side_of, present_in, entries_of, restores, slot_gate, counts_or_torn}
use Rattle.store_laws.specs.Lives.{IsOlder, Present, Beside, StoreWire, StoreNext, Either}
use Rattle.store_laws.specs.declared.job.Kept.{Kept}
use Rattle.store_laws.specs.declared.job.Gate.TheVariants.{Closed, Torn}

-- ---- gates

pub gate_torn : (odd : Bool) (x : ℕ) (rest : List ℕ) → x ≢ 0 → slot_of odd (x ∷ rest) ≡ None → slot_gate odd (x ∷ rest) ≡ Torn
gate_torn odd x rest differs none = by (eqb x 0) refl
  where
    by : (t : Bool) → eqb x 0 ≡ t → cond t Closed (counts_or_torn (slot_of odd (x ∷ rest))) ≡ Torn
    by true is = absurd (differs (eqb-true x 0 is))
    by false is = ap counts_or_torn none

pub older_than : (next : Checkpoint) (x : Option Checkpoint) → generation_of x < next.generation → IsOlder (Some next) x
older_than next None lt = tt
older_than next (Some x) lt = lt

-- the slot of a generation that is no longer present
pub was_present : (odd : Bool) (bytes : List ℕ) (present : Option Checkpoint) (next : Checkpoint) → Present odd bytes present → generation_of present < next.generation → Beside odd bytes (Some next)
was_present odd [] present next p lt = inr (record { was = None; older = tt; has = inl refl; by_gate = inl (alone odd) })
was_present odd (x ∷ rest) present next p lt =
    ⊎_elim (λ (zero_is : x ≡ 0). inl (record { rest = rest; are = ap (λ (b : ℕ). b ∷ rest) zero_is }))
    (λ (not_zero : x ≢ 0).
    ⊎_elim (λ (one : x ≡ 1). inr (record { was = present; older = older_than next present lt; has = inr p.has; by_gate = inr (ap (λ (b : ℕ). slot_of odd (b ∷ rest)) (sym one) ∙ p.has) }))
    (λ (not_one : x ≢ 1). absurd (p.calm (gate_torn odd x rest not_zero (shut odd x rest not_one))))
    (cases_eq x 1))
    (cases_eq x 0)

-- ---- the newest of two

by_sides : (odd : Bool) (images : Images) (x : Option Checkpoint)
    → newest (cond odd (slot_image (not odd) images) (slot_image odd images)) (cond odd (slot_image odd images) (slot_image (not odd) images)) ≡ x → present_in images ≡ x
by_sides true images x is = is
by_sides false images x is = is

none_above : (x : Checkpoint) (y : Option Checkpoint) → IsOlder (Some x) y → NoneAbove x.generation y
none_above x None older = tt
none_above x (Some y) older = omega (arith, older)

older_none : (y : Option Checkpoint) → IsOlder None y → y ≡ None
older_none None older = refl
older_none (Some y) older = absurd (omega (arith, older))

pub present_is : (images : Images) (present : Option Checkpoint) → slot_of (side_of present) (slot_image (side_of present) images) ≡ present
    → IsOlder present (slot_of (not (side_of present)) (slot_image (not (side_of present)) images)) → present_in images ≡ present
present_is images None has older =
    by_sides false images None (closed_newest false (slot_image false images) (slot_image true images) has ∙ older_none (slot_of true (slot_image true images)) older)
present_is images (Some x) has older =
    by_sides (is_odd x.generation) images (Some x)
    (open_newest (is_odd x.generation) x (slot_image (is_odd x.generation) images) (slot_image (not (is_odd x.generation)) images) refl has
    (none_above x (slot_of (not (is_odd x.generation)) (slot_image (not (is_odd x.generation)) images)) older))

pub beside_older : (odd : Bool) (bytes : List ℕ) (present : Option Checkpoint) → Beside odd bytes present → IsOlder present (slot_of odd bytes)
beside_older odd bytes present (inl s) = subst (λ (o : Option Checkpoint). IsOlder present o) (sym (ap (slot_of odd) s.are ∙ shut odd 0 s.rest (omega arith))) tt
beside_older odd bytes present (inr o) = by_has o.has
  where
    by_has : (slot_of odd bytes ≡ None) ⊎ (slot_of odd bytes ≡ o.was) → IsOlder present (slot_of odd bytes)
    by_has (inl none) = subst (λ (x : Option Checkpoint). IsOlder present x) (sym none) tt
    by_has (inr was) = subst (λ (x : Option Checkpoint). IsOlder present x) (sym was) o.older

-- ---- all of it

all_of : (images : Images) (kept : Kept) (own : List Group) → present_in images ≡ kept.present → restored (log_image (side_of kept.present) images) ≡ own → kept.entries ≡ entries_of own → restores images ≡ kept
all_of images kept own is has entries =
    let found : restored (log_image (side_of (present_in images)) images) ≡ own = ap (λ (q : Option Checkpoint). restored (log_image (side_of q) images)) is ∙ has in
    let same : entries_of (restored (log_image (side_of (present_in images)) images)) ≡ kept.entries = ap entries_of found ∙ sym entries in
    λ i. record { present = is i; entries = same i }

pub wire_present : (images : Images) (kept other : Kept) → StoreWire images kept other → present_in images ≡ kept.present
wire_present images kept other (inl w) = present_is images kept.present w.present.has (beside_older (not (side_of kept.present)) (slot_image (not (side_of kept.present)) images) kept.present w.beside)
wire_present images kept other (inr t) =
    let h = t.held in
    let none : slot_of (not (side_of kept.present)) (slot_image (not (side_of kept.present)) images) ≡ None =
    ap (slot_of (not (side_of kept.present))) h.are ∙ shut (not (side_of kept.present)) h.gate (checkpoint_text h.next ++ h.rest) t.torn.1 in
    present_is images kept.present h.present.has (subst (λ (o : Option Checkpoint). IsOlder kept.present o) (sym none) tt)

pub store_restores : (images : Images) (kept other : Kept) → StoreWire images kept other → restores images ≡ kept
store_restores images kept other (inl w) =
    all_of images kept w.own (wire_present images kept other (inl w)) (wire_restores (log_image (side_of kept.present) images) w.own w.own_other w.log) w.entries
store_restores images kept other (inr t) =
    let h = t.held in
    all_of images kept h.own (wire_present images kept other (inr t)) (wire_restores (log_image (side_of kept.present) images) h.own h.own (h.fit, inl h.log)) h.entries

pub next_restores : (images : Images) (kept other : Kept) → StoreNext images kept other → Either images kept other
next_restores images kept other (inl w) = inl (store_restores images kept kept w)
next_restores images kept other (inr (inl w)) = inl (store_restores images kept other w)
next_restores images kept other (inr (inr w)) = inr (store_restores images other other w)
