-- A crash at any moment leaves bytes of the same kind.
use Rattle.std.proofs.Common.{◌≡◌, ◌≢◌, ◌⊎◌, inl, inr, ⊎_elim, ℕ, ◌≤◌, Bool, true, not, List, [], ◌∷◌, ◌++◌, length, get_or, take, drop, Option, Some, None, refl, sym, ◌∙◌, ap, subst, arith, take-append-drop}
use Rattle.std.proofs.lemmas.Bool.{cases_eq}
use Rattle.disk_model.specs.Cells.{IsImage, settled, written}
use Rattle.disk_model.proofs.Images.{image_front, image_byte}
use Rattle.store_form.specs.Spelling.{Group, checkpoint_text}
use Rattle.store_form.specs.declared.checkpoint.Checkpoint.{Checkpoint}
use Rattle.batch_log.specs.Wires.{Ends, Next}
use Rattle.checkpoint_store.specs.Slots.{is_odd, slot_of}
use Rattle.checkpoint_store.specs.SlotJobs.{IsFor}
use Rattle.checkpoint_store.proofs.SlotBytes.{slot_again, shut, alone}
use Rattle.store_laws.specs.Restored.{Images, log_image, slot_image, side_of, entries_of, slot_gate, counts_or_torn}
use Rattle.store_laws.specs.States.{Devices, log_at, slot_at, all_settled, MayLeave}
use Rattle.store_laws.specs.Lives.{Present, IsShut, Old, Beside, LogTorn, Held, StoreWire, StoreNext, no_bytes, nothing}
use Rattle.store_laws.specs.declared.job.Kept.{Kept}
use Rattle.store_laws.specs.declared.job.Gate.TheVariants.{Torn, Open}
use Rattle.store_laws.proofs.Roles.{twice_not, as_was, images_are, log_settled, slot_settled}
use Rattle.store_laws.proofs.Restores.{was_present}

-- ---- the gate of the log, or none

module _ (images : Images) (kept other : Kept) (own own_other : List Group) (present : Present (side_of kept.present) (slot_image (side_of kept.present) images) kept.present) (beside : Beside (not (side_of kept.present)) (slot_image (not (side_of kept.present)) images) kept.present)
    (entries : kept.entries ≡ entries_of own) (is : other ≡ record { present = kept.present; entries = entries_of own_other }) where
  named : kept ≡ record { present = kept.present; entries = entries_of own }
  named = λ i. record { present = kept.present; entries = entries i }

  pub calm_next : Next (log_image (side_of kept.present) images) own own_other → StoreNext images kept other
  calm_next (inl wire) = inl (inl (record { present = present; beside = beside; own = own; own_other = own; log = wire; entries = entries; is = named }))
  calm_next (inr (inl wire)) = inr (inl (inl (record { present = present; beside = beside; own = own; own_other = own_other; log = wire; entries = entries; is = is })))
  calm_next (inr (inr wire)) =
      inr (inr (inl (subst (λ (o : Kept). LogTorn images o o) (sym is) (record { present = present; beside = beside; own = own_other; own_other = own_other; log = wire; entries = refl; is = refl }))))

-- ---- the gate of the next generation

pub opens : (odd : Bool) (p : Checkpoint) (rest : List ℕ) → IsFor odd p → slot_gate odd (1 ∷ (checkpoint_text p ++ rest)) ≡ Open
opens odd p rest for = ap counts_or_torn (slot_again odd p rest for)

open_gate : (odd : Bool) (p : Checkpoint) (rest : List ℕ) → IsFor odd p → slot_gate odd (1 ∷ (checkpoint_text p ++ rest)) ≢ Torn
open_gate odd p rest for is =
    let clash : Open ≡ Torn = sym (opens odd p rest for) ∙ is in
    cc

module _ (bytes : List ℕ) (sure images : Images) (kept other : Kept) (h : Held bytes sure kept other)
    (slot : slot_image (side_of kept.present) images ≡ slot_image (side_of kept.present) sure) (log : log_image (side_of kept.present) images ≡ log_image (side_of kept.present) sure)
    (next_log : log_image (not (side_of kept.present)) images ≡ log_image (not (side_of kept.present)) sure) where
  pub returns : slot_image (not (side_of kept.present)) images ≡ 1 ∷ (checkpoint_text h.next ++ h.rest) → LogTorn images other other
  returns beside =
      let odd = is_odd h.next.generation in
      let for : IsFor (is_odd h.next.generation) h.next = record { fits = h.is_for.fits; uses = refl } in
      let across : is_odd h.next.generation ≡ not (side_of kept.present) = h.is_for.uses in
      let back : not (is_odd h.next.generation) ≡ side_of kept.present = ap not across ∙ twice_not (side_of kept.present) in
      let mine : slot_image (is_odd h.next.generation) images ≡ 1 ∷ (checkpoint_text h.next ++ h.rest) = ap (λ (b : Bool). slot_image b images) across ∙ beside in
      let present : Present (is_odd h.next.generation) (slot_image (is_odd h.next.generation) images) (Some h.next) =
      subst (λ (l : List ℕ). Present (is_odd h.next.generation) l (Some h.next)) (sym mine) (record { has = slot_again (is_odd h.next.generation) h.next h.rest for; calm = open_gate (is_odd h.next.generation) h.next h.rest for }) in
      let old : Beside (side_of kept.present) (slot_image (side_of kept.present) images) (Some h.next) =
      subst (λ (l : List ℕ). Beside (side_of kept.present) l (Some h.next)) (sym slot) (was_present (side_of kept.present) (slot_image (side_of kept.present) sure) kept.present h.next h.present h.beyond) in
      let old_there : Beside (not (is_odd h.next.generation)) (slot_image (not (is_odd h.next.generation)) images) (Some h.next) = subst (λ (b : Bool). Beside b (slot_image b images) (Some h.next)) (sym back) old in
      let log_there : Ends (log_image (is_odd h.next.generation) images) h.next_own h.next_own =
      subst (λ (l : List ℕ). Ends l h.next_own h.next_own) (sym (ap (λ (b : Bool). log_image b images) across ∙ next_log)) h.next_log in
      subst (λ (o : Kept). LogTorn images o o) (sym h.is) (record { present = present; beside = old_there; own = h.next_own; own_other = h.next_own; log = (h.next_fit, inl log_there); entries = refl; is = refl })

  present_here : Present (side_of kept.present) (slot_image (side_of kept.present) images) kept.present
  present_here = subst (λ (l : List ℕ). Present (side_of kept.present) l kept.present) (sym slot) h.present

  log_here : Ends (log_image (side_of kept.present) images) h.own h.own
  log_here = subst (λ (l : List ℕ). Ends l h.own h.own) (sym log) h.log

  pub stays : (rest : List ℕ) → slot_image (not (side_of kept.present)) images ≡ 0 ∷ rest → LogTorn images kept kept
  stays rest beside = record {
    present = present_here;
    beside = inl (record { rest = rest; are = beside });
    own = h.own;
    own_other = h.own;
    log = (h.fit, inl log_here);
    entries = h.entries;
    is = λ i. record { present = kept.present; entries = h.entries i };
  }

  abbrev held_here : (gate : ℕ) → slot_image (not (side_of kept.present)) images ≡ gate ∷ (checkpoint_text h.next ++ h.rest) → Held (slot_image (not (side_of kept.present)) images) images kept other
  held_here gate parts = record {
    next = h.next;
    is_for = h.is_for;
    beyond = h.beyond;
    gate = gate;
    rest = h.rest;
    are = parts;
    present = present_here;
    own = h.own;
    fit = h.fit;
    log = log_here;
    entries = h.entries;
    next_own = h.next_own;
    next_fit = h.next_fit;
    next_log = subst (λ (l : List ℕ). Ends l h.next_own h.next_own) (sym next_log) h.next_log;
    is = h.is;
  }

  -- whatever a crash makes of it
  pub gate_next : (gate : ℕ) → slot_image (not (side_of kept.present)) images ≡ gate ∷ (checkpoint_text h.next ++ h.rest) → StoreNext images kept other
  gate_next gate parts =
      ⊎_elim (λ (one : gate ≡ 1). inr (inr (inl (returns (parts ∙ ap (λ (b : ℕ). b ∷ (checkpoint_text h.next ++ h.rest)) one)))))
      (λ (not_one : gate ≢ 1).
      ⊎_elim (λ (none : gate ≡ 0). inl (inl (stays (checkpoint_text h.next ++ h.rest) (parts ∙ ap (λ (b : ℕ). b ∷ (checkpoint_text h.next ++ h.rest)) none))))
      (λ (not_zero : gate ≢ 0). inr (inl (inr (record { held = held_here gate parts; torn = (not_zero, not_one) }))))
      (cases_eq gate 0))
      (cases_eq gate 1)

-- ---- the other slot is closed or filled

-- a slot whose gate is written over, if it has nothing or what is older
pub old_again : (odd : Bool) (y : ℕ) (bytes c : List ℕ) (present : Option Checkpoint) → Old odd bytes present → IsImage (written 0 (y ∷ []) (settled bytes)) c → Old odd c present
old_again odd y [] c present o is = record { was = None; older = tt; has = inl (short c (omega (arith, is.no_longer))); by_gate = inl (ap (λ (l : List ℕ). slot_of odd (1 ∷ l)) (nothing_behind c (omega (arith, is.no_longer))) ∙ alone odd) }
  where
    nothing_behind : (l : List ℕ) → length l ≤ 1 → drop 1 l ≡ []
    nothing_behind [] le = refl
    nothing_behind (b ∷ []) le = refl
    nothing_behind (b ∷ d ∷ l) le = absurd (omega arith)

    short : (l : List ℕ) → length l ≤ 1 → slot_of odd l ≡ None
    short [] le = refl
    short (b ∷ []) le = ⊎_elim (λ (one : b ≡ 1). ap (λ (k : ℕ). slot_of odd (k ∷ [])) one ∙ alone odd) (λ (differs : b ≢ 1). shut odd b [] differs) (cases_eq b 1)
    short (b ∷ d ∷ l) le = absurd (omega arith)
old_again odd y (x ∷ rest) c present o is =
    let parts : c ≡ get_or c 0 0 ∷ rest = image_byte 0 y (x ∷ rest) c (omega arith) is in
    record {
      was = o.was;
      older = o.older;
      has = ⊎_elim (λ (one : get_or c 0 0 ≡ 1). with_one (ap (slot_of odd) (parts ∙ ap (λ (b : ℕ). b ∷ rest) one)) o.by_gate) (λ (differs : get_or c 0 0 ≢ 1). inl (ap (slot_of odd) parts ∙ shut odd (get_or c 0 0) rest differs)) (cases_eq (get_or c 0 0) 1);
      by_gate = subst (λ (l : List ℕ). (slot_of odd (1 ∷ l) ≡ None) ⊎ (slot_of odd (1 ∷ l) ≡ o.was)) (sym (ap (λ (l : List ℕ). drop 1 l) parts)) o.by_gate;
    }
  where
    with_one : slot_of odd c ≡ slot_of odd (1 ∷ rest) → (slot_of odd (1 ∷ rest) ≡ None) ⊎ (slot_of odd (1 ∷ rest) ≡ o.was) → (slot_of odd c ≡ None) ⊎ (slot_of odd c ≡ o.was)
    with_one is (inl none) = inl (is ∙ none)
    with_one is (inr was) = inr (is ∙ was)

-- a slot that is written after its closed gate
pub shut_again : (rest given c : List ℕ) → IsImage (written 1 given (settled (0 ∷ rest))) c → IsShut c
shut_again rest given c image =
    let front : take 1 c ≡ 0 ∷ [] = image_front 1 given (0 ∷ rest) c (omega arith) image in
    record { rest = drop 1 c; are = sym (take-append-drop 1 c) ∙ ap (λ (l : List ℕ). l ++ drop 1 c) front }

-- ---- nothing is pending

pub rest_next : (d : Devices) (sure : Images) (kept other : Kept) → d ≡ all_settled sure → StoreWire sure kept other → (images : Images) → MayLeave d images → StoreNext images kept other
rest_next d sure kept other settled_is wire images may =
    let logs : (odd : Bool) → log_image odd sure ≡ log_image odd images = λ odd. sym (as_was (log_at odd d) (log_image odd sure) (log_image odd images) (ap (log_at odd) settled_is ∙ log_settled sure odd) (may.logs odd)) in
    let slots : (odd : Bool) → slot_image odd sure ≡ slot_image odd images = λ odd. sym (as_was (slot_at odd d) (slot_image odd sure) (slot_image odd images) (ap (slot_at odd) settled_is ∙ slot_settled sure odd) (may.slots odd)) in
    inr (inl (subst (λ (x : Images). StoreWire x kept other) (images_are sure images logs slots) wire))

pub empty_wire : StoreWire no_bytes nothing nothing
empty_wire = inl (record {
  present = record { has = refl; calm = λ is. cc };
  beside = inr (record { was = None; older = tt; has = inl refl; by_gate = inl (alone true) });
  own = [];
  own_other = [];
  log = (tt, inr (inl (record { rest = []; are = refl; short = omega arith; nothing = refl })));
  entries = refl;
  is = refl;
})
