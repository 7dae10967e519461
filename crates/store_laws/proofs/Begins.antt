-- A job begins in a store that only crashes of its own lives have changed: each of its calls leaves such a store.
use Rattle.std.proofs.Common.{◌≡◌, ◌⊎◌, inl, inr, ℕ, Bool, true, false, not, List, length, Option, refl, sym, ◌∙◌, ap, subst}
use Rattle.store_form.specs.Spelling.{Group, IsGroup}
use Rattle.store_form.specs.declared.checkpoint.Checkpoint.{Checkpoint}
use Rattle.batch_log.specs.Log.{log_bytes}
use Rattle.batch_log.specs.Wires.{Ends}
use Rattle.batch_log.specs.Exact.{end_opened}
use Rattle.batch_log.proofs.Lives.{wire_restores}
use Rattle.checkpoint_store.specs.Slots.{generation_of}
use Rattle.store_laws.specs.Restored.{Images, log_image, slot_image, side_of, present_in, with, slot_gate, log_torn}
use Rattle.store_laws.specs.States.{Devices, StoreState, slot_gate_of, is_torn, all_settled, Close, Repair, AddGroup, begins}
use Rattle.store_laws.specs.Lives.{Present, Old, Beside, LogTorn, SlotTorn, StoreWire}
use Rattle.store_laws.specs.Stands.{Aim, Rests, IsOwn, aim_begins}
use Rattle.store_laws.specs.declared.job.Kept.{Kept}
use Rattle.store_laws.specs.declared.job.Gate.{Gate}
use Rattle.store_laws.specs.declared.job.Gate.TheVariants.{Absent, Closed, Torn, Open}
use Rattle.store_laws.proofs.Restores.{wire_present}
use Rattle.store_laws.proofs.Calm.{end_is, wire_ends}
use Rattle.store_laws.proofs.Groups.{leaves0, leaves1, leaves2, leaves3, fits1, fits3, rests4}
use Rattle.store_laws.proofs.Closes.{close_fits, closed_rests, old_leaves0, old_leaves1, old_wire, torn_leaves0, torn_leaves1, torn_wire, repair_leaves0, repair_leaves1, repair_fits, repaired_rests}

-- a state of these devices, whose generation is that of what is kept
abbrev pub placed : Devices → Kept → Bool → ℕ → StoreState → StoreState
placed d kept torn end s = record {
  devices = d;
  even = s.even;
  odd = s.odd;
  torn = torn;
  end = end;
  generation = generation_of kept.present;
  running = s.running;
  ending = s.ending;
  adding = s.adding;
  waiting = s.waiting;
  asked = s.asked;
  restored = s.restored;
  firm = s.firm;
}

pub placed_is : (d : Devices) (kept : Kept) (torn : Bool) (end : ℕ) (s : StoreState) → s.devices ≡ d → s.generation ≡ generation_of kept.present → s.torn ≡ torn → s.end ≡ end → placed d kept torn end s ≡ s
placed_is d kept torn end s devices generation torn_is end_is = λ i. record {
  devices = sym devices i;
  even = s.even;
  odd = s.odd;
  torn = sym torn_is i;
  end = sym end_is i;
  generation = sym generation i;
  running = s.running;
  ending = s.ending;
  adding = s.adding;
  waiting = s.waiting;
  asked = s.asked;
  restored = s.restored;
  firm = s.firm;
}

-- ---- a group

module _ (s : StoreState) (a : Aim) (sure : Images) (rests : Rests s sure) (w : LogTorn sure a.kept a.stake) where
  here : log_image (side_of (present_in sure)) sure ≡ log_image (side_of a.kept.present) sure
  here = ap (λ (o : Option Checkpoint). log_image (side_of o) sure) (wire_present sure a.kept a.stake (inl w))

  ends_here : s.torn ≡ false → Ends (log_image (side_of a.kept.present) sure) w.own w.own
  ends_here calm = wire_ends (log_image (side_of a.kept.present) sure) w.own w.own_other w.log (ap log_torn (sym here) ∙ sym rests.torn ∙ calm)

  pub group_own : s.torn ≡ false → (g : Group) → IsGroup g → IsOwn (begins (AddGroup g) s) (aim_begins (AddGroup g) s a)
  group_own calm g fits =
      let ends = ends_here calm in
      let q = placed (all_settled sure) a.kept false (length (log_bytes w.own)) s in
      let end : s.end ≡ length (log_bytes w.own) = rests.end ∙ ap end_opened here ∙ ap end_opened ends.are ∙ end_is w.own ends.tail w.log.0 in
      let same = placed_is (all_settled sure) a.kept false (length (log_bytes w.own)) s rests.settled (rests.generation ∙ ap generation_of (wire_present sure a.kept a.stake (inl w))) calm end in
      let runs : IsOwn (begins (AddGroup g) q) (aim_begins (AddGroup g) q a) = (
        leaves0 sure a.kept w.own ends.tail g w.log.0 fits ends.are w.present w.beside w.entries,
        λ t0 u0. (
          fits1 sure a.kept w.own ends.tail g w.log.0 fits ends.are w.present w.beside w.entries,
          (
            leaves1 sure a.kept w.own ends.tail g w.log.0 fits ends.are w.present w.beside w.entries,
            λ t1 u1. (
              tt,
              (
                leaves2 sure a.kept w.own ends.tail g w.log.0 fits ends.are w.present w.beside w.entries,
                λ t2 u2. (
                  fits3 sure a.kept w.own ends.tail g w.log.0 fits ends.are w.present w.beside w.entries,
                  (
                    leaves3 sure a.kept w.own ends.tail g w.log.0 fits ends.are w.present w.beside w.entries,
                    λ t3 u3. (tt, (with a.kept g, rests4 sure a.kept w.own ends.tail g w.log.0 fits ends.are w.present w.beside w.entries _ refl rests.even rests.odd refl refl refl)),
                  ),
                ),
              ),
            ),
          ),
        ),
      ) in
      subst (λ (x : StoreState). IsOwn (begins (AddGroup g) x) (aim_begins (AddGroup g) x a)) same runs

  pub repair_own : s.torn ≡ true → IsOwn (begins Repair s) (aim_begins Repair s a)
  repair_own torn =
      let is : log_torn (log_image (side_of a.kept.present) sure) ≡ true = ap log_torn (sym here) ∙ sym rests.torn ∙ torn in
      let end : s.end ≡ length (log_bytes w.own) =
      rests.end ∙ ap end_opened here ∙ ap (λ (l : List Group). length (log_bytes l)) (wire_restores (log_image (side_of a.kept.present) sure) w.own w.own_other w.log) in
      let q = placed (all_settled sure) a.kept true (length (log_bytes w.own)) s in
      let same = placed_is (all_settled sure) a.kept true (length (log_bytes w.own)) s rests.settled (rests.generation ∙ ap generation_of (wire_present sure a.kept a.stake (inl w))) torn end in
      let runs : IsOwn (begins Repair q) (aim_begins Repair q a) = (
        repair_leaves0 sure a.kept a.stake w is,
        λ t0 u0. (repair_fits sure a.kept a.stake w is, (repair_leaves1 sure a.kept a.stake w is, λ t1 u1. (tt, (a.kept, repaired_rests sure a.kept a.stake w is _ refl rests.even rests.odd refl refl refl)))),
      ) in
      subst (λ (x : StoreState). IsOwn (begins Repair x) (aim_begins Repair x a)) same runs

-- ---- a slot is closed

gate_of : (s : StoreState) (sure : Images) → Rests s sure → (odd : Bool) → slot_gate_of odd s ≡ slot_gate odd (slot_image odd sure)
gate_of s sure rests false = rests.even
gate_of s sure rests true = rests.odd

torn_is : (g : Gate) → is_torn g ≡ true → g ≡ Torn
torn_is Absent is = absurd cc
torn_is Closed is = absurd cc
torn_is Torn is = refl
torn_is Open is = absurd cc

pub sides : (odd b : Bool) → (odd ≡ b) ⊎ (odd ≡ not b)
sides true true = inl refl
sides true false = inr refl
sides false true = inr refl
sides false false = inl refl

-- a torn slot is not shut
not_shut : (odd : Bool) (bytes : List ℕ) (present : Option Checkpoint) → slot_gate odd bytes ≡ Torn → Beside odd bytes present → Old odd bytes present
not_shut odd bytes present torn (inl s) =
    let clash : Closed ≡ Torn = sym (ap (slot_gate odd) s.are) ∙ torn in
    absurd cc
not_shut odd bytes present torn (inr old) = old

module _ (s : StoreState) (a : Aim) (sure : Images) (rests : Rests s sure) where
  abbrev q : StoreState
  q = placed (all_settled sure) a.kept s.torn s.end s

  generation_is : StoreWire sure a.kept a.stake → s.generation ≡ generation_of a.kept.present
  generation_is wire = rests.generation ∙ ap generation_of (wire_present sure a.kept a.stake wire)

  close_old : (w : LogTorn sure a.kept a.stake) → Old (not (side_of a.kept.present)) (slot_image (not (side_of a.kept.present)) sure) a.kept.present
      → IsOwn (begins (Close (not (side_of a.kept.present))) q) (aim_begins (Close (not (side_of a.kept.present))) q a)
  close_old w old = (
    old_leaves0 sure a.kept a.stake w old,
    λ t0 u0. (
      close_fits sure a.kept,
      (
        old_leaves1 sure a.kept a.stake w old,
        λ t1 u1. (tt, (a.stake, closed_rests sure a.kept s _ a.stake a.stake rests (inl w) (old_wire sure a.kept a.stake w old) refl refl refl (sym (generation_is (inl w))) refl refl)),
      ),
    ),
  )

  close_torn : (t : SlotTorn sure a.kept a.stake) → IsOwn (begins (Close (not (side_of a.kept.present))) q) (aim_begins (Close (not (side_of a.kept.present))) q a)
  close_torn t = (
    torn_leaves0 sure a.kept a.stake t,
    λ t0 u0. (
      close_fits sure a.kept,
      (
        torn_leaves1 sure a.kept a.stake t,
        λ t1 u1. (tt, (a.kept, closed_rests sure a.kept s _ a.stake a.kept rests (inr t) (torn_wire sure a.kept a.stake t) refl refl refl (sym (generation_is (inr t))) refl refl)),
      ),
    ),
  )

  close_beside : (wire : StoreWire sure a.kept a.stake) → is_torn (slot_gate_of (not (side_of a.kept.present)) s) ≡ true
      → IsOwn (begins (Close (not (side_of a.kept.present))) q) (aim_begins (Close (not (side_of a.kept.present))) q a)
  close_beside (inl w) torn =
      close_old w (not_shut (not (side_of a.kept.present)) (slot_image (not (side_of a.kept.present)) sure) a.kept.present (sym (gate_of s sure rests (not (side_of a.kept.present))) ∙ torn_is (slot_gate_of (not (side_of a.kept.present)) s) torn) w.beside)
  close_beside (inr t) torn = close_torn t

  present_of : StoreWire sure a.kept a.stake → Present (side_of a.kept.present) (slot_image (side_of a.kept.present) sure) a.kept.present
  present_of (inl w) = w.present
  present_of (inr t) = t.held.present

  pub close_own : (wire : StoreWire sure a.kept a.stake) (odd : Bool) → is_torn (slot_gate_of odd s) ≡ true → IsOwn (begins (Close odd) s) (aim_begins (Close odd) s a)
  close_own wire odd torn = by (sides odd (side_of a.kept.present))
    where
      by : (odd ≡ side_of a.kept.present) ⊎ (odd ≡ not (side_of a.kept.present)) → IsOwn (begins (Close odd) s) (aim_begins (Close odd) s a)
      by (inl is) =
          let here : is_torn (slot_gate_of (side_of a.kept.present) s) ≡ true = subst (λ (x : Bool). is_torn (slot_gate_of x s) ≡ true) is torn in
          absurd ((present_of wire).calm (sym (gate_of s sure rests (side_of a.kept.present)) ∙ torn_is (slot_gate_of (side_of a.kept.present) s) here))
      by (inr is) =
          let there : is_torn (slot_gate_of (not (side_of a.kept.present)) s) ≡ true = subst (λ (x : Bool). is_torn (slot_gate_of x s) ≡ true) is torn in
          let same = placed_is (all_settled sure) a.kept s.torn s.end s rests.settled (generation_is wire) refl refl in
          subst (λ (x : Bool). IsOwn (begins (Close x) s) (aim_begins (Close x) s a)) (sym is)
          (subst (λ (x : StoreState). IsOwn (begins (Close (not (side_of a.kept.present))) x) (aim_begins (Close (not (side_of a.kept.present))) x a)) same (close_beside wire there))
