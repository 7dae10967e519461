-- The close of a slot, and the repair of the log, begin in a store over any bytes.
use Rattle.std.proofs.Common.{◌≡◌, inl, ℕ, Bool, true, false, cond, refl, sym, ◌∙◌, ap, subst}
use Rattle.store_form.specs.declared.checkpoint.Checkpoint.{Checkpoint}
use Rattle.batch_log.specs.Exact.{end_opened}
use Rattle.checkpoint_store.specs.Slots.{is_odd, generation_of}
use Rattle.store_laws.specs.Restored.{Images, log_image, slot_image, side_of, present_in, restores, slot_gate, slot_opened, log_opened}
use Rattle.store_laws.specs.States.{Devices, StoreState, side, slot_gate_of, is_torn, all_settled, MayLeave, Close, Repair, begins}
use Rattle.store_laws.specs.Lives.{Either}
use Rattle.store_laws.specs.Stands.{Aim, at_rest, Rests, AnyRests, StoreStands, aim_begins}
use Rattle.store_laws.specs.declared.job.Kept.{Kept}
use Rattle.store_laws.specs.declared.job.Gate.{Gate}
use Rattle.store_laws.specs.declared.job.Gate.TheVariants.{Absent, Closed, Torn, Open}
use Rattle.store_laws.proofs.Roles.{as_was, images_are, log_settled, slot_settled}
use Rattle.store_laws.proofs.Any.{IsTornSlot, torn_slot, any_leaves1, any_fits, any_rests, repair_any_leaves1, repair_any_fits, repair_any_rests}

abbrev at : Devices → ℕ → ℕ → StoreState → StoreState
at d generation end s = record {
  devices = d;
  even = s.even;
  odd = s.odd;
  torn = s.torn;
  end = end;
  generation = generation;
  running = s.running;
  ending = s.ending;
  adding = s.adding;
  waiting = s.waiting;
  asked = s.asked;
  restored = s.restored;
  firm = s.firm;
}

at_is : (d : Devices) (generation end : ℕ) (s : StoreState) → s.devices ≡ d → s.generation ≡ generation → s.end ≡ end → at d generation end s ≡ s
at_is d generation end s devices_is generation_is end_is = λ i. record {
  devices = sym devices_is i;
  even = s.even;
  odd = s.odd;
  torn = s.torn;
  end = sym end_is i;
  generation = sym generation_is i;
  running = s.running;
  ending = s.ending;
  adding = s.adding;
  waiting = s.waiting;
  asked = s.asked;
  restored = s.restored;
  firm = s.firm;
}

settled_leaves : (sure : Images) (other : Kept) (images : Images) → MayLeave (all_settled sure) images → Either images (restores sure) other
settled_leaves sure other images may =
    let logs : (odd : Bool) → log_image odd images ≡ log_image odd sure = λ odd. as_was _ (log_image odd sure) (log_image odd images) (log_settled sure odd) (may.logs odd) in
    let slots : (odd : Bool) → slot_image odd images ≡ slot_image odd sure = λ odd. as_was _ (slot_image odd sure) (slot_image odd images) (slot_settled sure odd) (may.slots odd) in
    inl (ap restores (images_are images sure logs slots))

torn_is : (g : Gate) → is_torn g ≡ true → g ≡ Torn
torn_is Absent is = absurd cc
torn_is Closed is = absurd cc
torn_is Torn is = refl
torn_is Open is = absurd cc

gate_of : (s : StoreState) (sure : Images) → Rests s sure → (odd : Bool) → slot_gate_of odd s ≡ slot_gate odd (slot_image odd sure)
gate_of s sure rests false = rests.even
gate_of s sure rests true = rests.odd

-- what is kept and what is at stake, by other names
renamed : (kept other x y : Kept) (next : Checkpoint) → x ≡ kept → y ≡ other → at_rest x y next ≡ at_rest kept other next
renamed kept other x y next kept_is other_is = λ i. record { kept = kept_is i; stake = other_is i; gated = other_is i; then = kept_is i; next = next }

module _ (s : StoreState) (a : Aim) (r : AnyRests s a.kept a.stake) where
  pub close_any : (odd : Bool) → is_torn (slot_gate_of odd s) ≡ true → restores (slot_opened odd r.images) ≡ a.stake → StoreStands (begins (Close odd) s) (aim_begins (Close odd) s a)
  close_any odd torn stake =
      let t : IsTornSlot odd (slot_image odd r.images) = torn_slot odd (slot_image odd r.images) (sym (gate_of s r.images r.rests odd) ∙ torn_is (slot_gate_of odd s) torn) in
      let runs : StoreStands (begins (Close odd) (at (all_settled r.images) s.generation s.end s)) (at_rest (restores r.images) (restores (slot_opened odd r.images)) a.next) = (
        settled_leaves r.images (restores (slot_opened odd r.images)),
        λ t0 u0. (any_fits r.images odd t, (any_leaves1 r.images odd t, λ t1 u1. (tt, (_, any_rests r.images odd t s _ r.rests r.log refl refl refl refl refl refl)))),
      ) in
      subst (λ (x : StoreState). StoreStands (begins (Close odd) x) (aim_begins (Close odd) x a)) (at_is (all_settled r.images) s.generation s.end s r.rests.settled refl refl)
      (subst (λ (y : Aim). StoreStands (begins (Close odd) (at (all_settled r.images) s.generation s.end s)) y) (renamed a.kept a.stake (restores r.images) (restores (slot_opened odd r.images)) a.next (sym r.kept_is) stake) runs)

  pub repair_any : restores (log_opened (side_of (present_in r.images)) r.images) ≡ a.stake → StoreStands (begins Repair s) (aim_begins Repair s a)
  repair_any stake =
      let runs : StoreStands (begins Repair (at (all_settled r.images) (generation_of (present_in r.images)) (end_opened (log_image (side_of (present_in r.images)) r.images)) s))
      (at_rest (restores r.images) (restores (log_opened (side_of (present_in r.images)) r.images)) a.next) = (
        settled_leaves r.images (restores (log_opened (side_of (present_in r.images)) r.images)),
        λ t0 u0. (repair_any_fits r.images r.log, (repair_any_leaves1 r.images r.log, λ t1 u1. (tt, (_, repair_any_rests r.images r.log _ refl r.rests.even r.rests.odd refl refl refl)))),
      ) in
      subst (λ (x : StoreState). StoreStands (begins Repair x) (aim_begins Repair x a))
      (at_is (all_settled r.images) (generation_of (present_in r.images)) (end_opened (log_image (side_of (present_in r.images)) r.images)) s r.rests.settled r.rests.generation r.rests.end)
      (subst (λ (y : Aim). StoreStands (begins Repair (at (all_settled r.images) (generation_of (present_in r.images)) (end_opened (log_image (side_of (present_in r.images)) r.images)) s)) y)
      (renamed a.kept a.stake (restores r.images) (restores (log_opened (side_of (present_in r.images)) r.images)) a.next (sym r.kept_is) stake) runs)

  -- the one that comes first, and what it may bring back
  pub first_close : is_torn s.even ≡ true → StoreStands (begins (Close false) s) (aim_begins (Close false) s a)
  first_close torn = close_any false torn (sym (r.other_is ∙ ap (λ (t : Bool). cond t (restores (slot_opened false r.images)) (cond (is_torn s.odd) (restores (slot_opened true r.images)) (cond s.torn (restores (log_opened (side s) r.images)) (restores r.images)))) torn))

  pub next_close : is_torn s.even ≡ false → is_torn s.odd ≡ true → StoreStands (begins (Close true) s) (aim_begins (Close true) s a)
  next_close even torn =
      close_any true torn
      (sym (r.other_is
      ∙ ap (λ (t : Bool). cond t (restores (slot_opened false r.images)) (cond (is_torn s.odd) (restores (slot_opened true r.images)) (cond s.torn (restores (log_opened (side s) r.images)) (restores r.images)))) even
      ∙ ap (λ (t : Bool). cond t (restores (slot_opened true r.images)) (cond s.torn (restores (log_opened (side s) r.images)) (restores r.images))) torn))

  pub then_repair : is_torn s.even ≡ false → is_torn s.odd ≡ false → s.torn ≡ true → StoreStands (begins Repair s) (aim_begins Repair s a)
  then_repair even odd_is torn =
      repair_any
      (sym (r.other_is
      ∙ ap (λ (t : Bool). cond t (restores (slot_opened false r.images)) (cond (is_torn s.odd) (restores (slot_opened true r.images)) (cond s.torn (restores (log_opened (side s) r.images)) (restores r.images)))) even
      ∙ ap (λ (t : Bool). cond t (restores (slot_opened true r.images)) (cond s.torn (restores (log_opened (side s) r.images)) (restores r.images))) odd_is
      ∙ ap (λ (t : Bool). cond t (restores (log_opened (side s) r.images)) (restores r.images)) torn
      ∙ ap (λ (n : ℕ). restores (log_opened (is_odd n) r.images)) r.rests.generation))
