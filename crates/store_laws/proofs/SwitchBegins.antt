-- A switch begins in a store that only crashes of its own lives have changed.
use Rattle.std.proofs.Common.{◌≡◌, ◌≢◌, inl, inr, ℕ, ◌+◌, ◌<◌, ◌%◌, eqb, Bool, true, false, not, cond, List, [], ◌∷◌, ◌++◌, drop, Option, Some, None, refl, sym, ◌∙◌, ap, subst, arith}
use Rattle.std.proofs.lemmas.Bool.{eqb-true}
use Rattle.disk_model.specs.declared.call.DeviceCall.TheVariants.{Cut, Sync}
use Rattle.store_form.specs.Spelling.{IsEntry, checkpoint_text}
use Rattle.store_form.specs.declared.checkpoint.Checkpoint.{Checkpoint}
use Rattle.batch_log.specs.Log.{log_bytes}
use Rattle.batch_log.specs.Wires.{Ends}
use Rattle.checkpoint_store.specs.Slots.{is_odd, slot_of, generation_of}
use Rattle.checkpoint_store.specs.SlotJobs.{IsFor}
use Rattle.checkpoint_store.specs.SlotCalls.{close_calls, fill_calls, gate_calls}
use Rattle.store_laws.specs.Restored.{Images, log_image, slot_image, side_of, present_in, switched, slot_gate, counts_or_torn, log_torn}
use Rattle.store_laws.specs.States.{Devices, StoreState, greatest, slot_gate_of, is_closed, all_settled, Switch, begins, calls_on, with_job}
use Rattle.store_laws.specs.Lives.{Present, IsShut, Old, Beside, LogTorn, StoreNext}
use Rattle.store_laws.specs.Stands.{Aim, Runs, StandsBy, Rests, OwnRests, IsOwn, aim_begins}
use Rattle.store_laws.specs.declared.job.Gate.TheVariants.{Closed}
use Rattle.store_laws.specs.declared.job.StoreCall.{StoreCall}
use Rattle.store_laws.specs.declared.job.StoreCall.TheVariants.{On, WriteTail}
use Rattle.store_laws.specs.declared.job.Ending.TheVariants.{Switches}
use Rattle.store_laws.specs.declared.job.Device.TheVariants.{Log, Slot}
use Rattle.store_laws.proofs.Roles.{devices_are}
use Rattle.store_laws.proofs.Restores.{wire_present}
use Rattle.store_laws.proofs.Calm.{wire_ends}
use Rattle.store_laws.proofs.Switches.{switch0, switch1, switch2, switch3, switch4, switch5, switch6, switch7, fill_fits, tail_fits, gate_fits}
use Rattle.store_laws.proofs.Closes.{g2, after, after_log, after_slot, after_new_slot, logs2, slots2, close_fits, old_leaves0, old_leaves1}
use Rattle.store_laws.proofs.Begins.{placed, placed_is}

odd_clash : (n : ℕ) → n % 2 ≡ 1 → eqb (n % 2) 1 ≡ false → ⊥
odd_clash n one none =
    let both : true ≡ false = sym (ap (λ (x : ℕ). eqb x 1) one) ∙ none in
    cc

-- the next generation uses the other slot
pub odd_next : (n : ℕ) → is_odd (n + 1) ≡ not (is_odd n)
odd_next n = by (eqb (n % 2) 1) refl
  where
    by : (t : Bool) → eqb (n % 2) 1 ≡ t → eqb ((n + 1) % 2) 1 ≡ not t
    by true is =
        let one : n % 2 ≡ 1 = eqb-true (n % 2) 1 is in
        let none : (n + 1) % 2 ≡ 0 = omega (arith, one) in
        ap (λ (x : ℕ). eqb x 1) none
    by false is =
        let differs : n % 2 ≢ 1 = λ (one : n % 2 ≡ 1). odd_clash n one is in
        let one : (n + 1) % 2 ≡ 1 = omega (arith, differs) in
        ap (λ (x : ℕ). eqb x 1) one

closed_gate : (odd : Bool) (bytes : List ℕ) → is_closed (slot_gate odd bytes) ≡ true → IsShut bytes
closed_gate odd [] is = absurd cc
closed_gate odd (x ∷ rest) is = by (eqb x 0) refl is
  where
    none : (o : Option Checkpoint) → is_closed (counts_or_torn o) ≡ true → ⊥
    none None is = cc
    none (Some y) is = cc

    by : (t : Bool) → eqb x 0 ≡ t → is_closed (cond t Closed (counts_or_torn (slot_of odd (x ∷ rest)))) ≡ true → IsShut (x ∷ rest)
    by true zero_is is = record { rest = rest; are = ap (λ (b : ℕ). b ∷ rest) (eqb-true x 0 zero_is) }
    by false other is = absurd (none (slot_of odd (x ∷ rest)) is)

not_closed : (odd : Bool) (bytes : List ℕ) (present : Option Checkpoint) → is_closed (slot_gate odd bytes) ≡ false → Beside odd bytes present → Old odd bytes present
not_closed odd bytes present is (inl s) =
    let clash : true ≡ false = sym (ap (λ (l : List ℕ). is_closed (slot_gate odd l)) s.are) ∙ is in
    absurd cc
not_closed odd bytes present is (inr old) = old

cond_gate : (s : StoreState) (sure : Images) → Rests s sure → (odd : Bool) → cond odd s.odd s.even ≡ slot_gate odd (slot_image odd sure)
cond_gate s sure rests false = rests.even
cond_gate s sure rests true = rests.odd

module _ (s : StoreState) (a : Aim) (sure : Images) (rests : Rests s sure) (w : LogTorn sure a.kept a.stake) (calm : s.torn ≡ false) (snapshot : List ℕ) (short : IsEntry snapshot) (few : s.generation < greatest) where
  abbrev b : Bool
  b = side_of a.kept.present

  abbrev next : Checkpoint
  next = record { generation = generation_of a.kept.present + 1; snapshot = snapshot }

  abbrev aim : Aim
  aim = record { kept = a.kept; stake = a.kept; gated = a.kept; then = a.kept; next = next }

  generation_is : s.generation ≡ generation_of a.kept.present
  generation_is = rests.generation ∙ ap generation_of (wire_present sure a.kept a.stake (inl w))

  is_for : IsFor (not b) next
  is_for = record { fits = record { some = omega arith; spelled = record { number = omega (arith, few, generation_is); small = short } }; uses = odd_next (generation_of a.kept.present) }

  beyond : generation_of a.kept.present < next.generation
  beyond = omega arith

  here : log_image (side_of (present_in sure)) sure ≡ log_image b sure
  here = ap (λ (o : Option Checkpoint). log_image (side_of o) sure) (wire_present sure a.kept a.stake (inl w))

  ends : Ends (log_image b sure) w.own w.own
  ends = wire_ends (log_image b sure) w.own w.own_other w.log (ap log_torn (sym here) ∙ sym rests.torn ∙ calm)

  calm_now : LogTorn sure a.kept a.kept
  calm_now = record {
    present = w.present;
    beside = w.beside;
    own = w.own;
    own_other = w.own;
    log = (w.log.0, inl ends);
    entries = w.entries;
    is = λ i. record { present = a.kept.present; entries = w.entries i };
  }

  -- the calls from the fill on
  abbrev fill_on : List StoreCall
  fill_on = calls_on (Slot (not b)) (fill_calls (checkpoint_text next)) ++ (On (Log (not b)) (Cut 0) ∷ (WriteTail ∷ (On (Log (not b)) Sync ∷ calls_on (Slot (not b)) gate_calls)))

  abbrev on_way : Devices → List StoreCall → StoreState
  on_way d calls = with_job calls (Switches 0 0) [] s.waiting None (placed d a.kept false s.end s)

  filled : (now : Images) (rest : List ℕ) → log_image b now ≡ log_bytes w.own ++ 0 ∷ ends.tail → Present b (slot_image b now) a.kept.present → slot_image (not b) now ≡ 0 ∷ rest → cond b s.odd s.even ≡ slot_gate b (slot_image b now)
      → Runs StoreNext OwnRests fill_on (on_way (all_settled now) fill_on) aim
  filled now rest log present shut gate = (
    switch0 now a.kept w.own ends.tail w.log.0 log present w.entries rest shut next is_for beyond,
    λ t0 u0. (
      fill_fits now a.kept w.own ends.tail w.log.0 log present w.entries rest shut next is_for beyond,
      (
        switch1 now a.kept w.own ends.tail w.log.0 log present w.entries rest shut next is_for beyond,
        λ t1 u1. (
          tt,
          (
            switch2 now a.kept w.own ends.tail w.log.0 log present w.entries rest shut next is_for beyond,
            λ t2 u2. (
              tt,
              (
                switch3 now a.kept w.own ends.tail w.log.0 log present w.entries rest shut next is_for beyond,
                λ tail fits. (
                  tail_fits now a.kept w.own ends.tail w.log.0 log present w.entries rest shut next is_for beyond tail.entries fits,
                  (
                    switch4 now a.kept w.own ends.tail w.log.0 log present w.entries rest shut next is_for beyond tail.entries fits,
                    λ t4 u4. (
                      tt,
                      (
                        switch5 now a.kept w.own ends.tail w.log.0 log present w.entries rest shut next is_for beyond tail.entries fits,
                        λ t5 u5. (
                          gate_fits now a.kept w.own ends.tail w.log.0 log present w.entries rest shut next is_for beyond tail.entries fits,
                          (
                            switch6 now a.kept w.own ends.tail w.log.0 log present w.entries rest shut next is_for beyond tail.entries fits,
                            λ t6 u6. (
                              tt,
                              (
                                switched next tail.entries,
                                switch7 now a.kept w.own ends.tail w.log.0 log present w.entries rest shut next is_for beyond tail.entries fits _ s.even s.odd gate refl refl refl refl refl refl,
                              ),
                            ),
                          ),
                        ),
                      ),
                    ),
                  ),
                ),
              ),
            ),
          ),
        ),
      ),
    ),
  )

  abbrev calls : Bool → List StoreCall
  calls closed = cond closed [] (calls_on (Slot (not b)) close_calls) ++ fill_on

  gate_is : (odd : Bool) → slot_gate_of odd (placed (all_settled sure) a.kept false s.end s) ≡ slot_gate odd (slot_image odd sure)
  gate_is false = rests.even
  gate_is true = rests.odd

  from_closed : IsShut (slot_image (not b) sure) → Runs StoreNext OwnRests fill_on (on_way (all_settled sure) fill_on) aim
  from_closed shut = filled sure shut.rest ends.are w.present shut.are (cond_gate s sure rests b)

  from_open : Old (not b) (slot_image (not b) sure) a.kept.present → StandsBy StoreNext OwnRests (calls false) (on_way (all_settled sure) (calls false)) aim
  from_open old = (
    old_leaves0 sure a.kept a.kept calm_now old,
    λ t0 u0. (
      close_fits sure a.kept,
      (
        old_leaves1 sure a.kept a.kept calm_now old,
        λ t1 u1. (
          tt,
          subst (λ (d : Devices). Runs StoreNext OwnRests fill_on (on_way d fill_on) aim) (sym (devices_are (g2 sure a.kept) (after sure a.kept) (logs2 sure a.kept) (slots2 sure a.kept)))
              (filled (after sure a.kept) (drop 1 (slot_image (not b) sure)) (after_log sure a.kept b ∙ ends.are) (subst (λ (l : List ℕ). Present b l a.kept.present) (sym (after_slot sure a.kept)) w.present) (after_new_slot sure a.kept)
              (cond_gate s sure rests b ∙ ap (slot_gate b) (sym (after_slot sure a.kept)))),
        ),
      ),
    ),
  )

  pub switch_own : IsOwn (begins (Switch snapshot) s) (aim_begins (Switch snapshot) s a)
  switch_own =
      let q = placed (all_settled sure) a.kept false s.end s in
      let same = placed_is (all_settled sure) a.kept false s.end s rests.settled generation_is calm refl in
      subst (λ (x : StoreState). IsOwn (begins (Switch snapshot) x) (aim_begins (Switch snapshot) x a)) same (by (is_closed (slot_gate_of (not b) (placed (all_settled sure) a.kept false s.end s))) refl)
    where
      by : (t : Bool) → is_closed (slot_gate_of (not b) (placed (all_settled sure) a.kept false s.end s)) ≡ t → StandsBy StoreNext OwnRests (calls t) (on_way (all_settled sure) (calls t)) aim
      by true is = from_closed (closed_gate (not b) (slot_image (not b) sure) (ap is_closed (sym (gate_is (not b))) ∙ is))
      by false is = from_open (not_closed (not b) (slot_image (not b) sure) a.kept.present (ap is_closed (sym (gate_is (not b))) ∙ is) w.beside)
