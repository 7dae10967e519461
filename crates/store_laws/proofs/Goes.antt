-- A store that only crashes of its own lives have changed stays one, call by call.
use Rattle.std.proofs.Common.{◌≡◌, ◌⊎◌, inl, inr, ℕ, ◌<◌, nat_lt, Bool, true, false, not, cond, List, [], ◌∷◌, ◌++◌, Option, Some, None, refl, sym, ◌∙◌, ap, subst, arith}
use Rattle.std.proofs.lemmas.Bool.Decides.{nat_tests}
use Rattle.disk_model.specs.DeviceCalls.{made, during}
use Rattle.disk_model.specs.declared.call.DeviceCall.{DeviceCall}
use Rattle.disk_model.specs.declared.call.DeviceCall.TheVariants.{Write, Cut, Sync}
use Rattle.store_form.specs.Spelling.{IsGroup, checkpoint_text}
use Rattle.store_form.specs.declared.checkpoint.Checkpoint.{Checkpoint}
use Rattle.store_laws.specs.Restored.{Images, log_image, slot_image, side_of, present_in, entries_of, slot_gate, log_torn}
use Rattle.store_laws.specs.States.{Devices, StoreState, greatest, slot_gate_of, is_torn, change, Begun, Close, Repair, of_group, of_asked, group_of, due_job, begins, device_of, call_of, advanced, ends, ended, job_called, MayLeave, devices_during, store_opened}
use Rattle.store_laws.specs.Lives.{LogTorn, StoreWire, StoreNext}
use Rattle.store_laws.specs.Stands.{Aim, at_rest, Leaves, Runs, StandsBy, Rests, OwnRests, IsOwn, aim_called, aim_after, aim_begins, HasSpelling}
use Rattle.store_laws.specs.declared.job.Kept.{Kept}
use Rattle.store_laws.specs.declared.job.Tail.{Tail}
use Rattle.store_laws.specs.declared.job.Gate.TheVariants.{Torn}
use Rattle.store_laws.specs.declared.job.Ending.{Ending}
use Rattle.store_laws.specs.declared.job.Ending.TheVariants.{Closes, Repairs, Adds, Switches}
use Rattle.store_laws.specs.declared.job.StoreCall.{StoreCall}
use Rattle.store_laws.specs.declared.job.Device.{Device}
use Rattle.store_laws.specs.declared.job.Device.TheVariants.{Log, Slot}
use Rattle.checkpoint_store.proofs.SlotBytes.{shut}
use Rattle.store_laws.proofs.Restores.{gate_torn, wire_present}
use Rattle.store_laws.proofs.Crashes.{rest_next}
use Rattle.store_laws.proofs.Calm.{wire_calm}
use Rattle.store_laws.proofs.Begins.{group_own, repair_own, close_own}
use Rattle.store_laws.proofs.SwitchBegins.{switch_own}

-- ---- a job begins

none_torn : (s : StoreState) → is_torn s.even ≡ false → is_torn s.odd ≡ false → (odd : Bool) → is_torn (slot_gate_of odd s) ≡ false
none_torn s even odd_is false = even
none_torn s even odd_is true = odd_is

gate_of : (s : StoreState) (sure : Images) → Rests s sure → (odd : Bool) → slot_gate_of odd s ≡ slot_gate odd (slot_image odd sure)
gate_of s sure rests false = rests.even
gate_of s sure rests true = rests.odd

-- where no slot has to be closed, no gate of a slot brings anything back
pub log_alone : (s : StoreState) (sure : Images) (kept other : Kept) → Rests s sure → is_torn s.even ≡ false → is_torn s.odd ≡ false → StoreWire sure kept other → LogTorn sure kept other
log_alone s sure kept other rests even odd_is (inl w) = w
log_alone s sure kept other rests even odd_is (inr t) =
    let odd = not (side_of kept.present) in
    let torn : slot_gate (not (side_of kept.present)) (slot_image (not (side_of kept.present)) sure) ≡ Torn =
    ap (slot_gate (not (side_of kept.present))) t.held.are
    ∙ gate_torn (not (side_of kept.present)) t.held.gate (checkpoint_text t.held.next ++ t.held.rest) t.torn.0 (shut (not (side_of kept.present)) t.held.gate (checkpoint_text t.held.next ++ t.held.rest) t.torn.1) in
    let is : true ≡ false = sym (ap is_torn (gate_of s sure rests (not (side_of kept.present)) ∙ torn)) ∙ none_torn s even odd_is (not (side_of kept.present)) in
    absurd cc

-- where no gate is torn, nothing else is at stake
pub own_calm : (s : StoreState) (kept other : Kept) → OwnRests s kept other → is_torn s.even ≡ false → is_torn s.odd ≡ false → s.torn ≡ false → other ≡ kept
own_calm s kept other r even odd_is torn =
    let w = log_alone s r.images kept other r.rests even odd_is r.wire in
    let here : log_image (side_of (present_in r.images)) r.images ≡ log_image (side_of kept.present) r.images = ap (λ (o : Option Checkpoint). log_image (side_of o) r.images) (wire_present r.images kept other r.wire) in
    let same : w.own_other ≡ w.own = wire_calm (log_image (side_of kept.present) r.images) w.own w.own_other w.log (ap log_torn (sym here) ∙ sym r.rests.torn ∙ torn) in
    let entries : entries_of w.own_other ≡ kept.entries = ap entries_of same ∙ sym w.entries in
    w.is ∙ λ i. record { present = kept.present; entries = entries i }

pub may_switch : (t : Bool) (asked : Option (List ℕ)) (snapshot : List ℕ) → cond t asked None ≡ Some snapshot → t ≡ true
may_switch true asked snapshot is = refl
may_switch false asked snapshot is = absurd cc

pub below : (m n : ℕ) → nat_lt m n ≡ true → m < n
below m n is = grind (arith, nat_tests)

abbrev pub due_by : Bool → Bool → Bool → Begun → Begun
due_by even odd torn rest = cond even (Close false) (cond odd (Close true) (cond torn Repair rest))

module _ (stops : List ℕ → Bool) (s : StoreState) (a : Aim) (rest : OwnRests s a.kept a.stake) (stands : IsOwn s a) where
  abbrev Goes : Begun → Type 0
  Goes job = HasSpelling job → IsOwn (begins job s) (aim_begins job s a)

  choose_last : (w : LogTorn rest.images a.kept a.stake) → s.torn ≡ false → (asked : Option (List ℕ)) → cond (nat_lt s.generation greatest) s.asked None ≡ asked → (group : List (List ℕ)) → Goes (of_asked asked (of_group group))
  choose_last w calm (Some snapshot) is group short = switch_own s a rest.images rest.rests w calm snapshot short (below s.generation greatest (may_switch (nat_lt s.generation greatest) s.asked snapshot is))
  choose_last w calm None is [] h = stands
  choose_last w calm None is (entry ∷ entries) fits = group_own s a rest.images rest.rests w calm (entry ∷ entries) fits

  choose : (even odd torn : Bool) → is_torn s.even ≡ even → is_torn s.odd ≡ odd → s.torn ≡ torn → Goes (due_by even odd torn (of_asked (cond (nat_lt s.generation greatest) s.asked None) (of_group (group_of stops s.waiting))))
  choose true odd torn even_is odd_is torn_is h = close_own s a rest.images rest.rests rest.wire false even_is
  choose false true torn even_is odd_is torn_is h = close_own s a rest.images rest.rests rest.wire true odd_is
  choose false false true even_is odd_is torn_is h = repair_own s a rest.images rest.rests (log_alone s rest.images a.kept a.stake rest.rests even_is odd_is rest.wire) torn_is
  choose false false false even_is odd_is torn_is h =
      choose_last (log_alone s rest.images a.kept a.stake rest.rests even_is odd_is rest.wire) torn_is (cond (nat_lt s.generation greatest) s.asked None) refl (group_of stops s.waiting) h

  begins_by : Goes (due_job stops s)
  begins_by = choose (is_torn s.even) (is_torn s.odd) s.torn refl refl refl

pub own_begins : (stops : List ℕ → Bool) (s : StoreState) (a : Aim) → s.running ≡ [] → IsOwn s a → HasSpelling (due_job stops s) → IsOwn (begins (due_job stops s) s) (aim_begins (due_job stops s) s a)
own_begins stops s a idle stands h = begins_by stops s a (subst (λ (calls : List StoreCall). StandsBy StoreNext OwnRests calls s a) idle stands) stands h

-- ---- the next call of a job

module _ (P : Images → Kept → Kept → Type 0) (R : StoreState → Kept → Kept → Type 0) where
  ends_at : (ending : Ending) (s : StoreState) (a : Aim) → R (ends ending s) a.kept a.stake → StandsBy P R (ends ending s).running (ends ending s) a
  ends_at (Closes odd) s a r = r
  ends_at Repairs s a r = r
  ends_at (Adds end) s a r = r
  ends_at (Switches end last) s a r = r

  pub goes : (s : StoreState) (a : Aim) (tail : Tail) (call : StoreCall) (left : List StoreCall) → IsGroup tail.entries → Runs P R (call ∷ left) s a
      → (other : Kept) × StandsBy P R (job_called tail (call ∷ left) s).running (job_called tail (call ∷ left) s) (aim_after left other (aim_called tail call left a))
  goes s a tail call [] fits runs =
      let end = (runs.1 tail fits).1 in
      (end.0, ends_at (advanced tail call [] s).ending (advanced tail call [] s) (at_rest (aim_called tail call [] a).then end.0 (aim_called tail call [] a).next) end.1)
  goes s a tail call (more ∷ left) fits runs = (a.kept, (runs.1 tail fits).1)

  -- what a crash after a call of a job may leave, and what the store stands for then
  abbrev pub After : Tail → StoreCall → List StoreCall → StoreState → Aim → Images → Type 0
  After tail call left s a images =
      (other : Kept)
      × (StandsBy P R (job_called tail (call ∷ left) s).running (job_called tail (call ∷ left) s) (aim_after left other (aim_called tail call left a))
      × P images (aim_after left other (aim_called tail call left a)).kept (aim_after left other (aim_called tail call left a)).stake)

  -- a crash during a sync leaves what one before it may leave
  pub sync_during : (s : StoreState) (a : Aim) (tail : Tail) (call : StoreCall) (left : List StoreCall) → call_of tail call ≡ Sync → Runs P R (call ∷ left) s a → (images : Images) → MayLeave (devices_during tail (call ∷ left) s) images
      → P images a.kept a.stake
  sync_during s a tail call left is runs images may =
      runs.0 images (subst (λ (d : Devices). MayLeave d images) (ap (λ (c : DeviceCall). change (during c) (device_of s call) s.devices) is ∙ same (device_of s call) s.devices) may)
    where
      same : (device : Device) (d : Devices) → change (during Sync) device d ≡ d
      same (Log true) d = refl
      same (Log false) d = refl
      same (Slot true) d = refl
      same (Slot false) d = refl

  -- a crash during a call leaves what one before it may leave, or one after it
  pub crash_during : (still : (s : StoreState) (kept other : Kept) → R s kept other → (images : Images) → MayLeave s.devices images → P images kept other)
      → (s : StoreState) (a : Aim) (tail : Tail) (call : StoreCall) (left : List StoreCall) → IsGroup tail.entries → Runs P R (call ∷ left) s a → (images : Images) → MayLeave (devices_during tail (call ∷ left) s) images
      → P images a.kept a.stake ⊎ After tail call left s a images
  crash_during still s a tail call left fits runs images may = by_call (call_of tail call) refl may
    where
      ends_devices : (ending : Ending) (q : StoreState) → (ends ending q).devices ≡ q.devices
      ends_devices (Closes odd) q = refl
      ends_devices Repairs q = refl
      ends_devices (Adds end) q = refl
      ends_devices (Switches end last) q = refl

      after : (left : List StoreCall) → Runs P R (call ∷ left) s a → MayLeave (advanced tail call left s).devices images → After tail call left s a images
      after [] r may =
          let end = (r.1 tail fits).1 in (
            end.0,
            (
              ends_at (advanced tail call [] s).ending (advanced tail call [] s) (at_rest (aim_called tail call [] a).then end.0 (aim_called tail call [] a).next) end.1,
              still (ended [] (advanced tail call [] s)) (aim_called tail call [] a).then end.0 end.1 images
                  (subst (λ (d : Devices). MayLeave d images) (sym (ends_devices (advanced tail call [] s).ending (advanced tail call [] s))) may),
            ),
          )
      after (more ∷ left) r may = (a.kept, ((r.1 tail fits).1, (r.1 tail fits).1.0 images may))

      by_call : (c : DeviceCall) → call_of tail call ≡ c → MayLeave (change (during (call_of tail call)) (device_of s call) s.devices) images → P images a.kept a.stake ⊎ After tail call left s a images
      by_call (Write at bytes) is may =
          inr (after left runs (subst (λ (c : DeviceCall). MayLeave (change (during c) (device_of s call) s.devices) images → MayLeave (change (made c) (device_of s call) s.devices) images) (sym is) (λ m. m) may))
      by_call (Cut to) is may =
          inr (after left runs (subst (λ (c : DeviceCall). MayLeave (change (during c) (device_of s call) s.devices) images → MayLeave (change (made c) (device_of s call) s.devices) images) (sym is) (λ m. m) may))
      by_call Sync is may = inl (sync_during s a tail call left is runs images may)

-- ---- what a crash leaves

pub own_still : (s : StoreState) (kept other : Kept) → OwnRests s kept other → (images : Images) → MayLeave s.devices images → StoreNext images kept other
own_still s kept other r = rest_next s.devices r.images kept other r.rests.settled r.wire

pub own_leaves : (s : StoreState) (a : Aim) → IsOwn s a → Leaves StoreNext s.devices a
own_leaves s a = by s.running
  where
    by : (calls : List StoreCall) → StandsBy StoreNext OwnRests calls s a → Leaves StoreNext s.devices a
    by [] r = own_still s a.kept a.stake r
    by (call ∷ left) runs = runs.0

pub own_opened : (images : Images) (kept other : Kept) (next : Checkpoint) → StoreWire images kept other → IsOwn (store_opened images) (at_rest kept other next)
own_opened images kept other next wire = record { images = images; rests = record { settled = refl; even = refl; odd = refl; generation = refl; torn = refl; end = refl }; wire = wire }
