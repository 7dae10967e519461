-- What is at stake at the end of a job of an own store: nothing but what is kept, or what was at stake before.
use Rattle.std.proofs.Common.{◌≡◌, ◌⊎◌, inl, inr, ℕ, suc, ◌+◌, nat_lt, Bool, true, false, not, cond, List, [], ◌∷◌, ◌++◌, length, drop, Option, Some, None, refl, sym, ◌∙◌, ap, subst}
use Rattle.disk_model.specs.Cells.{Cells}
use Rattle.disk_model.specs.DeviceCalls.{made}
use Rattle.disk_model.specs.declared.call.DeviceCall.{DeviceCall}
use Rattle.store_form.specs.Spelling.{Group, checkpoint_text}
use Rattle.store_form.specs.declared.checkpoint.Checkpoint.{Checkpoint}
use Rattle.batch_log.specs.Log.{log_bytes, restored}
use Rattle.batch_log.specs.Exact.{end_opened}
use Rattle.batch_log.specs.Wires.{Wire}
use Rattle.batch_log.proofs.Lives.{wire_restores}
use Rattle.checkpoint_store.specs.Slots.{is_odd, generation_of}
use Rattle.checkpoint_store.proofs.SlotBytes.{shut}
use Rattle.store_laws.specs.Restored.{Images, log_image, slot_image, side_of, entries_of, slot_gate, log_torn, opened_at}
use Rattle.store_laws.specs.States.{Devices, StoreState, side, slot_gate_of, is_torn, greatest, log_at, Begun, NoJob, Close, Repair, Switch, of_group, of_asked, group_of, due_job, begins, begun, some, advanced, closes, ends, job_called, store_called, switch_calls, given, asked}
use Rattle.store_laws.specs.Lives.{Present, LogTorn, StoreWire, StoreNext}
use Rattle.store_laws.specs.Stands.{Aim, at_rest, OwnRests, StandsBy, IsOwn, aim_called, aim_after, aim_begins}
use Rattle.store_laws.specs.Runs.{aim_begun, aim_first, aim_then}
use Rattle.store_laws.specs.Stakes.{log_brings, present_log, SlotsCalm, ClosesSlot, StakesBy, StakesIn, Stakes, LeftBy}
use Rattle.store_laws.specs.declared.job.Kept.{Kept}
use Rattle.store_laws.specs.declared.job.Tail.{Tail}
use Rattle.store_laws.specs.declared.job.Gate.{Gate}
use Rattle.store_laws.specs.declared.job.Gate.TheVariants.{Absent, Closed, Torn, Open}
use Rattle.store_laws.specs.declared.job.Device.{Device}
use Rattle.store_laws.specs.declared.job.Device.TheVariants.{Log, Slot}
use Rattle.store_laws.specs.declared.job.Ending.{Ending}
use Rattle.store_laws.specs.declared.job.Ending.TheVariants.{Closes, Repairs, Adds, Switches}
use Rattle.store_laws.specs.declared.job.StoreCall.{StoreCall}
use Rattle.store_laws.specs.declared.job.StoreCall.TheVariants.{On, WriteTail}
use Rattle.store_laws.proofs.Roles.{slot_log, log_settled}
use Rattle.store_laws.proofs.Restores.{gate_torn, wire_present}
use Rattle.store_laws.proofs.Calm.{closed_is, wire_calm}
use Rattle.store_laws.proofs.Closes.{wire_torn}
use Rattle.store_laws.proofs.Goes.{own_calm}
use Rattle.store_laws.proofs.Given.{no_calls}
use Rattle.store_laws.proofs.Any.{behind, front_of}
use Rattle.store_laws.proofs.Begins.{sides}

-- ---- a store at rest

present_of : (images : Images) (kept other : Kept) → StoreWire images kept other → Present (side_of kept.present) (slot_image (side_of kept.present) images) kept.present
present_of images kept other (inl w) = w.present
present_of images kept other (inr t) = t.held.present

gate_at : (odd : Bool) (s : StoreState) (kept other : Kept) (r : OwnRests s kept other) → slot_gate_of odd s ≡ slot_gate odd (slot_image odd r.images)
gate_at false s kept other r = r.rests.even
gate_at true s kept other r = r.rests.odd

-- the present side is that of the checkpoint that is kept
side_at : (s : StoreState) (kept other : Kept) → OwnRests s kept other → side s ≡ side_of kept.present
side_at s kept other r = ap is_odd (r.rests.generation ∙ ap generation_of (wire_present r.images kept other r.wire))

torn_gate : (gate : Gate) → is_torn gate ≡ true → gate ≡ Torn
torn_gate Absent is = absurd cc
torn_gate Closed is = absurd cc
torn_gate Torn is = refl
torn_gate Open is = absurd cc

-- a torn gate of a slot is that of the generations that are not present
beside_torn : (odd : Bool) (s : StoreState) (kept other : Kept) → OwnRests s kept other → is_torn (slot_gate_of odd s) ≡ true → odd ≡ not (side s)
beside_torn odd s kept other r torn = by (sides odd (side_of kept.present))
  where
    by : (odd ≡ side_of kept.present) ⊎ (odd ≡ not (side_of kept.present)) → odd ≡ not (side s)
    by (inl is) =
        let here : is_torn (slot_gate_of (side_of kept.present) s) ≡ true = subst (λ (x : Bool). is_torn (slot_gate_of x s) ≡ true) is torn in
        absurd ((present_of r.images kept other r.wire).calm (sym (gate_at (side_of kept.present) s kept other r) ∙ torn_gate (slot_gate_of (side_of kept.present) s) here))
    by (inr is) = is ∙ ap not (sym (side_at s kept other r))

-- the bytes of the present log are those of its device
log_here : (s : StoreState) (kept other : Kept) (r : OwnRests s kept other) → present_log s ≡ log_image (side_of kept.present) r.images
log_here s kept other r =
    ap (λ (d : Devices). (log_at (side s) d).now) r.rests.settled
    ∙ ap (λ (c : Cells). c.now) (log_settled r.images (side s))
    ∙ ap (λ (b : Bool). log_image b r.images) (side_at s kept other r)

torn_here : (s : StoreState) (kept other : Kept) (r : OwnRests s kept other) → log_torn (log_image (side_of kept.present) r.images) ≡ s.torn
torn_here s kept other r =
    ap (λ (o : Option Checkpoint). log_torn (log_image (side_of o) r.images)) (sym (wire_present r.images kept other r.wire)) ∙ sym r.rests.torn

opened_here : (bytes : List ℕ) (own other : List Group) → Wire bytes own other → log_torn bytes ≡ true → other ≡ restored (opened_at (end_opened bytes) bytes)
opened_here bytes own other wire torn =
    let parts = wire_torn bytes own other wire torn in
    let end : end_opened bytes ≡ length (log_bytes own) = ap (λ (l : List Group). length (log_bytes l)) (wire_restores bytes own other wire) in
    let opened : opened_at (end_opened bytes) bytes ≡ log_bytes own ++ 1 ∷ drop 1 parts.0 =
    ap (λ (n : ℕ). opened_at n bytes) end
    ∙ ap (λ (l : List ℕ). opened_at (length (log_bytes own)) l) parts.1.0
    ∙ ap (λ (l : List ℕ). l ++ 1 ∷ drop (suc (length (log_bytes own))) (log_bytes own ++ parts.0)) (front_of (log_bytes own) parts.0)
    ∙ ap (λ (l : List ℕ). log_bytes own ++ 1 ∷ l) (behind (log_bytes own) parts.0) in
    parts.1.1.is ∙ ap restored (sym opened)

-- what the torn gate of the present log brings back is at stake
torn_brings : (s : StoreState) (kept other : Kept) → OwnRests s kept other → s.torn ≡ true → other ≡ log_brings s kept
torn_brings s kept other r torn = by r.wire
  where
    there : log_torn (log_image (side_of kept.present) r.images) ≡ true
    there = torn_here s kept other r ∙ torn

    by : StoreWire r.images kept other → other ≡ log_brings s kept
    by (inl w) =
        let groups : w.own_other ≡ restored (opened_at (end_opened (present_log s)) (present_log s)) =
        opened_here (log_image (side_of kept.present) r.images) w.own w.own_other w.log there ∙ ap (λ (l : List ℕ). restored (opened_at (end_opened l) l)) (sym (log_here s kept other r)) in
        w.is ∙ ap (λ (gs : List Group). record { present = kept.present; entries = entries_of gs }) groups
    by (inr t) =
        let clash : true ≡ false = sym there ∙ ap log_torn t.held.log.are ∙ closed_is t.held.own t.held.log.tail t.held.fit in
        absurd cc

-- ---- a job begins

switch_stakes : (odd : Bool) (gate : Gate) (text : List ℕ) (s : StoreState) (a : Aim) → s.ending ≡ Switches 0 0 → SlotsCalm s → StakesIn (switch_calls odd gate text) s a
switch_stakes odd Absent text s a is calm = subst (λ (e : Ending). StakesBy e (switch_calls odd Absent text) s a) (sym is) calm
switch_stakes odd Closed text s a is calm = subst (λ (e : Ending). StakesBy e (switch_calls odd Closed text) s a) (sym is) calm
switch_stakes odd Torn text s a is calm = subst (λ (e : Ending). StakesBy e (switch_calls odd Torn text) s a) (sym is) calm
switch_stakes odd Open text s a is calm = subst (λ (e : Ending). StakesBy e (switch_calls odd Open text) s a) (sym is) calm

module _ (stops : List ℕ → Bool) (s : StoreState) (a : Aim) (idle : s.running ≡ []) (r : OwnRests s a.kept a.stake) where
  abbrev Begins : Begun → Type 0
  Begins job = Stakes (begins job s) (aim_begins job s a)

  none : Begins NoJob
  none = subst (λ (calls : List StoreCall). StakesIn calls s a) (sym idle) tt

  closes_slot : (odd : Bool) → is_torn (slot_gate_of odd s) ≡ true → ClosesSlot odd (begins (Close odd) s).running (begins (Close odd) s) (aim_begins (Close odd) s a)
  closes_slot odd torn = record {
    on_slots = tt;
    beside = beside_torn odd s a.kept a.stake r torn;
    then_is = refl;
    gated_is = refl;
    brings = λ is. torn_brings s a.kept a.stake r is;
  }

  close : (odd : Bool) → is_torn (slot_gate_of odd s) ≡ true → Begins (Close odd)
  close odd torn = closes_slot odd torn

  module _ (calm : SlotsCalm s) where
    group : (entries : List (List ℕ)) → Begins (of_group entries)
    group [] = none
    group (entry ∷ entries) = calm

    last : (o : Option (List ℕ)) → Begins (of_asked o (of_group (group_of stops s.waiting)))
    last None = group (group_of stops s.waiting)
    last (Some snapshot) =
        switch_stakes (not (side s)) (slot_gate_of (not (side s)) s) (checkpoint_text (record { generation = s.generation + 1; snapshot = snapshot })) (begins (Switch snapshot) s) (aim_begins (Switch snapshot) s a) refl calm

    repair_or : (torn : Bool) → Begins (cond torn Repair (of_asked (cond (nat_lt s.generation greatest) s.asked None) (of_group (group_of stops s.waiting))))
    repair_or true = calm
    repair_or false = last (cond (nat_lt s.generation greatest) s.asked None)

  choose : (even odd : Bool) → is_torn s.even ≡ even → is_torn s.odd ≡ odd
      → Begins (cond even (Close false) (cond odd (Close true) (cond s.torn Repair (of_asked (cond (nat_lt s.generation greatest) s.asked None) (of_group (group_of stops s.waiting))))))
  choose true odd even_is odd_is = close false even_is
  choose false true even_is odd_is = close true odd_is
  choose false false even_is odd_is = repair_or (even_is, odd_is) s.torn

  pub stakes_begin : Begins (due_job stops s)
  stakes_begin = choose (is_torn s.even) (is_torn s.odd) refl refl

pub stakes_begins : (stops : List ℕ → Bool) (s : StoreState) (a : Aim) → s.running ≡ [] → IsOwn s a → Stakes (begins (due_job stops s) s) (aim_begins (due_job stops s) s a)
stakes_begins stops s a idle own = stakes_begin stops s a idle (subst (λ (calls : List StoreCall). StandsBy StoreNext OwnRests calls s a) idle own)

-- ---- the job goes on

-- a call on a slot leaves the logs
same_brings : (tail : Tail) (odd : Bool) (call : DeviceCall) (left : List StoreCall) (s : StoreState) (kept : Kept) → log_brings s kept ≡ log_brings (advanced tail (On (Slot odd) call) left s) kept
same_brings tail odd call left s kept =
    ap (λ (c : Cells). record { present = kept.present; entries = entries_of (restored (opened_at (end_opened c.now) c.now)) }) (sym (slot_log (made call) s.devices odd (side s)))

closes_more : (odd : Bool) (tail : Tail) (device : Device) (call : DeviceCall) (more : StoreCall) (left : List StoreCall) (s : StoreState) (a : Aim) → ClosesSlot odd (On device call ∷ (more ∷ left)) s a
    → ClosesSlot odd (more ∷ left) (advanced tail (On device call) (more ∷ left) s) (aim_called tail (On device call) (more ∷ left) a)
closes_more odd tail (Log x) call more left s a c = absurd c.on_slots
closes_more odd tail (Slot x) call more [] s a c = record {
  on_slots = c.on_slots;
  beside = c.beside;
  then_is = c.then_is;
  gated_is = refl;
  brings = λ torn. c.gated_is ∙ c.brings torn ∙ same_brings tail x call (more ∷ []) s a.kept;
}
closes_more odd tail (Slot x) call more (last ∷ left) s a c = record {
  on_slots = c.on_slots;
  beside = c.beside;
  then_is = c.then_is;
  gated_is = c.gated_is;
  brings = λ torn. c.brings torn ∙ same_brings tail x call (more ∷ (last ∷ left)) s a.kept;
}

call_more : (e : Ending) (tail : Tail) (device : Device) (call : DeviceCall) (more : StoreCall) (left : List StoreCall) (s : StoreState) (a : Aim) → StakesBy e (On device call ∷ (more ∷ left)) s a
    → StakesBy e (more ∷ left) (advanced tail (On device call) (more ∷ left) s) (aim_called tail (On device call) (more ∷ left) a)
call_more (Closes odd) tail device call more left s a c = closes_more odd tail device call more left s a c
call_more Repairs tail device call more left s a c = c
call_more (Adds end) tail device call more left s a c = c
call_more (Switches end last) tail device call more left s a c = c

-- the tail is written by no job that closes the gate of a slot
tail_calm : (e : Ending) (left : List StoreCall) (s : StoreState) (a : Aim) → StakesBy e (WriteTail ∷ left) s a → SlotsCalm s
tail_calm (Closes odd) left s a c = absurd c.on_slots
tail_calm Repairs left s a c = c
tail_calm (Adds end) left s a c = c
tail_calm (Switches end last) left s a c = c

pub stakes_goes : (tail : Tail) (call more : StoreCall) (left : List StoreCall) (s : StoreState) (a : Aim) → StakesIn (call ∷ (more ∷ left)) s a
    → Stakes (job_called tail (call ∷ (more ∷ left)) s) (aim_called tail call (more ∷ left) a)
stakes_goes tail (On device call) more left s a c = call_more s.ending tail device call more left s a c
stakes_goes tail WriteTail more left s a c = tail_calm s.ending (more ∷ left) s a c

-- ---- the job ends

-- what is known of what is at stake before a job ends
abbrev EndBy : Ending → StoreState → Kept → Kept → Type 0
EndBy (Closes odd) q then stake = (odd ≡ not (side q)) × (q.torn ≡ true → stake ≡ log_brings q then)
EndBy Repairs q then stake = SlotsCalm q
EndBy (Adds end) q then stake = SlotsCalm q
EndBy (Switches end last) q then stake = SlotsCalm q

-- nothing but what is kept, or what was at stake before
abbrev Left : StoreState → Kept → Kept → Kept → Type 0
Left q then stake other = (other ≡ then) ⊎ ((q.torn ≡ true) × (other ≡ stake))

closed_now : (odd : Bool) (q : StoreState) → slot_gate_of odd (closes odd q) ≡ Closed
closed_now true q = refl
closed_now false q = refl

-- the gate that was closed brings nothing back
closed_alone : (odd : Bool) (q : StoreState) (kept other : Kept) (r : OwnRests (closes odd q) kept other) → odd ≡ not (side_of kept.present) → LogTorn r.images kept other
closed_alone odd q kept other r beside = by r.wire
  where
    by : StoreWire r.images kept other → LogTorn r.images kept other
    by (inl w) = w
    by (inr t) =
        let torn : slot_gate (not (side_of kept.present)) (slot_image (not (side_of kept.present)) r.images) ≡ Torn =
        ap (slot_gate (not (side_of kept.present))) t.held.are
        ∙ gate_torn (not (side_of kept.present)) t.held.gate (checkpoint_text t.held.next ++ t.held.rest) t.torn.0 (shut (not (side_of kept.present)) t.held.gate (checkpoint_text t.held.next ++ t.held.rest) t.torn.1) in
        let there : slot_gate odd (slot_image odd r.images) ≡ Torn = subst (λ (x : Bool). slot_gate x (slot_image x r.images) ≡ Torn) (sym beside) torn in
        let clash : Closed ≡ Torn = sym (closed_now odd q) ∙ gate_at odd (closes odd q) kept other r ∙ there in
        absurd cc

closes_left : (odd : Bool) (q : StoreState) (kept stake other : Kept) → odd ≡ not (side q) → (q.torn ≡ true → stake ≡ log_brings q kept) → OwnRests (closes odd q) kept other → Left q kept stake other
closes_left odd q kept stake other beside brings r = by q.torn refl
  where
    by : (t : Bool) → q.torn ≡ t → Left q kept stake other
    by true torn = inr (torn, torn_brings (closes odd q) kept other r torn ∙ sym (brings torn))
    by false calm =
        let w = closed_alone odd q kept other r (beside ∙ ap not (side_at (closes odd q) kept other r)) in
        let same : w.own_other ≡ w.own = wire_calm (log_image (side_of kept.present) r.images) w.own w.own_other w.log (torn_here (closes odd q) kept other r ∙ calm) in
        let entries : entries_of w.own_other ≡ kept.entries = ap entries_of same ∙ sym w.entries in
        inl (w.is ∙ λ i. record { present = kept.present; entries = entries i })

calm_or_open : (t : Bool) (gate : Gate) → is_torn gate ≡ false → (is_torn (cond t Open gate) ≡ false) × (is_torn (cond t gate Open) ≡ false)
calm_or_open true gate calm = (refl, calm)
calm_or_open false gate calm = (calm, refl)

ends_left : (e : Ending) (q : StoreState) (then stake other : Kept) (next : Checkpoint) → EndBy e q then stake → IsOwn (ends e q) (at_rest then other next) → Left q then stake other
ends_left (Closes odd) q then stake other next c own = closes_left odd q then stake other c.0 c.1 own
ends_left Repairs q then stake other next c own = inl (own_calm (ends Repairs q) then other own c.0 c.1 refl)
ends_left (Adds end) q then stake other next c own = inl (own_calm (ends (Adds end) q) then other own c.0 c.1 refl)
ends_left (Switches end last) q then stake other next c own = inl (own_calm (ends (Switches end last) q) then other own (calm_or_open (side q) q.even c.0).0 (calm_or_open (side q) q.odd c.1).1 refl)

last_by : (e : Ending) (tail : Tail) (device : Device) (call : DeviceCall) (s : StoreState) (a : Aim) → StakesBy e (On device call ∷ []) s a → EndBy e (advanced tail (On device call) [] s) a.then a.stake
last_by (Closes odd) tail (Log x) call s a c = absurd c.on_slots
last_by (Closes odd) tail (Slot x) call s a c = (c.beside, λ torn. c.brings torn ∙ ap (log_brings s) (sym c.then_is) ∙ same_brings tail x call [] s a.then)
last_by Repairs tail device call s a c = c
last_by (Adds end) tail device call s a c = c
last_by (Switches end last) tail device call s a c = c

pub stakes_ends : (tail : Tail) (call : StoreCall) (s : StoreState) (a : Aim) (other : Kept) → StakesIn (call ∷ []) s a → IsOwn (job_called tail (call ∷ []) s) (aim_after [] other (aim_called tail call [] a))
    → (other ≡ (aim_called tail call [] a).then) ⊎ ((s.torn ≡ true) × (other ≡ a.stake))
stakes_ends tail (On device call) s a other c own = ends_left s.ending (advanced tail (On device call) [] s) a.then a.stake other a.next (last_by s.ending tail device call s a c) own
stakes_ends tail WriteTail s a other c own =
    ends_left (advanced tail WriteTail [] s).ending (advanced tail WriteTail [] s) (aim_called tail WriteTail [] a).then a.stake other a.next (tail_calm s.ending [] s a c) own

-- ---- the next device call of a store

rest_stakes : (e : Ending) (q : StoreState) (b : Aim) → Stakes (ends e q) b
rest_stakes (Closes odd) q b = tt
rest_stakes Repairs q b = tt
rest_stakes (Adds end) q b = tt
rest_stakes (Switches end last) q b = tt

job_stakes : (calls : List StoreCall) (tail : Tail) (s : StoreState) (a : Aim) (other : Kept) → s.running ≡ calls → StakesIn calls s a → IsOwn (job_called tail calls s) (aim_first tail calls other a)
    → Stakes (job_called tail calls s) (aim_first tail calls other a) × LeftBy calls s.torn a.stake (aim_first tail calls other a)
job_stakes [] tail s a other is c own = (subst (λ (calls : List StoreCall). StakesIn calls s a) (sym is) tt, tt)
job_stakes (call ∷ []) tail s a other is c own = (rest_stakes (advanced tail call [] s).ending (advanced tail call [] s) (aim_first tail (call ∷ []) other a), stakes_ends tail call s a other c own)
job_stakes (call ∷ (more ∷ left)) tail s a other is c own = (stakes_goes tail call more left s a c, tt)

pub stakes_called : (stops : List ℕ → Bool) (tail : Tail) (other : Kept) (s : StoreState) (a : Aim) → IsOwn s a → Stakes s a → IsOwn (store_called stops tail s) (aim_then stops tail other s a)
    → Stakes (store_called stops tail s) (aim_then stops tail other s a) × LeftBy (begun stops s).running (begun stops s).torn (aim_begun stops s a).stake (aim_then stops tail other s a)
stakes_called stops tail other s a own stakes own_then = by (some s.running) refl own_then
  where
    by : (t : Bool) → some s.running ≡ t
        → IsOwn (job_called tail (cond t s (begins (due_job stops s) s)).running (cond t s (begins (due_job stops s) s)))
        (aim_first tail (cond t s (begins (due_job stops s) s)).running other (cond t a (aim_begins (due_job stops s) s a)))
        → Stakes (job_called tail (cond t s (begins (due_job stops s) s)).running (cond t s (begins (due_job stops s) s)))
        (aim_first tail (cond t s (begins (due_job stops s) s)).running other (cond t a (aim_begins (due_job stops s) s a)))
        × LeftBy (cond t s (begins (due_job stops s) s)).running (cond t s (begins (due_job stops s) s)).torn (cond t a (aim_begins (due_job stops s) s a)).stake
        (aim_first tail (cond t s (begins (due_job stops s) s)).running other (cond t a (aim_begins (due_job stops s) s a)))
    by true is after = job_stakes s.running tail s a other refl stakes after
    by false is after =
        let m = begins (due_job stops s) s in
        job_stakes m.running tail m (aim_begins (due_job stops s) s a) other refl (stakes_begins stops s a (no_calls s.running is) own) after

-- ---- what is given

waits_by : (e : Ending) (calls : List StoreCall) (s : StoreState) (a : Aim) (entries : List (List ℕ)) → StakesBy e calls s a → StakesBy e calls (given entries s) a
waits_by (Closes odd) calls s a entries c = record { on_slots = c.on_slots; beside = c.beside; then_is = c.then_is; gated_is = c.gated_is; brings = c.brings }
waits_by Repairs calls s a entries c = c
waits_by (Adds end) calls s a entries c = c
waits_by (Switches end last) calls s a entries c = c

pub stakes_given : (s : StoreState) (a : Aim) (entries : List (List ℕ)) → Stakes s a → Stakes (given entries s) a
stakes_given s a entries = by s.running
  where
    by : (calls : List StoreCall) → StakesIn calls s a → StakesIn calls (given entries s) a
    by [] c = tt
    by (call ∷ left) c = waits_by s.ending (call ∷ left) s a entries c

asks_by : (e : Ending) (calls : List StoreCall) (s : StoreState) (a : Aim) (snapshot : List ℕ) → StakesBy e calls s a → StakesBy e calls (asked snapshot s) a
asks_by (Closes odd) calls s a snapshot c = record { on_slots = c.on_slots; beside = c.beside; then_is = c.then_is; gated_is = c.gated_is; brings = c.brings }
asks_by Repairs calls s a snapshot c = c
asks_by (Adds end) calls s a snapshot c = c
asks_by (Switches end last) calls s a snapshot c = c

pub stakes_asked : (s : StoreState) (a : Aim) (snapshot : List ℕ) → Stakes s a → Stakes (asked snapshot s) a
stakes_asked s a snapshot = by s.running
  where
    by : (calls : List StoreCall) → StakesIn calls s a → StakesIn calls (asked snapshot s) a
    by [] c = tt
    by (call ∷ left) c = asks_by s.ending (call ∷ left) s a snapshot c
