-- A store over any bytes goes on. Where no gate is torn it is one that only crashes of its own lives have changed.
use Rattle.std.proofs.Common.{◌≡◌, ◌≢◌, inl, inr, ⊎_elim, ℕ, ◌+◌, ◌≤◌, ◌<◌, nat_lt, Bool, true, false, not, cond, List, [], ◌∷◌, ◌++◌, get_or, Option, Some, None, refl, sym, ◌∙◌, ap, subst, arith}
use Rattle.std.proofs.lemmas.Bool.{cases_eq}
use Rattle.std.proofs.lemmas.Bool.Decides.{nat_tests}
use Rattle.store_form.specs.Spelling.{Group, group_text, checkpoint_text}
use Rattle.store_form.specs.declared.checkpoint.Checkpoint.{Checkpoint}
use Rattle.batch_log.specs.Log.{log_bytes, AreGroups, first_group, restored}
use Rattle.batch_log.specs.Exact.{end_opened}
use Rattle.batch_log.specs.Wires.{Wire}
use Rattle.batch_log.proofs.Restored.{closed}
use Rattle.batch_log.proofs.Steps.{short}
use Rattle.batch_log.proofs.Lives.{wire_restores}
use Rattle.checkpoint_store.specs.Slots.{is_odd, slot_of, newer}
use Rattle.checkpoint_store.proofs.SlotBytes.{shut, alone}
use Rattle.checkpoint_store.proofs.Newest.{slot_own}
use Rattle.store_laws.specs.Restored.{Images, log_image, slot_image, side_of, present_in, restores, slot_gate, log_torn}
use Rattle.store_laws.specs.States.{StoreState, side, slot_gate_of, some, switch_calls, store_opened, greatest, is_torn, Begun, Switch, AddGroup, of_group, of_asked, group_of, due_job, begins, advanced, ended}
use Rattle.store_laws.specs.Lives.{IsOlder, Beside, LogTorn, StoreWire, StoreNext, Either}
use Rattle.store_laws.specs.Stands.{Aim, at_rest, Leaves, Runs, StandsBy, Rests, IsRead, AnyRests, OwnRests, StoreStands, aim_called, aim_begins, HasSpelling, instead}
use Rattle.store_laws.specs.declared.job.Kept.{Kept}
use Rattle.store_laws.specs.declared.job.Gate.{Gate}
use Rattle.store_laws.specs.declared.job.Gate.TheVariants.{Absent, Closed, Torn, Open}
use Rattle.store_laws.specs.declared.job.StoreCall.{StoreCall}
use Rattle.store_laws.proofs.Restores.{gate_torn, wire_present, store_restores, next_restores}
use Rattle.store_laws.proofs.Calm.{gate_is, not_false, calm_rests}
use Rattle.store_laws.proofs.Begins.{group_own}
use Rattle.store_laws.proofs.SwitchBegins.{switch_own}
use Rattle.store_laws.proofs.Goes.{below, may_switch, due_by, log_alone}
use Rattle.store_laws.proofs.Any.{any_still}
use Rattle.store_laws.proofs.AnyBegins.{first_close, next_close, then_repair}

-- ---- the newest of two slots

pub record HasNewest (images : Images) (present : Option Checkpoint) : Type 0 where
  pub has : slot_of (side_of present) (slot_image (side_of present) images) ≡ present
  pub older : IsOlder present (slot_of (not (side_of present)) (slot_image (not (side_of present)) images))

has_by : (images : Images) (odd : Bool) (present : Option Checkpoint) → side_of present ≡ odd → slot_of odd (slot_image odd images) ≡ present → IsOlder present (slot_of (not odd) (slot_image (not odd) images)) → HasNewest images present
has_by images odd present is has older = record {
  has = ap (λ (x : Bool). slot_of x (slot_image x images)) is ∙ has;
  older = subst (λ (x : Bool). IsOlder present (slot_of (not x) (slot_image (not x) images))) (sym is) older;
}

above : (m n : ℕ) → nat_lt m n ≡ true → m < n
above m n is = grind (arith, nat_tests)

under : (m n : ℕ) → nat_lt m n ≡ false → m ≢ n → n < m
under m n is differs =
    let le : n ≤ m = at_most m n is in
    omega (arith, le, differs)
  where
    at_most : (m n : ℕ) → nat_lt m n ≡ false → n ≤ m
    at_most m n is = grind (arith, nat_tests)

differ : (m n : ℕ) → is_odd m ≡ false → is_odd n ≡ true → m ≢ n
differ m n even odd same =
    let clash : false ≡ true = sym even ∙ ap is_odd same ∙ odd in
    cc

by_cases : (images : Images) (e o : Option Checkpoint) → slot_of false images.even_slot ≡ e → slot_of true images.odd_slot ≡ o → HasNewest images (newer e o)
by_cases images None None e_is o_is = has_by images false None refl e_is (subst (λ (x : Option Checkpoint). IsOlder None x) (sym o_is) tt)
by_cases images None (Some y) e_is o_is = has_by images true (Some y) (slot_own true images.odd_slot y o_is) o_is (subst (λ (x : Option Checkpoint). IsOlder (Some y) x) (sym e_is) tt)
by_cases images (Some x) None e_is o_is = has_by images false (Some x) (slot_own false images.even_slot x e_is) e_is (subst (λ (z : Option Checkpoint). IsOlder (Some x) z) (sym o_is) tt)
by_cases images (Some x) (Some y) e_is o_is = by (nat_lt x.generation y.generation) refl
  where
    by : (t : Bool) → nat_lt x.generation y.generation ≡ t → HasNewest images (cond t (Some y) (Some x))
    by true lt = has_by images true (Some y) (slot_own true images.odd_slot y o_is) o_is (subst (λ (z : Option Checkpoint). IsOlder (Some y) z) (sym e_is) (above x.generation y.generation lt))
    by false ge =
        has_by images false (Some x) (slot_own false images.even_slot x e_is) e_is
        (subst (λ (z : Option Checkpoint). IsOlder (Some x) z) (sym o_is) (under x.generation y.generation ge (differ x.generation y.generation (slot_own false images.even_slot x e_is) (slot_own true images.odd_slot y o_is))))

newest_has : (images : Images) → HasNewest images (present_in images)
newest_has images = by_cases images (slot_of false images.even_slot) (slot_of true images.odd_slot) refl refl

-- a slot without a torn gate
beside_of : (odd : Bool) (bytes : List ℕ) (present : Option Checkpoint) → slot_gate odd bytes ≢ Torn → IsOlder present (slot_of odd bytes) → Beside odd bytes present
beside_of odd [] present calm older = inr (record { was = None; older = tt; has = inl refl; by_gate = inl (alone odd) })
beside_of odd (x ∷ rest) present calm older =
    ⊎_elim (λ (zero_is : x ≡ 0). inl (record { rest = rest; are = ap (λ (b : ℕ). b ∷ rest) zero_is }))
    (λ (not_zero : x ≢ 0).
    ⊎_elim (λ (one : x ≡ 1). inr (record { was = slot_of odd (x ∷ rest); older = older; has = inr refl; by_gate = inr (ap (λ (b : ℕ). slot_of odd (b ∷ rest)) (sym one)) }))
    (λ (not_one : x ≢ 1). absurd (calm (gate_torn odd x rest not_zero (shut odd x rest not_one))))
    (cases_eq x 1))
    (cases_eq x 0)

-- ---- no gate is torn

gates : (s : StoreState) (images : Images) → Rests s images → is_torn s.even ≡ false → is_torn s.odd ≡ false → (odd : Bool) → slot_gate odd (slot_image odd images) ≢ Torn
gates s images rests even odd_is false is =
    let clash : true ≡ false = sym (ap is_torn (rests.even ∙ is)) ∙ even in
    cc
gates s images rests even odd_is true is =
    let clash : true ≡ false = sym (ap is_torn (rests.odd ∙ is)) ∙ odd_is in
    cc

closed_end : (bytes : List ℕ) → IsRead bytes → log_torn bytes ≡ false → (tail : List ℕ) × (bytes ≡ log_bytes (restored bytes) ++ 0 ∷ tail)
closed_end bytes read calm = by read.rest read.are (sym (gate_is (restored bytes) read.rest bytes refl read.are) ∙ not_false (get_or bytes (end_opened bytes) 1) calm)
  where
    by : (rest : List ℕ) → bytes ≡ log_bytes (restored bytes) ++ rest → get_or rest 0 1 ≡ 0 → (tail : List ℕ) × (bytes ≡ log_bytes (restored bytes) ++ 0 ∷ tail)
    by [] are gate = absurd (omega (arith, gate))
    by (x ∷ rest) are gate = (rest, are ∙ ap (λ (y : ℕ). log_bytes (restored bytes) ++ y ∷ rest) gate)

pub calm_own : (s : StoreState) (kept other : Kept) → AnyRests s kept other → is_torn s.even ≡ false → is_torn s.odd ≡ false → s.torn ≡ false → OwnRests s kept kept
calm_own s kept other r even odd_is torn =
    let b = side_of (present_in r.images) in
    let newest = newest_has r.images in
    let ends = closed_end (log_image (side_of (present_in r.images)) r.images) r.log (sym r.rests.torn ∙ torn) in
    let calm = gates s r.images r.rests even odd_is in
    subst (λ (k : Kept). OwnRests s k k) (sym r.kept_is)
    (calm_rests s r.images (restores r.images) (restored (log_image (side_of (present_in r.images)) r.images)) ends.0 r.log.fit ends.1
    (record { has = newest.has; calm = calm (side_of (present_in r.images)) })
    (beside_of (not (side_of (present_in r.images))) (slot_image (not (side_of (present_in r.images))) r.images) (present_in r.images) (calm (not (side_of (present_in r.images)))) newest.older) refl
    r.rests.settled r.rests.even r.rests.odd r.rests.generation torn r.rests.end)

-- ---- what is said of own lives is said of any bytes

read_of : (bytes : List ℕ) (own other : List Group) → Wire bytes own other → (rest : List ℕ) → bytes ≡ log_bytes own ++ rest → first_group rest ≡ None → IsRead bytes
read_of bytes own other wire rest are nothing =
    let has : restored bytes ≡ own = wire_restores bytes own other wire in
    record { rest = rest; are = are ∙ ap (λ (l : List Group). log_bytes l ++ rest) (sym has); fit = subst AreGroups (sym has) wire.0; nothing = nothing }

wire_read : (bytes : List ℕ) (own other : List Group) → Wire bytes own other → IsRead bytes
wire_read bytes own other (fit, inl e) = read_of bytes own other (fit, inl e) (0 ∷ e.tail) e.are (closed 0 e.tail (omega arith))
wire_read bytes own other (fit, inr (inl r)) = read_of bytes own other (fit, inr (inl r)) r.rest r.are (short r.rest r.short)
wire_read bytes own other (fit, inr (inr a)) = read_of bytes own other (fit, inr (inr a)) (a.gate ∷ (group_text a.group ++ 0 ∷ a.tail)) a.are (closed a.gate (group_text a.group ++ 0 ∷ a.tail) a.torn.1)

store_read : (images : Images) (kept other : Kept) → StoreWire images kept other → IsRead (log_image (side_of kept.present) images)
store_read images kept other (inl w) = wire_read (log_image (side_of kept.present) images) w.own w.own_other w.log
store_read images kept other (inr t) = wire_read (log_image (side_of kept.present) images) t.held.own t.held.own (t.held.fit, inl t.held.log)

pub own_any : (s : StoreState) (kept other : Kept) (r : OwnRests s kept other) → AnyRests s kept (instead s r.images)
own_any s kept other r = record {
  images = r.images;
  rests = r.rests;
  log = subst (λ (o : Option Checkpoint). IsRead (log_image (side_of o) r.images)) (sym (wire_present r.images kept other r.wire)) (store_read r.images kept other r.wire);
  kept_is = sym (store_restores r.images kept other r.wire);
  other_is = refl;
}

pub runs_any : (calls : List StoreCall) (s : StoreState) (a : Aim) → Runs StoreNext OwnRests calls s a → Runs Either AnyRests calls s a
runs_any [] s a r = (instead s r.1.images, own_any s a.then r.0 r.1)
runs_any (call ∷ left) s a r = (
  λ images may. next_restores images a.kept a.stake (r.0 images may),
  λ tail fits. ((r.1 tail fits).0, runs_any left (ended left (advanced tail call left s)) (aim_called tail call left a) (r.1 tail fits).1),
)

stands_any : (calls : List StoreCall) (s : StoreState) (a : Aim) → some calls ≡ true → StandsBy StoreNext OwnRests calls s a → StandsBy Either AnyRests calls s a
stands_any [] s a is own = absurd cc
stands_any (call ∷ left) s a is own = runs_any (call ∷ left) s a own

pub some_switch : (odd : Bool) (gate : Gate) (text : List ℕ) → some (switch_calls odd gate text) ≡ true
some_switch odd Absent text = refl
some_switch odd Closed text = refl
some_switch odd Torn text = refl
some_switch odd Open text = refl

-- ---- a job begins

module _ (stops : List ℕ → Bool) (s : StoreState) (a : Aim) (r : AnyRests s a.kept a.stake) (stands : StoreStands s a) where
  abbrev calm_aim : Aim
  calm_aim = at_rest a.kept a.kept a.next

  abbrev Goes : Begun → Type 0
  Goes job = HasSpelling job → StoreStands (begins job s) (aim_begins job s a)

  choose_last : (o : OwnRests s a.kept a.kept) → LogTorn o.images a.kept a.kept → s.torn ≡ false → (asked : Option (List ℕ)) → cond (nat_lt s.generation greatest) s.asked None ≡ asked → (group : List (List ℕ)) → Goes (of_asked asked (of_group group))
  choose_last o w torn (Some snapshot) is group small =
      stands_any (begins (Switch snapshot) s).running (begins (Switch snapshot) s) (aim_begins (Switch snapshot) s a)
      (some_switch (not (side s)) (slot_gate_of (not (side s)) s) (checkpoint_text (record { generation = s.generation + 1; snapshot = snapshot })))
      (switch_own s calm_aim o.images o.rests w torn snapshot small (below s.generation greatest (may_switch (nat_lt s.generation greatest) s.asked snapshot is)))
  choose_last o w torn None is [] h = stands
  choose_last o w torn None is (entry ∷ entries) fits =
      stands_any (begins (AddGroup (entry ∷ entries)) s).running (begins (AddGroup (entry ∷ entries)) s) (aim_begins (AddGroup (entry ∷ entries)) s a) refl (group_own s calm_aim o.images o.rests w torn (entry ∷ entries) fits)

  choose : (even odd torn : Bool) → is_torn s.even ≡ even → is_torn s.odd ≡ odd → s.torn ≡ torn → Goes (due_by even odd torn (of_asked (cond (nat_lt s.generation greatest) s.asked None) (of_group (group_of stops s.waiting))))
  choose true odd torn even_is odd_is torn_is h = first_close s a r even_is
  choose false true torn even_is odd_is torn_is h = next_close s a r even_is odd_is
  choose false false true even_is odd_is torn_is h = then_repair s a r even_is odd_is torn_is
  choose false false false even_is odd_is torn_is h =
      let o : OwnRests s a.kept a.kept = calm_own s a.kept a.stake r even_is odd_is torn_is in
      choose_last o (log_alone s o.images a.kept a.kept o.rests even_is odd_is o.wire) torn_is (cond (nat_lt s.generation greatest) s.asked None) refl (group_of stops s.waiting) h

  begins_by : Goes (due_job stops s)
  begins_by = choose (is_torn s.even) (is_torn s.odd) s.torn refl refl refl

pub any_begins : (stops : List ℕ → Bool) (s : StoreState) (a : Aim) → s.running ≡ [] → StoreStands s a → HasSpelling (due_job stops s) → StoreStands (begins (due_job stops s) s) (aim_begins (due_job stops s) s a)
any_begins stops s a idle stands h = begins_by stops s a (subst (λ (calls : List StoreCall). StandsBy Either AnyRests calls s a) idle stands) stands h

pub any_leaves : (s : StoreState) (a : Aim) → StoreStands s a → Leaves Either s.devices a
any_leaves s a = by s.running
  where
    by : (calls : List StoreCall) → StandsBy Either AnyRests calls s a → Leaves Either s.devices a
    by [] r = any_still s a.kept a.stake r
    by (call ∷ left) runs = runs.0

pub any_opened : (images : Images) (next : Checkpoint) → IsRead (log_image (side_of (present_in images)) images) → StoreStands (store_opened images) (at_rest (restores images) (instead (store_opened images) images) next)
any_opened images next read = record {
  images = images;
  rests = record { settled = refl; even = refl; odd = refl; generation = refl; torn = refl; end = refl };
  log = read;
  kept_is = refl;
  other_is = refl;
}
