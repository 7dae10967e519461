-- A store that is not asked to switch stays at generation 0, through each job, each call and each crash.
use Rattle.std.proofs.Common.{◌≡◌, inl, inr, ℕ, nat_lt, Bool, true, false, cond, List, [], ◌∷◌, ◌++◌, get_or, Option, None, refl, sym, ◌∙◌, ap, subst, arith}
use Rattle.disk_model.specs.Cells.{Cells, IsImage, settled}
use Rattle.disk_model.specs.declared.call.DeviceCall.{DeviceCall}
use Rattle.disk_model.proofs.Images.{image_settled}
use Rattle.store_form.specs.Spelling.{Group, group_text, IsGroup, payload}
use Rattle.store_form.specs.declared.checkpoint.Checkpoint.{Checkpoint}
use Rattle.batch_log.specs.Exact.{end_opened}
use Rattle.batch_log.specs.LogCalls.{body_text, repair_calls, group_calls}
use Rattle.batch_log.specs.Wires.{Wire}
use Rattle.batch_log.proofs.Lives.{wire_restores}
use Rattle.checkpoint_store.specs.Slots.{is_odd, newest, generation_of}
use Rattle.store_laws.specs.Restored.{Images, log_image, side_of, present_in, entries_of, slot_gate, log_torn}
use Rattle.store_laws.specs.States.{StoreState, greatest, is_torn, Begun, Close, Repair, of_group, of_asked, group_of, calls_on, repair_begins, group_begins, due_job, begins, begun, some, advanced, ends, job_called, store_called, MayLeave, store_opened, given}
use Rattle.store_laws.specs.Lives.{LogTorn, StoreNext}
use Rattle.store_laws.specs.Stands.{Aim, StandsBy, OwnRests, IsOwn, HasSpelling}
use Rattle.store_laws.specs.Unswitched.{never, OnLog, InTurn, IsUnswitched}
use Rattle.store_laws.specs.declared.job.Device.TheVariants.{Log, Slot}
use Rattle.store_laws.specs.declared.job.Kept.{Kept}
use Rattle.store_laws.specs.declared.job.Tail.{Tail}
use Rattle.store_laws.specs.declared.job.Ending.{Ending}
use Rattle.store_laws.specs.declared.job.Ending.TheVariants.{Closes, Repairs, Adds, Switches}
use Rattle.store_laws.specs.declared.job.StoreCall.{StoreCall}
use Rattle.store_laws.specs.declared.job.StoreCall.TheVariants.{On, WriteTail}
use Rattle.store_laws.proofs.Restores.{wire_present}
use Rattle.store_laws.proofs.Calm.{gate_is, not_false}
use Rattle.store_laws.proofs.Goes.{log_alone}
use Rattle.store_laws.proofs.Booked.{none_asked}

-- ---- a job begins

-- the job that applies is the repair, or the group of what waits
module _ (stops : List ℕ → Bool) (s : StoreState) (u : IsUnswitched s) (P : Begun → Type 0) (repair : s.torn ≡ true → P Repair) (group : s.torn ≡ false → P (of_group (group_of stops s.waiting))) where
  by_asked : s.torn ≡ false → P (of_asked (cond (nat_lt s.generation greatest) s.asked None) (of_group (group_of stops s.waiting)))
  by_asked calm =
      subst (λ (asked : Option (List ℕ)). P (of_asked asked (of_group (group_of stops s.waiting)))) (sym (none_asked (nat_lt s.generation greatest) s.asked u.asked)) (group calm)

  by_torn : (t : Bool) → s.torn ≡ t → P (cond t Repair (of_asked (cond (nat_lt s.generation greatest) s.asked None) (of_group (group_of stops s.waiting))))
  by_torn true is = repair is
  by_torn false is = by_asked is

  by_odd : P (cond (is_torn s.odd) (Close true) (cond s.torn Repair (of_asked (cond (nat_lt s.generation greatest) s.asked None) (of_group (group_of stops s.waiting)))))
  by_odd =
      subst (λ (t : Bool). P (cond t (Close true) (cond s.torn Repair (of_asked (cond (nat_lt s.generation greatest) s.asked None) (of_group (group_of stops s.waiting))))))
      (sym (ap is_torn u.odd)) (by_torn s.torn refl)

  pub due_unswitched : P (due_job stops s)
  due_unswitched =
      subst (λ (t : Bool). P (cond t (Close false) (cond (is_torn s.odd) (Close true) (cond s.torn Repair (of_asked (cond (nat_lt s.generation greatest) s.asked None) (of_group (group_of stops s.waiting)))))))
      (sym (ap is_torn u.even)) by_odd

module _ (s : StoreState) (u : IsUnswitched s) where
  repair_unswitched : s.torn ≡ true → IsUnswitched (repair_begins s)
  repair_unswitched torn = record {
    odd_log = u.odd_log;
    even_slot = u.even_slot;
    odd_slot = u.odd_slot;
    even = u.even;
    odd = u.odd;
    generation = u.generation;
    asked = u.asked;
    log = subst (λ (g : ℕ). OnLog (calls_on (Log (is_odd g)) (repair_calls s.end))) (sym u.generation) tt;
    turn = torn;
  }

  group_unswitched : s.torn ≡ false → (group : List (List ℕ)) → IsUnswitched (group_begins group s)
  group_unswitched calm group = record {
    odd_log = u.odd_log;
    even_slot = u.even_slot;
    odd_slot = u.odd_slot;
    even = u.even;
    odd = u.odd;
    generation = u.generation;
    asked = u.asked;
    log = subst (λ (g : ℕ). OnLog (calls_on (Log (is_odd g)) (group_calls s.end (body_text group)))) (sym u.generation) tt;
    turn = calm;
  }

  some_unswitched : s.torn ≡ false → (group : List (List ℕ)) → IsUnswitched (begins (of_group group) s)
  some_unswitched calm [] = u
  some_unswitched calm (entry ∷ entries) = group_unswitched calm (entry ∷ entries)

pub unswitched_begins : (stops : List ℕ → Bool) (s : StoreState) → IsUnswitched s → IsUnswitched (begins (due_job stops s) s)
unswitched_begins stops s u = due_unswitched stops s u (λ job. IsUnswitched (begins job s)) (repair_unswitched s u) (λ calm. some_unswitched s u calm (group_of stops s.waiting))

-- where no entry ends a group, all that waits is one
pub whole_group : (waiting : List (List ℕ)) → group_of never waiting ≡ waiting
whole_group [] = refl
whole_group (entry ∷ entries) = ap (λ (l : List (List ℕ)). entry ∷ l) (whole_group entries)

spells : (group : List (List ℕ)) → IsGroup group → HasSpelling (of_group group)
spells [] fits = tt
spells (entry ∷ entries) fits = fits

-- so the job that begins has a spelling, if what waits has one
pub unswitched_spells : (s : StoreState) → IsUnswitched s → IsGroup s.waiting → HasSpelling (due_job never s)
unswitched_spells s u fits =
    due_unswitched never s u (λ job. HasSpelling job) (λ torn. tt) (λ calm. spells (group_of never s.waiting) (subst (λ (l : List (List ℕ)). IsGroup l) (sym (whole_group s.waiting)) fits))

-- a tail of no entry has one, too
pub no_tail_fits : IsGroup []
unfolding payload
no_tail_fits = record { few = omega arith; each = tt; small = omega arith }

-- ---- the next call

end_unswitched : (ending : Ending) (s : StoreState) (tail : Tail) (call : DeviceCall) → IsUnswitched s → InTurn (On (Log false) call ∷ []) ending s.torn → IsUnswitched (ends ending (advanced tail (On (Log false) call) [] s))
end_unswitched (Closes odd) s tail call u turn = absurd turn
end_unswitched Repairs s tail call u turn = record { odd_log = u.odd_log; even_slot = u.even_slot; odd_slot = u.odd_slot; even = u.even; odd = u.odd; generation = u.generation; asked = u.asked; log = tt; turn = tt }
end_unswitched (Adds end) s tail call u turn = record { odd_log = u.odd_log; even_slot = u.even_slot; odd_slot = u.odd_slot; even = u.even; odd = u.odd; generation = u.generation; asked = u.asked; log = tt; turn = tt }
end_unswitched (Switches end last) s tail call u turn = absurd turn

turn_left : (ending : Ending) (torn : Bool) (call more : StoreCall) (left : List StoreCall) → InTurn (call ∷ more ∷ left) ending torn → InTurn (more ∷ left) ending torn
turn_left (Closes odd) torn call more left is = is
turn_left Repairs torn call more left is = is
turn_left (Adds end) torn call more left is = is
turn_left (Switches end last) torn call more left is = is

pub unswitched_goes : (tail : Tail) (calls : List StoreCall) (s : StoreState) → s.running ≡ calls → IsUnswitched s → IsUnswitched (job_called tail calls s)
unswitched_goes tail [] s is u = u
unswitched_goes tail (WriteTail ∷ left) s is u =
    let clash : OnLog (WriteTail ∷ left) = subst (λ (calls : List StoreCall). OnLog calls) is u.log in
    absurd clash
unswitched_goes tail (On (Slot odd) call ∷ left) s is u =
    let clash : OnLog (On (Slot odd) call ∷ left) = subst (λ (calls : List StoreCall). OnLog calls) is u.log in
    absurd clash
unswitched_goes tail (On (Log true) call ∷ left) s is u =
    let clash : OnLog (On (Log true) call ∷ left) = subst (λ (calls : List StoreCall). OnLog calls) is u.log in
    absurd clash
unswitched_goes tail (On (Log false) call ∷ []) s is u = end_unswitched s.ending s tail call u (subst (λ (calls : List StoreCall). InTurn calls s.ending s.torn) is u.turn)
unswitched_goes tail (On (Log false) call ∷ more ∷ left) s is u = record {
  odd_log = u.odd_log;
  even_slot = u.even_slot;
  odd_slot = u.odd_slot;
  even = u.even;
  odd = u.odd;
  generation = u.generation;
  asked = u.asked;
  log = subst (λ (calls : List StoreCall). OnLog calls) is u.log;
  turn = turn_left s.ending s.torn (On (Log false) call) more left (subst (λ (calls : List StoreCall). InTurn calls s.ending s.torn) is u.turn);
}

pub unswitched_begun : (stops : List ℕ → Bool) (s : StoreState) → IsUnswitched s → IsUnswitched (begun stops s)
unswitched_begun stops s u = by (some s.running)
  where
    by : (t : Bool) → IsUnswitched (cond t s (begins (due_job stops s) s))
    by true = u
    by false = unswitched_begins stops s u

pub unswitched_called : (stops : List ℕ → Bool) (tail : Tail) (s : StoreState) → IsUnswitched s → IsUnswitched (store_called stops tail s)
unswitched_called stops tail s u = unswitched_goes tail (begun stops s).running (begun stops s) refl (unswitched_begun stops s u)

-- ---- what is given, a store that is opened, and a crash

pub unswitched_given : (s : StoreState) (entries : List (List ℕ)) → IsUnswitched s → IsUnswitched (given entries s)
unswitched_given s entries u = record { odd_log = u.odd_log; even_slot = u.even_slot; odd_slot = u.odd_slot; even = u.even; odd = u.odd; generation = u.generation; asked = u.asked; log = u.log; turn = u.turn }

pub none_present : (images : Images) → images.even_slot ≡ [] → images.odd_slot ≡ [] → present_in images ≡ None
none_present images even odd = ap (λ (l : List ℕ). newest l images.odd_slot) even ∙ ap (λ (l : List ℕ). newest [] l) odd

pub unswitched_opened : (images : Images) → images.odd_log ≡ [] → images.even_slot ≡ [] → images.odd_slot ≡ [] → IsUnswitched (store_opened images)
unswitched_opened images log even odd = record {
  odd_log = ap settled log;
  even_slot = ap settled even;
  odd_slot = ap settled odd;
  even = ap (slot_gate false) even;
  odd = ap (slot_gate true) odd;
  generation = ap generation_of (none_present images even odd);
  asked = refl;
  log = tt;
  turn = tt;
}

still_empty : (cells : Cells) (image : List ℕ) → cells ≡ settled [] → IsImage cells image → image ≡ []
still_empty cells image is may = image_settled [] image (subst (λ (c : Cells). IsImage c image) is may)

pub unswitched_crash : (s : StoreState) (images : Images) → IsUnswitched s → MayLeave s.devices images → IsUnswitched (store_opened images)
unswitched_crash s images u may =
    unswitched_opened images (still_empty s.devices.odd_log images.odd_log u.odd_log (may.logs true)) (still_empty s.devices.even_slot images.even_slot u.even_slot (may.slots false))
    (still_empty s.devices.odd_slot images.odd_slot u.odd_slot (may.slots true))

-- ---- what is at stake at rest

-- a log whose gate is not torn has nothing instead
wire_same : (bytes : List ℕ) (own other : List Group) → Wire bytes own other → log_torn bytes ≡ false → other ≡ own
wire_same bytes own other (fit, inl e) calm = e.nothing
wire_same bytes own other (fit, inr (inl b)) calm = b.nothing
wire_same bytes own other (fit, inr (inr a)) calm =
    let gate : a.gate ≡ 0 =
    sym (gate_is own (a.gate ∷ (group_text a.group ++ 0 ∷ a.tail)) bytes (wire_restores bytes own other (fit, inr (inr a))) a.are) ∙ not_false (get_or bytes (end_opened bytes) 1) calm in
    absurd (a.torn.0 gate)

abbrev with_groups : Kept → List Group → Kept
with_groups kept gs = record { present = kept.present; entries = entries_of gs }

pub nothing_else : (s : StoreState) (kept other : Kept) → IsUnswitched s → OwnRests s kept other → s.torn ≡ false → other ≡ kept
nothing_else s kept other u r calm =
    let w : LogTorn r.images kept other = log_alone s r.images kept other r.rests (ap is_torn u.even) (ap is_torn u.odd) r.wire in
    let closed : log_torn (log_image (side_of kept.present) r.images) ≡ false =
    ap (λ (o : Option Checkpoint). log_torn (log_image (side_of o) r.images)) (sym (wire_present r.images kept other r.wire)) ∙ sym r.rests.torn ∙ calm in
    let same : w.own_other ≡ w.own = wire_same (log_image (side_of kept.present) r.images) w.own w.own_other w.log closed in
    let named : kept ≡ with_groups kept w.own = λ i. record { present = kept.present; entries = w.entries i } in
    w.is ∙ ap (with_groups kept) same ∙ sym named

pub nothing_at_rest : (s : StoreState) (a : Aim) → IsUnswitched s → IsOwn s a → s.running ≡ [] → s.torn ≡ false → a.stake ≡ a.kept
nothing_at_rest s a u own idle calm = nothing_else s a.kept a.stake u (subst (λ (calls : List StoreCall). StandsBy StoreNext OwnRests calls s a) idle own) calm
