-- A switch writes the tail that it is given, and keeps the new generation with that tail's entries.
use Rattle.std.proofs.Common.{◌≡◌, ◌⊎◌, inl, inr, ℕ, ◌+◌, ◌-◌, nat_lt, Bool, true, false, not, cond, List, [], ◌∷◌, ◌++◌, length, take, Option, Some, None, refl, sym, ◌∙◌, ap, subst, arith, length-append}
use Rattle.std.proofs.lemmas.List.{append-nil, drop_all, take-append-drop}
use Rattle.disk_model.specs.Cells.{put}
use Rattle.disk_model.specs.declared.call.DeviceCall.{DeviceCall}
use Rattle.store_form.specs.Spelling.{Group, IsGroup, group_text, checkpoint_text}
use Rattle.store_form.specs.declared.checkpoint.Checkpoint.{Checkpoint}
use Rattle.batch_log.specs.LogCalls.{anew_text}
use Rattle.checkpoint_store.specs.Slots.{is_odd}
use Rattle.store_laws.specs.Restored.{Images, restores, switched}
use Rattle.store_laws.specs.Stakes.{present_log}
use Rattle.store_laws.specs.States.{Devices, StoreState, greatest, side, log_at, slot_gate_of, is_torn, switch_calls, Begun, Close, Repair, Switch, of_group, of_asked, group_of, due_job, begins, firm_by, advanced, ends, job_called, MayLeave, devices_during}
use Rattle.store_laws.specs.Lives.{StoreNext, Either}
use Rattle.store_laws.specs.Stands.{Aim, at_rest, Runs, OwnRests, IsOwn, aim_called, aim_after, aim_begins}
use Rattle.store_laws.specs.Firm.{SwitchCounts, KeepsWhatBecameFirm}
use Rattle.store_laws.specs.Tails.{aimed_at, tail_after, OneTail, TailLeft, stake_before, devices_then, next_log, LogLeft, SwitchesBy, HasSwitched, run_tail}
use Rattle.store_laws.specs.declared.job.Kept.{Kept}
use Rattle.store_laws.specs.declared.job.Tail.{Tail}
use Rattle.store_laws.specs.declared.job.Gate.{Gate}
use Rattle.store_laws.specs.declared.job.Gate.TheVariants.{Absent, Closed, Torn, Open}
use Rattle.store_laws.specs.declared.job.Device.{Device}
use Rattle.store_laws.specs.declared.job.Ending.{Ending}
use Rattle.store_laws.specs.declared.job.Ending.TheVariants.{Switches}
use Rattle.store_laws.specs.declared.job.StoreCall.{StoreCall}
use Rattle.store_laws.specs.declared.job.StoreCall.TheVariants.{On, WriteTail}
use Rattle.store_laws.proofs.Restores.{next_restores}
use Rattle.store_laws.proofs.SwitchBegins.{odd_next}
use Rattle.store_laws.proofs.Goes.{own_still, own_leaves, crash_during}
use Rattle.store_laws.proofs.AnyGoes.{some_switch}
use Rattle.store_laws.proofs.Given.{calm_stake}
use Rattle.store_laws.proofs.Firmed.{switch_counts}

-- ---- a switch begins

-- where a switch is due, no gate is torn
pub due_by : (even odd torn : Bool) (rest : Begun) (snapshot : List ℕ) → cond even (Close false) (cond odd (Close true) (cond torn Repair rest)) ≡ Switch snapshot → (even ≡ false) × (odd ≡ false)
due_by true odd torn rest snapshot is = absurd cc
due_by false true torn rest snapshot is = absurd cc
due_by false false torn rest snapshot is = (refl, refl)

one_tail : (odd : Bool) (gate : Gate) (text : List ℕ) → OneTail (switch_calls odd gate text)
one_tail odd Absent text = tt
one_tail odd Closed text = tt
one_tail odd Torn text = tt
one_tail odd Open text = tt

-- a write over an empty log leaves its bytes alone
anew : (text : List ℕ) → put 0 text [] ≡ text
anew text = ap (λ (l : List ℕ). text ++ l) (drop_all (0 + length text) [] (omega arith)) ∙ append-nil text

log_anew : (odd : Bool) (gate : Gate) (text : List ℕ) (d : Devices) (tail : Tail) → (log_at odd (devices_then odd tail (switch_calls odd gate text) d)).now ≡ anew_text tail.entries
log_anew false Absent text d tail = anew (anew_text tail.entries)
log_anew false Closed text d tail = anew (anew_text tail.entries)
log_anew false Torn text d tail = anew (anew_text tail.entries)
log_anew false Open text d tail = anew (anew_text tail.entries)
log_anew true Absent text d tail = anew (anew_text tail.entries)
log_anew true Closed text d tail = anew (anew_text tail.entries)
log_anew true Torn text d tail = anew (anew_text tail.entries)
log_anew true Open text d tail = anew (anew_text tail.entries)

same_stake : (calls : List StoreCall) (kept : Kept) → kept ≡ stake_before calls kept kept
same_stake [] kept = refl
same_stake (call ∷ []) kept = refl
same_stake (call ∷ (more ∷ left)) kept = refl

pub calm_begins : (s : StoreState) (a : Aim) (snapshot : List ℕ) → is_torn s.even ≡ false → is_torn s.odd ≡ false
    → SwitchesBy (begins (Switch snapshot) s).running a.kept (record { generation = s.generation + 1; snapshot = snapshot }) None (begins (Switch snapshot) s) (aim_begins (Switch snapshot) s a)
calm_begins s a snapshot even odd_is =
    let text = checkpoint_text (record { generation = s.generation + 1; snapshot = snapshot }) in
    record {
      runs = some_switch (not (side s)) (slot_gate_of (not (side s)) s) text;
      tail_left = one_tail (not (side s)) (slot_gate_of (not (side s)) s) text;
      log_left = λ tail. log_anew (not (side s)) (slot_gate_of (not (side s)) s) text s.devices tail;
      kept_is = refl;
      stake_is = same_stake (begins (Switch snapshot) s).running a.kept;
      gated_is = refl;
      then_is = refl;
      next_is = refl;
      ending_is = refl;
      generation_is = refl;
      even_calm = even;
      odd_calm = odd_is;
    }

pub tail_begins : (stops : List ℕ → Bool) (s : StoreState) (a : Aim) (snapshot : List ℕ) → due_job stops s ≡ Switch snapshot
    → SwitchesBy (begins (Switch snapshot) s).running a.kept (record { generation = s.generation + 1; snapshot = snapshot }) None (begins (Switch snapshot) s) (aim_begins (Switch snapshot) s a)
tail_begins stops s a snapshot is =
    let calm = due_by (is_torn s.even) (is_torn s.odd) s.torn (of_asked (cond (nat_lt s.generation greatest) s.asked None) (of_group (group_of stops s.waiting))) snapshot is in
    calm_begins s a snapshot calm.0 calm.1

-- ---- a switch goes on

left_tail : (before : Option Tail) (device : Device) (call : DeviceCall) (left : List StoreCall) → TailLeft before (On device call ∷ left) → TailLeft before left
left_tail None device call left one = one
left_tail (Some tail) device call left plain = plain

left_log : (before : Option Tail) (tail : Tail) (device : Device) (call : DeviceCall) (left : List StoreCall) (s : StoreState) → LogLeft before (On device call ∷ left) s → LogLeft before left (advanced tail (On device call) left s)
left_log None tail device call left s log = log
left_log (Some written) tail device call left s log = log

new_is : (next is : Checkpoint) (tail : Group) → is ≡ next → switched is tail ≡ switched next tail
new_is next is tail same = ap (λ (x : Checkpoint). switched x tail) same

pub tail_goes : (kept : Kept) (next : Checkpoint) (before : Option Tail) (s : StoreState) (a : Aim) (tail : Tail) (call more : StoreCall) (left : List StoreCall) → SwitchesBy (call ∷ (more ∷ left)) kept next before s a
    → SwitchesBy (more ∷ left) kept next (tail_after tail call before) (job_called tail (call ∷ (more ∷ left)) s) (aim_called tail call (more ∷ left) a)
tail_goes kept next before s a tail (On device call) more [] w = record {
  runs = refl;
  tail_left = left_tail before device call (more ∷ []) w.tail_left;
  log_left = left_log before tail device call (more ∷ []) s w.log_left;
  kept_is = w.kept_is;
  stake_is = w.gated_is;
  gated_is = w.gated_is;
  then_is = w.then_is;
  next_is = w.next_is;
  ending_is = w.ending_is;
  generation_is = w.generation_is;
  even_calm = w.even_calm;
  odd_calm = w.odd_calm;
}
tail_goes kept next before s a tail (On device call) more (last ∷ left) w = record {
  runs = refl;
  tail_left = left_tail before device call (more ∷ (last ∷ left)) w.tail_left;
  log_left = left_log before tail device call (more ∷ (last ∷ left)) s w.log_left;
  kept_is = w.kept_is;
  stake_is = w.stake_is;
  gated_is = w.gated_is;
  then_is = w.then_is;
  next_is = w.next_is;
  ending_is = w.ending_is;
  generation_is = w.generation_is;
  even_calm = w.even_calm;
  odd_calm = w.odd_calm;
}
tail_goes kept next (Some written) s a tail WriteTail more left w = absurd w.tail_left
tail_goes kept next None s a tail WriteTail more [] w = record {
  runs = refl;
  tail_left = w.tail_left;
  log_left = w.log_left tail;
  kept_is = w.kept_is;
  stake_is = new_is next a.next tail.entries w.next_is;
  gated_is = new_is next a.next tail.entries w.next_is;
  then_is = new_is next a.next tail.entries w.next_is;
  next_is = w.next_is;
  ending_is = refl;
  generation_is = w.generation_is;
  even_calm = w.even_calm;
  odd_calm = w.odd_calm;
}
tail_goes kept next None s a tail WriteTail more (last ∷ left) w = record {
  runs = refl;
  tail_left = w.tail_left;
  log_left = w.log_left tail;
  kept_is = w.kept_is;
  stake_is = w.stake_is;
  gated_is = new_is next a.next tail.entries w.next_is;
  then_is = new_is next a.next tail.entries w.next_is;
  next_is = w.next_is;
  ending_is = refl;
  generation_is = w.generation_is;
  even_calm = w.even_calm;
  odd_calm = w.odd_calm;
}

-- ---- a switch ends

-- a store that has switched: no job runs, and no gate is torn
record Ended (devices : Devices) (generation end : ℕ) (s : StoreState) : Type 0 where
  pub idle : s.running ≡ []
  pub devices_are : s.devices ≡ devices
  pub end_is : s.end ≡ end
  pub none_added : s.adding ≡ []
  pub generation_is : s.generation ≡ generation + 1
  pub even_calm : is_torn s.even ≡ false
  pub odd_calm : is_torn s.odd ≡ false
  pub calm : s.torn ≡ false

calm_or_open : (t : Bool) (gate : Gate) → is_torn gate ≡ false → (is_torn (cond t Open gate) ≡ false) × (is_torn (cond t gate Open) ≡ false)
calm_or_open true gate calm = (refl, calm)
calm_or_open false gate calm = (calm, refl)

ended : (ending : Ending) (end last : ℕ) (s : StoreState) → ending ≡ Switches end last → is_torn s.even ≡ false → is_torn s.odd ≡ false → Ended s.devices s.generation end (ends ending s)
ended ending end last s is even odd_is =
    subst (λ (e : Ending). Ended s.devices s.generation end (ends e s)) (sym is)
    (record { idle = refl; devices_are = refl; end_is = refl; none_added = refl; generation_is = refl; even_calm = (calm_or_open (side s) s.even even).0; odd_calm = (calm_or_open (side s) s.odd odd_is).1; calm = refl })

text_long : (g : Group) → length (anew_text g) ≡ 2 + length (group_text g)
text_long g = let both : length (group_text g ++ 0 ∷ []) ≡ length (group_text g) + 1 = length-append (group_text g) (0 ∷ []) in omega (arith, both)

last_call : (given : Tail) (next : Checkpoint) (s : StoreState) (a : Aim) (other : Kept) → next_log given [] s ≡ anew_text given.entries → s.ending ≡ Switches (1 + length (group_text given.entries)) given.made → is_torn s.even ≡ false → is_torn s.odd ≡ false → next.generation ≡ s.generation + 1
    → a.then ≡ switched next given.entries → IsOwn (ends s.ending s) (at_rest a.then other a.next) → HasSwitched next given (ends s.ending s) (at_rest a.then other a.next)
last_call given next s a other log is even odd_is generation then_is own =
    let e = ended s.ending (1 + length (group_text given.entries)) given.made s is even odd_is in
    let other_is = calm_stake (ends s.ending s) (at_rest a.then other a.next) e.idle e.even_calm e.odd_calm e.calm own ∙ then_is in
    let log_is : present_log (ends s.ending s) ≡ anew_text given.entries =
    ap (λ (d : Devices). (log_at (side (ends s.ending s)) d).now) e.devices_are
    ∙ (ap (λ (odd : Bool). (log_at odd s.devices).now) (ap is_odd e.generation_is ∙ odd_next s.generation) ∙ log) in
    record {
      idle = e.idle;
      generation_is = e.generation_is ∙ sym generation;
      end_is = e.end_is;
      log_is = log_is;
      long_is = ap (λ (bytes : List ℕ). length bytes) log_is ∙ text_long given.entries;
      none_added = e.none_added;
      kept_is = then_is;
      stake_is = other_is;
      gated_is = other_is;
    }

pub tail_ends : (kept : Kept) (next : Checkpoint) (before : Option Tail) (s : StoreState) (a : Aim) (tail : Tail) (call : StoreCall) (other : Kept) → SwitchesBy (call ∷ []) kept next before s a
    → IsOwn (job_called tail (call ∷ []) s) (aim_after [] other (aim_called tail call [] a))
    → (given : Tail)
    × ((tail_after tail call before ≡ Some given) × (HasSwitched next given (job_called tail (call ∷ []) s) (aim_after [] other (aim_called tail call [] a)) × SwitchCounts given.made s (job_called tail (call ∷ []) s)))
tail_ends kept next None s a tail (On device call) other w own = absurd w.tail_left
tail_ends kept next (Some given) s a tail (On device call) other w own = (
  given,
  (
    refl,
    (
      last_call given next (advanced tail (On device call) [] s) (aim_called tail (On device call) [] a) other w.log_left w.ending_is w.even_calm w.odd_calm w.generation_is w.then_is own,
      switch_counts tail (On device call) s (1 + length (group_text given.entries)) given.made w.ending_is,
    ),
  ),
)
tail_ends kept next None s a tail WriteTail other w own = (
  tail,
  (
    refl,
    (
      last_call tail next (advanced tail WriteTail [] s) (aim_called tail WriteTail [] a) other (w.log_left tail) refl w.even_calm w.odd_calm w.generation_is (new_is next a.next tail.entries w.next_is) own,
      switch_counts tail WriteTail s (1 + length (group_text tail.entries)) tail.made refl,
    ),
  ),
)
tail_ends kept next (Some given) s a tail WriteTail other w own = absurd w.tail_left

-- ---- a tail that ends with the entries that it makes firm

covers : (then : Kept) (given : Tail) (s new : StoreState) (front : List (List ℕ)) → then.entries ≡ given.entries → SwitchCounts given.made s new → given.entries ≡ front ++ take (firm_by given.made s - s.firm) s.waiting
    → KeepsWhatBecameFirm s new then
covers then given s new front then_is counts ends_with = record {
  front = front;
  became = take (new.firm - s.firm) s.waiting;
  kept_is = then_is ∙ ends_with ∙ ap (λ (n : ℕ). front ++ take (n - s.firm) s.waiting) (sym counts.firm);
  became_is = refl;
  waited = ap (λ (l : List (List ℕ)). take (new.firm - s.firm) s.waiting ++ l) counts.waiting ∙ take-append-drop (new.firm - s.firm) s.waiting;
}

pub tail_covers : (kept : Kept) (next : Checkpoint) (before : Option Tail) (s : StoreState) (a : Aim) (tail : Tail) (call : StoreCall) (other : Kept) (written : Tail) (front : List (List ℕ)) → SwitchesBy (call ∷ []) kept next before s a
    → tail_after tail call before ≡ Some written → written.entries ≡ front ++ take (firm_by written.made s - s.firm) s.waiting
    → KeepsWhatBecameFirm s (job_called tail (call ∷ []) s) (aim_after [] other (aim_called tail call [] a)).kept
tail_covers kept next None s a tail (On device call) other written front w is ends_with = absurd w.tail_left
tail_covers kept next (Some given) s a tail (On device call) other written front w is ends_with =
    let same : given ≡ written = ap (λ (o : Option Tail). run_tail tail o) is in
    covers a.then written s (job_called tail (On device call ∷ []) s) front (ap (λ (k : Kept). k.entries) w.then_is ∙ ap (λ (t : Tail). t.entries) same)
    (subst (λ (t : Tail). SwitchCounts t.made s (job_called tail (On device call ∷ []) s)) same (switch_counts tail (On device call) s (1 + length (group_text given.entries)) given.made w.ending_is)) ends_with
tail_covers kept next before s a tail WriteTail other written front w is ends_with =
    let same : tail ≡ written = ap (λ (o : Option Tail). run_tail tail o) is in
    covers (switched a.next tail.entries) written s (job_called tail (WriteTail ∷ []) s) front (ap (λ (t : Tail). t.entries) same)
    (subst (λ (t : Tail). SwitchCounts t.made s (job_called tail (WriteTail ∷ []) s)) same (switch_counts tail WriteTail s (1 + length (group_text tail.entries)) tail.made refl)) ends_with

-- ---- what a crash restores

pub tail_crash : (kept : Kept) (next : Checkpoint) (before : Option Tail) (s : StoreState) (a : Aim) → SwitchesBy s.running kept next before s a → IsOwn s a → (images : Images) → MayLeave s.devices images
    → (restores images ≡ kept) ⊎ (restores images ≡ stake_before s.running kept (aimed_at kept next before))
tail_crash kept next before s a w own images may = by (next_restores images a.kept a.stake (own_leaves s a own images may))
  where
    by : Either images a.kept a.stake → (restores images ≡ kept) ⊎ (restores images ≡ stake_before s.running kept (aimed_at kept next before))
    by (inl is) = inl (is ∙ w.kept_is)
    by (inr is) = inr (is ∙ w.stake_is)

-- what is at stake before a call is kept, or what is aimed at after it
stake_then : (calls : List StoreCall) (kept : Kept) (next : Checkpoint) (before : Option Tail) (tail : Tail) (call : StoreCall) → TailLeft before (call ∷ calls) → (x : Kept) → x ≡ stake_before (call ∷ calls) kept (aimed_at kept next before)
    → (x ≡ kept) ⊎ (x ≡ aimed_at kept next (tail_after tail call before))
stake_then [] kept next before tail (On device call) one x is = inr is
stake_then [] kept next None tail WriteTail one x is = inl is
stake_then [] kept next (Some given) tail WriteTail one x is = absurd one
stake_then (more ∷ left) kept next before tail call one x is = inl is

module _ (kept : Kept) (next : Checkpoint) (before : Option Tail) (s : StoreState) (a : Aim) (tail : Tail) (call : StoreCall) (images : Images) where
  abbrev Given : Type 0
  Given = (restores images ≡ kept) ⊎ (restores images ≡ aimed_at kept next (tail_after tail call before))

  either_given : (left : List StoreCall) → SwitchesBy (call ∷ left) kept next before s a → Either images a.kept a.stake → Given
  either_given left w (inl is) = inl (is ∙ w.kept_is)
  either_given left w (inr is) = stake_then left kept next before tail call w.tail_left (restores images) (is ∙ w.stake_is)

  either_left : (more : StoreCall) (left : List StoreCall) (t : StoreState) (b : Aim) → SwitchesBy (more ∷ left) kept next (tail_after tail call before) t b → Either images b.kept b.stake → Given
  either_left more left t b v (inl is) = inl (is ∙ v.kept_is)
  either_left more [] t b v (inr is) = inr (is ∙ v.stake_is)
  either_left more (last ∷ left) t b v (inr is) = inl (is ∙ v.stake_is)

  same_both : (x y z : Kept) → x ≡ z → y ≡ z → Either images x y → restores images ≡ z
  same_both x y z x_is y_is (inl is) = is ∙ x_is
  same_both x y z x_is y_is (inr is) = is ∙ y_is

  given_then : (left : List StoreCall) (other : Kept) → SwitchesBy (call ∷ left) kept next before s a → IsOwn (job_called tail (call ∷ left) s) (aim_after left other (aim_called tail call left a))
      → Either images (aim_after left other (aim_called tail call left a)).kept (aim_after left other (aim_called tail call left a)).stake → Given
  given_then [] other w own is =
      let e = tail_ends kept next before s a tail call other w own in
      let aimed : aimed_at kept next (tail_after tail call before) ≡ switched next e.0.entries = ap (aimed_at kept next) e.1.0 in
      inr (same_both (aim_called tail call [] a).then other (switched next e.0.entries) e.1.1.0.kept_is e.1.1.0.stake_is is ∙ sym aimed)
  given_then (more ∷ left) other w own is = either_left more left (job_called tail (call ∷ (more ∷ left)) s) (aim_called tail call (more ∷ left) a) (tail_goes kept next before s a tail call more left w) is

  pub tail_during : (left : List StoreCall) → IsGroup tail.entries → SwitchesBy (call ∷ left) kept next before s a → Runs StoreNext OwnRests (call ∷ left) s a → MayLeave (devices_during tail (call ∷ left) s) images
      → (restores images ≡ kept) ⊎ (restores images ≡ aimed_at kept next (tail_after tail call before))
  tail_during left fits w runs may = by (crash_during StoreNext OwnRests own_still s a tail call left fits runs images may)
    where
      by : StoreNext images a.kept a.stake
          ⊎ ((other : Kept)
          × (IsOwn (job_called tail (call ∷ left) s) (aim_after left other (aim_called tail call left a))
          × StoreNext images (aim_after left other (aim_called tail call left a)).kept (aim_after left other (aim_called tail call left a)).stake))
          → Given
      by (inl now) = either_given left w (next_restores images a.kept a.stake now)
      by (inr then) =
          given_then left then.0 w then.1.0
          (next_restores images (aim_after left then.0 (aim_called tail call left a)).kept (aim_after left then.0 (aim_called tail call left a)).stake then.1.1)

pub switched_crash : (next : Checkpoint) (given : Tail) (s : StoreState) (a : Aim) → HasSwitched next given s a → IsOwn s a → (images : Images) → MayLeave s.devices images → restores images ≡ switched next given.entries
switched_crash next given s a w own images may = by (next_restores images a.kept a.stake (own_leaves s a own images may))
  where
    by : Either images a.kept a.stake → restores images ≡ switched next given.entries
    by (inl is) = is ∙ w.kept_is
    by (inr is) = is ∙ w.stake_is
