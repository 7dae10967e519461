-- A store that held its book, after a whole switch: its book is the tail, and what still waits.
use Rattle.std.proofs.Common.{◌≡◌, ◌⊎◌, inl, inr, ℕ, zero, suc, ◌+◌, ◌-◌, ◌≤◌, Bool, true, false, cond, List, [], ◌∷◌, ◌++◌, length, Option, Some, None, refl, sym, ◌∙◌, ap, subst, append_assoc, arith}
use Rattle.disk_model.specs.DeviceCalls.{made}
use Rattle.store_form.specs.Spelling.{IsGroup}
use Rattle.store_form.specs.declared.checkpoint.Checkpoint.{Checkpoint}
use Rattle.store_laws.specs.Restored.{switched}
use Rattle.store_laws.specs.States.{Devices, StoreState, greatest, some, change, writes_tail, Begun, NoJob, Close, Repair, Switch, AddGroup, due_job, begins, begun, device_of, call_of, advanced, job_called, store_called, asked}
use Rattle.store_laws.specs.Lives.{StoreNext}
use Rattle.store_laws.specs.Runs.{called_times, CallFits, RunFits, aim_begun}
use Rattle.store_laws.specs.Stands.{Aim, StandsBy, OwnRests, IsOwn, aim_begins}
use Rattle.store_laws.specs.Books.{NoTail, Grown, BooksBy}
use Rattle.store_laws.specs.Counts.{Beyond, CountsBy}
use Rattle.store_laws.specs.Firm.{not_firm, AddsIn, GroupAdds}
use Rattle.store_laws.specs.Tails.{HasSwitched, NoSwitch, next_of, SwitchWaits, SwitchDue, SwitchBegan}
use Rattle.store_laws.specs.declared.job.Ending.{Ending}
use Rattle.store_laws.specs.declared.job.Ending.TheVariants.{Closes, Repairs, Adds, Switches}
use Rattle.store_laws.specs.declared.job.Kept.{Kept}
use Rattle.store_laws.specs.declared.job.StoreCall.{StoreCall}
use Rattle.store_laws.specs.declared.job.StoreCall.TheVariants.{On, WriteTail}
use Rattle.store_laws.specs.declared.job.Tail.{Tail}
use Rattle.store_laws.proofs.Aims.{firm_rises}
use Rattle.store_laws.proofs.Counted.{same_beyond}
use Rattle.store_laws.proofs.Firmed.{call_adds, call_firms}
use Rattle.store_laws.proofs.Given.{own_asked}
use Rattle.store_laws.proofs.Goes.{own_begins}
use Rattle.store_laws.proofs.Moments.{begun_fits, own_call_goes}
use Rattle.store_laws.proofs.SwitchRuns.{run_switches}
use Rattle.store_laws.proofs.WholeSwitches.{waits_call, whole_waits, none_later, due_none}
use Rattle.store_plan.proofs.Ready.{no_calls}
use Rattle.durable_store.specs.BookRuns.{AreSound, HoldsBook}
use Rattle.durable_store.specs.Runs.{no_tail, EndsWithSwitch}
use Rattle.durable_store.proofs.Nexts.{no_tail_fits}
use Rattle.durable_store.proofs.Ran.{ends_devices}
use Rattle.durable_store.proofs.Sounds.{change_sound}

-- ---- no switch runs in a store that holds its book

not_switching : (calls : List StoreCall) (ending : Ending) (adding : List (List ℕ)) (a : Aim) → NoTail calls → Grown calls ending adding a → NoSwitch calls ending
not_switching calls (Closes odd) adding a plain grown = plain
not_switching calls Repairs adding a plain grown = plain
not_switching calls (Adds end) adding a plain grown = plain
not_switching [] (Switches end last) adding a plain grown = refl
not_switching (call ∷ left) (Switches end last) adding a plain grown = absurd grown

group_adds : (calls : List StoreCall) (ending : Ending) (adding : List (List ℕ)) (a : Aim) → NoTail calls → Grown calls ending adding a → AddsIn calls ending adding
group_adds [] ending adding a plain grown = grown
group_adds (call ∷ left) (Closes odd) adding a plain grown = grown.0
group_adds (call ∷ left) Repairs adding a plain grown = grown.0
group_adds (call ∷ left) (Adds end) adding a plain grown = plain
group_adds (call ∷ left) (Switches end last) adding a plain grown = absurd grown

module _ (stops : List ℕ → Bool) (tail : Tail) where
  -- ---- no switch waits after it began

  end_none : (n : ℕ) (s : StoreState) (a : Aim) (from : ℕ) (snapshot : List ℕ) → IsOwn s a → SwitchWaits from snapshot s → RunFits stops tail (suc n) s → (called_times stops tail n s).generation ≡ from
      → (called_times stops tail (suc n) s).generation ≡ from + 1 → (called_times stops tail (suc n) s).asked ≡ None
  end_none n s a from snapshot own waits fits old new = by (whole_waits stops from snapshot tail n s a own waits fits.0 old)
    where
      call : (b : Aim) → SwitchWaits from snapshot (store_called stops tail (called_times stops tail n s)) ⊎ SwitchDue stops b.kept (next_of from snapshot) tail tail (called_times stops tail n s) b → (called_times stops tail (suc n) s).asked ≡ None
      call b (inl still) =
          let same = still.generation_is in
          absurd (omega (arith, same, new))
      call b (inr due) = due_none stops tail snapshot (called_times stops tail n s) due.idle due.due

      by : ((b : Aim) × (IsOwn (called_times stops tail n s) b × SwitchWaits from snapshot (called_times stops tail n s))) ⊎ SwitchBegan stops from snapshot tail n s → (called_times stops tail (suc n) s).asked ≡ None
      by (inl x) = call x.0 (waits_call stops from snapshot tail (called_times stops tail n s) x.0 x.1.1)
      by (inr e) =
          let le = e.among in
          none_later stops tail (suc n) (suc e.call) s (omega (arith, le)) (due_none stops tail snapshot (called_times stops tail e.call s) e.due.idle e.due.due)

  -- ---- sound devices

  call_devices : (call : StoreCall) (left : List StoreCall) (s : StoreState) → (job_called tail (call ∷ left) s).devices ≡ change (made (call_of tail call)) (device_of s call) s.devices
  call_devices call [] s = ends_devices (advanced tail call [] s).ending (advanced tail call [] s)
  call_devices call (more ∷ left) s = refl

  job_sound : (calls : List StoreCall) (s : StoreState) (a : Aim) → s.running ≡ calls → IsOwn s a → (writes_tail calls ≡ true → IsGroup tail.entries) → AreSound s.devices → AreSound (job_called tail calls s).devices
  job_sound [] s a is own fits sound = sound
  job_sound (On device call ∷ left) s a is own fits sound =
      let runs = subst (λ (calls : List StoreCall). StandsBy StoreNext OwnRests calls s a) is own in
      let goes = runs.1 no_tail no_tail_fits in
      subst (λ (d : Devices). AreSound d) (sym (call_devices (On device call) left s)) (change_sound call device s.devices goes.0 sound)
  job_sound (WriteTail ∷ left) s a is own fits sound =
      let runs = subst (λ (calls : List StoreCall). StandsBy StoreNext OwnRests calls s a) is own in
      let goes = runs.1 tail (fits refl) in
      subst (λ (d : Devices). AreSound d) (sym (call_devices WriteTail left s)) (change_sound (call_of tail WriteTail) (device_of s WriteTail) s.devices goes.0 sound)

  begins_sound : (job : Begun) (s : StoreState) → AreSound s.devices → AreSound (begins job s).devices
  begins_sound NoJob s sound = sound
  begins_sound (Close odd) s sound = sound
  begins_sound Repair s sound = sound
  begins_sound (Switch snapshot) s sound = sound
  begins_sound (AddGroup group) s sound = sound

  call_sound : (s : StoreState) (a : Aim) → IsOwn s a → CallFits stops tail s → AreSound s.devices → AreSound (store_called stops tail s).devices
  call_sound s a own fits sound =
      let b = begun_now (some s.running) refl in
      job_sound (begun stops s).running (begun stops s) (aim_begun stops s a) refl b.0 (begun_fits stops tail s fits) b.1
    where
      begun_now : (t : Bool) → some s.running ≡ t → IsOwn (cond t s (begins (due_job stops s) s)) (cond t a (aim_begins (due_job stops s) s a)) × AreSound (cond t s (begins (due_job stops s) s)).devices
      begun_now true is = (own, sound)
      begun_now false is = (own_begins stops s a (no_calls s.running is) own (fits.0 is), begins_sound (due_job stops s) s sound)

  times_sound : (n : ℕ) (s : StoreState) (a : Aim) → IsOwn s a → RunFits stops tail n s → AreSound s.devices → (b : Aim) × (IsOwn (called_times stops tail n s) b × AreSound (called_times stops tail n s).devices)
  times_sound zero s a own fits sound = (a, (own, sound))
  times_sound (suc n) s a own fits sound =
      let before = times_sound n s a own fits.0 sound in
      let then = own_call_goes stops tail (called_times stops tail n s) before.0 before.1.0 fits.1 in
      (_, (then.1, call_sound (called_times stops tail n s) before.0 before.1.0 fits.1 before.1.1))

  -- ---- what still waits was given last

  times_left : (n : ℕ) (s : StoreState) → GroupAdds s → s.firm ≤ greatest
      → (became : List (List ℕ)) × ((became ++ not_firm (called_times stops tail n s) ≡ not_firm s) × (GroupAdds (called_times stops tail n s) × ((called_times stops tail n s).firm ≤ greatest)))
  times_left zero s adds few = ([], (refl, (adds, few)))
  times_left (suc n) s adds few =
      let before = times_left n s adds few in
      let f = call_firms stops tail (called_times stops tail n s) before.1.1.0 before.1.1.1 in (
        before.0 ++ f.became,
        (
          append_assoc before.0 f.became (not_firm (called_times stops tail (suc n) s)) ∙ ap (λ (l : List (List ℕ)). before.0 ++ l) f.all ∙ before.1.0,
          (call_adds stops tail (called_times stops tail n s) before.1.1.0, (firm_rises stops tail (called_times stops tail n s) before.1.1.1).1),
        ),
      )

-- ---- the book after a switch

holds_switched : (next : Checkpoint) (tail : Tail) (s : StoreState) (b : Aim) → IsOwn s b → HasSwitched next tail s b → s.asked ≡ None → AreSound s.devices
    → HoldsBook (tail.entries ++ s.waiting) (Some next) (switched next tail.entries) (s.firm - length tail.entries) s b
holds_switched next tail s b own has none sound =
    let kept = ap (λ (k : Kept). length k.entries) has.kept_is in
    let alone : (x : Kept) → x ≡ switched next tail.entries → Beyond b.kept x = λ x is. subst (λ (k : Kept). Beyond b.kept k) (has.kept_is ∙ sym is) (same_beyond b.kept) in record {
      own = own;
      books =
          subst (λ (calls : List StoreCall). BooksBy calls (tail.entries ++ s.waiting) (Some next) s b) (sym has.idle)
          (record {
            present_is = ap (λ (k : Kept). k.present) has.kept_is;
            all = ap (λ (k : Kept). k.entries ++ (s.adding ++ s.waiting)) has.kept_is ∙ ap (λ (l : List (List ℕ)). tail.entries ++ (l ++ s.waiting)) has.none_added;
            calm = none;
            plain = tt;
            grown = has.none_added;
          });
      counts =
          subst (λ (calls : List StoreCall). CountsBy calls (s.firm - length tail.entries) s b) (sym has.idle)
          (record { most = omega (arith, kept); stake = alone b.stake has.stake_is; gated = alone b.gated has.gated_is; later = tt; grows = tt });
      sound = sound;
      stake_is = inr has.stake_is;
      gated_is = inr has.gated_is;
    }

module _ (stops : List ℕ → Bool) (tail : Tail) (book : List (List ℕ)) (present : Option Checkpoint) (stake : Kept) (gone : ℕ) where
  waits_now : (s : StoreState) (a : Aim) (snapshot : List ℕ) → HoldsBook book present stake gone s a → SwitchWaits s.generation snapshot (asked snapshot s)
  waits_now s a snapshot h = record { generation_is = refl; asked_is = refl; no_switch = not_switching s.running s.ending s.adding a h.books.plain h.books.grown }

  has_switched : (n : ℕ) (s : StoreState) (a : Aim) (snapshot : List ℕ) → HoldsBook book present stake gone s a → RunFits stops tail (suc n) (asked snapshot s) → EndsWithSwitch stops tail (suc n) (asked snapshot s)
      → (b : Aim) × (IsOwn (called_times stops tail (suc n) (asked snapshot s)) b × HasSwitched (next_of s.generation snapshot) tail (called_times stops tail (suc n) (asked snapshot s)) b)
  has_switched n s a snapshot h fits ends = run_switches s.generation snapshot tail stops n (asked snapshot s) a (own_asked s a snapshot h.own) (inl (waits_now s a snapshot h)) fits ends.0 ends.1

  pub book_switched : (n : ℕ) (s : StoreState) (a : Aim) (snapshot : List ℕ) → HoldsBook book present stake gone s a → RunFits stops tail n (asked snapshot s) → EndsWithSwitch stops tail n (asked snapshot s)
      → (b : Aim)
      × HoldsBook (tail.entries ++ (called_times stops tail n (asked snapshot s)).waiting) (Some (next_of s.generation snapshot)) (switched (next_of s.generation snapshot) tail.entries)
      ((called_times stops tail n (asked snapshot s)).firm - length tail.entries) (called_times stops tail n (asked snapshot s)) b
  book_switched zero s a snapshot h fits ends = absurd ends
  book_switched (suc n) s a snapshot h fits ends =
      let e = has_switched n s a snapshot h fits ends in
      let own = own_asked s a snapshot h.own in
      let sound = (times_sound stops tail (suc n) (asked snapshot s) a own fits h.sound).1.1 in
      let none = end_none stops tail n (asked snapshot s) a s.generation snapshot own (waits_now s a snapshot h) fits ends.0 ends.1 in
      (e.0, holds_switched (next_of s.generation snapshot) tail (called_times stops tail (suc n) (asked snapshot s)) e.0 e.1.0 e.1.1 none sound)

  pub book_left : (n : ℕ) (s : StoreState) (a : Aim) (snapshot : List ℕ) → HoldsBook book present stake gone s a → RunFits stops tail n (asked snapshot s) → EndsWithSwitch stops tail n (asked snapshot s) → s.firm ≤ greatest
      → (front : List (List ℕ)) × (front ++ (called_times stops tail n (asked snapshot s)).waiting ≡ book)
  book_left zero s a snapshot h fits ends few = absurd ends
  book_left (suc n) s a snapshot h fits ends few =
      let e = has_switched n s a snapshot h fits ends in
      let q = called_times stops tail (suc n) (asked snapshot s) in
      let left = times_left stops tail (suc n) (asked snapshot s) (group_adds s.running s.ending s.adding a h.books.plain h.books.grown) few in
      let waits : q.waiting ≡ not_firm q = ap (λ (l : List (List ℕ)). l ++ q.waiting) (sym e.1.1.none_added) in (
        a.kept.entries ++ left.0,
        append_assoc a.kept.entries left.0 q.waiting ∙ ap (λ (l : List (List ℕ)). a.kept.entries ++ (left.0 ++ l)) waits ∙ ap (λ (l : List (List ℕ)). a.kept.entries ++ l) left.1.0 ∙ h.books.all,
      )
