-- A run of a store that is not asked to switch keeps its book. A crash at any moment of it leaves bytes with which the next life begins.
use Rattle.std.proofs.Common.{◌≡◌, ◌≢◌, ◌⊎◌, inl, inr, ⊎_elim, ℕ, zero, suc, ◌+◌, ◌≤◌, ◌<◌, Bool, true, false, not, cond, List, [], ◌∷◌, ◌++◌, length, drop, Option, refl, sym, ◌∙◌, ap, subst, append_assoc, arith, length-append}
use Rattle.std.proofs.lemmas.Bool.{cases_eq}
use Rattle.disk_model.specs.DeviceCalls.{made, during}
use Rattle.disk_model.specs.declared.call.DeviceCall.{DeviceCall}
use Rattle.disk_model.specs.declared.call.DeviceCall.TheVariants.{Write, Cut, Sync}
use Rattle.store_form.specs.Spelling.{checkpoint_text}
use Rattle.store_form.specs.declared.checkpoint.Checkpoint.{Checkpoint}
use Rattle.checkpoint_store.specs.Slots.{generation_of}
use Rattle.store_laws.specs.Restored.{Images, restores, with}
use Rattle.store_laws.specs.States.{Devices, StoreState, greatest, some, side, slot_gate_of, change, all_settled, Begun, NoJob, Close, Repair, Switch, AddGroup, due_job, begins, begun, is_due, advanced, ends, job_called, store_called, MayLeave, devices_during, store_opened, given}
use Rattle.store_laws.specs.Runs.{called_times, CallFits, RunFits, CallLeaves, RunLeaves}
use Rattle.store_laws.specs.Lives.{StoreWire, StoreNext, Either}
use Rattle.store_laws.specs.Stands.{Aim, at_rest, Leaves, StandsBy, AnyRests, OwnRests, StoreStands, IsOwn, instead, HasSpelling, aim_left, aim_begins, aim_called}
use Rattle.store_laws.specs.Books.{GrownBy, Grown, BooksBy, Books, IsFront}
use Rattle.store_laws.specs.Counts.{BeginsWith, CountsBy, Counts, gone_by}
use Rattle.store_laws.specs.declared.job.Device.{Device}
use Rattle.store_laws.specs.declared.job.Device.TheVariants.{Log, Slot}
use Rattle.store_laws.specs.declared.job.Ending.{Ending}
use Rattle.store_laws.specs.declared.job.Ending.TheVariants.{Closes, Repairs, Adds, Switches}
use Rattle.store_laws.specs.declared.job.Kept.{Kept}
use Rattle.store_laws.specs.declared.job.StoreCall.{StoreCall}
use Rattle.store_laws.specs.declared.job.StoreCall.TheVariants.{On, WriteTail}
use Rattle.store_laws.specs.declared.job.Tail.{Tail}
use Rattle.store_laws.proofs.Restores.{store_restores, next_restores}
use Rattle.store_laws.proofs.Goes.{own_begins, own_leaves, own_opened}
use Rattle.store_laws.proofs.AnyGoes.{own_any, any_leaves, some_switch}
use Rattle.store_laws.proofs.Given.{own_given, idle_now, nothing_at_stake}
use Rattle.store_laws.proofs.Aims.{firm_rises}
use Rattle.store_laws.proofs.Counted.{counts_opened, counts_begins, counts_goes, counts_given, counts_crash}
use Rattle.store_laws.proofs.Booked.{books_opened, books_begins, books_goes, books_given}
use Rattle.store_plan.proofs.Ready.{no_calls}
use Rattle.durable_store.specs.BookRuns.{AreSound, IsFrontOr, HoldsBook, BookNext, HasFirm, firm_then}
use Rattle.durable_store.specs.Runs.{no_tail}
use Rattle.durable_store.proofs.Nexts.{no_tail_fits, begins_firm, begun_firm}
use Rattle.durable_store.proofs.Sounds.{settled_sound, change_sound, settled_leaves}

-- ---- fronts of the book

front_of : (book : List (List ℕ)) (present : Option Checkpoint) (x : Kept) (rest : List (List ℕ)) → x.present ≡ present → x.entries ++ rest ≡ book → IsFront book present x
front_of book present x rest is all = record { rest = rest; is = λ i. record { present = is i; entries = all i } }

-- a front of the book is one of a longer book
front_more : (book entries : List (List ℕ)) (present : Option Checkpoint) (x : Kept) → IsFront book present x → IsFront (book ++ entries) present x
front_more book entries present x f =
    front_of (book ++ entries) present x (f.rest ++ entries) (ap (λ (k : Kept). k.present) f.is)
    (sym (append_assoc x.entries f.rest entries) ∙ ap (λ (l : List (List ℕ)). l ++ entries) (ap (λ (k : Kept). k.entries) f.is))

front_or_more : (book entries : List (List ℕ)) (present : Option Checkpoint) (stake x : Kept) → IsFrontOr book present stake x → IsFrontOr (book ++ entries) present stake x
front_or_more book entries present stake x (inl f) = inl (front_more book entries present x f)
front_or_more book entries present stake x (inr is) = inr is

-- ---- a store that is opened, and one that was given entries

pub holds_opened : (images : Images) (kept other : Kept) (next : Checkpoint) → StoreWire images kept other → HoldsBook kept.entries kept.present other 0 (store_opened images) (at_rest kept other next)
holds_opened images kept other next wire = record {
  own = own_opened images kept other next wire;
  books = books_opened images kept other next;
  counts = counts_opened images kept other next wire;
  sound = settled_sound images;
  stake_is = inr refl;
  gated_is = inr refl;
}

pub holds_given : (book : List (List ℕ)) (present : Option Checkpoint) (stake : Kept) (gone : ℕ) (s : StoreState) (a : Aim) (entries : List (List ℕ)) → HoldsBook book present stake gone s a → HoldsBook (book ++ entries) present stake gone (given entries s) a
holds_given book present stake gone s a entries h = record {
  own = own_given s a entries h.own;
  books = books_given book present s a entries h.books;
  counts = counts_given gone s a entries h.counts;
  sound = h.sound;
  stake_is = front_or_more book entries present stake a.stake h.stake_is;
  gated_is = front_or_more book entries present stake a.gated h.gated_is;
}

-- ---- devices

begins_devices : (job : Begun) (s : StoreState) → (begins job s).devices ≡ s.devices
begins_devices NoJob s = refl
begins_devices (Close odd) s = refl
begins_devices Repair s = refl
begins_devices (Switch snapshot) s = refl
begins_devices (AddGroup group) s = refl

pub ends_devices : (ending : Ending) (s : StoreState) → (ends ending s).devices ≡ s.devices
ends_devices (Closes odd) s = refl
ends_devices Repairs s = refl
ends_devices (Adds end) s = refl
ends_devices (Switches end last) s = refl

sync_same : (device : Device) (d : Devices) → change (during Sync) device d ≡ d
sync_same (Log true) d = refl
sync_same (Log false) d = refl
sync_same (Slot true) d = refl
sync_same (Slot false) d = refl

-- ---- the end of a job

ends_own : (ending : Ending) (s : StoreState) (a : Aim) → OwnRests (ends ending s) a.kept a.stake → IsOwn (ends ending s) a
ends_own (Closes odd) s a r = r
ends_own Repairs s a r = r
ends_own (Adds end) s a r = r
ends_own (Switches end last) s a r = r

-- what another torn gate may bring back after a job: what was kept before its last call, or what was at stake then
last_rests : (P : Kept → Type 0) (d : Devices) (s : StoreState) (a : Aim) (other : Kept) → Leaves StoreNext d a → ((images : Images) → s.devices ≡ all_settled images → MayLeave d images) → OwnRests s a.then other → P a.kept → P a.stake → (o : Kept) × (P o × OwnRests s a.then o)
last_rests P d s a other leaves may r kept_is stake_is = by (leaves r.images (may r.images r.rests.settled))
  where
    with_other : (k o : Kept) → StoreWire r.images k o → OwnRests s a.then o
    with_other k o w = record {
      images = r.images;
      rests = r.rests;
      wire = subst (λ (x : Kept). StoreWire r.images x o) (sym (store_restores r.images k o w) ∙ store_restores r.images a.then other r.wire) w;
    }

    by : StoreNext r.images a.kept a.stake → (o : Kept) × (P o × OwnRests s a.then o)
    by (inl w) = (a.kept, (kept_is, with_other a.kept a.kept w))
    by (inr (inl w)) = (a.stake, (stake_is, with_other a.kept a.stake w))
    by (inr (inr w)) = (a.stake, (stake_is, with_other a.stake a.stake w))

-- ---- the next call

-- a job that switches is none of a store that keeps its book
no_switch : (calls : List StoreCall) (end last : ℕ) (adding : List (List ℕ)) (a : Aim) → some calls ≡ true → Grown calls (Switches end last) adding a → ⊥
no_switch [] end last adding a runs grown = cc
no_switch (call ∷ left) end last adding a runs grown = grown

-- the number of entries that are gone changes at the end of a switch alone
gone_stays : (ending : Ending) (s : StoreState) (adding : List (List ℕ)) (a : Aim) (firm kept gone : ℕ) → s.ending ≡ ending → GrownBy ending adding a → gone_by (ends ending s).ending firm kept gone ≡ gone
gone_stays (Closes odd) s adding a firm kept gone is grown = ap (λ (e : Ending). gone_by e firm kept gone) is
gone_stays Repairs s adding a firm kept gone is grown = ap (λ (e : Ending). gone_by e firm kept gone) is
gone_stays (Adds end) s adding a firm kept gone is grown = ap (λ (e : Ending). gone_by e firm kept gone) is
gone_stays (Switches end last) s adding a firm kept gone is grown = absurd grown

-- what was given becomes firm, and nothing else does
ends_firm : (ending : Ending) (s : StoreState) (a : Aim) → GrownBy ending s.adding a → firm_then (ends ending s) ≡ firm_then s
ends_firm (Closes odd) s a grown =
    let none = ap (λ (l : List (List ℕ)). length l) grown.0 in
    omega (arith, none)
ends_firm Repairs s a grown =
    let none = ap (λ (l : List (List ℕ)). length l) grown.0 in
    omega (arith, none)
ends_firm (Adds end) s a grown = omega arith
ends_firm (Switches end last) s a grown = absurd grown

begins_kept : (job : Begun) (s : StoreState) (a : Aim) → (aim_begins job s a).kept ≡ a.kept
begins_kept NoJob s a = refl
begins_kept (Close odd) s a = refl
begins_kept Repair s a = refl
begins_kept (Switch snapshot) s a = refl
begins_kept (AddGroup group) s a = refl

length_book : (s : StoreState) (kept : Kept) (book : List (List ℕ)) → kept.entries ++ (s.adding ++ s.waiting) ≡ book → length kept.entries + (length s.adding + length s.waiting) ≡ length book
length_book s kept book all =
    let whole = ap (λ (l : List (List ℕ)). length l) all in
    let front = length-append kept.entries (s.adding ++ s.waiting) in
    let behind = length-append s.adding s.waiting in
    omega (arith, whole, front, behind)

module _ (stops : List ℕ → Bool) (tail : Tail) (book : List (List ℕ)) (present : Option Checkpoint) (stake : Kept) (gone : ℕ) where
  abbrev pub Holds : StoreState → Aim → Type 0
  Holds s a = HoldsBook book present stake gone s a

  abbrev pub Front : Kept → Type 0
  Front x = IsFrontOr book present stake x

  kept_front : (s : StoreState) (a : Aim) → Holds s a → IsFront book present a.kept
  kept_front s a h = front_of book present a.kept (s.adding ++ s.waiting) h.books.present_is h.books.all

  begins_fronts : (job : Begun) (s : StoreState) (a : Aim) → Holds s a → Books book present (begins job s) (aim_begins job s a) → Front (aim_begins job s a).stake × Front (aim_begins job s a).gated
  begins_fronts NoJob s a h books = (h.stake_is, h.gated_is)
  begins_fronts (Close odd) s a h books = (h.stake_is, h.stake_is)
  begins_fronts Repair s a h books = (h.stake_is, h.stake_is)
  begins_fronts (Switch snapshot) s a h books =
      absurd (no_switch (begins (Switch snapshot) s).running 0 0 [] (aim_begins (Switch snapshot) s a)
      (some_switch (not (side s)) (slot_gate_of (not (side s)) s) (checkpoint_text (record { generation = s.generation + 1; snapshot = snapshot }))) books.grown)
  begins_fronts (AddGroup group) s a h books = (
    inl (kept_front s a h),
    inl (front_of book present (with a.kept group) (drop (length group) s.waiting) h.books.present_is (append_assoc a.kept.entries group (drop (length group) s.waiting) ∙ books.all)),
  )

  begun_holds : (s : StoreState) (a : Aim) → Holds s a → (some s.running ≡ false → HasSpelling (due_job stops s)) → (b : Aim) × Holds (begun stops s) b
  begun_holds s a h spelled = by (some s.running) refl
    where
      by : (t : Bool) → some s.running ≡ t → (b : Aim) × Holds (cond t s (begins (due_job stops s) s)) b
      by true is = (a, h)
      by false is =
          let idle = no_calls s.running is in
          let books = books_begins stops book present s a idle h.books in
          let fronts = begins_fronts (due_job stops s) s a h books in (
            aim_begins (due_job stops s) s a,
            record {
              own = own_begins stops s a idle h.own (spelled is);
              books = books;
              counts = counts_begins (due_job stops s) gone s a idle h.own h.counts;
              sound = subst (λ (d : Devices). AreSound d) (sym (begins_devices (due_job stops s) s)) h.sound;
              stake_is = fronts.0;
              gated_is = fronts.1;
            },
          )

  left_fronts : (left : List StoreCall) (a : Aim) → Front a.stake → Front a.gated → Front (aim_left left a).stake × Front (aim_left left a).gated
  left_fronts [] a stake_is gated_is = (stake_is, gated_is)
  left_fronts (call ∷ []) a stake_is gated_is = (gated_is, gated_is)
  left_fronts (call ∷ (more ∷ left)) a stake_is gated_is = (stake_is, gated_is)

  job_holds : (calls : List StoreCall) (s : StoreState) (a : Aim) → s.running ≡ calls → Holds s a → (b : Aim) × Holds (job_called tail calls s) b
  job_holds [] s a is h = (a, h)
  job_holds (WriteTail ∷ left) s a is h =
      let books : BooksBy (WriteTail ∷ left) book present s a = subst (λ (calls : List StoreCall). BooksBy calls book present s a) is h.books in
      absurd books.plain
  job_holds (On device call ∷ []) s a is h =
      let runs = subst (λ (calls : List StoreCall). StandsBy StoreNext OwnRests calls s a) is h.own in
      let books = subst (λ (calls : List StoreCall). BooksBy calls book present s a) is h.books in
      let counts = subst (λ (calls : List StoreCall). CountsBy calls gone s a) is h.counts in
      let goes = runs.1 no_tail no_tail_fits in
      let last =
      last_rests Front s.devices (ends s.ending (advanced tail (On device call) [] s)) a goes.1.0 runs.0
      (λ images settled_is. settled_leaves call device s.devices images h.sound (sym (ends_devices s.ending (advanced tail (On device call) [] s)) ∙ settled_is)) goes.1.1 (inl (kept_front s a h)) h.stake_is in
      let own = ends_own s.ending (advanced tail (On device call) [] s) (at_rest a.then last.0 a.next) last.1.1 in (
        at_rest a.then last.0 a.next,
        record {
          own = own;
          books = books_goes book present s a tail (On device call) [] last.0 books;
          counts =
              subst (λ (n : ℕ). Counts n (job_called tail (On device call ∷ []) s) (at_rest a.then last.0 a.next))
              (gone_stays s.ending (advanced tail (On device call) [] s) s.adding a (job_called tail (On device call ∷ []) s).firm (length a.then.entries) gone refl books.grown)
              (counts_goes gone s a tail (On device call) [] last.0 counts own);
          sound = subst (λ (d : Devices). AreSound d) (sym (ends_devices s.ending (advanced tail (On device call) [] s))) (change_sound call device s.devices goes.0 h.sound);
          stake_is = last.1.0;
          gated_is = last.1.0;
        },
      )
  job_holds (On device call ∷ (more ∷ left)) s a is h =
      let runs = subst (λ (calls : List StoreCall). StandsBy StoreNext OwnRests calls s a) is h.own in
      let books = subst (λ (calls : List StoreCall). BooksBy calls book present s a) is h.books in
      let counts = subst (λ (calls : List StoreCall). CountsBy calls gone s a) is h.counts in
      let goes = runs.1 no_tail no_tail_fits in
      let fronts = left_fronts (more ∷ left) a h.stake_is h.gated_is in (
        aim_called tail (On device call) (more ∷ left) a,
        record {
          own = goes.1;
          books = books_goes book present s a tail (On device call) (more ∷ left) a.kept books;
          counts = counts_goes gone s a tail (On device call) (more ∷ left) a.kept counts goes.1;
          sound = change_sound call device s.devices goes.0 h.sound;
          stake_is = fronts.0;
          gated_is = fronts.1;
        },
      )

  call_holds : (s : StoreState) (a : Aim) → Holds s a → CallFits stops tail s → (b : Aim) × Holds (store_called stops tail s) b
  call_holds s a h fits =
      let q = begun_holds s a h fits.0 in
      job_holds (begun stops s).running (begun stops s) q.0 refl q.1

  pub run_holds : (n : ℕ) (s : StoreState) (a : Aim) → Holds s a → RunFits stops tail n s → (b : Aim) × Holds (called_times stops tail n s) b
  run_holds zero s a h fits = (a, h)
  run_holds (suc n) s a h fits =
      let so_far = run_holds n s a h fits.0 in
      call_holds (called_times stops tail n s) so_far.0 so_far.1 fits.1

  -- ---- the number of firm entries

  begun_firm_then : (s : StoreState) (a : Aim) → Holds s a → firm_then (begun stops s) ≡ firm_then s
  begun_firm_then s a h = by (some s.running) refl
    where
      by : (t : Bool) → some s.running ≡ t → firm_then (cond t s (begins (due_job stops s) s)) ≡ firm_then s
      by true is = refl
      by false is =
          let books = books_begins stops book present s a (no_calls s.running is) h.books in
          let firm = begins_firm (due_job stops s) s in
          let kept = ap (λ (k : Kept). length k.entries) (begins_kept (due_job stops s) s a) in
          let now = length_book (begins (due_job stops s) s) (aim_begins (due_job stops s) s a).kept book books.all in
          let before = length_book s a.kept book h.books.all in
          omega (arith, firm, kept, now, before)

  job_firm_then : (calls : List StoreCall) (s : StoreState) (a : Aim) → s.running ≡ calls → Holds s a → firm_then (job_called tail calls s) ≡ firm_then s
  job_firm_then [] s a is h = refl
  job_firm_then (WriteTail ∷ left) s a is h =
      let books : BooksBy (WriteTail ∷ left) book present s a = subst (λ (calls : List StoreCall). BooksBy calls book present s a) is h.books in
      absurd books.plain
  job_firm_then (On device call ∷ []) s a is h =
      let books = subst (λ (calls : List StoreCall). BooksBy calls book present s a) is h.books in
      ends_firm s.ending (advanced tail (On device call) [] s) a books.grown
  job_firm_then (On device call ∷ (more ∷ left)) s a is h = refl

  pub run_firm_then : (n : ℕ) (s : StoreState) (a : Aim) → Holds s a → RunFits stops tail n s → firm_then (called_times stops tail n s) ≡ firm_then s
  run_firm_then zero s a h fits = refl
  run_firm_then (suc n) s a h fits =
      let so_far = run_holds n s a h fits.0 in
      let q = begun_holds (called_times stops tail n s) so_far.0 so_far.1 fits.1.0 in
      job_firm_then (begun stops (called_times stops tail n s)).running (begun stops (called_times stops tail n s)) q.0 refl q.1
      ∙ begun_firm_then (called_times stops tail n s) so_far.0 so_far.1 ∙ run_firm_then n s a h fits.0

  -- ---- what a crash leaves

  left_now : (s : StoreState) (a : Aim) → Holds s a → (images : Images) → MayLeave s.devices images → BookNext book present stake images
  left_now s a h images may = record { kept = a.kept; other = a.stake; next = own_leaves s a h.own images may; kept_is = kept_front s a h; other_is = h.stake_is }

  called_devices : (device : Device) (call : DeviceCall) (left : List StoreCall) (s : StoreState) → (job_called tail (On device call ∷ left) s).devices ≡ change (made call) device s.devices
  called_devices device call [] s = ends_devices s.ending (advanced tail (On device call) [] s)
  called_devices device call (more ∷ left) s = refl

  -- a crash during a call that is no sync leaves what one after it leaves
  left_then : (device : Device) (call : DeviceCall) (left : List StoreCall) (s : StoreState) (a : Aim) → s.running ≡ On device call ∷ left → Holds s a → (images : Images) → MayLeave (change (made call) device s.devices) images → BookNext book present stake images
  left_then device call left s a is h images may =
      let next = job_holds (On device call ∷ left) s a is h in
      left_now (job_called tail (On device call ∷ left) s) next.0 next.1 images (subst (λ (d : Devices). MayLeave d images) (sym (called_devices device call left s)) may)

  left_during : (calls : List StoreCall) (s : StoreState) (a : Aim) → s.running ≡ calls → Holds s a → (images : Images) → MayLeave (devices_during tail calls s) images → BookNext book present stake images
  left_during [] s a is h images may = left_now s a h images may
  left_during (WriteTail ∷ left) s a is h images may =
      let books : BooksBy (WriteTail ∷ left) book present s a = subst (λ (calls : List StoreCall). BooksBy calls book present s a) is h.books in
      absurd books.plain
  left_during (On device Sync ∷ left) s a is h images may = left_now s a h images (subst (λ (d : Devices). MayLeave d images) (sync_same device s.devices) may)
  left_during (On device (Write from bytes) ∷ left) s a is h images may = left_then device (Write from bytes) left s a is h images may
  left_during (On device (Cut to) ∷ left) s a is h images may = left_then device (Cut to) left s a is h images may

  fits_front : (n k : ℕ) (s : StoreState) → k ≤ n → RunFits stops tail n s → RunFits stops tail k s
  fits_front zero zero s le fits = tt
  fits_front zero (suc k) s le fits = absurd (omega (arith, le))
  fits_front (suc n) k s le fits =
      ⊎_elim (λ (is : k ≡ suc n). subst (λ (m : ℕ). RunFits stops tail m s) (sym is) fits) (λ (differs : k ≢ suc n). fits_front n k s (omega (arith, le, differs)) fits.0)
      (cases_eq k (suc n))

  pub run_leaves : (n : ℕ) (s : StoreState) (a : Aim) → Holds s a → RunFits stops tail n s → (images : Images) → RunLeaves stops tail n s images → BookNext book present stake images
  run_leaves n s a h fits images l = by (run_holds l.call s a h (fits_front n l.call s l.among fits)) l.leaves
    where
      by : (b : Aim) × Holds (called_times stops tail l.call s) b → CallLeaves stops tail (called_times stops tail l.call s) images → BookNext book present stake images
      by x (inl may) = left_now (called_times stops tail l.call s) x.0 x.1 images may
      by x (inr moment) =
          let q = begun_holds (called_times stops tail l.call s) x.0 x.1 moment.0.0 in
          left_during (begun stops (called_times stops tail l.call s)).running (begun stops (called_times stops tail l.call s)) q.0 refl q.1 images moment.1

  -- ---- what counts as firm is restored, or the present generation is not

  abbrev pub Counted : ℕ → Images → Type 0
  Counted firm images = (generation_of present < generation_of (restores images).present) ⊎ HasFirm book present gone firm (restores images)

  counted_now : (s : StoreState) (a : Aim) → Holds s a → (images : Images) → MayLeave s.devices images → Counted s.firm images
  counted_now s a h images may = by (counts_crash gone s a h.counts h.own images may)
    where
      by : (generation_of a.kept.present < generation_of (restores images).present) ⊎ BeginsWith a.kept gone s.firm (restores images) → Counted s.firm images
      by (inl later) = inl (subst (λ (p : Option Checkpoint). generation_of p < generation_of (restores images).present) h.books.present_is later)
      by (inr b) =
          inr (record {
            front = a.kept.entries;
            more = b.more;
            rest = s.adding ++ s.waiting;
            is = b.is ∙ ap (λ (p : Option Checkpoint). record { present = p; entries = a.kept.entries ++ b.more }) h.books.present_is;
            book_is = h.books.all;
            most = b.most;
          })

  fewer : (firm more : ℕ) (images : Images) → firm ≤ more → Counted more images → Counted firm images
  fewer firm more images le (inl later) = inl later
  fewer firm more images le (inr has) =
      let most = has.most in
      inr (record { front = has.front; more = has.more; rest = has.rest; is = has.is; book_is = has.book_is; most = omega (arith, le, most) })

  counted_then : (device : Device) (call : DeviceCall) (left : List StoreCall) (s : StoreState) (a : Aim) → s.running ≡ On device call ∷ left → Holds s a → (images : Images) → MayLeave (change (made call) device s.devices) images
      → Counted (job_called tail (On device call ∷ left) s).firm images
  counted_then device call left s a is h images may =
      let next = job_holds (On device call ∷ left) s a is h in
      counted_now (job_called tail (On device call ∷ left) s) next.0 next.1 images (subst (λ (d : Devices). MayLeave d images) (sym (called_devices device call left s)) may)

  counted_during : (calls : List StoreCall) (s : StoreState) (a : Aim) (firm : ℕ) → s.running ≡ calls → Holds s a → firm ≤ s.firm → firm ≤ (job_called tail calls s).firm → (images : Images) → MayLeave (devices_during tail calls s) images → Counted firm images
  counted_during [] s a firm is h le le_then images may = fewer firm s.firm images le (counted_now s a h images may)
  counted_during (WriteTail ∷ left) s a firm is h le le_then images may =
      let books : BooksBy (WriteTail ∷ left) book present s a = subst (λ (calls : List StoreCall). BooksBy calls book present s a) is h.books in
      absurd books.plain
  counted_during (On device Sync ∷ left) s a firm is h le le_then images may =
      fewer firm s.firm images le (counted_now s a h images (subst (λ (d : Devices). MayLeave d images) (sync_same device s.devices) may))
  counted_during (On device (Write from bytes) ∷ left) s a firm is h le le_then images may =
      fewer firm (job_called tail (On device (Write from bytes) ∷ left) s).firm images le_then (counted_then device (Write from bytes) left s a is h images may)
  counted_during (On device (Cut to) ∷ left) s a firm is h le le_then images may =
      fewer firm (job_called tail (On device (Cut to) ∷ left) s).firm images le_then (counted_then device (Cut to) left s a is h images may)

  -- a crash before the next call, or during it
  pub call_counted : (s : StoreState) (a : Aim) → Holds s a → s.firm ≤ greatest → (images : Images) → CallLeaves stops tail s images → Counted s.firm images
  call_counted s a h few images (inl may) = counted_now s a h images may
  call_counted s a h few images (inr moment) =
      let q = begun_holds s a h moment.0.0 in
      let same = begun_firm stops s in
      let rises = (firm_rises stops tail s few).0 in
      counted_during (begun stops s).running (begun stops s) q.0 s.firm refl q.1 (omega (arith, same)) rises images moment.1

  -- ---- where no call is due

  pub done_restores : (s : StoreState) (a : Aim) → Holds s a → is_due stops s ≡ false → (images : Images) → MayLeave s.devices images → with (restores images) s.waiting ≡ record { present = present; entries = book }
  done_restores s a h none images may = λ i. record { present = (ap (λ (k : Kept). k.present) restored_is ∙ h.books.present_is) i; entries = (ap (λ (k : Kept). k.entries ++ s.waiting) restored_is ∙ all) i }
    where
      idle : s.running ≡ []
      idle = (idle_now stops s none).0

      rests : OwnRests s a.kept a.stake
      rests = subst (λ (calls : List StoreCall). StandsBy StoreNext OwnRests calls s a) idle h.own

      stands : StoreStands s (at_rest a.kept (instead s rests.images) a.next)
      stands = subst (λ (calls : List StoreCall). StandsBy Either AnyRests calls s (at_rest a.kept (instead s rests.images) a.next)) (sym idle) (own_any s a.kept a.stake rests)

      either : Either images a.kept (instead s rests.images) → restores images ≡ a.kept
      either (inl is) = is
      either (inr is) = is ∙ nothing_at_stake stops s (at_rest a.kept (instead s rests.images) a.next) none stands

      restored_is : restores images ≡ a.kept
      restored_is = either (any_leaves s (at_rest a.kept (instead s rests.images) a.next) stands images may)

      adding_is : s.adding ≡ []
      adding_is = subst (λ (calls : List StoreCall). Grown calls s.ending s.adding a) idle h.books.grown

      all : a.kept.entries ++ s.waiting ≡ book
      all = ap (λ (l : List (List ℕ)). a.kept.entries ++ (l ++ s.waiting)) (sym adding_is) ∙ h.books.all

-- what the bytes restore with which the next life begins
pub book_restored : (book : List (List ℕ)) (present : Option Checkpoint) (stake : Kept) (images : Images) → BookNext book present stake images → IsFrontOr book present stake (restores images)
book_restored book present stake images l = by (next_restores images l.kept l.other l.next) l.other_is
  where
    by : Either images l.kept l.other → IsFrontOr book present stake l.other → IsFrontOr book present stake (restores images)
    by (inl is) other_is = inl (subst (λ (x : Kept). IsFront book present x) (sym is) l.kept_is)
    by (inr is) (inl front) = inl (subst (λ (x : Kept). IsFront book present x) (sym is) front)
    by (inr is) (inr same) = inr (is ∙ same)
