-- What a store that may switch has of a book, after the next call of a job.
use Rattle.std.proofs.Common.{◌≡◌, ◌⊎◌, inl, inr, ℕ, ◌+◌, ◌-◌, ◌≤◌, min, max, ◌<◌, Bool, true, false, cond, List, [], ◌∷◌, ◌++◌, length, take, drop, map, Option, Some, None, IfSome, refl, sym, ap, ◌∙◌, subst, arith}
use Rattle.std.proofs.lemmas.List.{drop-map, drop-drop}
use Rattle.disk_model.specs.DeviceCalls.{CanBeMade}
use Rattle.disk_model.specs.declared.call.DeviceCall.{DeviceCall}
use Rattle.store_form.specs.Spelling.{IsGroup, group_text}
use Rattle.store_form.specs.declared.checkpoint.Checkpoint.{Checkpoint}
use Rattle.vote_book.specs.Entries.{entry_text}
use Rattle.vote_book.specs.Books.{HasMade}
use Rattle.vote_book.specs.declared.entry.LogEntry.{LogEntry}
use Rattle.book_laws.specs.BookCuts.{cut_at, until_installed, InstallUpTo}
use Rattle.store_laws.specs.Restored.{with, switched}
use Rattle.store_laws.specs.States.{StoreState, greatest, side, is_torn, writes_tail, cells_on, device_of, call_of, firm_by, advanced, ends, job_called}
use Rattle.store_laws.specs.Lives.{StoreNext}
use Rattle.store_laws.specs.Stands.{Aim, at_rest, StandsBy, OwnRests, IsOwn, aim_called}
use Rattle.store_laws.specs.Runs.{aim_first}
use Rattle.store_laws.specs.Firm.{not_firm}
use Rattle.store_laws.specs.Stakes.{StakesIn}
use Rattle.store_laws.specs.Logs.{KeepsAll, AddsAll, MakesBy, Makes, written_by}
use Rattle.store_laws.specs.Asked.{NextBy, NextIn}
use Rattle.store_laws.specs.Unswitched.{no_tail}
use Rattle.store_laws.specs.declared.job.Kept.{Kept}
use Rattle.store_laws.specs.declared.job.Tail.{Tail}
use Rattle.store_laws.specs.declared.job.Device.{Device}
use Rattle.store_laws.specs.declared.job.Gate.{Gate}
use Rattle.store_laws.specs.declared.job.Gate.TheVariants.{Open}
use Rattle.store_laws.specs.declared.job.Ending.{Ending}
use Rattle.store_laws.specs.declared.job.Ending.TheVariants.{Closes, Repairs, Adds, Switches}
use Rattle.store_laws.specs.declared.job.StoreCall.{StoreCall}
use Rattle.store_laws.specs.declared.job.StoreCall.TheVariants.{On, WriteTail}
use Rattle.store_laws.proofs.Stakes.{stakes_ends}
use Rattle.store_laws.proofs.Unswitched.{no_tail_fits}
use Rattle.durable_store.specs.BookRuns.{AreSound}
use Rattle.durable_store.proofs.Sounds.{change_sound}
use Rattle.world_rules.specs.Crashes.{is_unclosed, still_aside}
use Rattle.world_rules.specs.Fronts.{stated_place, checkpoint_place}
use Rattle.member_store.specs.Cuts.{StatesPlace, MendsBy, MendsIn, InstallNothing, IsFrontOf, BringsBack, IsTailOf, IsWholeTail}
use Rattle.member_store.proofs.Fronts.{front_added, waits_is, counts_all, brings_kept, until_front, until_length, until_upto}
use Rattle.member_store.proofs.Has.{Has, both_ways, mends_same, none_torn, calm_parts}

-- ---- what is put aside

aside_is : (s : StoreState) (aside : List LogEntry) → is_unclosed s ≡ true → still_aside s aside ≡ aside
aside_is s aside torn = ap (λ (t : Bool). cond t aside []) torn

-- as long as a gate is torn, no more and no less is brought back
pub back_still : (s : StoreState) (count : ℕ) (book aside : List LogEntry) (other : Kept) → (is_unclosed s ≡ true → BringsBack count book aside other) → is_unclosed s ≡ true → BringsBack count book (still_aside s aside) other
back_still s count book aside other back torn = subst (λ (es : List LogEntry). BringsBack count book es other) (sym (aside_is s aside torn)) (back torn)

-- ---- the tail

-- the tail is written by a switch alone, and over no torn gate
tail_calm : (e : Ending) (left : List StoreCall) (written : Option Tail) (adding : List (List ℕ)) (a : Aim) (s : StoreState) → MakesBy e (WriteTail ∷ left) written adding a → MendsBy e s → is_unclosed s ≡ false
tail_calm (Closes odd) left written adding a s m calm = absurd m.plain
tail_calm Repairs left written adding a s m calm = absurd m.plain
tail_calm (Adds end) left written adding a s m calm = absurd m.plain
tail_calm (Switches end last) left written adding a s m calm = calm

tail_place : (e : Ending) (left : List StoreCall) (written : Option Tail) (adding : List (List ℕ)) (a : Aim) (place : ℕ) → MakesBy e (WriteTail ∷ left) written adding a → NextBy (StatesPlace place) e a.next → stated_place a.next.snapshot ≡ place
tail_place (Closes odd) left written adding a place m is = absurd m.plain
tail_place Repairs left written adding a place m is = absurd m.plain
tail_place (Adds end) left written adding a place m is = absurd m.plain
tail_place (Switches end last) left written adding a place m is = is

tail_none : (e : Ending) (left : List StoreCall) (written : Option Tail) (adding : List (List ℕ)) (a : Aim) → MakesBy e (WriteTail ∷ left) written adding a → adding ≡ []
tail_none (Closes odd) left written adding a m = absurd m.plain
tail_none Repairs left written adding a m = absurd m.plain
tail_none (Adds end) left written adding a m = absurd m.plain
tail_none (Switches end last) left written adding a m = m.none

-- a tail that is the cut of a front of the book is that front
whole_front : (next : Checkpoint) (tail : Tail) (book front : List LogEntry) (place count : ℕ) → stated_place next.snapshot ≡ place → count ≤ length book → take count book ≡ front → (0 < place → HasMade front place)
    → InstallUpTo place front → tail.entries ≡ map entry_text (cut_at place front) → IsFrontOf (switched next tail.entries) book count
whole_front next tail book front place count at few is made upto entries = record {
  few = few;
  made = λ some. subst (λ (es : List LogEntry). HasMade es (stated_place next.snapshot)) (sym is)
      (subst (λ (n : ℕ). HasMade front n) (sym at) (made (subst (λ (n : ℕ). 0 < n) at some)));
  upto = subst (λ (es : List LogEntry). InstallUpTo (stated_place next.snapshot) es) (sym is) (subst (λ (n : ℕ). InstallUpTo n front) (sym at) upto);
  entries =
      entries
      ∙ (ap (λ (n : ℕ). map entry_text (cut_at n front)) (sym at)
      ∙ ap (λ (es : List LogEntry). map entry_text (cut_at (stated_place next.snapshot) es)) (sym is));
}

-- ---- numbers

added_number : (firm adding past size : ℕ) → (firm + past) + adding ≤ size → size ≤ greatest → min (firm + adding) greatest + past ≡ (firm + past) + adding
added_number firm adding past size few most = omega (arith, few, most)

tail_number : (firm restored made past size : ℕ) → firm ≤ restored + made → (restored + made) + past ≤ size → size ≤ greatest → max firm (min (restored + made) greatest) ≡ restored + made
tail_number firm restored made past size high few most = omega (arith, high, few, most)

rose_number : (firm upto past : ℕ) → (firm + past) + (max firm (min upto greatest) - firm) ≡ max firm (min upto greatest) + past
rose_number firm upto past = omega arith

-- the slot that a switch opens is not torn
open_calm : (t : Bool) (even odd : Gate) → is_torn even ≡ false → is_torn odd ≡ false → (is_torn (cond t Open even) ≡ false) × (is_torn (cond t odd Open) ≡ false)
open_calm true even odd e o = (refl, o)
open_calm false even odd e o = (e, refl)

-- what the next of these calls needs: the tail, if it writes one, has a spelling and is that of the whole book
pub record Gives (place : ℕ) (book : List LogEntry) (calls : List StoreCall) (q : StoreState) (tail : Tail) : Type 0 where
  pub fits : writes_tail calls ≡ true → IsGroup tail.entries
  pub whole : writes_tail calls ≡ true → IsWholeTail q place book tail

module _ (past top place : ℕ) (book aside : List LogEntry) (most : length book ≤ greatest) (reached : place ≤ top) where
  tail_is : (s : StoreState) (next : Checkpoint) (tail : Tail) → stated_place next.snapshot ≡ place → s.firm + past ≤ length book → not_firm s ≡ map entry_text (drop (s.firm + past) book) → IsWholeTail s place book tail
      → IsTailOf s.firm s.restored past book next tail
  tail_is s next tail at few rest w =
      let number = w.number in
      let all = counts_all s.firm past (not_firm s) book few rest in
      let long = until_length place book in
      let same : (s.restored + tail.made) + past ≡ length (until_installed place book) = omega (arith, number, all, long) in record {
        high = w.high;
        front = whole_front next tail book (until_installed place book) place ((s.restored + tail.made) + past) at (omega (arith, same, long))
            (ap (λ (n : ℕ). take n book) same ∙ until_front place book) w.made (until_upto place book) w.entries;
      }

  -- ---- the job goes on

  module _ (q : StoreState) (a : Aim) (written : Option Tail) (h : Has q a written past top place book aside) where
    more_on : (tail : Tail) (device : Device) (call : DeviceCall) (more : StoreCall) (left : List StoreCall) → CanBeMade call (cells_on device q.devices) → MendsBy q.ending q → NextBy (StatesPlace place) q.ending a.next
        → Has (advanced tail (On device call) (more ∷ left) q) (aim_called tail (On device call) (more ∷ left) a) written past top place book (still_aside q aside)
    more_on tail device call more [] can mends next = record {
      mends = mends_same q.ending q (advanced tail (On device call) (more ∷ []) q) refl mends;
      kept = h.kept;
      low = h.low;
      adds = h.adds;
      rest = h.rest;
      tail = h.tail;
      next = next;
      sound = change_sound call device q.devices can h.sound;
      back = back_still q (q.firm + past) book aside a.gated h.gated;
      gated = back_still q (q.firm + past) book aside a.gated h.gated;
    }
    more_on tail device call more (last ∷ left) can mends next = record {
      mends = mends_same q.ending q (advanced tail (On device call) (more ∷ (last ∷ left)) q) refl mends;
      kept = h.kept;
      low = h.low;
      adds = h.adds;
      rest = h.rest;
      tail = h.tail;
      next = next;
      sound = change_sound call device q.devices can h.sound;
      back = back_still q (q.firm + past) book aside a.stake h.back;
      gated = back_still q (q.firm + past) book aside a.gated h.gated;
    }

    more_tail : (tail : Tail) (more : StoreCall) (left : List StoreCall) → CanBeMade (call_of tail WriteTail) (cells_on (device_of q WriteTail) q.devices) → is_unclosed q ≡ false → stated_place a.next.snapshot ≡ place
        → IsTailOf q.firm q.restored past book a.next tail → Has (advanced tail WriteTail (more ∷ left) q) (aim_called tail WriteTail (more ∷ left) a) (Some tail) past top place book (still_aside q aside)
    more_tail tail more [] can calm at t = record {
      mends = calm;
      kept = h.kept;
      low = h.low;
      adds = h.adds;
      rest = h.rest;
      tail = t;
      next = at;
      sound = change_sound (call_of tail WriteTail) (device_of q WriteTail) q.devices can h.sound;
      back = λ torn. both_ways (is_unclosed q) (BringsBack (q.firm + past) book (still_aside q aside) (switched a.next tail.entries)) torn calm;
      gated = λ torn. both_ways (is_unclosed q) (BringsBack (q.firm + past) book (still_aside q aside) (switched a.next tail.entries)) torn calm;
    }
    more_tail tail more (last ∷ left) can calm at t = record {
      mends = calm;
      kept = h.kept;
      low = h.low;
      adds = h.adds;
      rest = h.rest;
      tail = t;
      next = at;
      sound = change_sound (call_of tail WriteTail) (device_of q WriteTail) q.devices can h.sound;
      back = λ torn. both_ways (is_unclosed q) (BringsBack (q.firm + past) book (still_aside q aside) a.stake) torn calm;
      gated = λ torn. both_ways (is_unclosed q) (BringsBack (q.firm + past) book (still_aside q aside) (switched a.next tail.entries)) torn calm;
    }

  -- ---- the job ends

  -- a store at rest
  rested : (q : StoreState) (then other : Kept) (next : Checkpoint) → q.running ≡ [] → InstallNothing q.adding → checkpoint_place then.present ≤ top → IsFrontOf then book (q.firm + past) → not_firm q ≡ map entry_text (drop (q.firm + past) book) → AreSound q.devices
      → (is_unclosed q ≡ true → BringsBack (q.firm + past) book aside other) → Has q (at_rest then other next) None past top place book (still_aside q aside)
  rested q then other next idle adds low kept rest sound back = record {
    mends = subst (λ (calls : List StoreCall). MendsIn calls q) (sym idle) tt;
    kept = kept;
    low = low;
    adds = adds;
    rest = rest;
    tail = tt;
    next = subst (λ (calls : List StoreCall). NextIn (StatesPlace place) calls q.ending next) (sym idle) tt;
    sound = sound;
    back = back_still q (q.firm + past) book aside other back;
    gated = back_still q (q.firm + past) book aside other back;
  }

  module _ (q : StoreState) (a : Aim) (written : Option Tail) (h : Has q a written past top place book aside) (other : Kept) where
    waits_none : q.adding ≡ [] → q.waiting ≡ map entry_text (drop (q.firm + past) book)
    waits_none none = ap (λ (l : List (List ℕ)). l ++ q.waiting) (sym none) ∙ h.rest

    -- ---- a gate is closed

    kept_then : a.then ≡ a.kept → IsFrontOf a.then book (q.firm + past)
    kept_then is = subst (λ (k : Kept). IsFrontOf k book (q.firm + past)) (sym is) h.kept

    low_then : a.then ≡ a.kept → checkpoint_place a.then.present ≤ top
    low_then is = subst (λ (k : Kept). checkpoint_place k.present ≤ top) (sym is) h.low

    -- another gate may still be torn
    back_then : a.then ≡ a.kept → BringsBack (q.firm + past) book aside a.stake → (other ≡ a.then) ⊎ ((q.torn ≡ true) × (other ≡ a.stake)) → BringsBack (q.firm + past) book aside other
    back_then is b (inl same) = subst (λ (k : Kept). BringsBack (q.firm + past) book aside k) (sym (same ∙ is)) (brings_kept a.kept a.stake (q.firm + past) book aside h.kept b)
    back_then is b (inr same) = subst (λ (k : Kept). BringsBack (q.firm + past) book aside k) (sym same.1) b

    abbrev End : Ending → Tail → StoreCall → Kept → Type 0
    End e tail call then = Has (ends e (advanced tail call [] q)) (at_rest then other a.next) None past top place book (still_aside (ends e (advanced tail call [] q)) aside)

    close_end : (odd : Bool) (tail : Tail) (call : StoreCall) (calls : List StoreCall) → KeepsAll calls written q.adding a → is_unclosed q ≡ true → AreSound (advanced tail call [] q).devices
        → (other ≡ a.then) ⊎ ((q.torn ≡ true) × (other ≡ a.stake)) → End (Closes odd) tail call a.then
    close_end odd tail call calls m torn sound left =
        rested (ends (Closes odd) (advanced tail call [] q)) a.then other a.next refl tt (low_then m.then_is) (kept_then m.then_is) (waits_none m.none) sound (λ still. back_then m.then_is (h.back torn) left)

    repair_end : (tail : Tail) (call : StoreCall) (calls : List StoreCall) → KeepsAll calls written q.adding a → is_unclosed q ≡ true → AreSound (advanced tail call [] q).devices
        → (other ≡ a.then) ⊎ ((q.torn ≡ true) × (other ≡ a.stake)) → End Repairs tail call a.then
    repair_end tail call calls m torn sound left =
        rested (ends Repairs (advanced tail call [] q)) a.then other a.next refl tt (low_then m.then_is) (kept_then m.then_is) (waits_none m.none) sound (λ still. back_then m.then_is (h.back torn) left)

    -- ---- a group is added

    group_end : (end : ℕ) (tail : Tail) (call : StoreCall) (calls : List StoreCall) → AddsAll calls written q.adding a → is_unclosed q ≡ false → AreSound (advanced tail call [] q).devices → End (Adds end) tail call a.then
    group_end end tail call calls m calm sound =
        let f : IsFrontOf (with a.kept q.adding) book ((q.firm + past) + length q.adding) = front_added book (q.firm + past) q.adding q.waiting h.rest a.kept h.adds h.kept in
        let number : min (q.firm + length q.adding) greatest + past ≡ (q.firm + past) + length q.adding = added_number q.firm (length q.adding) past (length book) f.few most in
        let parts = calm_parts q.torn (is_torn q.even) (is_torn q.odd) calm in
        rested (ends (Adds end) (advanced tail call [] q)) a.then other a.next refl tt (subst (λ (k : Kept). checkpoint_place k.present ≤ top) (sym m.then_is) h.low)
        (subst (λ (n : ℕ). IsFrontOf a.then book n) (sym number) (subst (λ (k : Kept). IsFrontOf k book ((q.firm + past) + length q.adding)) (sym m.then_is) f))
        (waits_is book (q.firm + past) q.adding q.waiting h.rest ∙ ap (λ (n : ℕ). map entry_text (drop n book)) (sym number))
        sound
        (λ torn. both_ways (is_unclosed (ends (Adds end) (advanced tail call [] q))) (BringsBack (min (q.firm + length q.adding) greatest + past) book aside other) torn
        (none_torn false (is_torn q.even) (is_torn q.odd) refl parts.1.0 parts.1.1))

    -- ---- a switch ends

    switch_end : (end : ℕ) (t tail : Tail) (call : StoreCall) (then : Kept) → then ≡ switched a.next t.entries → stated_place a.next.snapshot ≡ place → q.adding ≡ [] → is_unclosed q ≡ false → IsTailOf q.firm q.restored past book a.next t → AreSound (advanced tail call [] q).devices
        → End (Switches end t.made) tail call then
    switch_end end t tail call then is at none calm last sound =
        let high = last.high in
        let few = last.front.few in
        let made : firm_by t.made q ≡ q.restored + t.made = tail_number q.firm q.restored t.made past (length book) high few most in
        let number : firm_by t.made q + past ≡ (q.restored + t.made) + past = ap (λ (n : ℕ). n + past) made in
        let rose : (q.firm + past) + (firm_by t.made q - q.firm) ≡ firm_by t.made q + past = rose_number q.firm (q.restored + t.made) past in
        let parts = calm_parts q.torn (is_torn q.even) (is_torn q.odd) calm in
        let gates = open_calm (side q) q.even q.odd parts.1.0 parts.1.1 in
        rested (ends (Switches end t.made) (advanced tail call [] q)) then other a.next refl tt (subst (λ (k : Kept). checkpoint_place k.present ≤ top) (sym is) (omega (arith, at, reached)))
        (subst (λ (n : ℕ). IsFrontOf then book n) (sym number) (subst (λ (k : Kept). IsFrontOf k book ((q.restored + t.made) + past)) (sym is) last.front))
        (ap (λ (l : List (List ℕ)). drop (firm_by t.made q - q.firm) l) (waits_none none)
        ∙ (drop-map entry_text (firm_by t.made q - q.firm) (drop (q.firm + past) book)
        ∙ ap (λ (es : List LogEntry). map entry_text es) (drop-drop (firm_by t.made q - q.firm) (q.firm + past) book ∙ ap (λ (n : ℕ). drop n book) rose)))
        sound
        (λ torn. both_ways (is_unclosed (ends (Switches end t.made) (advanced tail call [] q))) (BringsBack (firm_by t.made q + past) book aside other) torn
        (none_torn false (is_torn (cond (side q) Open q.even)) (is_torn (cond (side q) q.odd Open)) refl gates.0 gates.1))

    -- the tail of a switch was written before its last call
    switch_on : (w : Option Tail) (end last : ℕ) (tail : Tail) (device : Device) (call : DeviceCall) → MakesBy (Switches end last) (On device call ∷ []) w q.adding a → IfSome w (λ (t : Tail). IsTailOf q.firm q.restored past book a.next t) → is_unclosed q ≡ false
        → stated_place a.next.snapshot ≡ place → AreSound (advanced tail (On device call) [] q).devices → End (Switches end last) tail (On device call) a.then
    switch_on None end last tail device call m is calm at sound = absurd m.left
    switch_on (Some t) end last tail device call m is calm at sound =
        subst (λ (e : Ending). End e tail (On device call) a.then) (sym m.ending_is)
        (switch_end (1 + length (group_text t.entries)) t tail (On device call) a.then m.then_is at m.none calm is sound)

    end_on : (e : Ending) (tail : Tail) (device : Device) (call : DeviceCall) → MakesBy e (On device call ∷ []) written q.adding a → MendsBy e q → NextBy (StatesPlace place) e a.next → AreSound (advanced tail (On device call) [] q).devices
        → (other ≡ a.then) ⊎ ((q.torn ≡ true) × (other ≡ a.stake)) → End e tail (On device call) a.then
    end_on (Closes odd) tail device call m mends next sound left = close_end odd tail (On device call) (On device call ∷ []) m mends sound left
    end_on Repairs tail device call m mends next sound left = repair_end tail (On device call) (On device call ∷ []) m mends sound left
    end_on (Adds end) tail device call m mends next sound left = group_end end tail (On device call) (On device call ∷ []) m mends sound
    end_on (Switches end last) tail device call m mends next sound left = switch_on written end last tail device call m h.tail mends next sound

  -- ---- the next call

  pub job_has : (calls : List StoreCall) (tail : Tail) (written : Option Tail) (q : StoreState) (a : Aim) (other : Kept) → StandsBy StoreNext OwnRests calls q a → Makes calls q.ending written q.adding a → StakesIn calls q a
      → MendsIn calls q → NextIn (StatesPlace place) calls q.ending a.next → Gives place book calls q tail → IsOwn (job_called tail calls q) (aim_first tail calls other a) → Has q a written past top place book aside
      → Has (job_called tail calls q) (aim_first tail calls other a) (written_by tail calls written) past top place book (still_aside (job_called tail calls q) aside)
  job_has [] tail written q a other own m k mends next g after h = record {
    mends = h.mends;
    kept = h.kept;
    low = h.low;
    adds = h.adds;
    rest = h.rest;
    tail = h.tail;
    next = h.next;
    sound = h.sound;
    back = back_still q (q.firm + past) book aside a.stake h.back;
    gated = back_still q (q.firm + past) book aside a.gated h.gated;
  }
  job_has (On device call ∷ []) tail written q a other own m k mends next g after h =
      let can : CanBeMade call (cells_on device q.devices) = (own.1 no_tail no_tail_fits).0 in
      end_on q a written h other q.ending tail device call m mends next (change_sound call device q.devices can h.sound) (stakes_ends tail (On device call) q a other k after)
  job_has (On device call ∷ (more ∷ left)) tail written q a other own m k mends next g after h =
      let can : CanBeMade call (cells_on device q.devices) = (own.1 no_tail no_tail_fits).0 in
      more_on q a written h tail device call more left can mends next
  job_has (WriteTail ∷ []) tail written q a other own m k mends next g after h =
      let can : CanBeMade (call_of tail WriteTail) (cells_on (device_of q WriteTail) q.devices) = (own.1 tail (g.fits refl)).0 in
      let t = tail_is q a.next tail (tail_place q.ending [] written q.adding a place m next) h.kept.few h.rest (g.whole refl) in
      switch_end q a written h other (1 + length (group_text tail.entries)) tail tail WriteTail (switched a.next tail.entries) refl (tail_place q.ending [] written q.adding a place m next) (tail_none q.ending [] written q.adding a m) (tail_calm q.ending [] written q.adding a q m mends) t
      (change_sound (call_of tail WriteTail) (device_of q WriteTail) q.devices can h.sound)
  job_has (WriteTail ∷ (more ∷ left)) tail written q a other own m k mends next g after h =
      let can : CanBeMade (call_of tail WriteTail) (cells_on (device_of q WriteTail) q.devices) = (own.1 tail (g.fits refl)).0 in
      let at = tail_place q.ending (more ∷ left) written q.adding a place m next in
      more_tail q a written h tail more left can (tail_calm q.ending (more ∷ left) written q.adding a q m mends) at (tail_is q a.next tail at h.kept.few h.rest (g.whole refl))
