-- What a cut admits its entries admit, and both report the same.
use Rattle.std.proofs.Common.{◌≡◌, ◌⊎◌, inl, inr, ⊎_elim, ℕ, zero, suc, ◌+◌, ◌-◌, ◌<◌, ◌≤◌, Bool, true, false, cond, ◌&&◌, ◌==◌, nat_lt, List, ◌++◌, Option, Some, None, refl, sym, ap, ◌∙◌, subst, arith}
use Rattle.std.specs.Prelude.{find, option_map, ◌↔◌}
use Rattle.std.specs.List.{list_any}
use Rattle.std.proofs.lemmas.Bool.{eqb-true, and_parts, and_from, both_ways, lt-ltb, ltb-true, false_from_ne_true}
use Rattle.smart_statements.specs.Batches.{Batch}
use Rattle.smart_statements.specs.declared.report.Report.{Report}
use Rattle.smart_statements.specs.declared.statement.Slot.{Slot}
use Rattle.vote_book.specs.declared.entry.LogEntry.{LogEntry}
use Rattle.vote_book.specs.declared.entry.LogEntry.TheVariants.{Opened, Wrote, Accepted, Promised, Synced, Decided, Installed, Marked}
use Rattle.vote_book.specs.declared.entry.Write.{Write}
use Rattle.vote_book.specs.declared.entry.Accept.{Accept}
use Rattle.vote_book.specs.declared.entry.Promise.{Promise}
use Rattle.vote_book.specs.Books.{place_made, latest_made, last_made, Among, HasMade, IsBelow, HasBegun, MayVote, Follows, Admits, Lawful}
use Rattle.vote_book.specs.Admission.{makes}
use Rattle.vote_book.specs.BookReports.{last_maker, accept_for, greatest_accept, lock_of, certificate_of, evidence_of, Reports}
use Rattle.vote_book.proofs.Tested.{is_made, last_has, none_zero}
use Rattle.vote_book.proofs.Locks.{made_most}
use Rattle.vote_book.proofs.Tidy.{front_lawful}
use Rattle.book_laws.specs.BookCuts.{greatest_promise, kept_of, before_place, from_place, has_cut, cut_at, IsNoVoteUpTo}
use Rattle.book_laws.proofs.Lists.{among_left, among_right, among_either}
use Rattle.book_laws.proofs.Promises.{IsAtLeast, greatest_most, under_through}
use Rattle.book_laws.proofs.Kept.{kept, promise_kept}
use Rattle.book_laws.proofs.Places.{Begins, begins, both_parts, rising, above_front, last_append, none_last, latest_second, find_second, accept_second, no_place_made, low_not_made, accepted_in_turn, wrote_in_turn}

-- ---- tests and bounds

differs : (j k : ℕ) → j < k → (j == k) ≡ false
differs j k less = false_from_ne_true (j == k) (λ is. let same = eqb-true j k is in absurd (omega arith))

not_for : (a : Accept) (view place : ℕ) → a.slot.place < place → accept_for view place (Accepted a) ≡ None
not_for a view place low = by (a.slot.view == view) (a.slot.place == place) (differs a.slot.place place low)
  where
    by : (s t : Bool) → t ≡ false → cond (s && t) (Some a) None ≡ None
    by true true is = absurd (cc)
    by true false is = refl
    by false t is = refl

-- ---- what is cut, by its two parts

module _ (place : ℕ) (front back : List LogEntry) (some : 0 < place) (lawful : Lawful 0 0 (front ++ back)) (starts : Begins place back) where
  abbrev pub whole : List LogEntry
  whole = front ++ back

  abbrev pub short : List LogEntry
  short = kept_of front ++ back

  pub first_there : Among starts.first back
  first_there = subst (λ (es : List LogEntry). Among starts.first es) (sym starts.is) (inl refl)

  pub front_lawful_too : Lawful 0 0 front
  front_lawful_too = front_lawful 0 0 front back lawful

  pub front_low : last_made front < place
  front_low =
      above_front front starts.first place (rising front front_lawful_too) some starts.made
      (lawful front starts.first starts.rest (ap (λ (es : List LogEntry). front ++ es) starts.is))

  pub back_high : place ≤ last_made back
  back_high = made_most back place (record { entry = starts.first; there = first_there; made = starts.made })

  kept_none : (e : LogEntry) → Among e (kept_of front) → place_made e ≡ None
  kept_none e there = (kept front e there).no_place

  short_is_back : last_made short ≡ last_made back
  short_is_back = let none = none_last (kept_of front) kept_none in let both = last_append (kept_of front) back in omega (arith, none, both)

  whole_is_back : last_made whole ≡ last_made back
  whole_is_back = let low = front_low in let high = back_high in let both = last_append front back in omega (arith, low, high, both)

  pub last_same : last_made short ≡ last_made whole
  last_same = short_is_back ∙ sym whole_is_back

  pub last_high : place ≤ last_made whole
  last_high = let high = back_high in let is = whole_is_back in omega (arith, high, is)

  pub latest_same : latest_made short ≡ latest_made whole
  latest_same = latest_second (kept_of front) back starts.first place first_there starts.made ∙ sym (latest_second front back starts.first place first_there starts.made)

  pub maker_same : last_maker short ≡ last_maker whole
  maker_same =
      ap (λ (n : ℕ). find (makes n) short) last_same
      ∙ (find_second (makes (last_made whole)) (kept_of front) back (λ e there. no_place_made (last_made whole) e (kept_none e there))
      ∙ sym (find_second (makes (last_made whole)) front back (λ e there. low_not_made (last_made whole) e front (let low = front_low in let high = last_high in omega (arith, low, high)) there)))

  -- no vote before the place is for one past it
  no_accept : (view k : ℕ) (e : LogEntry) → place < k → Among e front → accept_for view k e ≡ None
  no_accept view k (Accepted a) past there =
      not_for a view k (let turn = accepted_in_turn front a front_lawful_too there in let low = front_low in omega (arith, turn, low))
  no_accept view k (Opened o) past there = refl
  no_accept view k (Wrote w) past there = refl
  no_accept view k (Promised p) past there = refl
  no_accept view k (Synced s) past there = refl
  no_accept view k (Decided d) past there = refl
  no_accept view k (Installed i) past there = refl
  no_accept view k (Marked m) past there = refl

  accept_same : (view k : ℕ) → place < k → greatest_accept view k short ≡ greatest_accept view k whole
  accept_same view k past =
      accept_second view k (kept_of front) back (λ e there. (kept front e there).no_accept view k)
      ∙ sym (accept_second view k front back (λ e there. no_accept view k e past there))

  pub lock_same : (view : ℕ) → lock_of view short ≡ lock_of view whole
  lock_same view =
      ap (λ (n : ℕ). greatest_accept view (n + 1) short) last_same
      ∙ accept_same view (last_made whole + 1) (let high = last_high in omega (arith, high))

  -- ---- what stands in the cut

  pub short_among : (e : LogEntry) → Among e short → Among e whole
  short_among e there =
      ⊎_elim (λ k. among_left e front back (kept front e k).there) (λ b. among_right e front back b) (among_either e (kept_of front) back there)

  pub back_among : (e : LogEntry) → Among e back → Among e short
  back_among e there = among_right e (kept_of front) back there

  pub short_made : (k : ℕ) → HasMade short k → HasMade whole k
  short_made k has = record { entry = has.entry; there = short_among has.entry has.there; made = has.made }

  pub last_in_short : HasMade short (last_made short)
  last_in_short = by (latest_made short) refl
    where
      by : (latest : Option ℕ) → latest_made short ≡ latest → HasMade short (last_made short)
      by None is = absurd (let zero_ = none_zero short is in let same = last_same in let high = last_high in omega (arith, zero_, same, high, some))
      by (Some n) is = last_has short n is

  -- a promise that stands above what is voted for stands there in the cut, or a greater one does
  pub promise_in_short : (slot : Slot) (p : Promise) → ((q : Promise) → Among (Promised q) short → IsBelow slot q → ⊥) → Among (Promised p) whole → IsBelow slot p → ⊥
  promise_in_short slot p none there below =
      ⊎_elim (λ f. by (greatest_most front p f)) (λ b. none p (back_among (Promised p) b) below) (among_either (Promised p) front back there)
    where
      by : IsAtLeast (greatest_promise front) p.view p.regency → ⊥
      by g = none g.promise (among_left (Promised g.promise) (kept_of front) back (promise_kept front g.promise g.is))
          (under_through slot.view slot.regency p.view p.regency g.promise.view g.promise.regency below g.most)

  vote_of_short : (slot : Slot) (digest : List ℕ) → MayVote short slot digest → MayVote whole slot digest
  vote_of_short slot digest may = record {
    in_turn = λ more. short_made (slot.place - 1) (may.in_turn more);
    promises = λ p there below. promise_in_short slot p may.promises there below;
    synced = λ later. begun (may.synced later);
  }
    where
      begun : HasBegun short slot digest → HasBegun whole slot digest
      begun has = record { start = has.start; there = short_among (Synced has.start) has.there; view = has.view; regency = has.regency; reached = has.reached; kept = has.kept }

  wrote_in_short : (w : Write) → place < w.slot.place → Among (Wrote w) whole → Among (Wrote w) short
  wrote_in_short w past there =
      ⊎_elim (λ f. absurd (let turn = wrote_in_turn front w front_lawful_too f in let low = front_low in omega (arith, turn, low))) (λ b. back_among (Wrote w) b)
      (among_either (Wrote w) front back there)

  accepted_in_short : (a : Accept) → place < a.slot.place → Among (Accepted a) whole → Among (Accepted a) short
  accepted_in_short a past there =
      ⊎_elim (λ f. absurd (let turn = accepted_in_turn front a front_lawful_too f in let low = front_low in omega (arith, turn, low))) (λ b. back_among (Accepted a) b)
      (among_either (Accepted a) front back there)

  at_place : (w slot : Slot) → w ≡ slot → place < slot.place → place < w.place
  at_place w slot same past = subst (λ (s : Slot). place < s.place) (sym same) past

  follows_whole : (k : ℕ) → Follows place (latest_made short) k → Follows 0 (latest_made whole) k
  follows_whole k may = by (latest_made whole) refl (subst (λ (o : Option ℕ). Follows place o k) latest_same may)
    where
      by : (latest : Option ℕ) → latest_made whole ≡ latest → Follows place latest k → Follows 0 latest k
      by None is first = absurd (let zero_ = none_zero whole is in let high = last_high in omega (arith, zero_, high, some))
      by (Some n) is next = next

  above_whole : (k : ℕ) → ((made : ℕ) → HasMade short made → made < k) → (made : ℕ) → HasMade whole made → made < k
  above_whole k above made has =
      let less = above (last_made short) last_in_short in
      let most = made_most whole made has in
      let same = last_same in
      omega (arith, less, most, same)

  pub admitted : (restored : ℕ) (entry : LogEntry) → IsNoVoteUpTo place entry → Admits place restored short entry → Admits 0 0 whole entry
  admitted restored (Wrote w) past may = record {
    vote = vote_of_short w.slot w.digest may.vote;
    first = λ other there same. may.first other (wrote_in_short other (at_place other.slot w.slot same past) there) same;
  }
  admitted restored (Accepted a) past may = record {
    vote = vote_of_short a.slot a.digest may.vote;
    first = λ other there same. may.first other (accepted_in_short other (at_place other.slot a.slot same past) there) same;
  }
  admitted restored (Decided d) past may = follows_whole d.slot.place may
  admitted restored (Installed i) past may = record { above = above_whole i.place may.above; within = λ less. absurd (omega arith) }
  admitted restored (Opened o) past may = tt
  admitted restored (Promised p) past may = tt
  admitted restored (Synced s) past may = tt
  admitted restored (Marked m) past may = tt

-- ---- the laws

-- entries that can be cut are cut past place 0, and have an entry that makes the place
pub cut_past : (place : ℕ) (entries : List LogEntry) → has_cut place entries ≡ true → 0 < place
cut_past place entries is = let parts = and_parts (nat_lt 0 place) (list_any (makes place) entries) is in ltb-true 0 place parts.0

pub cut_makes : (place : ℕ) (entries : List LogEntry) → has_cut place entries ≡ true → list_any (makes place) entries ≡ true
cut_makes place entries is = (and_parts (nat_lt 0 place) (list_any (makes place) entries) is).1

pub can_cut : (place : ℕ) (entries : List LogEntry) → 0 < place → HasMade entries place → has_cut place entries ≡ true
can_cut place entries some has = and_from (nat_lt 0 place) (list_any (makes place) entries) (lt-ltb 0 place some) (is_made place entries has)

pub no_cut : (place : ℕ) (entries : List LogEntry) → (0 < place → HasMade entries place) → has_cut place entries ≡ false → place ≡ 0
no_cut place entries has not_cut = ⊎_elim (λ zero_. zero_) (λ some. absurd (both_ways (has_cut place entries) not_cut (can_cut place entries some (has some)))) (zero_or_more place)
  where
    zero_or_more : (n : ℕ) → (n ≡ 0) ⊎ (0 < n)
    zero_or_more zero = inl refl
    zero_or_more (suc n) = inr (omega arith)

-- lawful entries that can be cut, by their two parts
pub parts_lawful : (place : ℕ) (entries : List LogEntry) → Lawful 0 0 entries → Lawful 0 0 (before_place place entries ++ from_place place entries)
parts_lawful place entries lawful = subst (λ (es : List LogEntry). Lawful 0 0 es) (sym (both_parts place entries)) lawful

pub parts_begin : (place : ℕ) (entries : List LogEntry) → has_cut place entries ≡ true → Begins place (from_place place entries)
parts_begin place entries is = begins place entries (cut_makes place entries is)

admits_uncut : (restored : ℕ) (diary : List LogEntry) (entry : LogEntry) → Admits 0 restored diary entry → Admits 0 0 diary entry
admits_uncut restored diary (Wrote w) may = may
admits_uncut restored diary (Accepted a) may = may
admits_uncut restored diary (Decided d) may = may
admits_uncut restored diary (Installed i) may = record { above = may.above; within = λ less. absurd (omega arith) }
admits_uncut restored diary (Opened o) may = tt
admits_uncut restored diary (Promised p) may = tt
admits_uncut restored diary (Synced s) may = tt
admits_uncut restored diary (Marked m) may = tt

pub cut_admits : (place restored : ℕ) (diary : List LogEntry) (entry : LogEntry) → Lawful 0 0 diary → (0 < place → HasMade diary place) → IsNoVoteUpTo place entry
    → Admits place restored (cut_at place diary) entry → Admits 0 0 diary entry
cut_admits place restored diary entry lawful has past may = by (has_cut place diary) refl may
  where
    by : (t : Bool) → has_cut place diary ≡ t → Admits place restored (cond t (kept_of (before_place place diary) ++ from_place place diary) diary) entry → Admits 0 0 diary entry
    by true is may =
        subst (λ (es : List LogEntry). Admits 0 0 es entry) (both_parts place diary)
        (admitted place (before_place place diary) (from_place place diary) (cut_past place diary is) (parts_lawful place diary lawful) (parts_begin place diary is) restored entry past may)
    by false is may = admits_uncut restored diary entry (subst (λ (n : ℕ). Admits n restored diary entry) (no_cut place diary has is) may)

pub cut_last : (place : ℕ) (diary : List LogEntry) → Lawful 0 0 diary → last_made (cut_at place diary) ≡ last_made diary
cut_last place diary lawful = by (has_cut place diary) refl
  where
    by : (t : Bool) → has_cut place diary ≡ t → last_made (cond t (kept_of (before_place place diary) ++ from_place place diary) diary) ≡ last_made diary
    by true is =
        last_same place (before_place place diary) (from_place place diary) (cut_past place diary is) (parts_lawful place diary lawful) (parts_begin place diary is)
        ∙ ap last_made (both_parts place diary)
    by false is = refl

pub cut_maker : (place : ℕ) (diary : List LogEntry) → Lawful 0 0 diary → last_maker (cut_at place diary) ≡ last_maker diary
cut_maker place diary lawful = by (has_cut place diary) refl
  where
    by : (t : Bool) → has_cut place diary ≡ t → last_maker (cond t (kept_of (before_place place diary) ++ from_place place diary) diary) ≡ last_maker diary
    by true is =
        maker_same place (before_place place diary) (from_place place diary) (cut_past place diary is) (parts_lawful place diary lawful) (parts_begin place diary is)
        ∙ ap (λ (es : List LogEntry). last_maker es) (both_parts place diary)
    by false is = refl

pub cut_lock : (place view : ℕ) (diary : List LogEntry) → Lawful 0 0 diary → lock_of view (cut_at place diary) ≡ lock_of view diary
cut_lock place view diary lawful = by (has_cut place diary) refl
  where
    by : (t : Bool) → has_cut place diary ≡ t → lock_of view (cond t (kept_of (before_place place diary) ++ from_place place diary) diary) ≡ lock_of view diary
    by true is =
        lock_same place (before_place place diary) (from_place place diary) (cut_past place diary is) (parts_lawful place diary lawful) (parts_begin place diary is) view
        ∙ ap (λ (es : List LogEntry). lock_of view es) (both_parts place diary)
    by false is = refl

pub reports_alike : (digest_of : Batch → List ℕ) (report : Report) (xs ys : List LogEntry) → last_made xs ≡ last_made ys → last_maker xs ≡ last_maker ys → lock_of report.view xs ≡ lock_of report.view ys
    → Reports digest_of report xs → Reports digest_of report ys
reports_alike digest_of report xs ys last maker lock said = record {
  last = said.last ∙ last;
  evidence = said.evidence ∙ ap (λ (o : Option LogEntry). evidence_of digest_of o) maker;
  lock = said.lock ∙ ap (λ (o : Option Accept). option_map certificate_of o) lock;
}

pub cut_reports : (digest_of : Batch → List ℕ) (report : Report) (place : ℕ) (diary : List LogEntry) → Lawful 0 0 diary
    → Reports digest_of report (cut_at place diary) ↔ Reports digest_of report diary
cut_reports digest_of report place diary lawful =
    let last = cut_last place diary lawful in
    let maker = cut_maker place diary lawful in
    let lock = cut_lock place report.view diary lawful in (
      λ said. reports_alike digest_of report (cut_at place diary) diary last maker lock said,
      λ said. reports_alike digest_of report diary (cut_at place diary) (sym last) (sym maker) (sym lock) said,
    )
