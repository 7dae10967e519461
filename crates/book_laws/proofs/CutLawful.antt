-- The cut of lawful and tidy entries is lawful.
use Rattle.std.proofs.Common.{◌≡◌, ⊎_elim, ℕ, ◌-◌, ◌<◌, ◌≤◌, Bool, true, false, cond, List, [], ◌∷◌, ◌++◌, Option, Some, None, refl, sym, ap, ◌∙◌, subst, arith, append_assoc}
use Rattle.vote_book.specs.declared.entry.LogEntry.{LogEntry}
use Rattle.vote_book.specs.declared.entry.LogEntry.TheVariants.{Opened, Wrote, Accepted, Promised, Synced, Decided, Installed, Marked}
use Rattle.vote_book.specs.declared.entry.Promise.{Promise}
use Rattle.vote_book.specs.declared.entry.Start.{Start}
use Rattle.vote_book.specs.declared.entry.Installation.{Installation}
use Rattle.smart_statements.specs.declared.statement.Slot.{Slot}
use Rattle.vote_book.specs.Books.{place_made, latest_made, Among, HasMade, IsBelow, HasBegun, MayVote, Follows, Admits, Lawful}
use Rattle.vote_book.specs.Standing.{first_start}
use Rattle.vote_book.specs.Tidy.{IsTidy, IsTidyAfter, IsTidyVote, IsTidyStart}
use Rattle.vote_book.proofs.Tested.{none_latest}
use Rattle.vote_book.proofs.Locks.{made_most}
use Rattle.vote_book.proofs.Tidy.{front_lawful, front_tidy}
use Rattle.book_laws.specs.BookCuts.{greatest_promise, kept_of, before_place, from_place, has_cut, cut_at, InstallUpTo}
use Rattle.book_laws.proofs.Lists.{split_at, in_order, among_left, among_either, among_split, first_or_second}
use Rattle.book_laws.proofs.Promises.{Under, greatest_from}
use Rattle.book_laws.proofs.Kept.{kept, start_from, none_starts, start_kept}
use Rattle.book_laws.proofs.Places.{Begins, begins, both_parts, none_latest_made}
use Rattle.book_laws.proofs.Cut.{cut_past, cut_makes, parts_lawful, front_low, last_high, latest_same, short_among, back_among, short_made}
use Rattle.book_laws.proofs.CutAgain.{begun_is_greatest}

-- a regency begins once
start_once : (entries : List LogEntry) (s q : Start) → IsTidy entries → Among (Synced s) entries → Among (Synced q) entries → s.view ≡ q.view → s.regency ≡ q.regency → s ≡ q
start_once entries s q tidy one two of_view of_regency =
    let x = split_at entries (Synced s) one in
    let y = split_at entries (Synced q) two in
    let neat_one : IsTidyStart x.before s = tidy x.before (Synced s) x.after x.is in
    let neat_two : IsTidyStart y.before q = tidy y.before (Synced q) y.after y.is in
    ⊎_elim (λ l. absurd (neat_two.once s l of_view of_regency))
    (⊎_elim (λ (same : Synced s ≡ Synced q). let it : s ≡ q = cc in it) (λ r. absurd (neat_one.once q r (sym of_view) (sym of_regency))))
    (in_order x.before x.after (Synced s) y.before y.after (Synced q) (sym x.is ∙ y.is))

-- ---- what lawful and tidy entries admit their cut admits

module _ (place : ℕ) (front back : List LogEntry) (some : 0 < place) (lawful : Lawful 0 0 (front ++ back)) (tidy : IsTidy (front ++ back)) (starts : Begins place back) where
  tidy_front : IsTidy front
  tidy_front = front_tidy front back tidy

  -- the beginning that a vote stands on is one of the cut
  pub start_in_short : (slot : Slot) (s : Start) → ((p : Promise) → Among (Promised p) (front ++ back) → IsBelow slot p → ⊥) → s.view ≡ slot.view → s.regency ≡ slot.regency
      → Among (Synced s) (front ++ back) → Among (Synced s) (kept_of front ++ back)
  start_in_short slot s promises of_view of_regency there =
      ⊎_elim (λ f. by f (first_start slot.view slot.regency front) refl) (λ b. back_among place front back some lawful starts (Synced s) b) (among_either (Synced s) front back there)
    where
      high : (p : Promise) → greatest_promise front ≡ Some p → Under slot.view slot.regency p.view p.regency → ⊥
      high p is below = promises p (among_left (Promised p) front back (greatest_from front p is)) below

      by : Among (Synced s) front → (found : Option Start) → first_start slot.view slot.regency front ≡ found → Among (Synced s) (kept_of front ++ back)
      by f None is = absurd (none_starts slot.view slot.regency front s is f of_view of_regency)
      by f (Some q) is =
          let from = start_from slot.view slot.regency front q is in
          let greatest = begun_is_greatest front s slot.view slot.regency tidy_front f of_view of_regency high in
          let same : q ≡ s = start_once front q s tidy_front from.there f (from.view_is ∙ sym of_view) (from.regency_is ∙ sym of_regency) in
          let there = start_kept front (record { view = slot.view; regency = slot.regency }) q greatest is in
          among_left (Synced s) (kept_of front) back (subst (λ (r : Start). Among (Synced r) (kept_of front)) same there)

  vote_again : (slot : Slot) (digest : List ℕ) → IsTidyVote (front ++ back) slot → MayVote (front ++ back) slot digest → MayVote (kept_of front ++ back) slot digest
  vote_again slot digest neat may = record {
    in_turn = λ more. made_again more (may.in_turn more);
    promises = λ p there. may.promises p (short_among place front back some lawful starts (Promised p) there);
    synced = λ later. begun_again (may.synced later);
  }
    where
      begun_again : HasBegun (front ++ back) slot digest → HasBegun (kept_of front ++ back) slot digest
      begun_again has = record {
        start = has.start;
        there = start_in_short slot has.start may.promises has.view has.regency has.there;
        view = has.view;
        regency = has.regency;
        reached = has.reached;
        kept = has.kept;
      }

      made_again : 1 < slot.place → HasMade (front ++ back) (slot.place - 1) → HasMade (kept_of front ++ back) (slot.place - 1)
      made_again more has =
          ⊎_elim
          (λ f. absurd (
          let low = front_low place front back some lawful starts in
          let high = last_high place front back some lawful starts in
          let above = neat.above in
          let most = made_most front (slot.place - 1) (record { entry = has.entry; there = f; made = has.made }) in
          omega (arith, low, high, above, most)))
          (λ b. record { entry = has.entry; there = back_among place front back some lawful starts has.entry b; made = has.made })
          (among_either has.entry front back has.there)

  follows_short : (k : ℕ) → Follows 0 (latest_made (front ++ back)) k → Follows place (latest_made (kept_of front ++ back)) k
  follows_short k may = subst (λ (o : Option ℕ). Follows place o k) (sym (latest_same place front back some lawful starts)) (by (latest_made (front ++ back)) refl may)
    where
      by : (latest : Option ℕ) → latest_made (front ++ back) ≡ latest → Follows 0 latest k → Follows place latest k
      by None is first = omega (arith, first)
      by (Some n) is next = next

  admitted_again : (restored : ℕ) (entry : LogEntry) → IsTidyAfter (front ++ back) entry → ((i : Installation) → entry ≡ Installed i → i.place ≤ place)
      → Admits 0 0 (front ++ back) entry → Admits place restored (kept_of front ++ back) entry
  admitted_again restored (Wrote w) neat within may = record {
    vote = vote_again w.slot w.digest neat may.vote;
    first = λ other there same. may.first other (short_among place front back some lawful starts (Wrote other) there) same;
  }
  admitted_again restored (Accepted a) neat within may = record {
    vote = vote_again a.slot a.digest neat may.vote;
    first = λ other there same. may.first other (short_among place front back some lawful starts (Accepted other) there) same;
  }
  admitted_again restored (Decided d) neat within may = follows_short d.slot.place may
  admitted_again restored (Installed i) neat within may = record {
    above = λ made has. may.above made (short_made place front back some lawful starts made has);
    within = λ less. within i refl;
  }
  admitted_again restored (Opened o) neat within may = tt
  admitted_again restored (Promised p) neat within may = tt
  admitted_again restored (Synced s) neat within may = tt
  admitted_again restored (Marked m) neat within may = tt

-- ---- the entry of the place

no_made : (xs : List LogEntry) (made : ℕ) → ((e : LogEntry) → Among e xs → place_made e ≡ None) → HasMade xs made → ⊥
no_made xs made none has = none_latest has.entry xs made has.there has.made (none_latest_made xs none)

first_admitted : (place restored : ℕ) (before : List LogEntry) (e : LogEntry) → place_made e ≡ Some place → ((x : LogEntry) → Among x before → place_made x ≡ None) → Admits place restored before e
first_admitted place restored before (Decided d) made none =
    let same : d.slot.place ≡ place = cc in
    subst (λ (o : Option ℕ). Follows place o d.slot.place) (sym (none_latest_made before none)) (omega (arith, same))
first_admitted place restored before (Installed i) made none =
    let same : i.place ≡ place = cc in
    record { above = λ n has. absurd (no_made before n none has); within = λ less. omega (arith, same) }
first_admitted place restored before (Opened o) made none = tt
first_admitted place restored before (Wrote w) made none = absurd (cc)
first_admitted place restored before (Accepted a) made none = absurd (cc)
first_admitted place restored before (Promised p) made none = tt
first_admitted place restored before (Synced s) made none = tt
first_admitted place restored before (Marked m) made none = tt

-- ---- the cut is lawful

module _ (place restored : ℕ) (front back : List LogEntry) (some : 0 < place) (lawful : Lawful 0 0 (front ++ back)) (tidy : IsTidy (front ++ back)) (within : InstallUpTo place (front ++ back)) (starts : Begins place back) where
  -- an entry from that of the place on, by those between
  in_the_back : (more : List LogEntry) (entry : LogEntry) (after : List LogEntry) → back ≡ more ++ entry ∷ after → Admits place restored (kept_of front ++ more) entry
  in_the_back [] entry after split =
      let both : starts.first ∷ starts.rest ≡ entry ∷ after = sym starts.is ∙ split in
      let same : starts.first ≡ entry = cc in
      first_admitted place restored (kept_of front ++ []) entry (subst (λ (e : LogEntry). place_made e ≡ Some place) same starts.made)
      (λ x there. ⊎_elim (λ k. (kept front x k).no_place) (λ none. absurd none) (among_either x (kept_of front) [] there))
  in_the_back (x ∷ more) entry after split =
      let both : starts.first ∷ starts.rest ≡ x ∷ (more ++ entry ∷ after) = sym starts.is ∙ split in
      let same : starts.first ≡ x = cc in
      let whole_is : front ++ back ≡ (front ++ x ∷ more) ++ entry ∷ after = ap (λ (es : List LogEntry). front ++ es) split ∙ sym (append_assoc front (x ∷ more) (entry ∷ after)) in
      let lawful_there : Lawful 0 0 ((front ++ x ∷ more) ++ entry ∷ after) = subst (λ (es : List LogEntry). Lawful 0 0 es) whole_is lawful in
      let tidy_there : IsTidy ((front ++ x ∷ more) ++ entry ∷ after) = subst (λ (es : List LogEntry). IsTidy es) whole_is tidy in
      admitted_again place front (x ∷ more) some
      (front_lawful 0 0 (front ++ x ∷ more) (entry ∷ after) lawful_there)
      (front_tidy (front ++ x ∷ more) (entry ∷ after) tidy_there)
      (record { first = x; rest = more; is = refl; made = subst (λ (e : LogEntry). place_made e ≡ Some place) same starts.made })
      restored entry
      (tidy (front ++ x ∷ more) entry after whole_is)
      (λ i is. within i (among_split (Installed i) (front ++ back) (front ++ x ∷ more) after (subst (λ (e : LogEntry). front ++ back ≡ (front ++ x ∷ more) ++ e ∷ after) is whole_is)))
      (lawful (front ++ x ∷ more) entry after whole_is)

  short_lawful : Lawful place restored (kept_of front ++ back)
  short_lawful before entry after split =
      ⊎_elim
      (λ k. (kept front entry (among_split entry (kept_of front) before k.rest k.split)).admitted place restored before)
      (λ r. subst (λ (es : List LogEntry). Admits place restored es entry) (sym r.before_is) (in_the_back r.more entry after r.split))
      (first_or_second (kept_of front) back before entry after split)

admitted_uncut : (place restored : ℕ) (before : List LogEntry) (e : LogEntry) → ((i : Installation) → e ≡ Installed i → i.place ≤ place) → Admits 0 0 before e → Admits place restored before e
admitted_uncut place restored before (Decided d) within may = by (latest_made before) may
  where
    by : (latest : Option ℕ) → Follows 0 latest d.slot.place → Follows place latest d.slot.place
    by None first = omega (arith, first)
    by (Some n) next = next
admitted_uncut place restored before (Installed i) within may = record { above = may.above; within = λ less. within i refl }
admitted_uncut place restored before (Wrote w) within may = may
admitted_uncut place restored before (Accepted a) within may = may
admitted_uncut place restored before (Opened o) within may = tt
admitted_uncut place restored before (Promised p) within may = tt
admitted_uncut place restored before (Synced s) within may = tt
admitted_uncut place restored before (Marked m) within may = tt

pub cut_lawful : (place restored : ℕ) (diary : List LogEntry) → Lawful 0 0 diary → IsTidy diary → InstallUpTo place diary → Lawful place restored (cut_at place diary)
cut_lawful place restored diary lawful tidy within = by (has_cut place diary) refl
  where
    by : (t : Bool) → has_cut place diary ≡ t → Lawful place restored (cond t (kept_of (before_place place diary) ++ from_place place diary) diary)
    by true is =
        short_lawful place restored (before_place place diary) (from_place place diary) (cut_past place diary is) (parts_lawful place diary lawful)
        (subst (λ (es : List LogEntry). IsTidy es) (sym (both_parts place diary)) tidy)
        (subst (λ (es : List LogEntry). InstallUpTo place es) (sym (both_parts place diary)) within)
        (begins place diary (cut_makes place diary is))
    by false is = λ before entry after split.
        admitted_uncut place restored before entry (λ i same. within i (among_split (Installed i) diary before after (subst (λ (e : LogEntry). diary ≡ before ++ e ∷ after) same split)))
        (lawful before entry after split)
