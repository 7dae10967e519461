-- The cut of lawful and tidy entries is tidy, and what is tidy after it is tidy after the entries.
use Rattle.std.proofs.Common.{◌≡◌, ⊎_elim, inl, inr, ℕ, zero, suc, ◌<◌, Bool, true, false, cond, List, [], ◌∷◌, ◌++◌, Option, Some, None, refl, sym, ap, ap₂, ◌∙◌, subst, arith, append_assoc, append-nil}
use Rattle.smart_statements.specs.declared.statement.Slot.{Slot}
use Rattle.vote_book.specs.declared.entry.LogEntry.{LogEntry}
use Rattle.vote_book.specs.declared.entry.LogEntry.TheVariants.{Opened, Wrote, Accepted, Promised, Synced, Decided, Installed, Marked}
use Rattle.vote_book.specs.declared.entry.Opening.{Opening}
use Rattle.vote_book.specs.declared.entry.Promise.{Promise}
use Rattle.vote_book.specs.declared.entry.Start.{Start}
use Rattle.vote_book.specs.Books.{place_made, last_made, Among, HasMade, IsBelow, Admits, Lawful}
use Rattle.vote_book.specs.Standing.{first_start}
use Rattle.vote_book.specs.Tidy.{promise_of, first_slot, IsTidy, IsTidyAfter, IsTidyVote, IsTidyStart}
use Rattle.vote_book.proofs.Locks.{made_most}
use Rattle.vote_book.proofs.Tidy.{none_tidy, grows_tidy, front_lawful}
use Rattle.book_laws.specs.BookCuts.{first_opening, greatest_promise, as_opened, as_synced, as_promised, kept_of, before_place, from_place, has_cut, cut_at, IsNoVoteUpTo}
use Rattle.book_laws.proofs.Lists.{among_left, among_right, among_either, first_or_second}
use Rattle.book_laws.proofs.Promises.{Under, not_under_itself, one_regency, greatest_most, greatest_from}
use Rattle.book_laws.proofs.Kept.{start_from, promise_kept}
use Rattle.book_laws.proofs.Places.{Begins, both_parts}
use Rattle.book_laws.proofs.Cut.{cut_past, cut_last, parts_lawful, parts_begin, last_same, short_among, back_among, promise_in_short}
use Rattle.book_laws.proofs.CutLawful.{start_in_short}

-- ---- what is kept is tidy

only_promise : (o : Option Opening) (p q : Promise) → Among (Promised q) (as_opened o ++ Promised p ∷ []) → q ≡ p
only_promise None p q (inl same) = cc
only_promise None p q (inr none) = absurd none
only_promise (Some o) p q (inl same) = absurd (cc)
only_promise (Some o) p q (inr (inl same)) = cc
only_promise (Some o) p q (inr (inr none)) = absurd none

no_start : (o : Option Opening) (p : Promise) (s : Start) → Among (Synced s) (as_opened o ++ Promised p ∷ []) → ⊥
no_start None p s (inl same) = cc
no_start None p s (inr none) = none
no_start (Some o) p s (inl same) = cc
no_start (Some o) p s (inr (inl same)) = cc
no_start (Some o) p s (inr (inr none)) = none

-- a beginning is tidy after its promise alone
start_alone : (o : Option Opening) (p : Promise) (s : Start) → s.view ≡ p.view → s.regency ≡ p.regency → IsTidyStart (as_opened o ++ Promised p ∷ []) s
start_alone o p s of_view of_regency = record {
  promised = among_right (promise_of s.view s.regency) (as_opened o) (Promised p ∷ []) (inl (ap₂ (λ (v r : ℕ). promise_of v r) of_view of_regency));
  promises = λ q there below. not_under_itself p.view p.regency (at_promise q (only_promise o p q there) below);
  once = λ other there view_is regency_is. no_start o p other there;
}
  where
    at_promise : (q : Promise) → q ≡ p → Under s.view s.regency q.view q.regency → Under p.view p.regency p.view p.regency
    at_promise q same below =
        subst (λ (r : ℕ). Under p.view r p.view p.regency) of_regency
        (subst (λ (v : ℕ). Under v s.regency p.view p.regency) of_view
        (subst (λ (x : Promise). Under s.view s.regency x.view x.regency) same below))

pub kept_tidy : (front : List LogEntry) → IsTidy (kept_of front)
kept_tidy front = by (greatest_promise front) (first_opening front)
  where
    opened : (o : Option Opening) → IsTidy (as_opened o)
    opened None = none_tidy
    opened (Some o) = grows_tidy [] (Opened o) none_tidy tt

    begun : (o : Option Opening) (p : Promise) (found : Option Start) → first_start p.view p.regency front ≡ found → IsTidy (as_opened o ++ Promised p ∷ as_synced found)
    begun o p None is = grows_tidy (as_opened o) (Promised p) (opened o) tt
    begun o p (Some s) is =
        let from = start_from p.view p.regency front s is in
        subst (λ (es : List LogEntry). IsTidy es) (append_assoc (as_opened o) (Promised p ∷ []) (Synced s ∷ []))
        (grows_tidy (as_opened o ++ Promised p ∷ []) (Synced s) (grows_tidy (as_opened o) (Promised p) (opened o) tt) (start_alone o p s from.view_is from.regency_is))

    by : (p : Option Promise) (o : Option Opening) → IsTidy (as_opened o ++ as_promised p front)
    by None o = subst (λ (es : List LogEntry). IsTidy es) (sym (append-nil (as_opened o))) (opened o)
    by (Some p) o = begun o p (first_start p.view p.regency front) refl

-- ---- what is tidy after lawful entries is tidy after their cut

module _ (place : ℕ) (front back : List LogEntry) (some : 0 < place) (lawful : Lawful 0 0 (front ++ back)) (starts : Begins place back) where
  -- a promise with no greater one among the entries is in the cut
  promise_again : (view regency : ℕ) → ((p : Promise) → Among (Promised p) (front ++ back) → Under view regency p.view p.regency → ⊥)
      → Among (promise_of view regency) (front ++ back) → Among (promise_of view regency) (kept_of front ++ back)
  promise_again view regency high there =
      ⊎_elim by (λ b. back_among place front back some lawful starts (promise_of view regency) b) (among_either (promise_of view regency) front back there)
    where
      by : Among (promise_of view regency) front → Among (promise_of view regency) (kept_of front ++ back)
      by f =
          let most = greatest_most front (record { view = view; regency = regency }) f in
          let same =
          one_regency most.promise.view most.promise.regency view regency
          (λ below. high most.promise (among_left (Promised most.promise) front back (greatest_from front most.promise most.is)) below) most.most in
          let greatest : greatest_promise front ≡ Some (record { view = view; regency = regency }) =
          most.is ∙ ap₂ (λ (v r : ℕ). Some (record { view = v; regency = r })) same.0 same.1 in
          among_left (promise_of view regency) (kept_of front) back (promise_kept front (record { view = view; regency = regency }) greatest)

  neat_vote : (slot : Slot) → ((p : Promise) → Among (Promised p) (front ++ back) → IsBelow slot p → ⊥) → IsTidyVote (front ++ back) slot → IsTidyVote (kept_of front ++ back) slot
  neat_vote slot promises neat = record {
    above = subst (λ (n : ℕ). n < slot.place) (sym (last_same place front back some lawful starts)) neat.above;
    promised = λ later. promise_again slot.view slot.regency (λ p there below. promises p there below) (neat.promised later);
  }

  neat_start : (s : Start) → IsTidyStart (front ++ back) s → IsTidyStart (kept_of front ++ back) s
  neat_start s neat = record {
    promised = promise_again s.view s.regency (λ p there below. neat.promises p there below) neat.promised;
    promises = λ p there. neat.promises p (short_among place front back some lawful starts (Promised p) there);
    once = λ other there. neat.once other (short_among place front back some lawful starts (Synced other) there);
  }

  tidy_again : (entry : LogEntry) → Admits 0 0 (front ++ back) entry → IsTidyAfter (front ++ back) entry → IsTidyAfter (kept_of front ++ back) entry
  tidy_again (Wrote w) may neat = neat_vote w.slot may.vote.promises neat
  tidy_again (Accepted a) may neat = neat_vote a.slot may.vote.promises neat
  tidy_again (Synced s) may neat = neat_start s neat
  tidy_again (Opened o) may neat = tt
  tidy_again (Promised p) may neat = tt
  tidy_again (Decided d) may neat = tt
  tidy_again (Installed i) may neat = tt
  tidy_again (Marked m) may neat = tt

-- ---- the cut is tidy

maker_tidy : (place : ℕ) (before : List LogEntry) (e : LogEntry) → place_made e ≡ Some place → IsTidyAfter before e
maker_tidy place before (Decided d) made = tt
maker_tidy place before (Installed i) made = tt
maker_tidy place before (Opened o) made = tt
maker_tidy place before (Wrote w) made = absurd (cc)
maker_tidy place before (Accepted a) made = absurd (cc)
maker_tidy place before (Promised p) made = tt
maker_tidy place before (Synced s) made = absurd (cc)
maker_tidy place before (Marked m) made = tt

module _ (place : ℕ) (front back : List LogEntry) (some : 0 < place) (lawful : Lawful 0 0 (front ++ back)) (tidy : IsTidy (front ++ back)) (starts : Begins place back) where
  -- an entry from that of the place on, after those between
  tidy_behind : (more : List LogEntry) (entry : LogEntry) (after : List LogEntry) → back ≡ more ++ entry ∷ after → IsTidyAfter (kept_of front ++ more) entry
  tidy_behind [] entry after split =
      let both : starts.first ∷ starts.rest ≡ entry ∷ after = sym starts.is ∙ split in
      let same : starts.first ≡ entry = cc in
      maker_tidy place (kept_of front ++ []) entry (subst (λ (e : LogEntry). place_made e ≡ Some place) same starts.made)
  tidy_behind (x ∷ more) entry after split =
      let both : starts.first ∷ starts.rest ≡ x ∷ (more ++ entry ∷ after) = sym starts.is ∙ split in
      let same : starts.first ≡ x = cc in
      let whole_is : front ++ back ≡ (front ++ x ∷ more) ++ entry ∷ after = ap (λ (es : List LogEntry). front ++ es) split ∙ sym (append_assoc front (x ∷ more) (entry ∷ after)) in
      tidy_again place front (x ∷ more) some
      (front_lawful 0 0 (front ++ x ∷ more) (entry ∷ after) (subst (λ (es : List LogEntry). Lawful 0 0 es) whole_is lawful))
      (record { first = x; rest = more; is = refl; made = subst (λ (e : LogEntry). place_made e ≡ Some place) same starts.made })
      entry (lawful (front ++ x ∷ more) entry after whole_is) (tidy (front ++ x ∷ more) entry after whole_is)

  short_tidy : IsTidy (kept_of front ++ back)
  short_tidy before entry after split =
      ⊎_elim
      (λ k. kept_tidy front before entry k.rest k.split)
      (λ r. subst (λ (es : List LogEntry). IsTidyAfter es entry) (sym r.before_is) (tidy_behind r.more entry after r.split))
      (first_or_second (kept_of front) back before entry after split)

  -- ---- what is tidy after the cut is tidy after the entries

  whole_vote : (slot : Slot) → IsTidyVote (kept_of front ++ back) slot → IsTidyVote (front ++ back) slot
  whole_vote slot neat = record {
    above = subst (λ (n : ℕ). n < slot.place) (last_same place front back some lawful starts) neat.above;
    promised = λ later. short_among place front back some lawful starts (promise_of slot.view slot.regency) (neat.promised later);
  }

  whole_start : (s : Start) → IsTidyStart (kept_of front ++ back) s → IsTidyStart (front ++ back) s
  whole_start s neat = record {
    promised = short_among place front back some lawful starts (promise_of s.view s.regency) neat.promised;
    promises = λ p there below. not_below p there below;
    once = λ other there of_view of_regency. neat.once other (start_in_short place front back some lawful tidy starts (first_slot s) other not_below of_view of_regency there) of_view of_regency;
  }
    where
      not_below : (p : Promise) → Among (Promised p) (front ++ back) → IsBelow (first_slot s) p → ⊥
      not_below p there below = promise_in_short place front back some lawful starts (first_slot s) p neat.promises there below

  whole_tidy : (entry : LogEntry) → IsTidyAfter (kept_of front ++ back) entry → IsTidyAfter (front ++ back) entry
  whole_tidy (Wrote w) neat = whole_vote w.slot neat
  whole_tidy (Accepted a) neat = whole_vote a.slot neat
  whole_tidy (Synced s) neat = whole_start s neat
  whole_tidy (Opened o) neat = tt
  whole_tidy (Promised p) neat = tt
  whole_tidy (Decided d) neat = tt
  whole_tidy (Installed i) neat = tt
  whole_tidy (Marked m) neat = tt

-- ---- the laws

parts_tidy : (place : ℕ) (entries : List LogEntry) → IsTidy entries → IsTidy (before_place place entries ++ from_place place entries)
parts_tidy place entries tidy = subst (λ (es : List LogEntry). IsTidy es) (sym (both_parts place entries)) tidy

pub cut_tidy : (place : ℕ) (diary : List LogEntry) → Lawful 0 0 diary → IsTidy diary → IsTidy (cut_at place diary)
cut_tidy place diary lawful tidy = by (has_cut place diary) refl
  where
    by : (t : Bool) → has_cut place diary ≡ t → IsTidy (cond t (kept_of (before_place place diary) ++ from_place place diary) diary)
    by true is =
        short_tidy place (before_place place diary) (from_place place diary) (cut_past place diary is) (parts_lawful place diary lawful) (parts_tidy place diary tidy)
        (parts_begin place diary is)
    by false is = tidy

pub tidy_by_cut : (place : ℕ) (diary : List LogEntry) (entry : LogEntry) → Lawful 0 0 diary → IsTidy diary → IsTidyAfter (cut_at place diary) entry → IsTidyAfter diary entry
tidy_by_cut place diary entry lawful tidy neat = by (has_cut place diary) refl neat
  where
    by : (t : Bool) → has_cut place diary ≡ t → IsTidyAfter (cond t (kept_of (before_place place diary) ++ from_place place diary) diary) entry → IsTidyAfter diary entry
    by true is neat =
        subst (λ (es : List LogEntry). IsTidyAfter es entry) (both_parts place diary)
        (whole_tidy place (before_place place diary) (from_place place diary) (cut_past place diary is) (parts_lawful place diary lawful) (parts_tidy place diary tidy)
        (parts_begin place diary is) entry neat)
    by false is neat = neat

-- a tidy vote after a cut is for a place past the cut's
vote_past : (place : ℕ) (diary : List LogEntry) (slot : Slot) → Lawful 0 0 diary → (0 < place → HasMade diary place) → IsTidyVote (cut_at place diary) slot → place < slot.place
vote_past zero diary slot lawful has neat = let above = neat.above in omega (arith, above)
vote_past (suc c) diary slot lawful has neat =
    let above : last_made diary < slot.place = subst (λ (n : ℕ). n < slot.place) (cut_last (suc c) diary lawful) neat.above in
    let most = made_most diary (suc c) (has (omega arith)) in
    omega (arith, above, most)

pub no_vote_by_cut : (place : ℕ) (diary : List LogEntry) (entry : LogEntry) → Lawful 0 0 diary → (0 < place → HasMade diary place) → IsTidyAfter (cut_at place diary) entry → IsNoVoteUpTo place entry
no_vote_by_cut place diary (Wrote w) lawful has neat = vote_past place diary w.slot lawful has neat
no_vote_by_cut place diary (Accepted a) lawful has neat = vote_past place diary a.slot lawful has neat
no_vote_by_cut place diary (Opened o) lawful has neat = tt
no_vote_by_cut place diary (Promised p) lawful has neat = tt
no_vote_by_cut place diary (Synced s) lawful has neat = tt
no_vote_by_cut place diary (Decided d) lawful has neat = tt
no_vote_by_cut place diary (Installed i) lawful has neat = tt
no_vote_by_cut place diary (Marked m) lawful has neat = tt
