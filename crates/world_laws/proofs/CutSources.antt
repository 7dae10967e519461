-- The book of a member that goes on over a checkpoint has few entries, too: the cut has sources as all that was written has, and so has that with what
-- stands behind the cut.
use Rattle.std.proofs.Common.{◌≡◌, ◌⊎◌, inl, inr, ⊎_elim, ℕ, zero, suc, ◌<◌, ◌≤◌, ◌++◌, ◌∙◌, Bool, true, false, cond, List, [], ◌∷◌, length, refl, ap, sym, subst, arith, Option, Some, None, append_assoc}
use Rattle.smart_base.specs.Lists.{Each}
use Rattle.smart_base.specs.Views.{View}
use Rattle.smart_statements.specs.declared.report.Mark.{Mark}
use Rattle.smart_service.specs.Services.{Meaning}
use Rattle.vote_book.specs.Books.{Among, place_made, last_made}
use Rattle.vote_book.specs.Standing.{first_start}
use Rattle.vote_book.specs.declared.entry.Opening.{Opening}
use Rattle.vote_book.specs.declared.entry.Promise.{Promise}
use Rattle.vote_book.specs.declared.entry.Start.{Start}
use Rattle.vote_book.specs.declared.entry.LogEntry.{LogEntry}
use Rattle.vote_book.specs.declared.entry.LogEntry.TheVariants.{Opened, Wrote, Accepted, Promised, Synced, Decided, Installed, Marked}
use Rattle.book_laws.specs.BookCuts.{as_promised, as_synced, before_place, cut_at, from_place, greatest_promise, has_cut, kept_of}
use Rattle.book_laws.proofs.Cut.{cut_makes}
use Rattle.book_laws.proofs.Kept.{kept, start_from}
use Rattle.book_laws.proofs.Lists.{among_either, among_left, among_right, among_split, first_or_second, split_at}
use Rattle.book_laws.proofs.Places.{begins, both_parts}
use Rattle.book_laws.proofs.Promises.{greatest_from}
use Rattle.agreement_laws.specs.Statements.{Statement}
use Rattle.agreement_laws.proofs.Lists.{each_among, each_append}
use Rattle.node_rules.specs.Nodes.{greatest_regency}
use Rattle.node_rules.specs.Reopening.{is_opening}
use Rattle.node_laws.proofs.Books.{greatest_append, promise_most, promised_greatest}
use Rattle.vote_book.specs.Tidy.{promise_of}
use Rattle.node_laws.proofs.Cuts.{cut_regency}
use Rattle.node_laws.specs.Restored.{IsSoundBook}
use Rattle.node_laws.specs.Restoring.{resumed_node}
use Rattle.node_rules.specs.declared.node.OwnSnapshot.{OwnSnapshot}
use Rattle.node_laws.specs.Sound.{ArePromisedUpTo, IsBegun}
use Rattle.replica_laws.proofs.MarkPlaces.{IsMarkUpTo}
use Rattle.world_laws.proofs.Additions.{IsMarkPast}
use Rattle.replica_laws.proofs.Sources.{EntryFrom, EachBehind, FromBook, FromSources, IsLast, from-end, from-opening, from-resumed}
use Rattle.smart_statements.specs.Batches.{Batch}

-- ---- entries behind a book

behind_append : (P : LogEntry → Type 0) (xs ys : List LogEntry) → 0 < length xs → EachBehind P xs → Each P ys → EachBehind P (xs ++ ys)
behind_append P [] ys some each more = absurd (omega (arith, some))
behind_append P (x ∷ xs) ys some each more = each_append P xs ys each more

each_rest : (P : LogEntry → Type 0) (xs ys : List LogEntry) → Each P (xs ++ ys) → Each P ys
each_rest P [] ys each = each
each_rest P (x ∷ xs) ys each = each_rest P xs ys each.1

behind_rest : (P : LogEntry → Type 0) (xs ys : List LogEntry) → 0 < length xs → EachBehind P (xs ++ ys) → Each P ys
behind_rest P [] ys some each = absurd (omega (arith, some))
behind_rest P (x ∷ xs) ys some each = each_rest P xs ys each

from-append : (sources : List (List ℕ)) (xs ys : List LogEntry) → 0 < length xs → FromBook sources xs → Each (EntryFrom sources) ys
    → ((before : List LogEntry) (e : LogEntry) (after : List LogEntry) → ys ≡ before ++ e ∷ after → IsLast (xs ++ before) e) → FromBook sources (xs ++ ys)
from-append sources xs ys some book each last = record {
  behind = behind_append (EntryFrom sources) xs ys some book.behind each;
  rising = λ before e after split.
      ⊎_elim (λ first. book.rising before e first.rest first.split)
      (λ second. subst (λ (b : List LogEntry). IsLast b e) (sym second.before_is) (last second.more e after second.split)) (first_or_second xs ys before e after split);
}

-- ---- behind a cut

-- the last entry behind a cut is the last behind the whole: promises count the same, and marks of the whole are of places up to one that the entry's is past
last_written : (opening place : ℕ) (whole more : List LogEntry) (e : LogEntry) → ((p : Promise) → e ≡ Promised p → ArePromisedUpTo p.view whole) → Each (IsMarkUpTo place) whole → IsMarkPast place e → IsLast (cut_at opening whole ++ more) e → IsLast (whole ++ more) e
last_written opening place whole more (Promised p) of up past last =
    let cut : List LogEntry = cut_at opening whole in
    let same : greatest_regency p.view cut ≡ greatest_regency p.view whole = cut_regency opening p.view whole (of p refl) in
    let one = greatest_append p.view cut more in
    let two = greatest_append p.view whole more in
    omega (arith, last, same, one, two)
last_written opening place whole more (Marked k) of up past last = (last.0, lower)
  where
    lower : (other : Mark) → Among (Marked other) (whole ++ more) → other.place < k.place
    lower other there =
        ⊎_elim {C = other.place < k.place}
        (λ old. let most : other.place ≤ place = each_among (IsMarkUpTo place) whole (Marked other) up old in omega (arith, most, past))
        (λ new. last.1 other (among_right (Marked other) (cut_at opening whole) more new)) (among_either (Marked other) whole more there)
last_written opening place whole more (Opened o) of up past last = tt
last_written opening place whole more (Wrote w) of up past last = tt
last_written opening place whole more (Accepted a) of up past last = tt
last_written opening place whole more (Synced s) of up past last = tt
last_written opening place whole more (Decided d) of up past last = tt
last_written opening place whole more (Installed i) of up past last = tt

-- all that was written, with what stands behind a cut of it
pub from-written : (sources : List (List ℕ)) (opening place : ℕ) (whole rest : List LogEntry) → ((p : Promise) → Among (Promised p) rest → ArePromisedUpTo p.view whole)
    → 0 < length whole → 0 < length (cut_at opening whole) → FromBook sources whole → FromBook sources (cut_at opening whole ++ rest) → Each (IsMarkUpTo place) whole
    → Each (IsMarkPast place) rest → FromBook sources (whole ++ rest)
from-written sources opening place whole rest of some begun from_whole from_cut up past =
    from-append sources whole rest some from_whole (behind_rest (EntryFrom sources) (cut_at opening whole) rest begun from_cut.behind)
    (λ before e after split.
    let there : Among e rest = among_split e rest before after split in
    last_written opening place whole before e (λ p same. of p (subst (λ (x : LogEntry). Among x rest) same there)) up (each_among (IsMarkPast place) rest e past there)
    (from_cut.rising (cut_at opening whole ++ before) e after
    (ap (λ (es : List LogEntry). cut_at opening whole ++ es) split ∙ sym (append_assoc (cut_at opening whole) before (e ∷ after)))))

-- no entry of a sound book is older than what entries before it promise
pub newest_behind : (secret : List ℕ) (stated : List Statement) (views : List View) (whole rest : List LogEntry) → IsSoundBook secret stated views (whole ++ rest) → (p : Promise) → Among (Promised p) rest
    → ArePromisedUpTo p.view whole
newest_behind secret stated views whole rest book p there q early =
    let s = split_at rest (Promised p) there in
    let split : whole ++ rest ≡ (whole ++ s.before) ++ Promised p ∷ s.after = ap (λ (es : List LogEntry). whole ++ es) s.is ∙ sym (append_assoc whole s.before (Promised p ∷ s.after)) in
    (book.ranged (whole ++ s.before) (Promised p) s.after split).newest q (among_left (Promised q) whole s.before early)

-- ---- a cut

promised_from : (sources : List (List ℕ)) (o : Opening) (es : List LogEntry) (p : Promise) → Each (EntryFrom sources) es → Among (Promised p) (Opened o ∷ es) → EntryFrom sources (Promised p)
promised_from sources o es p each (inl same) = absurd (cc)
promised_from sources o es p each (inr there) = each_among (EntryFrom sources) es (Promised p) each there

synced_from : (sources : List (List ℕ)) (o : Opening) (es : List LogEntry) (s : Start) → Each (EntryFrom sources) es → Among (Synced s) (Opened o ∷ es) → EntryFrom sources (Synced s)
synced_from sources o es s each (inl same) = absurd (cc)
synced_from sources o es s each (inr there) = each_among (EntryFrom sources) es (Synced s) each there

-- a promise of a sound book is of a regency from 1 on
promise_some : (secret : List ℕ) (stated : List Statement) (views : List View) (entries : List LogEntry) (p : Promise) → IsSoundBook secret stated views entries → Among (Promised p) entries → 0 < p.regency
promise_some secret stated views entries p book there = let s = split_at entries (Promised p) there in (book.ranged s.before (Promised p) s.after s.is).within.some

-- what is kept of the entries before one, if an opening begins them
from-kept : (sources : List (List ℕ)) (o : Opening) (es : List LogEntry)
    → ((p : Promise) → Among (Promised p) (Opened o ∷ es) → 0 < p.regency) → Each (EntryFrom sources) es
    → FromBook sources (Opened o ∷ as_promised (greatest_promise (Opened o ∷ es)) (Opened o ∷ es))
from-kept sources o es above each = by (greatest_promise (Opened o ∷ es)) refl
  where
    opened_only : FromBook sources (Opened o ∷ [])
    opened_only = from-opening sources (Opened o) tt

    with_start : (p : Promise) → FromBook sources (Opened o ∷ Promised p ∷ []) → (s : Option Start) → first_start p.view p.regency (Opened o ∷ es) ≡ s → FromBook sources (Opened o ∷ Promised p ∷ as_synced s)
    with_start p book None at = book
    with_start p book (Some s) at =
        from-end sources (Opened o ∷ Promised p ∷ []) (Synced s) (omega arith) book (synced_from sources o es s each (start_from p.view p.regency (Opened o ∷ es) s at).there) tt

    by : (g : Option Promise) → greatest_promise (Opened o ∷ es) ≡ g → FromBook sources (Opened o ∷ as_promised g (Opened o ∷ es))
    by None is = opened_only
    by (Some p) is =
        let there : Among (Promised p) (Opened o ∷ es) = greatest_from (Opened o ∷ es) p is in
        with_start p (from-end sources (Opened o ∷ []) (Promised p) (omega arith) opened_only (promised_from sources o es p each there) (above p there))
        (first_start p.view p.regency (Opened o ∷ es)) refl

-- of fewer entries no later regency is promised
fewer_promise : (view : ℕ) (xs ys : List LogEntry) → ((e : LogEntry) → Among e xs → Among e ys) → greatest_regency view xs ≤ greatest_regency view ys
fewer_promise view xs ys all = by (greatest_regency view xs) refl
  where
    by : (r : ℕ) → greatest_regency view xs ≡ r → r ≤ greatest_regency view ys
    by zero is = omega arith
    by (suc r) is =
        let some : 0 < greatest_regency view xs = omega (arith, is) in
        let most : greatest_regency view xs ≤ greatest_regency view ys =
        promise_most view ys (record { view = view; regency = greatest_regency view xs }) refl (all (promise_of view (greatest_regency view xs)) (promised_greatest view xs some)) in
        omega (arith, most, is)

-- an entry is the last behind what is kept, if it is the last behind all
last_kept : (front more : List LogEntry) (e : LogEntry) → IsLast (front ++ more) e → IsLast (kept_of front ++ more) e
last_kept front more (Promised p) last =
    let fewer : greatest_regency p.view (kept_of front) ≤ greatest_regency p.view front = fewer_promise p.view (kept_of front) front (λ e there. (kept front e there).there) in
    let one = greatest_append p.view (kept_of front) more in
    let two = greatest_append p.view front more in
    omega (arith, last, fewer, one, two)
last_kept front more (Marked k) last = (last.0, lower)
  where
    lower : (other : Mark) → Among (Marked other) (kept_of front ++ more) → other.place < k.place
    lower other there =
        last.1 other
        (⊎_elim {C = Among (Marked other) (front ++ more)} (λ old. among_left (Marked other) front more (kept front (Marked other) old).there) (λ new. among_right (Marked other) front more new)
        (among_either (Marked other) (kept_of front) more there))
last_kept front more (Opened o) last = tt
last_kept front more (Wrote w) last = tt
last_kept front more (Accepted a) last = tt
last_kept front more (Synced s) last = tt
last_kept front more (Decided d) last = tt
last_kept front more (Installed i) last = tt

-- the entry that makes a place is no opening
no_opening : (e : LogEntry) (place : ℕ) → is_opening e ≡ true → place_made e ≡ Some place → ⊥
no_opening (Opened o) place begun made = cc
no_opening (Wrote w) place begun made = cc
no_opening (Accepted a) place begun made = cc
no_opening (Promised p) place begun made = cc
no_opening (Synced s) place begun made = cc
no_opening (Decided d) place begun made = cc
no_opening (Installed i) place begun made = cc
no_opening (Marked k) place begun made = cc

not_none : (front : List LogEntry) (x : LogEntry) (rest : List LogEntry) → [] ≡ front ++ x ∷ rest → ⊥
not_none [] x rest same = cc
not_none (e ∷ es) x rest same = cc

-- entries that have one are begun
some_begun : (entries front : List LogEntry) (x : LogEntry) (rest : List LogEntry) → entries ≡ front ++ x ∷ rest → (entries ≡ []) ⊎ IsBegun entries → IsBegun (front ++ x ∷ rest)
some_begun entries front x rest split (inl none) = absurd (not_none front x rest (sym none ∙ split))
some_begun entries front x rest split (inr begun) = subst (λ (ys : List LogEntry). IsBegun ys) split begun

each_first : (P : LogEntry → Type 0) (xs ys : List LogEntry) → Each P (xs ++ ys) → Each P xs
each_first P [] ys each = tt
each_first P (x ∷ xs) ys each = (each.0, each_first P xs ys each.1)

module _ (sources : List (List ℕ)) (secret : List ℕ) (stated : List Statement) (views : List View) where
  -- the parts of a cut, by the first entry
  from_parts : (front behind : List LogEntry) → IsSoundBook secret stated views (front ++ behind) → IsBegun front → FromBook sources (front ++ behind) → FromBook sources (kept_of front ++ behind)
  from_parts [] behind book begun from = absurd begun
  from_parts (Opened o ∷ es) behind book begun from =
      let front : List LogEntry = Opened o ∷ es in
      from-append sources (kept_of front) behind (omega arith)
      (from-kept sources o es
      (λ p there. promise_some secret stated views (front ++ behind) p book (among_left (Promised p) front behind there)) (each_first (EntryFrom sources) es behind from.behind))
      (each_rest (EntryFrom sources) es behind from.behind)
      (λ before e after split.
      last_kept front before e
      (from.rising (front ++ before) e after (ap (λ (xs : List LogEntry). front ++ xs) split ∙ sym (append_assoc front before (e ∷ after)))))
  from_parts (Wrote w ∷ es) behind book begun from = absurd (cc)
  from_parts (Accepted a ∷ es) behind book begun from = absurd (cc)
  from_parts (Promised p ∷ es) behind book begun from = absurd (cc)
  from_parts (Synced s ∷ es) behind book begun from = absurd (cc)
  from_parts (Decided d ∷ es) behind book begun from = absurd (cc)
  from_parts (Installed i ∷ es) behind book begun from = absurd (cc)
  from_parts (Marked k ∷ es) behind book begun from = absurd (cc)

  -- something stands before an entry that makes a place
  front_begun : (place : ℕ) (front : List LogEntry) (first : LogEntry) (rest : List LogEntry) → place_made first ≡ Some place → IsBegun (front ++ first ∷ rest) → IsBegun front
  front_begun place [] first rest made begun = no_opening first place begun made
  front_begun place (e ∷ es) first rest made begun = begun

  -- the cut of a book
  pub from-cut : (place : ℕ) (entries : List LogEntry) → IsSoundBook secret stated views entries → FromBook sources entries → FromBook sources (cut_at place entries)
  from-cut place entries book from = by (has_cut place entries) refl
    where
      front : List LogEntry
      front = before_place place entries

      behind : List LogEntry
      behind = from_place place entries

      by : (t : Bool) → has_cut place entries ≡ t → FromBook sources (cond t (kept_of front ++ behind) entries)
      by true is =
          let b = begins place entries (cut_makes place entries is) in
          let both : front ++ behind ≡ entries = both_parts place entries in
          let split : front ++ b.first ∷ b.rest ≡ entries = ap (λ (es : List LogEntry). front ++ es) (sym b.is) ∙ both in
          from_parts front behind (subst (λ (es : List LogEntry). IsSoundBook secret stated views es) (sym both) book)
          (front_begun place front b.first b.rest b.made (some_begun entries front b.first b.rest (sym split) book.begun))
          (subst (λ (es : List LogEntry). FromBook sources es) (sym both) from)
      by false is = from

  -- a node that goes on over a checkpoint and the cut behind it has kept nothing else
  pub from-behind : {S : Type 0} (m : Meaning S) (view : View) (id period place : ℕ) (batches : List Batch) (checkpoint : Option OwnSnapshot) (d : List LogEntry) → IsSoundBook secret stated views d → last_made d ≤ length batches
      → FromBook sources d → FromSources sources (resumed_node m secret id view period place batches checkpoint d)
  from-behind m view id period place batches checkpoint d book reached from =
      from-resumed sources m secret id stated view views period place batches checkpoint d book reached (from-cut place d book from)
