-- The book of a store that may switch goes on: it is given entries, it is asked for a switch, and it makes its next call.
use Rattle.std.proofs.Common.{◌≡◌, inl, inr, ℕ, max, ◌+◌, ◌≤◌, Bool, true, false, cond, List, [], ◌∷◌, ◌++◌, length, map, Option, Some, None, IfSome, refl, sym, ap, ◌∙◌, subst, arith, append_assoc}
use Rattle.vote_book.specs.Entries.{entry_text}
use Rattle.vote_book.specs.declared.entry.LogEntry.{LogEntry}
use Rattle.store_form.specs.Spelling.{IsGroup}
use Rattle.store_form.specs.declared.checkpoint.Checkpoint.{Checkpoint}
use Rattle.store_laws.specs.Restored.{switched}
use Rattle.store_laws.specs.States.{StoreState, greatest, some, writes_tail, due_job, begins, job_called, store_called, given, asked}
use Rattle.store_laws.specs.Stands.{Aim, IsOwn, aim_begins}
use Rattle.store_laws.specs.Runs.{CallFits, aim_first, aim_then}
use Rattle.store_laws.specs.Firm.{not_firm}
use Rattle.store_laws.specs.Logs.{written_by, written_then, counted}
use Rattle.store_laws.specs.Asked.{IsOneOf, Snapshot, NextBy, NextIn, Snapshots}
use Rattle.store_laws.specs.declared.job.Kept.{Kept}
use Rattle.store_laws.specs.declared.job.Tail.{Tail}
use Rattle.store_laws.specs.declared.job.Ending.{Ending}
use Rattle.store_laws.specs.declared.job.Ending.TheVariants.{Closes, Repairs, Adds, Switches}
use Rattle.store_laws.specs.declared.job.StoreCall.{StoreCall}
use Rattle.store_laws.proofs.Aims.{firm_rises}
use Rattle.store_laws.proofs.Goes.{own_begins}
use Rattle.store_laws.proofs.Given.{own_given, own_asked, no_calls}
use Rattle.store_laws.proofs.Logged.{rest_is, begins_plain, log_begins, log_called}
use Rattle.store_laws.proofs.Moments.{own_call_goes}
use Rattle.store_laws.proofs.Stakes.{stakes_begins, stakes_called, stakes_given, stakes_asked}
use Rattle.store_laws.proofs.Asked.{snapshots_called, snapshots_given}
use Rattle.world_rules.specs.Crashes.{is_unclosed, still_aside}
use Rattle.member_store.specs.Cuts.{MendsBy, MendsIn, EndsAtInstalls, IsTailOf, HoldsWritten, place_by, place_then, IsWholeTail, GivesTail}
use Rattle.member_store.proofs.Fronts.{front_more, counts_all, given_rest, brings_given}
use Rattle.member_store.proofs.Has.{Has, both_ways, mends_same, has_begins}
use Rattle.member_store.proofs.HasGone.{Gives, job_has}

pub has_of : (all : List (List ℕ)) (s : StoreState) (past top place : ℕ) (book aside : List LogEntry) (h : HoldsWritten all s past top place book aside) → Has s h.aim h.written past top place book aside
has_of all s past top place book aside h = record { mends = h.mends; kept = h.kept; low = h.low; adds = h.adds; rest = h.rest; tail = h.tail; next = h.next; sound = h.sound; back = h.back; gated = h.gated }

has_higher : (s : StoreState) (a : Aim) (written : Option Tail) (past top higher place : ℕ) (book aside : List LogEntry) → top ≤ higher → Has s a written past top place book aside → Has s a written past higher place book aside
has_higher s a written past top higher place book aside le h =
    let low = h.low in
    record { mends = h.mends; kept = h.kept; low = omega (arith, low, le); adds = h.adds; rest = h.rest; tail = h.tail; next = h.next; sound = h.sound; back = h.back; gated = h.gated }

-- the checkpoint that is kept is of no place past a higher one, either
pub holds_higher : (all : List (List ℕ)) (s : StoreState) (past top higher place : ℕ) (book aside : List LogEntry) → top ≤ higher → HoldsWritten all s past top place book aside → HoldsWritten all s past higher place book aside
holds_higher all s past top higher place book aside le h =
    let low = h.low in record {
      aim = h.aim;
      written = h.written;
      own = h.own;
      logs = h.logs;
      stakes = h.stakes;
      snapshots = h.snapshots;
      mends = h.mends;
      kept = h.kept;
      low = omega (arith, low, le);
      adds = h.adds;
      rest = h.rest;
      tail = h.tail;
      next = h.next;
      sound = h.sound;
      few = h.few;
      few_aside = h.few_aside;
      back = h.back;
      gated = h.gated;
    }

few_aside : (s : StoreState) (aside : List LogEntry) → length aside ≤ greatest → length (still_aside s aside) ≤ greatest
few_aside s aside few = by (is_unclosed s)
  where
    by : (t : Bool) → length (cond t aside []) ≤ greatest
    by true = few
    by false = omega arith

-- all entries of the book are counted, but for those that are left out
pub all_counted : (all : List (List ℕ)) (s : StoreState) (past top place : ℕ) (book aside : List LogEntry) → HoldsWritten all s past top place book aside → counted s + past ≡ length book
all_counted all s past top place book aside h = counts_all s.firm past (not_firm s) book h.kept.few h.rest

-- ---- entries are given

mends_wait : (calls : List StoreCall) (s q : StoreState) → q.ending ≡ s.ending → is_unclosed q ≡ is_unclosed s → MendsIn calls s → MendsIn calls q
mends_wait [] s q ending same m = tt
mends_wait (call ∷ left) s q ending same m = subst (λ (e : Ending). MendsBy e q) (sym ending) (mends_same s.ending s q same m)

tail_given : (firm restored past : ℕ) (book more : List LogEntry) (next : Checkpoint) (written : Option Tail) → IfSome written (λ (t : Tail). IsTailOf firm restored past book next t)
    → IfSome written (λ (t : Tail). IsTailOf firm restored past (book ++ more) next t)
tail_given firm restored past book more next None is = tt
tail_given firm restored past book more next (Some tail) is = record {
  high = is.high;
  front = front_more (switched next tail.entries) book more ((restored + tail.made) + past) is.front;
}

pub given_book : (all : List (List ℕ)) (s : StoreState) (past top place : ℕ) (book aside entries : List LogEntry) → HoldsWritten all s past top place book aside → length (book ++ entries) ≤ greatest
    → HoldsWritten all (given (map entry_text entries) s) past top place (book ++ entries) aside
given_book all s past top place book aside entries h few =
    let texts : List (List ℕ) = map entry_text entries in
    let fits = h.kept.few in record {
      aim = h.aim;
      written = h.written;
      own = own_given s h.aim texts h.own;
      logs = h.logs;
      stakes = stakes_given s h.aim texts h.stakes;
      snapshots = snapshots_given (IsOneOf all) s h.aim texts h.snapshots;
      mends = mends_wait s.running s (given texts s) refl refl h.mends;
      kept = front_more h.aim.kept book entries (s.firm + past) h.kept;
      low = h.low;
      adds = h.adds;
      rest =
          sym (append_assoc s.adding s.waiting texts)
          ∙ (ap (λ (l : List (List ℕ)). l ++ texts) h.rest ∙ given_rest (s.firm + past) book entries fits);
      tail = tail_given s.firm s.restored past book entries h.aim.next h.written h.tail;
      next = h.next;
      sound = h.sound;
      few = few;
      few_aside = h.few_aside;
      back = λ torn. brings_given (s.firm + past) book entries aside h.aim.stake fits (h.back torn);
      gated = λ torn. brings_given (s.firm + past) book entries aside h.aim.gated fits (h.gated torn);
    }

-- ---- a switch is asked for

-- one of some snapshots is one of more
more_of : (all : List (List ℕ)) (one : List ℕ) (x : Kept) → Snapshot (IsOneOf all) x → Snapshot (IsOneOf (one ∷ all)) x
more_of all one x is = by x.present is
  where
    by : (present : Option Checkpoint) → IfSome present (λ (c : Checkpoint). IsOneOf all c.snapshot) → IfSome present (λ (c : Checkpoint). IsOneOf (one ∷ all) c.snapshot)
    by None is = tt
    by (Some c) is = inr is

more_next : (all : List (List ℕ)) (one : List ℕ) (calls : List StoreCall) (ending : Ending) (next : Checkpoint) → NextIn (IsOneOf all) calls ending next → NextIn (IsOneOf (one ∷ all)) calls ending next
more_next all one [] ending next is = tt
more_next all one (call ∷ left) ending next is = by ending is
  where
    by : (e : Ending) → NextBy (IsOneOf all) e next → NextBy (IsOneOf (one ∷ all)) e next
    by (Closes odd) is = tt
    by Repairs is = tt
    by (Adds end) is = tt
    by (Switches end last) is = inr is

more_snapshots : (all : List (List ℕ)) (snapshot : List ℕ) (s : StoreState) (a : Aim) → Snapshots (IsOneOf all) s a → Snapshots (IsOneOf (snapshot ∷ all)) (asked snapshot s) a
more_snapshots all snapshot s a w = record {
  asked = inl refl;
  next = more_next all snapshot s.running s.ending a.next w.next;
  kept = more_of all snapshot a.kept w.kept;
  stake = more_of all snapshot a.stake w.stake;
  gated = more_of all snapshot a.gated w.gated;
  then = more_of all snapshot a.then w.then;
}

pub asked_book : (all : List (List ℕ)) (s : StoreState) (past top place : ℕ) (book aside : List LogEntry) (snapshot : List ℕ) → HoldsWritten all s past top place book aside
    → HoldsWritten (snapshot ∷ all) (asked snapshot s) past top place book aside
asked_book all s past top place book aside snapshot h = record {
  aim = h.aim;
  written = h.written;
  own = own_asked s h.aim snapshot h.own;
  logs = h.logs;
  stakes = stakes_asked s h.aim snapshot h.stakes;
  snapshots = more_snapshots all snapshot s h.aim h.snapshots;
  mends = mends_wait s.running s (asked snapshot s) refl refl h.mends;
  kept = h.kept;
  low = h.low;
  adds = h.adds;
  rest = h.rest;
  tail = h.tail;
  next = h.next;
  sound = h.sound;
  few = h.few;
  few_aside = h.few_aside;
  back = h.back;
  gated = h.gated;
}

-- ---- the next device call

module _ (all : List (List ℕ)) (stops : List ℕ → Bool) (s : StoreState) (past top place : ℕ) (book aside : List LogEntry) (tail : Tail) (h : HoldsWritten all s past top place book aside) (fits : CallFits stops tail s) (gives : GivesTail s place book tail)
    (ends : EndsAtInstalls stops) (other : Kept) where
  abbrev Called : Bool → Type 0
  Called t =
      Has (job_called tail (cond t s (begins (due_job stops s) s)).running (cond t s (begins (due_job stops s) s)))
      (aim_first tail (cond t s (begins (due_job stops s) s)).running other (cond t h.aim (aim_begins (due_job stops s) s h.aim)))
      (written_by tail (cond t s (begins (due_job stops s) s)).running h.written) past (max top (cond t place (place_by (due_job stops s) place))) (cond t place (place_by (due_job stops s) place)) book
      (still_aside (job_called tail (cond t s (begins (due_job stops s) s)).running (cond t s (begins (due_job stops s) s))) aside)

  runs_on : IsOwn (job_called tail s.running s) (aim_first tail s.running other h.aim) → Called true
  runs_on after =
      job_has past (max top place) place book aside h.few (omega arith) s.running tail h.written s h.aim other h.own h.logs h.stakes h.mends h.next (record { fits = fits.1; whole = gives }) after (has_higher s h.aim h.written past top (max top place) place book aside (omega arith) (has_of all s past top place book aside h))

  starts : some s.running ≡ false → IsOwn (job_called tail (begins (due_job stops s) s).running (begins (due_job stops s) s)) (aim_first tail (begins (due_job stops s) s).running other (aim_begins (due_job stops s) s h.aim)) → Called false
  starts is after =
      let idle = no_calls s.running is in
      let rest = rest_is h.written s h.aim idle h.logs in
      let m = begins (due_job stops s) s in
      let b = aim_begins (due_job stops s) s h.aim in
      let to : ℕ = place_by (due_job stops s) place in
      let plain = begins_plain (due_job stops s) s idle in
      let has : Has s h.aim None past top place book aside = subst (λ (w : Option Tail). Has s h.aim w past top place book aside) rest.0 (has_of all s past top place book aside h) in
      let begun_has : Has m b None past (max top to) to book aside =
      has_higher m b None past top (max top to) to book aside (omega arith) (has_begins stops s h.aim past top place book aside ends rest.1 has) in
      let none : Gives to book m.running m tail =
      record { fits = λ w. both_ways (writes_tail m.running) (IsGroup tail.entries) w plain; whole = λ w. both_ways (writes_tail m.running) (IsWholeTail m to book tail) w plain } in
      subst (λ (w : Option Tail). Has (job_called tail m.running m) (aim_first tail m.running other b) (written_by tail m.running w) past (max top to) to book (still_aside (job_called tail m.running m) aside)) (sym rest.0)
      (job_has past (max top to) to book aside h.few (omega arith) m.running tail None m b other (own_begins stops s h.aim idle h.own (fits.0 is)) (log_begins stops h.written s h.aim idle h.logs).logs (stakes_begins stops s h.aim idle h.own) begun_has.mends begun_has.next none after begun_has)

  called_by : (t : Bool) → some s.running ≡ t → IsOwn (job_called tail (cond t s (begins (due_job stops s) s)).running (cond t s (begins (due_job stops s) s)))
      (aim_first tail (cond t s (begins (due_job stops s) s)).running other (cond t h.aim (aim_begins (due_job stops s) s h.aim))) → Called t
  called_by true is after = runs_on after
  called_by false is after = starts is after

  pub has_called : IsOwn (store_called stops tail s) (aim_then stops tail other s h.aim)
      → Has (store_called stops tail s) (aim_then stops tail other s h.aim) (written_then stops tail s h.written) past (max top (place_then stops s place)) (place_then stops s place) book (still_aside (store_called stops tail s) aside)
  has_called after = called_by (some s.running) refl after

pub called_book : (all : List (List ℕ)) (stops : List ℕ → Bool) (s : StoreState) (past top place : ℕ) (book aside : List LogEntry) (tail : Tail) → HoldsWritten all s past top place book aside → CallFits stops tail s → GivesTail s place book tail
    → EndsAtInstalls stops → HoldsWritten all (store_called stops tail s) past (max top (place_then stops s place)) (place_then stops s place) book (still_aside (store_called stops tail s) aside)
called_book all stops s past top place book aside tail h fits gives ends =
    let g = own_call_goes stops tail s h.aim h.own fits in
    let has = has_called all stops s past top place book aside tail h fits gives ends g.0 g.1 in record {
      aim = aim_then stops tail g.0 s h.aim;
      written = written_then stops tail s h.written;
      own = g.1;
      logs = (log_called stops tail g.0 h.written s h.aim h.logs).logs;
      stakes = (stakes_called stops tail g.0 s h.aim h.own h.stakes g.1).0;
      snapshots = snapshots_called (IsOneOf all) stops tail g.0 h.written s h.aim h.own h.logs h.stakes g.1 h.snapshots;
      mends = has.mends;
      kept = has.kept;
      low = has.low;
      adds = has.adds;
      rest = has.rest;
      tail = has.tail;
      next = has.next;
      sound = has.sound;
      few = h.few;
      few_aside = few_aside (store_called stops tail s) aside h.few_aside;
      back = has.back;
      gated = has.gated;
    }

pub called_firm_book : (all : List (List ℕ)) (stops : List ℕ → Bool) (s : StoreState) (past top place : ℕ) (book aside : List LogEntry) (tail : Tail) → HoldsWritten all s past top place book aside → s.firm ≤ (store_called stops tail s).firm
called_firm_book all stops s past top place book aside tail h =
    let few = h.kept.few in
    let most = h.few in
    (firm_rises stops tail s (omega (arith, few, most))).0
