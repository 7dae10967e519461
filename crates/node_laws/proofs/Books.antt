-- What stays of a book's entries where one more is pushed.
-- ---- regencies
use Rattle.std.proofs.Common.{Bool, List, None, Option, Some, ap, arith, cond, false, inl, inr, length-append, max, nat_lt, refl, subst, suc, sym, take, true, zero, ℕ, ⊎_elim, ◌+◌, ◌++◌, ◌∷◌, [], ◌≡◌, ◌≤◌, ◌<◌, ◌==◌, ◌∙◌, ◌&&◌, ◌⊎◌}
use Rattle.std.proofs.lemmas.Bool.{eq-eqb, eqb-true, ltb-false, ltb-true}
use Rattle.std.proofs.lemmas.List.{take-append-le}
use Rattle.std.specs.Prelude.{IfSome, is_some}
use Rattle.replica_rules.specs.Seals.{digest_of}
use Rattle.agreement_laws.specs.Diaries.{HasReached, IsShown}
use Rattle.agreement_laws.specs.Statements.{Statement, signer_of, statements}
use Rattle.node_rules.specs.Nodes.{greatest_regency, regency_in}
use Rattle.node_rules.specs.declared.node.Held.{Held}
use Rattle.smart_base.specs.Lists.{Each, or_else}
use Rattle.smart_base.specs.Views.{View}
use Rattle.smart_base.specs.declared.party.Party.TheVariants.{Member}
use Rattle.smart_statements.specs.Batches.{Batch}
use Rattle.vote_book.specs.Standing.{first_start, start_by}
use Rattle.vote_book.proofs.Growth.{last_or_earlier}
use Rattle.vote_book.specs.Books.{Among, last_made}
use Rattle.vote_book.specs.Tidy.{promise_of}
use Rattle.vote_book.specs.declared.entry.LogEntry.{LogEntry}
use Rattle.vote_book.specs.declared.entry.LogEntry.TheVariants.{Accepted, Decided, Installed, Marked, Opened, Promised, Synced, Wrote}
use Rattle.vote_book.specs.declared.entry.Promise.{Promise}
use Rattle.vote_book.specs.declared.entry.Start.{Start}
use Rattle.node_laws.proofs.Lists.{guard}
use Rattle.node_laws.specs.Sound.{AreLate, ArePromisedUpTo, AreRangedPast, HasDecided, IsBegun, IsHeld, IsKnown, IsNewest, IsPast, IsRanged, IsWithin}
use Rattle.agreement_laws.proofs.Growing.{HasReached-more}
use Rattle.agreement_laws.proofs.Lists.{among_left, each_among, each_end, some_equal}
use Rattle.smart_base.proofs.SameLists.{and_true}
use Rattle.smart_base.proofs.ViewFacts.{each-weaken}
use Rattle.node_laws.proofs.Views.{begun_later}

pub greatest_push : (view : ℕ) (es : List LogEntry) (e : LogEntry) → greatest_regency view (es ++ e ∷ []) ≡ max (greatest_regency view es) (regency_in view e)
greatest_push view [] e = omega arith
greatest_push view (y ∷ ys) e = let rest = greatest_push view ys e in omega arith

-- an entry within a place and what is promised is within a later place, and within more that is promised in its view
within_of : (views : List View) (place place' : ℕ) (before es es' : List LogEntry) (e : LogEntry) → place ≤ place'
    → ((k : ℕ) → ArePromisedUpTo k before → greatest_regency k es ≤ greatest_regency k es') → IsNewest before e → IsWithin views place es e → IsWithin views place' es' e
within_of views place place' before es es' (Opened o) p more newest is = tt
within_of views place place' before es es' (Wrote w) p more newest is =
    let a = is.place_is in let b = is.regency_is in let r = more w.slot.view newest in record { of_view = is.of_view; place_is = omega (arith, a, p); regency_is = omega (arith, b, r) }
within_of views place place' before es es' (Accepted x) p more newest is =
    let a = is.place_is in let b = is.regency_is in let r = more x.slot.view newest in record { of_view = is.of_view; place_is = omega (arith, a, p); regency_is = omega (arith, b, r) }
within_of views place place' before es es' (Promised q) p more newest is = let b = is.most in let r = more q.view newest in record { of_view = is.of_view; begun = begun_later views place place' is.of_view.view p is.begun; some = is.some; most = omega (arith, b, r) }
within_of views place place' before es es' (Synced s) p more newest is = let b = is.most in let r = more s.view newest in record { of_view = is.of_view; begun = begun_later views place place' is.of_view.view p is.begun; some = is.some; most = omega (arith, b, r) }
within_of views place place' before es es' (Decided d) p more newest is = let a = is.place_is in record { of_view = is.of_view; place_is = omega (arith, a, p); low = is.low }
within_of views place place' before es es' (Installed i) p more newest is = is
within_of views place place' before es es' (Marked m) p more newest is = omega (arith, is, p)

none_newest : (e : LogEntry) → IsNewest [] e
none_newest (Opened o) = tt
none_newest (Wrote w) = λ p none. absurd none
none_newest (Accepted a) = λ p none. absurd none
none_newest (Promised q) = λ p none. absurd none
none_newest (Synced s) = λ p none. absurd none
none_newest (Decided d) = tt
none_newest (Installed i) = tt
none_newest (Marked m) = tt

pub within_more : (views : List View) (place place' : ℕ) (es es' : List LogEntry) (e : LogEntry) → place ≤ place' → ((k : ℕ) → greatest_regency k es ≤ greatest_regency k es')
    → IsWithin views place es e → IsWithin views place' es' e
within_more views place place' es es' e p more is = within_of views place place' [] es es' e p (λ k none. more k) (none_newest e) is

pub all_within_more : (views : List View) (place place' : ℕ) (es es' entries : List LogEntry) → place ≤ place' → ((k : ℕ) → greatest_regency k es ≤ greatest_regency k es')
    → Each (IsWithin views place es) entries → Each (IsWithin views place' es') entries
all_within_more views place place' es es' entries p more all =
    each-weaken (IsWithin views place es) (IsWithin views place' es') (λ e is. within_more views place place' es es' e p more is) entries all

-- one more entry promises no less
pub promised_push : (es : List LogEntry) (e : LogEntry) (k : ℕ) → greatest_regency k es ≤ greatest_regency k (es ++ e ∷ [])
promised_push es e k = let grown = greatest_push k es e in omega (arith, grown)

pub within_push : (views : List View) (place : ℕ) (es : List LogEntry) (e : LogEntry) → Each (IsWithin views place es) es → IsWithin views place (es ++ e ∷ []) e
    → Each (IsWithin views place (es ++ e ∷ [])) (es ++ e ∷ [])
within_push views place es e all is =
    each_end (IsWithin views place (es ++ e ∷ [])) es e (all_within_more views place place es (es ++ e ∷ []) es (omega arith) (λ k. promised_push es e k) all) is

-- ---- what each entry is within by those before it

-- an entry is no older than what other entries promise, if they promise no later view
pub newest_from : (before before' : List LogEntry) (e : LogEntry) → ((k : ℕ) → ArePromisedUpTo k before → ArePromisedUpTo k before') → IsNewest before e → IsNewest before' e
newest_from before before' (Opened o) upto is = tt
newest_from before before' (Wrote w) upto is = upto w.slot.view is
newest_from before before' (Accepted a) upto is = upto a.slot.view is
newest_from before before' (Promised q) upto is = upto q.view is
newest_from before before' (Synced s) upto is = upto s.view is
newest_from before before' (Decided d) upto is = tt
newest_from before before' (Installed i) upto is = tt
newest_from before before' (Marked m) upto is = tt

-- an entry within a place behind some entries is so behind others that promise as much in its view, and no later view
pub ranged_of : (views : List View) (place place' : ℕ) (before before' : List LogEntry) (e : LogEntry) → place ≤ place'
    → ((k : ℕ) → ArePromisedUpTo k before → greatest_regency k (before ++ e ∷ []) ≤ greatest_regency k (before' ++ e ∷ []))
    → ((p : Promise) → Among (Promised p) before' → Among (Promised p) before) → IsRanged views place before e → IsRanged views place' before' e
ranged_of views place place' before before' e p more fewer is = record {
  within = within_of views place place' before (before ++ e ∷ []) (before' ++ e ∷ []) e p more is.newest is.within;
  newest = newest_from before before' e (λ k upto p there. upto p (fewer p there)) is.newest;
}

pub none_ranged : (opening : ℕ) (views : List View) → AreRangedPast opening views []
none_ranged opening views before entry after split = absurd (none before split)
  where
    none : (xs : List LogEntry) → [] ≡ xs ++ entry ∷ after → ⊥
    none [] same = cc
    none (x ∷ xs) same = cc

pub ranged_push : (opening : ℕ) (views : List View) (es : List LogEntry) (e : LogEntry) → AreRangedPast opening views es
    → IsRanged views (max opening (last_made es) + 1) es e → AreRangedPast opening views (es ++ e ∷ [])
ranged_push opening views es e ranged within before entry after split =
    ⊎_elim
    (λ last. subst (λ (b : List LogEntry). IsRanged views (max opening (last_made b) + 1) b entry) last.0
    (subst (λ (x : LogEntry). IsRanged views (max opening (last_made es) + 1) es x) last.1 within))
    (λ earlier. ranged before entry earlier.after earlier.split)
    (last_or_earlier es e before entry after split)

-- what the entries of a book promise is of known views
pub promises_known : (views : List View) (place : ℕ) (es : List LogEntry) → Each (IsWithin views place es) es → (p : Promise) → Among (Promised p) es → IsKnown views p.view
promises_known views place es all p there = (each_among (IsWithin views place es) es (Promised p) all there).of_view

pub least_decided : {A : Type 0} (waiting : Option A) (place : ℕ) → place ≤ cond (is_some waiting) (place + 1) place
least_decided None place = omega arith
least_decided (Some x) place = omega arith

-- ---- how books begin

pub begun_push : (es : List LogEntry) (e : LogEntry) → IsBegun es → IsBegun (es ++ e ∷ [])
begun_push [] e begun = absurd begun
begun_push (x ∷ xs) e begun = begun

-- the greatest regency that entries promise stands in a promise of theirs

later_greatest : (view : ℕ) (e : LogEntry) (es : List LogEntry) (here rest : ℕ) → here ≤ rest → (0 < rest → Among (promise_of view rest) es) → 0 < max here rest
    → Among (promise_of view (max here rest)) (e ∷ es)
later_greatest view e es here rest below later some =
    let same : max here rest ≡ rest = omega (arith, below) in
    inr (subst (λ (k : ℕ). Among (promise_of view k) es) (sym same) (later (omega (arith, same, some))))

promise_here : (view : ℕ) (p : Promise) (es : List LogEntry) (rest : ℕ) (t : Bool) (high : Bool) → (p.view == view) ≡ t → nat_lt rest p.regency ≡ high
    → (0 < rest → Among (promise_of view rest) es) → 0 < max (cond t p.regency 0) rest → Among (promise_of view (max (cond t p.regency 0) rest)) (Promised p ∷ es)
promise_here view p es rest true true same above later some =
    let less : rest < p.regency = ltb-true rest p.regency above in
    let most : max p.regency rest ≡ p.regency = omega arith in
    let is : promise_of view p.regency ≡ Promised p = ap (λ (v : ℕ). promise_of v p.regency) (sym (eqb-true p.view view same)) in
    inl (ap (λ (k : ℕ). promise_of view k) most ∙ is)
promise_here view p es rest true false same above later some = later_greatest view (Promised p) es p.regency rest (ltb-false rest p.regency above) later some
promise_here view p es rest false high same above later some = later_greatest view (Promised p) es 0 rest (omega arith) later some

greatest_step : (view : ℕ) (e : LogEntry) (es : List LogEntry) (rest : ℕ) → (0 < rest → Among (promise_of view rest) es) → 0 < max (regency_in view e) rest
    → Among (promise_of view (max (regency_in view e) rest)) (e ∷ es)
greatest_step view (Promised p) es rest later some = promise_here view p es rest (p.view == view) (nat_lt rest p.regency) refl refl later some
greatest_step view (Opened o) es rest later some = later_greatest view (Opened o) es 0 rest (omega arith) later some
greatest_step view (Wrote w) es rest later some = later_greatest view (Wrote w) es 0 rest (omega arith) later some
greatest_step view (Accepted a) es rest later some = later_greatest view (Accepted a) es 0 rest (omega arith) later some
greatest_step view (Synced s) es rest later some = later_greatest view (Synced s) es 0 rest (omega arith) later some
greatest_step view (Decided d) es rest later some = later_greatest view (Decided d) es 0 rest (omega arith) later some
greatest_step view (Installed i) es rest later some = later_greatest view (Installed i) es 0 rest (omega arith) later some
greatest_step view (Marked m) es rest later some = later_greatest view (Marked m) es 0 rest (omega arith) later some

pub promised_greatest : (view : ℕ) (es : List LogEntry) → 0 < greatest_regency view es → Among (promise_of view (greatest_regency view es)) es
promised_greatest view [] some = absurd (omega (arith, some))
promised_greatest view (e ∷ es) some = greatest_step view e es (greatest_regency view es) (promised_greatest view es) some

-- ---- what several entries promise

pub promise_in : (number : ℕ) (p : Promise) → p.view ≡ number → regency_in number (Promised p) ≡ p.regency
promise_in number p same = rw (eq-eqb p.view number same) refl

pub greatest_append : (view : ℕ) (xs ys : List LogEntry) → greatest_regency view (xs ++ ys) ≡ max (greatest_regency view xs) (greatest_regency view ys)
greatest_append view [] ys = omega arith
greatest_append view (x ∷ xs) ys = let rest = greatest_append view xs ys in omega (arith, rest)

regency_most : (view : ℕ) (es : List LogEntry) (e : LogEntry) → Among e es → regency_in view e ≤ greatest_regency view es
regency_most view [] e there = absurd there
regency_most view (x ∷ xs) e (inl same) = let here : regency_in view e ≡ regency_in view x = ap (λ (y : LogEntry). regency_in view y) same in omega (arith, here)
regency_most view (x ∷ xs) e (inr there) = let rest = regency_most view xs e there in omega (arith, rest)

pub promise_most : (view : ℕ) (es : List LogEntry) (p : Promise) → p.view ≡ view → Among (Promised p) es → p.regency ≤ greatest_regency view es
promise_most view es p at there =
    let most = regency_most view es (Promised p) there in
    let is_in : regency_in view (Promised p) ≡ p.regency = promise_in view p at in
    omega (arith, most, is_in)

pub fewer_promise : (view : ℕ) (xs ys : List LogEntry) → ((e : LogEntry) → Among e xs → Among e ys) → greatest_regency view xs ≤ greatest_regency view ys
fewer_promise view xs ys all = by (greatest_regency view xs) refl
  where
    by : (r : ℕ) → greatest_regency view xs ≡ r → r ≤ greatest_regency view ys
    by zero is = omega arith
    by (suc r) is =
        let some : 0 < greatest_regency view xs = omega (arith, is) in
        let most : greatest_regency view xs ≤ greatest_regency view ys =
        promise_most view ys (record { view = view; regency = greatest_regency view xs }) refl (all (promise_of view (greatest_regency view xs)) (promised_greatest view xs some)) in
        omega (arith, most, is)

-- ---- beginnings

-- the beginning that is found stands there, and is of the view and the regency
pub record Begins (view regency : ℕ) (es : List LogEntry) (start : Start) : Type 0 where
  pub there : Among (Synced start) es
  pub view_is : start.view ≡ view
  pub regency_is : start.regency ≡ regency

begins_at : (view regency : ℕ) (e : LogEntry) (es : List LogEntry) (start : Start) → start_by view regency e ≡ Some start → Begins view regency (e ∷ es) start
begins_at view regency (Synced s) es start is =
    let parts = guard ((s.view == view) && (s.regency == regency)) (Some s) start is in
    let same : s ≡ start = some_equal s start parts.1 in
    let tests = and_true (s.view == view) (s.regency == regency) parts.0 in
    record {
      there = inl (ap (λ (x : Start). Synced x) (sym same));
      view_is = ap (λ (x : Start). x.view) (sym same) ∙ eqb-true s.view view tests.0;
      regency_is = ap (λ (x : Start). x.regency) (sym same) ∙ eqb-true s.regency regency tests.1;
    }
begins_at view regency (Opened o) es start is = absurd (cc)
begins_at view regency (Wrote w) es start is = absurd (cc)
begins_at view regency (Accepted a) es start is = absurd (cc)
begins_at view regency (Promised p) es start is = absurd (cc)
begins_at view regency (Decided d) es start is = absurd (cc)
begins_at view regency (Installed i) es start is = absurd (cc)
begins_at view regency (Marked m) es start is = absurd (cc)

begins_later : (view regency : ℕ) (e : LogEntry) (es : List LogEntry) (start : Start) → Begins view regency es start → Begins view regency (e ∷ es) start
begins_later view regency e es start is = record { there = inr is.there; view_is = is.view_is; regency_is = is.regency_is }

begins_step : (view regency : ℕ) (e : LogEntry) (es : List LogEntry) (start : Start) (here : Option Start) → start_by view regency e ≡ here
    → (first_start view regency es ≡ Some start → Begins view regency es start) → or_else here (first_start view regency es) ≡ Some start → Begins view regency (e ∷ es) start
begins_step view regency e es start None at rest is = begins_later view regency e es start (rest is)
begins_step view regency e es start (Some s) at rest is = begins_at view regency e es start (at ∙ is)

pub begins : (view regency : ℕ) (es : List LogEntry) (start : Start) → first_start view regency es ≡ Some start → Begins view regency es start
begins view regency [] start is = absurd (cc)
begins view regency (e ∷ es) start is = begins_step view regency e es start (start_by view regency e) refl (begins view regency es start) is

-- where none is found, none stands there
start_self : (s : Start) (view regency : ℕ) → s.view ≡ view → s.regency ≡ regency → start_by view regency (Synced s) ≡ Some s
start_self s view regency v r = rw (eq-eqb s.view view v, eq-eqb s.regency regency r) refl

none_step : (here rest : Option Start) → is_some (or_else here rest) ≡ false → (here ≡ None) × (is_some rest ≡ false)
none_step None rest is = (refl, is)
none_step (Some s) rest is = absurd (cc)

pub none_begins : (view regency : ℕ) (es : List LogEntry) (s : Start) → is_some (first_start view regency es) ≡ false → Among (Synced s) es → s.view ≡ view → s.regency ≡ regency → ⊥
none_begins view regency [] s none there v r = there
none_begins view regency (e ∷ es) s none (inl is) v r =
    let here : start_by view regency e ≡ None = (none_step (start_by view regency e) (first_start view regency es) none).0 in
    let own : start_by view regency e ≡ Some s = subst (λ (x : LogEntry). start_by view regency x ≡ Some s) is (start_self s view regency v r) in
    cc
none_begins view regency (e ∷ es) s none (inr there) v r =
    none_begins view regency es s (none_step (start_by view regency e) (first_start view regency es) none).1 there v r

-- ---- what is shown

pub decided_push : (es : List LogEntry) (e : LogEntry) (place : ℕ) (waiting : Option Batch) → IfSome waiting (HasDecided es place) → IfSome waiting (HasDecided (es ++ e ∷ []) place)
decided_push es e place None has = tt
decided_push es e place (Some batch) has = record { decision = has.decision; there = among_left (Decided has.decision) es (e ∷ []) has.there; place_is = has.place_is; batch_is = has.batch_is }

pub reached_push : (es : List LogEntry) (e : LogEntry) (place : ℕ) → HasReached es place → HasReached (es ++ e ∷ []) place
reached_push es e place has = HasReached-more es (e ∷ []) place has

-- what a held message needs stays what it is
pub held_push : (secret : List ℕ) (id : ℕ) (stated : List Statement) (es : List LogEntry) (e : LogEntry) (h : Held) → IsHeld secret id stated es h → IsHeld secret id stated (es ++ e ∷ []) h
held_push secret id stated es e h is =
    let within = is.needs in
    let same : take h.needs (es ++ e ∷ []) ≡ take h.needs es = take-append-le h.needs es (e ∷ []) within in
    record {
      needs = omega (arith, within, length-append es (e ∷ []));
      shown = subst (λ (front : List LogEntry). Each (λ s. Among s stated ⊎ ((signer_of s ≡ Member id) × IsShown digest_of front s)) (statements secret h.message)) (sym same) is.shown;
    }

-- what is held is as late
pub late_push : (secret : List ℕ) (stated : List Statement) (restored : ℕ) (es : List LogEntry) (e : LogEntry) (held : List Held) → AreLate secret stated restored es held
    → AreLate secret stated restored (es ++ e ∷ []) held
late_push secret stated restored es e held is =
    let few = is.few in
    let same : take restored (es ++ e ∷ []) ≡ take restored es = take-append-le restored es (e ∷ []) few in
    record {
      few = omega (arith, few, length-append es (e ∷ []));
      each = subst (λ (front : List LogEntry). Each (λ (h : Held). Each (λ s. Among s stated ⊎ IsPast front s) (statements secret h.message)) held) (sym same) is.each;
    }
