-- What is kept of the entries before one: it stands among them, makes no place and is no vote.
use Rattle.std.proofs.Common.{◌≡◌, ◌⊎◌, inl, inr, ⊎_elim, ℕ, Bool, true, false, cond, ◌&&◌, ◌==◌, List, [], ◌∷◌, ◌++◌, Option, Some, None, refl, sym, ap, ◌∙◌, subst}
use Rattle.std.proofs.lemmas.Bool.{eqb-true, eq-eqb, and_parts, and_from}
use Rattle.smart_base.specs.Lists.{or_else}
use Rattle.vote_book.specs.declared.entry.LogEntry.{LogEntry}
use Rattle.vote_book.specs.declared.entry.LogEntry.TheVariants.{Opened, Wrote, Accepted, Promised, Synced, Decided, Installed, Marked}
use Rattle.vote_book.specs.declared.entry.Opening.{Opening}
use Rattle.vote_book.specs.declared.entry.Promise.{Promise}
use Rattle.vote_book.specs.declared.entry.Start.{Start}
use Rattle.vote_book.specs.Books.{place_made, Among, Admits}
use Rattle.vote_book.specs.BookReports.{accept_for}
use Rattle.vote_book.specs.Standing.{start_if, start_by, first_start}
use Rattle.book_laws.specs.BookCuts.{opening_by, first_opening, greatest_promise, as_opened, as_synced, as_promised, kept_of}
use Rattle.book_laws.proofs.Lists.{among_either, among_right}
use Rattle.book_laws.proofs.Promises.{greatest_from}

-- ---- the first of some

pub else_assoc : {A : Type 0} (a b c : Option A) → or_else a (or_else b c) ≡ or_else (or_else a b) c
else_assoc None b c = refl
else_assoc (Some x) b c = refl

pub else_none : {A : Type 0} (o : Option A) → or_else o None ≡ o
else_none None = refl
else_none (Some x) = refl

else_either : {A : Type 0} (a b : Option A) (x : A) → or_else a b ≡ Some x → (a ≡ Some x) ⊎ (b ≡ Some x)
else_either None b x is = inr is
else_either (Some y) b x is = inl is

neither : {A : Type 0} (a b : Option A) → or_else a b ≡ None → (a ≡ None) × (b ≡ None)
neither None b is = (refl, is)
neither (Some y) b is = absurd (cc)

-- ---- openings

pub opening_append : (xs ys : List LogEntry) → first_opening (xs ++ ys) ≡ or_else (first_opening xs) (first_opening ys)
opening_append [] ys = refl
opening_append (x ∷ xs) ys = ap (λ (o : Option Opening). or_else (opening_by x) o) (opening_append xs ys) ∙ else_assoc (opening_by x) (first_opening xs) (first_opening ys)

opened_as : (x : LogEntry) (o : Opening) → opening_by x ≡ Some o → x ≡ Opened o
opened_as (Opened q) o is = let same : q ≡ o = cc in ap (λ (y : Opening). Opened y) same
opened_as (Promised p) o is = absurd (cc)
opened_as (Wrote w) o is = absurd (cc)
opened_as (Accepted a) o is = absurd (cc)
opened_as (Synced s) o is = absurd (cc)
opened_as (Decided d) o is = absurd (cc)
opened_as (Installed i) o is = absurd (cc)
opened_as (Marked m) o is = absurd (cc)

opening_from : (xs : List LogEntry) (o : Opening) → first_opening xs ≡ Some o → Among (Opened o) xs
opening_from [] o is = absurd (cc)
opening_from (x ∷ xs) o is =
    ⊎_elim (λ here. inl (sym (opened_as x o here))) (λ later. inr (opening_from xs o later)) (else_either (opening_by x) (first_opening xs) o is)

-- ---- beginnings

pub start_append : (view regency : ℕ) (xs ys : List LogEntry) → first_start view regency (xs ++ ys) ≡ or_else (first_start view regency xs) (first_start view regency ys)
start_append view regency [] ys = refl
start_append view regency (x ∷ xs) ys =
    ap (λ (o : Option Start). or_else (start_by view regency x) o) (start_append view regency xs ys)
    ∙ else_assoc (start_by view regency x) (first_start view regency xs) (first_start view regency ys)

-- a beginning of a regency of a view among entries
pub record Starts (view regency : ℕ) (xs : List LogEntry) (s : Start) : Type 0 where
  pub there : Among (Synced s) xs
  pub view_is : s.view ≡ view
  pub regency_is : s.regency ≡ regency

start_as : (view regency : ℕ) (xs : List LogEntry) (s q : Start) (t : Bool) → (q.view == view && q.regency == regency) ≡ t → cond t (Some q) None ≡ Some s
    → Starts view regency (Synced q ∷ xs) s
start_as view regency xs s q true passes is =
    let both = and_parts (q.view == view) (q.regency == regency) passes in
    let same : q ≡ s = cc in
    subst (λ (y : Start). Starts view regency (Synced q ∷ xs) y) same
    (record { there = inl refl; view_is = eqb-true q.view view both.0; regency_is = eqb-true q.regency regency both.1 })
start_as view regency xs s q false passes is = absurd (cc)

start_here : (view regency : ℕ) (x : LogEntry) (xs : List LogEntry) (s : Start) → start_by view regency x ≡ Some s → Starts view regency (x ∷ xs) s
start_here view regency (Synced q) xs s is = start_as view regency xs s q (q.view == view && q.regency == regency) refl is
start_here view regency (Opened o) xs s is = absurd (cc)
start_here view regency (Wrote w) xs s is = absurd (cc)
start_here view regency (Accepted a) xs s is = absurd (cc)
start_here view regency (Promised p) xs s is = absurd (cc)
start_here view regency (Decided d) xs s is = absurd (cc)
start_here view regency (Installed i) xs s is = absurd (cc)
start_here view regency (Marked m) xs s is = absurd (cc)

later_starts : (view regency : ℕ) (x : LogEntry) (xs : List LogEntry) (s : Start) → Starts view regency xs s → Starts view regency (x ∷ xs) s
later_starts view regency x xs s h = record { there = inr h.there; view_is = h.view_is; regency_is = h.regency_is }

pub start_from : (view regency : ℕ) (xs : List LogEntry) (s : Start) → first_start view regency xs ≡ Some s → Starts view regency xs s
start_from view regency [] s is = absurd (cc)
start_from view regency (x ∷ xs) s is =
    ⊎_elim (λ here. start_here view regency x xs s here) (λ later. later_starts view regency x xs s (start_from view regency xs s later))
    (else_either (start_by view regency x) (first_start view regency xs) s is)

pub start_passes : (view regency : ℕ) (s : Start) → s.view ≡ view → s.regency ≡ regency → start_if view regency s ≡ Some s
start_passes view regency s of_view of_regency =
    by (s.view == view && s.regency == regency) (and_from (s.view == view) (s.regency == regency) (eq-eqb s.view view of_view) (eq-eqb s.regency regency of_regency))
  where
    by : (t : Bool) → t ≡ true → cond t (Some s) None ≡ Some s
    by true is = refl
    by false is = absurd (cc)

pub none_starts : (view regency : ℕ) (xs : List LogEntry) (s : Start) → first_start view regency xs ≡ None → Among (Synced s) xs → s.view ≡ view → s.regency ≡ regency → ⊥
none_starts view regency [] s none there of_view of_regency = there
none_starts view regency (x ∷ xs) s none (inl same) of_view of_regency =
    let here : start_by view regency x ≡ None = (neither (start_by view regency x) (first_start view regency xs) none).0 in
    let some : start_by view regency x ≡ Some s = ap (λ (y : LogEntry). start_by view regency y) (sym same) ∙ start_passes view regency s of_view of_regency in
    let both : None ≡ Some s = sym here ∙ some in
    cc
none_starts view regency (x ∷ xs) s none (inr there) of_view of_regency =
    none_starts view regency xs s (neither (start_by view regency x) (first_start view regency xs) none).1 there of_view of_regency

-- ---- what is kept

-- an entry that stands among others, makes no place, is no vote, and may stand anywhere
pub record IsKept (front : List LogEntry) (e : LogEntry) : Type 0 where
  pub there : Among e front
  pub no_place : place_made e ≡ None
  pub no_accept : (view place : ℕ) → accept_for view place e ≡ None
  pub admitted : (opening restored : ℕ) (before : List LogEntry) → Admits opening restored before e

opened_kept : (front : List LogEntry) (e : LogEntry) (o : Option Opening) → first_opening front ≡ o → Among e (as_opened o) → IsKept front e
opened_kept front e None is there = absurd there
opened_kept front e (Some o) is (inl same) =
    subst (λ (x : LogEntry). IsKept front x) (sym same)
    (record { there = opening_from front o is; no_place = refl; no_accept = λ view place. refl; admitted = λ opening restored before. tt })
opened_kept front e (Some o) is (inr none) = absurd none

synced_kept : (view regency : ℕ) (front : List LogEntry) (e : LogEntry) (o : Option Start) → first_start view regency front ≡ o → Among e (as_synced o) → IsKept front e
synced_kept view regency front e None is there = absurd there
synced_kept view regency front e (Some s) is (inl same) =
    subst (λ (x : LogEntry). IsKept front x) (sym same)
    (record { there = (start_from view regency front s is).there; no_place = refl; no_accept = λ view place. refl; admitted = λ opening restored before. tt })
synced_kept view regency front e (Some s) is (inr none) = absurd none

promised_kept : (front : List LogEntry) (e : LogEntry) (o : Option Promise) → greatest_promise front ≡ o → Among e (as_promised o front) → IsKept front e
promised_kept front e None is there = absurd there
promised_kept front e (Some p) is (inl same) =
    subst (λ (x : LogEntry). IsKept front x) (sym same)
    (record { there = greatest_from front p is; no_place = refl; no_accept = λ view place. refl; admitted = λ opening restored before. tt })
promised_kept front e (Some p) is (inr there) = synced_kept p.view p.regency front e (first_start p.view p.regency front) refl there

pub kept : (front : List LogEntry) (e : LogEntry) → Among e (kept_of front) → IsKept front e
kept front e there =
    ⊎_elim (λ opened. opened_kept front e (first_opening front) refl opened) (λ promised. promised_kept front e (greatest_promise front) refl promised)
    (among_either e (as_opened (first_opening front)) (as_promised (greatest_promise front) front) there)

-- the greatest promise is kept, and the beginning of its regency
pub promise_kept : (front : List LogEntry) (p : Promise) → greatest_promise front ≡ Some p → Among (Promised p) (kept_of front)
promise_kept front p is =
    among_right (Promised p) (as_opened (first_opening front)) (as_promised (greatest_promise front) front)
    (subst (λ (o : Option Promise). Among (Promised p) (as_promised o front)) (sym is) (inl refl))

pub start_kept : (front : List LogEntry) (p : Promise) (s : Start) → greatest_promise front ≡ Some p → first_start p.view p.regency front ≡ Some s → Among (Synced s) (kept_of front)
start_kept front p s is begun =
    among_right (Synced s) (as_opened (first_opening front)) (as_promised (greatest_promise front) front)
    (subst (λ (o : Option Promise). Among (Synced s) (as_promised o front)) (sym is)
    (inr (subst (λ (o : Option Start). Among (Synced s) (as_synced o)) (sym begun) (inl refl))))
