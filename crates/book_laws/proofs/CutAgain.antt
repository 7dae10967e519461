-- The cut of more entries, and the cut of a cut.
use Rattle.std.proofs.Common.{◌≡◌, ⊎_elim, ℕ, ◌<◌, ◌≤◌, Bool, true, false, cond, List, ◌∷◌, ◌++◌, Option, Some, None, refl, sym, ap, ap₂, ◌∙◌, subst, arith, append_assoc}
use Rattle.smart_base.specs.Lists.{or_else}
use Rattle.vote_book.specs.declared.entry.LogEntry.{LogEntry}
use Rattle.vote_book.specs.declared.entry.LogEntry.TheVariants.{Promised, Synced}
use Rattle.vote_book.specs.declared.entry.Opening.{Opening}
use Rattle.vote_book.specs.declared.entry.Promise.{Promise}
use Rattle.vote_book.specs.declared.entry.Start.{Start}
use Rattle.vote_book.specs.Books.{last_made, Among, HasMade, Lawful}
use Rattle.vote_book.specs.Admission.{makes}
use Rattle.vote_book.specs.Standing.{first_start}
use Rattle.vote_book.specs.Tidy.{IsTidy, IsTidyStart}
use Rattle.vote_book.proofs.Tested.{made_is}
use Rattle.vote_book.proofs.Locks.{made_most}
use Rattle.vote_book.proofs.Tidy.{front_tidy}
use Rattle.book_laws.specs.BookCuts.{first_opening, greater_promise, greatest_promise, as_opened, as_synced, as_promised, kept_of, before_place, from_place, has_cut, cut_at}
use Rattle.book_laws.proofs.Lists.{split_at, among_left, among_right, among_either, among_before}
use Rattle.book_laws.proofs.Promises.{Under, IsAtLeast, greatest_append, greatest_most, greater_left, one_regency}
use Rattle.book_laws.proofs.Kept.{kept, opening_append, start_append, start_from, none_starts, start_passes}
use Rattle.book_laws.proofs.Places.{begins, both_parts, before_more, from_more, before_skip, from_skip, no_place_made, low_not_made}
use Rattle.book_laws.proofs.Cut.{cut_past, cut_makes, can_cut, no_cut, parts_lawful, front_low}

-- ---- a cut and what is not cut

pub cut_is : (place : ℕ) (entries : List LogEntry) → has_cut place entries ≡ true → cut_at place entries ≡ kept_of (before_place place entries) ++ from_place place entries
cut_is place entries is = ap (λ (t : Bool). cond t (kept_of (before_place place entries) ++ from_place place entries) entries) is

pub cut_is_whole : (place : ℕ) (entries : List LogEntry) → has_cut place entries ≡ false → cut_at place entries ≡ entries
cut_is_whole place entries is = ap (λ (t : Bool). cond t (kept_of (before_place place entries) ++ from_place place entries) entries) is

none_at_zero : (place : ℕ) (entries : List LogEntry) → place ≡ 0 → has_cut place entries ≡ false
none_at_zero place entries is = subst (λ (n : ℕ). has_cut n entries ≡ false) (sym is) refl

pub more_made : (place : ℕ) (entries more : List LogEntry) → HasMade entries place → HasMade (entries ++ more) place
more_made place entries more has = record { entry = has.entry; there = among_left has.entry entries more has.there; made = has.made }

more_cut : (place : ℕ) (entries more : List LogEntry) → has_cut place entries ≡ true → has_cut place (entries ++ more) ≡ true
more_cut place entries more is = can_cut place (entries ++ more) (cut_past place entries is) (more_made place entries more (made_is place entries (cut_makes place entries is)))

-- what comes behind the entry of the place comes behind the cut
pub cut_more : (place : ℕ) (diary more : List LogEntry) → (0 < place → HasMade diary place) → cut_at place (diary ++ more) ≡ cut_at place diary ++ more
cut_more place diary more has = by (has_cut place diary) refl
  where
    by : (t : Bool) → has_cut place diary ≡ t → cut_at place (diary ++ more) ≡ cond t (kept_of (before_place place diary) ++ from_place place diary) diary ++ more
    by true is =
        cut_is place (diary ++ more) (more_cut place diary more is)
        ∙ (ap₂ (λ (front back : List LogEntry). kept_of front ++ back) (before_more place diary more (cut_makes place diary is)) (from_more place diary more (cut_makes place diary is))
        ∙ sym (append_assoc (kept_of (before_place place diary)) (from_place place diary) more))
    by false is = cut_is_whole place (diary ++ more) (none_at_zero place (diary ++ more) (no_cut place diary has is))

-- ---- what is kept of what is kept

no_opening : (o : Option Promise) (front : List LogEntry) → first_opening (as_promised o front) ≡ None
no_opening None front = refl
no_opening (Some p) front = by (first_start p.view p.regency front)
  where
    by : (s : Option Start) → first_opening (as_synced s) ≡ None
    by None = refl
    by (Some s) = refl

opening_of : (o : Option Opening) (rest : List LogEntry) → first_opening rest ≡ None → first_opening (as_opened o ++ rest) ≡ o
opening_of None rest none = none
opening_of (Some o) rest none = refl

opening_kept : (front : List LogEntry) → first_opening (kept_of front) ≡ first_opening front
opening_kept front = opening_of (first_opening front) (as_promised (greatest_promise front) front) (no_opening (greatest_promise front) front)

greatest_behind : (o : Option Opening) (rest : List LogEntry) → greatest_promise (as_opened o ++ rest) ≡ greatest_promise rest
greatest_behind None rest = refl
greatest_behind (Some o) rest = refl

greatest_of : (o : Option Promise) (front : List LogEntry) → greatest_promise (as_promised o front) ≡ o
greatest_of None front = refl
greatest_of (Some p) front = by (first_start p.view p.regency front)
  where
    by : (s : Option Start) → greatest_promise (Promised p ∷ as_synced s) ≡ Some p
    by None = refl
    by (Some s) = refl

greatest_kept : (front : List LogEntry) → greatest_promise (kept_of front) ≡ greatest_promise front
greatest_kept front = greatest_behind (first_opening front) (as_promised (greatest_promise front) front) ∙ greatest_of (greatest_promise front) front

start_behind : (view regency : ℕ) (o : Option Opening) (rest : List LogEntry) → first_start view regency (as_opened o ++ rest) ≡ first_start view regency rest
start_behind view regency None rest = refl
start_behind view regency (Some o) rest = refl

start_of : (view regency : ℕ) (s : Start) → s.view ≡ view → s.regency ≡ regency → first_start view regency (as_synced (Some s)) ≡ Some s
start_of view regency s of_view of_regency = ap (λ (o : Option Start). or_else o None) (start_passes view regency s of_view of_regency)

-- a tidy beginning stands after its promise
pub start_promised : (entries : List LogEntry) (s : Start) → IsTidy entries → Among (Synced s) entries → Among (Promised (record { view = s.view; regency = s.regency })) entries
start_promised entries s tidy there =
    let x = split_at entries (Synced s) there in
    let neat : IsTidyStart x.before s = tidy x.before (Synced s) x.after x.is in
    among_before (Synced s) (Promised (record { view = s.view; regency = s.regency })) entries x neat.promised

-- a regency that has begun and is not below the greatest promise is that promise's
pub begun_is_greatest : (front : List LogEntry) (s : Start) (view regency : ℕ) → IsTidy front → Among (Synced s) front → s.view ≡ view → s.regency ≡ regency
    → ((p : Promise) → greatest_promise front ≡ Some p → Under view regency p.view p.regency → ⊥) → greatest_promise front ≡ Some (record { view = view; regency = regency })
begun_is_greatest front s view regency tidy there of_view of_regency high =
    let promised : Among (Promised (record { view = view; regency = regency })) front =
    subst (λ (r : ℕ). Among (Promised (record { view = view; regency = r })) front) of_regency
    (subst (λ (v : ℕ). Among (Promised (record { view = v; regency = s.regency })) front) of_view (start_promised front s tidy there)) in
    let most = greatest_most front (record { view = view; regency = regency }) promised in
    let same = one_regency most.promise.view most.promise.regency view regency (high most.promise most.is) most.most in
    most.is ∙ ap₂ (λ (v r : ℕ). Some (record { view = v; regency = r })) same.0 same.1

-- the beginning of a regency that is not below the greatest promise is kept
kept_start : (front : List LogEntry) (view regency : ℕ) → IsTidy front → ((p : Promise) → greatest_promise front ≡ Some p → Under view regency p.view p.regency → ⊥)
    → first_start view regency (kept_of front) ≡ first_start view regency front
kept_start front view regency tidy high = by (first_start view regency front) refl
  where
    at : (s : Start) → first_start view regency front ≡ Some s → s.view ≡ view → s.regency ≡ regency → greatest_promise front ≡ Some (record { view = view; regency = regency })
        → first_start view regency (kept_of front) ≡ Some s
    at s is of_view of_regency greatest =
        start_behind view regency (first_opening front) (as_promised (greatest_promise front) front)
        ∙ (ap (λ (o : Option Promise). first_start view regency (as_promised o front)) greatest
        ∙ (ap (λ (o : Option Start). first_start view regency (as_synced o)) is ∙ start_of view regency s of_view of_regency))

    none : (found : Option Start) → first_start view regency front ≡ None → first_start view regency (kept_of front) ≡ found → found ≡ None
    none None is kept_is = refl
    none (Some s) is kept_is =
        let from = start_from view regency (kept_of front) s kept_is in
        absurd (none_starts view regency front s is (kept front (Synced s) from.there).there from.view_is from.regency_is)

    by : (found : Option Start) → first_start view regency front ≡ found → first_start view regency (kept_of front) ≡ first_start view regency front
    by None is = none (first_start view regency (kept_of front)) is refl ∙ sym is
    by (Some s) is =
        let from = start_from view regency front s is in
        at s is from.view_is from.regency_is (begun_is_greatest front s view regency tidy from.there from.view_is from.regency_is high) ∙ sym is

-- the greatest promise of two lists is not below the first's
not_below_first : (left right : Option Promise) (p q : Promise) → greater_promise left right ≡ Some p → left ≡ Some q → Under p.view p.regency q.view q.regency → ⊥
not_below_first left right p q both first below =
    let at : IsAtLeast (greater_promise left right) q.view q.regency = subst (λ (o : Option Promise). IsAtLeast (greater_promise o right) q.view q.regency) (sym first) (greater_left q right) in
    let same : at.promise ≡ p = let is = at.is in cc in
    (subst (λ (r : Promise). Under r.view r.regency q.view q.regency → ⊥) same at.most) below

promised_alike : (o : Option Promise) (xs ys : List LogEntry) → ((p : Promise) → o ≡ Some p → first_start p.view p.regency xs ≡ first_start p.view p.regency ys)
    → as_promised o xs ≡ as_promised o ys
promised_alike None xs ys same = refl
promised_alike (Some p) xs ys same = ap (λ (s : Option Start). Promised p ∷ as_synced s) (same p refl)

-- what is kept of entries is kept of what was kept of the first of them
kept_again : (front mid : List LogEntry) → IsTidy front → kept_of (kept_of front ++ mid) ≡ kept_of (front ++ mid)
kept_again front mid tidy =
    ap₂ (λ (o : Option Opening) (es : List LogEntry). as_opened o ++ es) openings
    (ap (λ (p : Option Promise). as_promised p (kept_of front ++ mid)) promises
    ∙ promised_alike (greatest_promise (front ++ mid)) (kept_of front ++ mid) (front ++ mid) starts)
  where
    openings : first_opening (kept_of front ++ mid) ≡ first_opening (front ++ mid)
    openings =
        opening_append (kept_of front) mid
        ∙ (ap (λ (o : Option Opening). or_else o (first_opening mid)) (opening_kept front) ∙ sym (opening_append front mid))

    promises : greatest_promise (kept_of front ++ mid) ≡ greatest_promise (front ++ mid)
    promises =
        greatest_append (kept_of front) mid
        ∙ (ap (λ (p : Option Promise). greater_promise p (greatest_promise mid)) (greatest_kept front) ∙ sym (greatest_append front mid))

    starts : (p : Promise) → greatest_promise (front ++ mid) ≡ Some p → first_start p.view p.regency (kept_of front ++ mid) ≡ first_start p.view p.regency (front ++ mid)
    starts p is =
        start_append p.view p.regency (kept_of front) mid
        ∙ (ap (λ (s : Option Start). or_else s (first_start p.view p.regency mid))
        (kept_start front p.view p.regency tidy (λ q first. not_below_first (greatest_promise front) (greatest_promise mid) p q (sym (greatest_append front mid) ∙ is) first))
        ∙ sym (start_append p.view p.regency front mid))

-- ---- the cut of a cut

second_back : (second : ℕ) (front back : List LogEntry) → last_made front < second → HasMade (front ++ back) second → HasMade back second
second_back second front back low has =
    ⊎_elim
    (λ f. absurd (let most = made_most front second (record { entry = has.entry; there = f; made = has.made }) in omega (arith, most, low)))
    (λ b. record { entry = has.entry; there = b; made = has.made })
    (among_either has.entry front back has.there)

cut_twice : (second : ℕ) (front back : List LogEntry) → IsTidy front → 0 < second → last_made front < second → HasMade (front ++ back) second
    → cut_at second (kept_of front ++ back) ≡ cut_at second (front ++ back)
cut_twice second front back tidy some low has =
    cut_is second (kept_of front ++ back) (can_cut second (kept_of front ++ back) some kept_has)
    ∙ (ap₂ (λ (f b : List LogEntry). kept_of f ++ b) (before_skip second (kept_of front) back kept_none) (from_skip second (kept_of front) back kept_none)
    ∙ (ap (λ (es : List LogEntry). es ++ from_place second back) (kept_again front (before_place second back) tidy)
    ∙ (sym (ap₂ (λ (f b : List LogEntry). kept_of f ++ b) (before_skip second front back front_none) (from_skip second front back front_none))
    ∙ sym (cut_is second (front ++ back) (can_cut second (front ++ back) some has)))))
  where
    kept_none : (e : LogEntry) → Among e (kept_of front) → makes second e ≡ false
    kept_none e there = no_place_made second e (kept front e there).no_place

    front_none : (e : LogEntry) → Among e front → makes second e ≡ false
    front_none e there = low_not_made second e front low there

    kept_has : HasMade (kept_of front ++ back) second
    kept_has = let in_back = second_back second front back low has in record { entry = in_back.entry; there = among_right in_back.entry (kept_of front) back in_back.there; made = in_back.made }

pub cut_cut : (first second : ℕ) (diary : List LogEntry) → Lawful 0 0 diary → IsTidy diary → first ≤ second → (0 < second → HasMade diary second)
    → cut_at second (cut_at first diary) ≡ cut_at second diary
cut_cut first second diary lawful tidy later has = by (has_cut first diary) refl
  where
    by : (t : Bool) → has_cut first diary ≡ t → cut_at second (cond t (kept_of (before_place first diary) ++ from_place first diary) diary) ≡ cut_at second diary
    by true is =
        let some : 0 < first = cut_past first diary is in
        let more : 0 < second = omega (arith, some) in
        let low : last_made (before_place first diary) < first =
        front_low first (before_place first diary) (from_place first diary) some (parts_lawful first diary lawful) (begins first diary (cut_makes first diary is)) in
        let neat : IsTidy (before_place first diary) =
        front_tidy (before_place first diary) (from_place first diary) (subst (λ (es : List LogEntry). IsTidy es) (sym (both_parts first diary)) tidy) in
        cut_twice second (before_place first diary) (from_place first diary) neat more (omega (arith, low))
        (subst (λ (es : List LogEntry). HasMade es second) (sym (both_parts first diary)) (has more))
        ∙ ap (λ (es : List LogEntry). cut_at second es) (both_parts first diary)
    by false is = refl
