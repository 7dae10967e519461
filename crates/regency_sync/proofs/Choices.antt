-- The choice of reports, report by report.
use Rattle.std.proofs.Common.{◌≡◌, ℕ, ◌+◌, ◌<◌, ◌≤◌, ◌==◌, ◌++◌, nat_lt, Bool, true, false, cond, List, [], ◌∷◌, Option, Some, None, option_map, refl, ap, sym, ◌∙◌, arith}
use Rattle.std.proofs.lemmas.Bool.{eqb-true, eq-eqb, ltb-true, ltb-false, lt-ltb, le-ltb}
use Rattle.smart_base.specs.Lists.{Each}
use Rattle.smart_statements.specs.Forms.{SignedBy}
use Rattle.smart_statements.specs.declared.report.LockCertificate.{LockCertificate}
use Rattle.smart_statements.specs.declared.report.Report.{Report}
use Rattle.regency_sync.specs.Choices.{greatest_last, lock_behind, greater, greatest_lock, choice, IsEarlier, IsNoLater, IsBinding, IsBound}
use Rattle.regency_sync.proofs.Lists.{each_as}

-- ---- the greatest last place

pub last_above : (reports : List (SignedBy Report)) (place : ℕ) → greatest_last reports < place → Each (λ r. r.statement.last < place) reports
last_above [] place below = tt
last_above (r ∷ rs) place below = (omega (arith, below), last_above rs place (omega (arith, below)))

pub last_least : (reports : List (SignedBy Report)) (place : ℕ) → 1 ≤ place → Each (λ r. r.statement.last < place) reports
    → greatest_last reports + 1 ≤ place
last_least [] place some all = omega (arith, some)
last_least (r ∷ rs) place some all = omega (arith, all.0, last_least rs place some all.1)

-- ---- where there is no lock

choice_some : (t : Bool) (a b : LockCertificate) → cond t (Some b) (Some a) ≡ None → ⊥
choice_some true a b none = absurd (cc)
choice_some false a b none = absurd (cc)

greater_none : (a b : Option LockCertificate) → greater a b ≡ None → (a ≡ None) × (b ≡ None)
greater_none None b none = (refl, none)
greater_none (Some a) None none = absurd (cc)
greater_none (Some a) (Some b) none = absurd (choice_some (nat_lt a.regency b.regency) a b none)

pub none_each : (last : ℕ) (reports : List (SignedBy Report)) → greatest_lock last reports ≡ None → Each (λ r. lock_behind last r ≡ None) reports
none_each last [] none = tt
none_each last (r ∷ rs) none =
    let both = greater_none (lock_behind last r) (greatest_lock last rs) none in
    (both.0, none_each last rs both.1)

pub each_none : (last : ℕ) (reports : List (SignedBy Report)) → Each (λ r. lock_behind last r ≡ None) reports → greatest_lock last reports ≡ None
each_none last [] all = refl
each_none last (r ∷ rs) all = ap (λ a. greater a (greatest_lock last rs)) all.0 ∙ each_none last rs all.1

-- ---- the lock that binds is the first of the greatest regency

held_test : (t : Bool) (held : Option LockCertificate) (lock : LockCertificate) → cond t held None ≡ Some lock → (t ≡ true) × (held ≡ Some lock)
held_test true held lock is = (refl, is)
held_test false held lock is = absurd (cc)

held : (last : ℕ) (r : SignedBy Report) (lock : LockCertificate) → lock_behind last r ≡ Some lock
    → (r.statement.last ≡ last) × (r.statement.lock ≡ Some lock)
held last r lock is =
    let both = held_test (r.statement.last == last) r.statement.lock lock is in
    (eqb-true r.statement.last last both.0, both.1)

none_no_later : (k : ℕ) (a : Option LockCertificate) → a ≡ None → IsNoLater k a
none_no_later k a none = rw none tt

no_later_up : (k l : ℕ) (a : Option LockCertificate) → k ≤ l → IsNoLater k a → IsNoLater l a
no_later_up k l None le below = below
no_later_up k l (Some a) le below = omega (arith, le, below)

both_no_later : (k : ℕ) (t : Bool) (a b : LockCertificate) → a.regency ≤ k → b.regency ≤ k → IsNoLater k (cond t (Some b) (Some a))
both_no_later k true a b first second = second
both_no_later k false a b first second = first

greater_no_later : (k : ℕ) (a b : Option LockCertificate) → IsNoLater k a → IsNoLater k b → IsNoLater k (greater a b)
greater_no_later k None b first second = second
greater_no_later k (Some a) None first second = first
greater_no_later k (Some a) (Some b) first second = both_no_later k (nat_lt a.regency b.regency) a b first second

no_later_all : (last k : ℕ) (reports : List (SignedBy Report)) → Each (λ r. IsNoLater k (lock_behind last r)) reports
    → IsNoLater k (greatest_lock last reports)
no_later_all last k [] all = tt
no_later_all last k (r ∷ rs) all = greater_no_later k (lock_behind last r) (greatest_lock last rs) all.0 (no_later_all last k rs all.1)

split_no_later : (last k : ℕ) (front : List (SignedBy Report)) (r : SignedBy Report) (back : List (SignedBy Report))
    → Each (λ x. IsNoLater k (lock_behind last x)) front
    → IsNoLater k (lock_behind last r) → Each (λ x. IsNoLater k (lock_behind last x)) back
    → Each (λ x. IsNoLater k (lock_behind last x)) (front ++ r ∷ back)
split_no_later last k [] r back first own rest = (own, rest)
split_no_later last k (x ∷ xs) r back first own rest = (first.0, split_no_later last k xs r back first.1 own rest)

earlier_no_later : (k : ℕ) (a : Option LockCertificate) → IsEarlier k a → IsNoLater k a
earlier_no_later k None below = below
earlier_no_later k (Some a) below = omega (arith, below)

-- no report has a lock of a later regency than the one that binds
each_no_later : (last : ℕ) (reports : List (SignedBy Report)) (lock : LockCertificate) → IsBinding last reports lock
    → Each (λ r. IsNoLater lock.regency (lock_behind last r)) reports
each_no_later last reports lock is =
    let first = each_as (λ r. IsEarlier lock.regency (lock_behind last r)) (λ r. IsNoLater lock.regency (lock_behind last r))
    (λ r e. earlier_no_later lock.regency (lock_behind last r) e) is.front is.first in
    let here : lock_behind last is.report ≡ Some lock = rw (eq-eqb is.report.statement.last last is.place_is) is.lock_is in
    let own : IsNoLater lock.regency (lock_behind last is.report) = rw here (omega arith) in
    rw is.split (split_no_later last lock.regency is.front is.report is.back first own is.greatest)

first_binds : (last : ℕ) (r : SignedBy Report) (rs : List (SignedBy Report)) (lock : LockCertificate) → lock_behind last r ≡ Some lock
    → Each (λ x. IsNoLater lock.regency (lock_behind last x)) rs → IsBinding last (r ∷ rs) lock
first_binds last r rs lock is all =
    let both = held last r lock is in
    record { front = []; report = r; back = rs; split = refl; place_is = both.0; lock_is = both.1; first = tt; greatest = all }

later_binds : (last : ℕ) (r : SignedBy Report) (rs : List (SignedBy Report)) (lock : LockCertificate) → IsEarlier lock.regency (lock_behind last r)
    → IsBinding last rs lock → IsBinding last (r ∷ rs) lock
later_binds last r rs lock below is = record {
  front = r ∷ is.front;
  report = is.report;
  back = is.back;
  split = ap (λ xs. r ∷ xs) is.split;
  place_is = is.place_is;
  lock_is = is.lock_is;
  first = (below, is.first);
  greatest = is.greatest;
}

two_bind : (last : ℕ) (r : SignedBy Report) (rs : List (SignedBy Report)) (a b lock : LockCertificate) (t : Bool) → nat_lt a.regency b.regency ≡ t
    → lock_behind last r ≡ Some a → IsBinding last rs b → cond t (Some b) (Some a) ≡ Some lock → IsBinding last (r ∷ rs) lock
two_bind last r rs a b lock true is here rest chosen =
    let same : b ≡ lock = cc in
    rw (sym same) (later_binds last r rs b (rw here (ltb-true a.regency b.regency is)) rest)
two_bind last r rs a b lock false is here rest chosen =
    let same : a ≡ lock = cc in
    let le = ltb-false a.regency b.regency is in
    let all = each_as (λ x. IsNoLater b.regency (lock_behind last x)) (λ x. IsNoLater a.regency (lock_behind last x))
    (λ x e. no_later_up b.regency a.regency (lock_behind last x) le e) rs (each_no_later last rs b rest) in
    rw (sym same) (first_binds last r rs a here all)

more_bind : (last : ℕ) (r : SignedBy Report) (rs : List (SignedBy Report)) (a b : Option LockCertificate) (lock : LockCertificate)
    → lock_behind last r ≡ a → greatest_lock last rs ≡ b
    → ((l : LockCertificate) → b ≡ Some l → IsBinding last rs l) → greater a b ≡ Some lock → IsBinding last (r ∷ rs) lock
more_bind last r rs None b lock here rest binds chosen = later_binds last r rs lock (rw here tt) (binds lock chosen)
more_bind last r rs (Some a) None lock here rest binds chosen =
    let all = each_as (λ x. lock_behind last x ≡ None) (λ x. IsNoLater lock.regency (lock_behind last x))
    (λ x none. none_no_later lock.regency (lock_behind last x) none) rs (none_each last rs rest) in
    first_binds last r rs lock (here ∙ chosen) all
more_bind last r rs (Some a) (Some b) lock here rest binds chosen = two_bind last r rs a b lock (nat_lt a.regency b.regency) refl here
    (binds b refl) chosen

pub greatest_binds : (last : ℕ) (reports : List (SignedBy Report)) (lock : LockCertificate) → greatest_lock last reports ≡ Some lock
    → IsBinding last reports lock
greatest_binds last [] lock is = absurd (cc)
greatest_binds last (r ∷ rs) lock is =
    more_bind last r rs (lock_behind last r) (greatest_lock last rs) lock refl refl (λ l. greatest_binds last rs l) is

-- ---- and no other lock is that

first_greater : (lock : LockCertificate) (b : Option LockCertificate) → IsNoLater lock.regency b → greater (Some lock) b ≡ Some lock
first_greater lock None below = refl
first_greater lock (Some b) below = rw (le-ltb lock.regency b.regency below) refl

second_greater : (a : Option LockCertificate) (lock : LockCertificate) → IsEarlier lock.regency a → greater a (Some lock) ≡ Some lock
second_greater None lock below = refl
second_greater (Some a) lock below = rw (lt-ltb a.regency lock.regency below) refl

split_greatest : (last : ℕ) (front : List (SignedBy Report)) (r : SignedBy Report) (back : List (SignedBy Report)) (lock : LockCertificate)
    → lock_behind last r ≡ Some lock
    → Each (λ x. IsEarlier lock.regency (lock_behind last x)) front → Each (λ x. IsNoLater lock.regency (lock_behind last x)) back
    → greatest_lock last (front ++ r ∷ back) ≡ Some lock
split_greatest last [] r back lock here first rest =
    ap (λ a. greater a (greatest_lock last back)) here ∙ first_greater lock (greatest_lock last back) (no_later_all last lock.regency back rest)
split_greatest last (x ∷ xs) r back lock here first rest =
    ap (λ b. greater (lock_behind last x) b) (split_greatest last xs r back lock here first.1 rest) ∙ second_greater (lock_behind last x) lock first.0

pub binding_greatest : (last : ℕ) (reports : List (SignedBy Report)) (lock : LockCertificate) → IsBinding last reports lock
    → greatest_lock last reports ≡ Some lock
binding_greatest last reports lock is =
    let here : lock_behind last is.report ≡ Some lock = rw (eq-eqb is.report.statement.last last is.place_is) is.lock_is in
    ap (greatest_lock last) is.split ∙ split_greatest last is.front is.report is.back lock here is.first is.greatest

-- ---- the choice

abbrev digest_of : Option LockCertificate → Option (List ℕ)
digest_of found = option_map (λ (l : LockCertificate). l.digest) found

bound_some : (reports : List (SignedBy Report)) (digest : List ℕ) (found : Option LockCertificate)
    → greatest_lock (greatest_last reports) reports ≡ found → digest_of found ≡ Some digest
    → IsBound reports digest
bound_some reports digest None is bound = absurd (cc)
bound_some reports digest (Some lock) is bound =
    record { lock = lock; digest_is = cc; binding = greatest_binds (greatest_last reports) reports lock is }

bound_none : (found : Option LockCertificate) → digest_of found ≡ None → found ≡ None
bound_none None none = refl
bound_none (Some lock) none = absurd (cc)

pub bound_from : (reports : List (SignedBy Report)) (digest : List ℕ) → (choice reports).bound ≡ Some digest → IsBound reports digest
unfolding choice
bound_from reports digest is = bound_some reports digest (greatest_lock (greatest_last reports) reports) refl is

pub bound_to : (reports : List (SignedBy Report)) (digest : List ℕ) → IsBound reports digest → (choice reports).bound ≡ Some digest
unfolding choice
bound_to reports digest is = ap digest_of (binding_greatest (greatest_last reports) reports is.lock is.binding) ∙ ap (λ d. Some d) is.digest_is

pub free_from : (reports : List (SignedBy Report)) → (choice reports).bound ≡ None → Each (λ r. lock_behind (greatest_last reports) r ≡ None) reports
unfolding choice
free_from reports none = none_each (greatest_last reports) reports (bound_none (greatest_lock (greatest_last reports) reports) none)

pub free_to : (reports : List (SignedBy Report)) → Each (λ r. lock_behind (greatest_last reports) r ≡ None) reports → (choice reports).bound ≡ None
unfolding choice
free_to reports all = ap digest_of (each_none (greatest_last reports) reports all)

pub base_is : (reports : List (SignedBy Report)) → (choice reports).base ≡ greatest_last reports + 1
unfolding choice
base_is reports = refl
