-- The entries of a book before the first one that installs a replica past a place: what they have made, and their cut.
use Rattle.std.proofs.Common.{◌≡◌, ⊎_elim, inl, inr, ℕ, zero, suc, ◌+◌, ◌<◌, ◌≤◌, Bool, true, false, cond, List, [], ◌∷◌, ◌++◌, length, length-append, take, Some, refl, sym, ap, ◌∙◌, subst, arith, append_assoc}
use Rattle.std.proofs.lemmas.Bool.{ltb-true, le-ltb}
use Rattle.vote_book.specs.Books.{place_made, Among, HasMade, Lawful}
use Rattle.vote_book.specs.declared.entry.Installation.{Installation}
use Rattle.vote_book.specs.declared.entry.LogEntry.{LogEntry}
use Rattle.vote_book.specs.declared.entry.LogEntry.TheVariants.{Opened, Wrote, Accepted, Promised, Synced, Decided, Installed, Marked}
use Rattle.vote_book.proofs.Locks.{made_most}
use Rattle.vote_book.proofs.Tidy.{front_lawful}
use Rattle.book_laws.specs.BookCuts.{cut_at, installs_past, until_installed, InstallUpTo}
use Rattle.book_laws.proofs.CutAgain.{cut_more}
use Rattle.book_laws.proofs.CutEntries.{cut_among}
use Rattle.book_laws.proofs.Lists.{among_either, among_right, split_at}
use Rattle.book_laws.proofs.Places.{rising, above_front}
use Rattle.member_store.proofs.Fronts.{until_upto}

-- ---- a book and its front

-- a book is its front and what is behind it, which is nothing or begins with an installation past the place
pub record Until (place : ℕ) (book : List LogEntry) : Type 0 where
  pub rest : List LogEntry
  pub is : book ≡ until_installed place book ++ rest
  pub ends : until_installed place rest ≡ []

pub until_at : (place : ℕ) (book : List LogEntry) → Until place book
until_at place [] = record { rest = []; is = refl; ends = refl }
until_at place (e ∷ es) = by (installs_past place e) refl (until_at place es)
  where
    by : (t : Bool) → installs_past place e ≡ t → Until place es → Until place (e ∷ es)
    by true is u = record {
      rest = e ∷ es;
      is = sym (ap (λ (b : Bool). cond b [] (e ∷ until_installed place es) ++ e ∷ es) is);
      ends = ap (λ (b : Bool). cond b [] (e ∷ until_installed place es)) is;
    }
    by false is u = record {
      rest = u.rest;
      is = ap (λ (xs : List LogEntry). e ∷ xs) u.is ∙ sym (ap (λ (b : Bool). cond b [] (e ∷ until_installed place es) ++ u.rest) is);
      ends = u.ends;
    }

-- an entry that installs no place past one
low_install : (place : ℕ) (e : LogEntry) → ((i : Installation) → Installed i ≡ e → i.place ≤ place) → installs_past place e ≡ false
low_install place (Installed i) low = le-ltb place i.place (low i refl)
low_install place (Opened o) low = refl
low_install place (Wrote w) low = refl
low_install place (Accepted a) low = refl
low_install place (Promised p) low = refl
low_install place (Synced s) low = refl
low_install place (Decided d) low = refl
low_install place (Marked m) low = refl

-- entries that install no later place are all in the front, if nothing of what is behind them is
until_both : (place : ℕ) (xs rest : List LogEntry) → InstallUpTo place xs → until_installed place rest ≡ [] → until_installed place (xs ++ rest) ≡ xs
until_both place [] rest low ends = ends
until_both place (x ∷ xs) rest low ends =
    ap (λ (b : Bool). cond b [] (x ∷ until_installed place (xs ++ rest))) (low_install place x (λ i same. low i (inl same)))
    ∙ ap (λ (ys : List LogEntry). x ∷ ys) (until_both place xs rest (λ i there. low i (inr there)) ends)

-- of so many first entries that install no later place, each is in the front
pub until_holds : (place count : ℕ) (book : List LogEntry) → InstallUpTo place (take count book) → count ≤ length book → count ≤ length (until_installed place book)
until_holds place zero book low few = omega arith
until_holds place (suc count) [] low few = absurd (omega (arith, few))
until_holds place (suc count) (e ∷ es) low few =
    let rest = until_holds place count es (λ i there. low i (inr there)) (omega (arith, few)) in
    subst (λ (b : Bool). suc count ≤ length (cond b [] (e ∷ until_installed place es))) (sym (low_install place e (λ i same. low i (inl same)))) (omega (arith, rest))

-- ---- what it has made

-- an installation past the place is the first entry behind the front
record First (place : ℕ) (e : LogEntry) : Type 0 where
  installation : Installation
  is : e ≡ Installed installation
  past : place < installation.place

first_installed : (place : ℕ) (e : LogEntry) → installs_past place e ≡ true → First place e
first_installed place (Installed i) is = record { installation = i; is = refl; past = ltb-true place i.place is }
first_installed place (Opened o) is = absurd (cc)
first_installed place (Wrote w) is = absurd (cc)
first_installed place (Accepted a) is = absurd (cc)
first_installed place (Promised p) is = absurd (cc)
first_installed place (Synced s) is = absurd (cc)
first_installed place (Decided d) is = absurd (cc)
first_installed place (Marked m) is = absurd (cc)

ends_first : (place : ℕ) (e : LogEntry) (es : List LogEntry) → until_installed place (e ∷ es) ≡ [] → First place e
ends_first place e es none = by (installs_past place e) refl none
  where
    by : (t : Bool) → installs_past place e ≡ t → cond t [] (e ∷ until_installed place es) ≡ [] → First place e
    by true is none = first_installed place e is
    by false is none = absurd (cc)

-- behind such an installation no entry makes an earlier place
none_behind : (front : List LogEntry) (i : Installation) (es : List LogEntry) (low : ℕ) → Lawful 0 0 (front ++ Installed i ∷ es) → 0 < low → low < i.place → HasMade (Installed i ∷ es) low → ⊥
none_behind front i es low lawful some less has = by has.entry has.there has.made
  where
    by : (e : LogEntry) → Among e (Installed i ∷ es) → place_made e ≡ Some low → ⊥
    by e (inl same) made =
        let at : Some i.place ≡ Some low = sym (ap (λ (x : LogEntry). place_made x) same) ∙ made in
        let equal : i.place ≡ low = cc in
        omega (arith, equal, less)
    by e (inr there) made =
        let s = split_at es e there in
        let before : List LogEntry = front ++ Installed i ∷ s.before in
        let split : front ++ Installed i ∷ es ≡ before ++ e ∷ s.after =
        ap (λ (xs : List LogEntry). front ++ Installed i ∷ xs) s.is ∙ sym (append_assoc front (Installed i ∷ s.before) (e ∷ s.after)) in
        let all : Lawful 0 0 (before ++ e ∷ s.after) = subst (λ (xs : List LogEntry). Lawful 0 0 xs) split lawful in
        let above = above_front before e low (rising before (front_lawful 0 0 before (e ∷ s.after) all)) some made (all before e s.after refl) in
        let most = made_most before i.place (record { entry = Installed i; there = among_right (Installed i) front (Installed i ∷ s.before) (inl refl); made = refl }) in
        omega (arith, above, most, less)

none_in_rest : (place low : ℕ) (front rest : List LogEntry) → Lawful 0 0 (front ++ rest) → until_installed place rest ≡ [] → 0 < low → low ≤ place → HasMade rest low → ⊥
none_in_rest place low front [] lawful ends some le has = has.there
none_in_rest place low front (e ∷ es) lawful ends some le has =
    let f : First place e = ends_first place e es ends in
    let past = f.past in
    none_behind front f.installation es low (subst (λ (x : LogEntry). Lawful 0 0 (front ++ x ∷ es)) f.is lawful) some (omega (arith, past, le))
    (subst (λ (x : LogEntry). HasMade (x ∷ es) low) f.is has)

-- the front has made each place up to that one which its lawful book has made
pub until_made : (place low : ℕ) (book : List LogEntry) → Lawful 0 0 book → low ≤ place → 0 < low → HasMade book low → HasMade (until_installed place book) low
until_made place low book lawful le some has =
    let u : Until place book = until_at place book in
    let front : List LogEntry = until_installed place book in
    let both : HasMade (front ++ u.rest) low = subst (λ (xs : List LogEntry). HasMade xs low) u.is has in
    ⊎_elim {C = HasMade (until_installed place book) low} (λ here. record { entry = both.entry; there = here; made = both.made })
    (λ behind. absurd (none_in_rest place low front u.rest (subst (λ (xs : List LogEntry). Lawful 0 0 xs) u.is lawful) u.ends some le (record { entry = both.entry; there = behind; made = both.made })))
    (among_either both.entry front u.rest both.there)

-- ---- its cut

-- The front of a book's cut at an earlier place is the cut of its front, and as many entries are behind.
pub record CutUntil (opening place : ℕ) (book : List LogEntry) : Type 0 where
  pub front : until_installed place (cut_at opening book) ≡ cut_at opening (until_installed place book)
  pub behind : ℕ
  pub whole : length book ≡ length (until_installed place book) + behind
  pub cut : length (cut_at opening book) ≡ length (until_installed place (cut_at opening book)) + behind

pub cut_until : (opening place : ℕ) (book : List LogEntry) → Lawful 0 0 book → opening ≤ place → (0 < opening → HasMade book opening) → CutUntil opening place book
cut_until opening place book lawful le has =
    let u : Until place book = until_at place book in
    let all : List LogEntry = until_installed place book in
    let made : 0 < opening → HasMade all opening = λ some. until_made place opening book lawful le some (has some) in
    let parts : cut_at opening book ≡ cut_at opening all ++ u.rest = ap (λ (xs : List LogEntry). cut_at opening xs) u.is ∙ cut_more opening all u.rest made in
    let low : InstallUpTo place (cut_at opening all) = λ i there. until_upto place book i (cut_among opening all (Installed i) there) in
    let same : until_installed place (cut_at opening book) ≡ cut_at opening all = ap (λ (xs : List LogEntry). until_installed place xs) parts ∙ until_both place (cut_at opening all) u.rest low u.ends in
    record {
      front = same;
      behind = length u.rest;
      whole = ap (λ (xs : List LogEntry). length xs) u.is ∙ length-append all u.rest;
      cut = ap (λ (xs : List LogEntry). length xs) parts ∙ (length-append (cut_at opening all) u.rest ∙ ap (λ (xs : List LogEntry). length xs + length u.rest) (sym same));
    }

-- the front of a lawful book is lawful
pub until_lawful : (place : ℕ) (book : List LogEntry) → Lawful 0 0 book → Lawful 0 0 (until_installed place book)
until_lawful place book lawful =
    let u : Until place book = until_at place book in
    front_lawful 0 0 (until_installed place book) u.rest (subst (λ (xs : List LogEntry). Lawful 0 0 xs) u.is lawful)
