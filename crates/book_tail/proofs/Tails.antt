-- What is found of entries is what their cut keeps.
use Rattle.std.proofs.Common.{◌≡◌, ℕ, suc, ◌+◌, ◌<◌, nat_lt, Bool, true, false, not, cond, ◌&&◌, ◌||◌, ◌==◌, List, [], ◌∷◌, ◌++◌, map, take, drop, length, find, Option, Some, None, refl, sym, ap, ◌∙◌, arith, append_assoc, append-nil}
use Rattle.std.specs.List.{list_any, position, position_or_len}
use Rattle.std.proofs.lemmas.Bool.{ltb-true, ltb-false, lt-ltb, le-ltb}
use Rattle.std.proofs.lemmas.List.{map-append}
use Rattle.vote_book.specs.declared.entry.LogEntry.{LogEntry}
use Rattle.vote_book.specs.declared.entry.LogEntry.TheVariants.{Opened, Wrote, Accepted, Promised, Synced, Decided, Installed, Marked}
use Rattle.vote_book.specs.declared.entry.Promise.{Promise}
use Rattle.vote_book.specs.declared.entry.Start.{Start}
use Rattle.vote_book.specs.Entries.{entry_text}
use Rattle.vote_book.specs.Admission.{makes}
use Rattle.vote_book.specs.Standing.{first_start}
use Rattle.book_laws.specs.BookCuts.{first_opening, greater_promise, greatest_promise, as_opened, as_synced, as_promised, kept_of, before_place, from_place, has_cut, cut_at, installs_past, until_installed}
use Rattle.book_laws.proofs.Promises.{greater_none, greater_assoc}
use Rattle.book_tail.specs.Tails.{is_opening, is_start, found}

-- ---- the greatest promise, from the left

pub greatest_step : (a b c : Option Promise) → greater_promise (greater_promise a b) c ≡ greater_promise a (greater_promise b c)
greatest_step a b c = greater_assoc a b c

pub greatest_end : (a : Option Promise) → greater_promise a None ≡ a
greatest_end a = greater_none a

-- ---- what is found

opened_step : (e : LogEntry) (es : List LogEntry) → as_opened (first_opening es) ≡ found (find is_opening es) → as_opened (first_opening (e ∷ es)) ≡ found (find is_opening (e ∷ es))
opened_step (Opened o) es rest = refl
opened_step (Wrote w) es rest = rest
opened_step (Accepted a) es rest = rest
opened_step (Promised p) es rest = rest
opened_step (Synced s) es rest = rest
opened_step (Decided d) es rest = rest
opened_step (Installed i) es rest = rest
opened_step (Marked m) es rest = rest

opened_found : (es : List LogEntry) → as_opened (first_opening es) ≡ found (find is_opening es)
opened_found [] = refl
opened_found (e ∷ es) = opened_step e es (opened_found es)

synced_test : (v r : ℕ) (s : Start) (es : List LogEntry) (t : Bool) → (s.view == v && s.regency == r) ≡ t → as_synced (first_start v r es) ≡ found (find (is_start v r) es)
    → as_synced (first_start v r (Synced s ∷ es)) ≡ found (find (is_start v r) (Synced s ∷ es))
synced_test v r s es true is rest = rw is refl
synced_test v r s es false is rest = rw is rest

synced_step : (v r : ℕ) (e : LogEntry) (es : List LogEntry) → as_synced (first_start v r es) ≡ found (find (is_start v r) es)
    → as_synced (first_start v r (e ∷ es)) ≡ found (find (is_start v r) (e ∷ es))
synced_step v r (Synced s) es rest = synced_test v r s es (s.view == v && s.regency == r) refl rest
synced_step v r (Opened o) es rest = rest
synced_step v r (Wrote w) es rest = rest
synced_step v r (Accepted a) es rest = rest
synced_step v r (Promised p) es rest = rest
synced_step v r (Decided d) es rest = rest
synced_step v r (Installed i) es rest = rest
synced_step v r (Marked m) es rest = rest

synced_found : (v r : ℕ) (es : List LogEntry) → as_synced (first_start v r es) ≡ found (find (is_start v r) es)
synced_found v r [] = refl
synced_found v r (e ∷ es) = synced_step v r e es (synced_found v r es)

-- ---- the texts of what is kept

joined : (old : List (List ℕ)) (xs ys : List LogEntry) (x : LogEntry) → ((old ++ map entry_text xs) ++ entry_text x ∷ []) ++ map entry_text ys ≡ old ++ map entry_text (xs ++ x ∷ ys)
joined old xs ys x =
    append_assoc (old ++ map entry_text xs) (entry_text x ∷ []) (map entry_text ys)
    ∙ (append_assoc old (map entry_text xs) (entry_text x ∷ map entry_text ys) ∙ ap (λ (ts : List (List ℕ)). old ++ ts) (sym (map-append entry_text xs (x ∷ ys))))

kept_with : (before : List LogEntry) (p : Promise) → greatest_promise before ≡ Some p
    → kept_of before ≡ found (find is_opening before) ++ Promised p ∷ found (find (is_start p.view p.regency) before)
kept_with before p is =
    ap (λ (o : Option Promise). as_opened (first_opening before) ++ as_promised o before) is
    ∙ (ap (λ (xs : List LogEntry). xs ++ Promised p ∷ as_synced (first_start p.view p.regency before)) (opened_found before)
    ∙ ap (λ (xs : List LogEntry). found (find is_opening before) ++ Promised p ∷ xs) (synced_found p.view p.regency before))

-- with a promise: the opening, the promise and the beginning of its regency
pub kept_texts : (old : List (List ℕ)) (before : List LogEntry) (p : Promise) → greatest_promise before ≡ Some p
    → ((old ++ map entry_text (found (find is_opening before))) ++ entry_text (Promised p) ∷ []) ++ map entry_text (found (find (is_start p.view p.regency) before))
    ≡ old ++ map entry_text (kept_of before)
kept_texts old before p is =
    joined old (found (find is_opening before)) (found (find (is_start p.view p.regency) before)) (Promised p)
    ∙ ap (λ (xs : List LogEntry). old ++ map entry_text xs) (sym (kept_with before p is))

-- without one: the opening alone
pub kept_alone : (old : List (List ℕ)) (before : List LogEntry) → greatest_promise before ≡ None
    → old ++ map entry_text (found (find is_opening before)) ≡ old ++ map entry_text (kept_of before)
kept_alone old before none =
    let kept : kept_of before ≡ found (find is_opening before) =
    ap (λ (o : Option Promise). as_opened (first_opening before) ++ as_promised o before) none ∙ (append-nil (as_opened (first_opening before)) ∙ opened_found before) in
    ap (λ (xs : List LogEntry). old ++ map entry_text xs) (sym kept)

-- ---- where a place is made

-- how many entries stand before the one that makes a place
abbrev count_before : ℕ → List LogEntry → ℕ
count_before place entries = position_or_len (makes place) entries

front_step : (place : ℕ) (e : LogEntry) (es : List LogEntry) (t : Bool) → take (count_before place es) es ≡ before_place place es
    → take (cond (not t) (1 + count_before place es) 0) (e ∷ es) ≡ cond t [] (e ∷ before_place place es)
front_step place e es true rest = refl
front_step place e es false rest =
    let next : 1 + count_before place es ≡ suc (count_before place es) = omega arith in
    ap (λ n. take n (e ∷ es)) next ∙ ap (λ (xs : List LogEntry). e ∷ xs) rest

front : (place : ℕ) (es : List LogEntry) → take (count_before place es) es ≡ before_place place es
front place [] = refl
front place (e ∷ es) = front_step place e es (makes place e) (front place es)

back_step : (place : ℕ) (e : LogEntry) (es : List LogEntry) (t : Bool) → drop (count_before place es) es ≡ from_place place es
    → drop (cond (not t) (1 + count_before place es) 0) (e ∷ es) ≡ cond t (e ∷ es) (from_place place es)
back_step place e es true rest = refl
back_step place e es false rest =
    let next : 1 + count_before place es ≡ suc (count_before place es) = omega arith in
    ap (λ n. drop n (e ∷ es)) next ∙ rest

back : (place : ℕ) (es : List LogEntry) → drop (count_before place es) es ≡ from_place place es
back place [] = refl
back place (e ∷ es) = back_step place e es (makes place e) (back place es)

one_more : (a b : ℕ) (t : Bool) → nat_lt a b ≡ t → nat_lt (1 + a) (suc b) ≡ t
one_more a b true is = lt-ltb (1 + a) (suc b) (omega (arith, ltb-true a b is))
one_more a b false is = le-ltb (1 + a) (suc b) (omega (arith, ltb-false a b is))

made_step : (place : ℕ) (e : LogEntry) (es : List LogEntry) (t : Bool) → nat_lt (count_before place es) (length es) ≡ list_any (makes place) es
    → nat_lt (cond (not t) (1 + count_before place es) 0) (length (e ∷ es)) ≡ (t || list_any (makes place) es)
made_step place e es true rest = lt-ltb 0 (suc (length es)) (omega arith)
made_step place e es false rest = one_more (count_before place es) (length es) (list_any (makes place) es) rest

made : (place : ℕ) (es : List LogEntry) → nat_lt (count_before place es) (length es) ≡ list_any (makes place) es
made place [] = le-ltb 0 0 (omega arith)
made place (e ∷ es) = made_step place e es (makes place e) (made place es)

there_by : (place k : ℕ) (es : List LogEntry) (t : Bool) → nat_lt (count_before place es) (length es) ≡ t → cond t (Some (count_before place es)) None ≡ Some k
    → (count_before place es ≡ k) × (t ≡ true)
there_by place k es true lt is = ((cc), refl)
there_by place k es false lt is = absurd (cc)

absent_by : (place : ℕ) (es : List LogEntry) (t : Bool) → nat_lt (count_before place es) (length es) ≡ t → cond t (Some (count_before place es)) None ≡ None → t ≡ false
absent_by place es true lt is = absurd (cc)
absent_by place es false lt is = refl

never : (b : Bool) → (b && false) ≡ false
never true = refl
never false = refl

-- the index of the entry that makes a place parts the entries
pub parted : (place k : ℕ) (entries : List LogEntry) → 0 < place → position (makes place) entries ≡ Some k → cut_at place entries ≡ kept_of (take k entries) ++ drop k entries
parted place k entries some is =
    let there = there_by place k entries (nat_lt (count_before place entries) (length entries)) refl is in
    let any : list_any (makes place) entries ≡ true = sym (made place entries) ∙ there.1 in
    let cut : has_cut place entries ≡ true = rw (lt-ltb 0 place some, any) refl in
    let head : before_place place entries ≡ take k entries = sym (front place entries) ∙ ap (λ n. take n entries) there.0 in
    let tail : from_place place entries ≡ drop k entries = sym (back place entries) ∙ ap (λ n. drop n entries) there.0 in
    ap (λ t. cond t (kept_of (before_place place entries) ++ from_place place entries) entries) cut
    ∙ (ap (λ (xs : List LogEntry). kept_of xs ++ from_place place entries) head ∙ ap (λ (xs : List LogEntry). kept_of (take k entries) ++ xs) tail)

-- it is one of them
pub within : (place k : ℕ) (entries : List LogEntry) → position (makes place) entries ≡ Some k → k < length entries
within place k entries is =
    let there = there_by place k entries (nat_lt (count_before place entries) (length entries)) refl is in
    let low = ltb-true (count_before place entries) (length entries) there.1 in
    let same = there.0 in
    omega (arith, low, same)

-- entries of which none makes a place stay as they are
pub whole : (place : ℕ) (entries : List LogEntry) → position (makes place) entries ≡ None → cut_at place entries ≡ entries
whole place entries none =
    let out : list_any (makes place) entries ≡ false =
    sym (made place entries) ∙ absent_by place entries (nat_lt (count_before place entries) (length entries)) refl none in
    ap (λ t. cond (nat_lt 0 place && t) (kept_of (before_place place entries) ++ from_place place entries) entries) out
    ∙ ap (λ t. cond t (kept_of (before_place place entries) ++ from_place place entries) entries) (never (nat_lt 0 place))

-- and so they do at place 0
pub at_zero : (place : ℕ) (entries : List LogEntry) → place ≡ 0 → cut_at place entries ≡ entries
at_zero place entries is = rw is refl

-- the texts of both parts are those of the cut
pub cut_texts : (place : ℕ) (entries xs ys : List LogEntry) → cut_at place entries ≡ xs ++ ys → map entry_text xs ++ map entry_text ys ≡ map entry_text (cut_at place entries)
cut_texts place entries xs ys is = sym (map-append entry_text xs ys) ∙ ap (λ (zs : List LogEntry). map entry_text zs) (sym is)

-- ---- where a later place is installed

-- how many entries stand before the first one that installs a place past this one
abbrev count_until : ℕ → List LogEntry → ℕ
count_until place entries = position_or_len (installs_past place) entries

until_step : (place : ℕ) (e : LogEntry) (es : List LogEntry) (t : Bool) → take (count_until place es) es ≡ until_installed place es
    → take (cond (not t) (1 + count_until place es) 0) (e ∷ es) ≡ cond t [] (e ∷ until_installed place es)
until_step place e es true rest = refl
until_step place e es false rest =
    let next : 1 + count_until place es ≡ suc (count_until place es) = omega arith in
    ap (λ n. take n (e ∷ es)) next ∙ ap (λ (xs : List LogEntry). e ∷ xs) rest

until_front : (place : ℕ) (es : List LogEntry) → take (count_until place es) es ≡ until_installed place es
until_front place [] = refl
until_front place (e ∷ es) = until_step place e es (installs_past place e) (until_front place es)

until_there : (place k : ℕ) (es : List LogEntry) (t : Bool) → nat_lt (count_until place es) (length es) ≡ t → cond t (Some (count_until place es)) None ≡ Some k
    → (count_until place es ≡ k) × (t ≡ true)
until_there place k es true lt is = ((cc), refl)
until_there place k es false lt is = absurd (cc)

none_step : (place : ℕ) (e : LogEntry) (es : List LogEntry) (t : Bool) → (nat_lt (count_until place es) (length es) ≡ false → until_installed place es ≡ es)
    → nat_lt (cond (not t) (1 + count_until place es) 0) (length (e ∷ es)) ≡ false → cond t [] (e ∷ until_installed place es) ≡ e ∷ es
none_step place e es true rest none = absurd (omega (arith, ltb-false 0 (suc (length es)) none))
none_step place e es false rest none =
    ap (λ (xs : List LogEntry). e ∷ xs) (rest (le-ltb (count_until place es) (length es) (omega (arith, ltb-false (1 + count_until place es) (suc (length es)) none))))

until_none : (place : ℕ) (es : List LogEntry) → nat_lt (count_until place es) (length es) ≡ false → until_installed place es ≡ es
until_none place [] none = refl
until_none place (e ∷ es) none = none_step place e es (installs_past place e) (until_none place es) none

until_absent : (place : ℕ) (es : List LogEntry) (t : Bool) → nat_lt (count_until place es) (length es) ≡ t → cond t (Some (count_until place es)) None ≡ None → t ≡ false
until_absent place es true lt is = absurd (cc)
until_absent place es false lt is = refl

-- the index of the entry that installs a later place is one of theirs
pub until_within : (place k : ℕ) (entries : List LogEntry) → position (installs_past place) entries ≡ Some k → k < length entries
until_within place k entries is =
    let there = until_there place k entries (nat_lt (count_until place entries) (length entries)) refl is in
    let low = ltb-true (count_until place entries) (length entries) there.1 in
    let same = there.0 in
    omega (arith, low, same)

-- the entries before it are those until then
pub until_at : (place k : ℕ) (entries : List LogEntry) → position (installs_past place) entries ≡ Some k → take k entries ≡ until_installed place entries
until_at place k entries is =
    let there = until_there place k entries (nat_lt (count_until place entries) (length entries)) refl is in
    ap (λ n. take n entries) (sym there.0) ∙ until_front place entries

-- without such an entry they are all
pub until_all : (place : ℕ) (entries : List LogEntry) → position (installs_past place) entries ≡ None → entries ≡ until_installed place entries
until_all place entries none =
    sym (until_none place entries (until_absent place entries (nat_lt (count_until place entries) (length entries)) refl none))
