-- What an index says of the entry that made the last place and of the accepts that are open, once an entry is added.
use Rattle.std.proofs.Common.{◌≡◌, ℕ, zero, suc, ◌+◌, ◌<◌, ◌≤◌, max, Bool, true, false, ◌&&◌, ◌||◌, ◌==◌, nat_lt, cond, filter, List, [], ◌∷◌, ◌++◌, length, slice_get, Option, None, Some, IfSome, refl, sym, ap, subst, ◌∙◌, append_assoc, arith, length-append}
use Rattle.std.specs.Prelude.{find}
use Rattle.std.specs.Option.{option_or}
use Rattle.std.specs.List.{list_any}
use Rattle.std.proofs.lemmas.List.{append-nil}
use Rattle.std.proofs.lemmas.List.Elements.{filter-append}
use Rattle.std.proofs.lemmas.List.Folds.{find-append}
use Rattle.std.proofs.lemmas.Bool.{eq-eqb, ltb-true, ltb-false, lt-ltb, le-ltb, ne_eqb, and_right, false_from_ne_true}
use Rattle.smart_statements.specs.declared.statement.Slot.{Slot}
use Rattle.vote_book.specs.declared.entry.LogEntry.{LogEntry}
use Rattle.vote_book.specs.declared.entry.LogEntry.TheVariants.{Opened, Wrote, Accepted, Promised, Synced, Decided, Installed, Marked}
use Rattle.vote_book.specs.declared.entry.Accept.{Accept}
use Rattle.vote_book.specs.declared.book.accepts.OpenAccept.{OpenAccept}
use Rattle.vote_book.specs.declared.book.index.BookIndex.{BookIndex}
use Rattle.vote_book.specs.Books.{number_or, place_made, latest_made, last_made}
use Rattle.vote_book.specs.Admission.{is_number, makes, is_above}
use Rattle.vote_book.specs.BookReports.{last_maker, accept_for, greater, greatest_accept, lock_of}
use Rattle.vote_book.specs.BookIndex.{is_open, greater_open, open_for, greatest_open, accept_at, accepts_from, open_behind, entry_at, maker_behind, as_accept, accept_found, IsIndexOf}
use Rattle.vote_book.proofs.Tested.{made_is, is_made, above_is, last_has, none_zero}
use Rattle.vote_book.proofs.Last.{last_push}

-- ---- open accepts

accepts_push : (n : ℕ) (es : List LogEntry) (e : LogEntry) → accepts_from n (es ++ e ∷ []) ≡ accepts_from n es ++ accept_at (n + length es) e
accepts_push n [] e = append-nil (accept_at n e) ∙ ap (λ (k : ℕ). accept_at k e) (omega arith)
accepts_push n (y ∷ ys) e =
    ap (λ (xs : List OpenAccept). accept_at n y ++ xs) (accepts_push (n + 1) ys e)
    ∙ (sym (append_assoc (accept_at n y) (accepts_from (n + 1) ys) (accept_at (n + 1 + length ys) e))
    ∙ ap (λ (k : ℕ). (accept_at n y ++ accepts_from (n + 1) ys) ++ accept_at k e) (omega arith))

lt_max : (a b p : ℕ) → nat_lt (max a b) p ≡ (nat_lt a p && nat_lt b p)
lt_max a b p = by (nat_lt a p) (nat_lt b p) refl refl
  where
    by : (t u : Bool) → nat_lt a p ≡ t → nat_lt b p ≡ u → nat_lt (max a b) p ≡ (t && u)
    by true true x y = let first : a < p = ltb-true a p x in let second : b < p = ltb-true b p y in lt-ltb (max a b) p (omega arith)
    by true false x y = let second : p ≤ b = ltb-false b p y in le-ltb (max a b) p (omega arith)
    by false u x y = let first : p ≤ a = ltb-false a p x in le-ltb (max a b) p (omega arith)

filter_both : (k : ℕ) (y : OpenAccept) (f g : List OpenAccept) (t b : Bool) → b ≡ (t && is_open k y) → f ≡ filter (is_open k) g
    → cond b (y ∷ f) f ≡ filter (is_open k) (cond t (y ∷ g) g)
filter_both k y f g true b is rest = rw (is, rest) refl
filter_both k y f g false b is rest = rw (is, rest) refl

filter_twice : (last k : ℕ) (xs : List OpenAccept) → filter (is_open (max last k)) xs ≡ filter (is_open k) (filter (is_open last) xs)
filter_twice last k [] = refl
filter_twice last k (y ∷ ys) =
    filter_both k y (filter (is_open (max last k)) ys) (filter (is_open last) ys) (is_open last y) (is_open (max last k) y) (lt_max last k y.slot.place) (filter_twice last k ys)

none_more : (last : ℕ) (xs : List OpenAccept) → filter (is_open (max last 0)) (xs ++ []) ≡ filter (is_open last) xs
none_more last xs = ap (λ (ys : List OpenAccept). filter (is_open (max last 0)) ys) (append-nil xs) ∙ ap (λ (n : ℕ). filter (is_open n) xs) (omega arith)

made_more : (last k : ℕ) (xs : List OpenAccept) → filter (is_open (max last k)) (xs ++ []) ≡ filter (is_open k) (filter (is_open last) xs)
made_more last k xs = ap (λ (ys : List OpenAccept). filter (is_open (max last k)) ys) (append-nil xs) ∙ filter_twice last k xs

one_more : (fs : List OpenAccept) (x : OpenAccept) (t : Bool) → fs ++ cond t (x ∷ []) [] ≡ cond t (fs ++ x ∷ []) fs
one_more fs x true = refl
one_more fs x false = append-nil fs

accept_more : (last : ℕ) (xs : List OpenAccept) (x : OpenAccept) → filter (is_open (max last 0)) (xs ++ x ∷ []) ≡ cond (is_open last x) (filter (is_open last) xs ++ x ∷ []) (filter (is_open last) xs)
accept_more last xs x =
    ap (λ (n : ℕ). filter (is_open n) (xs ++ x ∷ [])) (omega arith)
    ∙ (filter-append (is_open last) xs (x ∷ []) ∙ one_more (filter (is_open last) xs) x (is_open last x))

opened : (last index : ℕ) (e : LogEntry) (xs : List OpenAccept)
    → filter (is_open (max last (number_or (place_made e) 0))) (xs ++ accept_at index e) ≡ open_behind index last e (filter (is_open last) xs)
opened last index (Opened o) xs = none_more last xs
opened last index (Wrote w) xs = none_more last xs
opened last index (Accepted a) xs = accept_more last xs (record { index = index; slot = a.slot })
opened last index (Promised p) xs = none_more last xs
opened last index (Synced s) xs = none_more last xs
opened last index (Decided d) xs = made_more last d.slot.place xs
opened last index (Installed i) xs = made_more last i.place xs
opened last index (Marked m) xs = none_more last xs

pub open_push : (es : List LogEntry) (e : LogEntry)
    → filter (is_open (last_made (es ++ e ∷ []))) (accepts_from 0 (es ++ e ∷ [])) ≡ open_behind (length es) (last_made es) e (filter (is_open (last_made es)) (accepts_from 0 es))
open_push es e =
    ap (λ (n : ℕ). filter (is_open n) (accepts_from 0 (es ++ e ∷ []))) (last_push es e)
    ∙ (ap (λ (xs : List OpenAccept). filter (is_open (max (last_made es) (number_or (place_made e) 0))) xs)
    (accepts_push 0 es e ∙ ap (λ (k : ℕ). accepts_from 0 es ++ accept_at k e) (omega arith))
    ∙ opened (last_made es) (length es) e (accepts_from 0 es))

-- an entry that makes a place leaves the accepts past it
pub made_behind : (index last place : ℕ) (e : LogEntry) (xs : List OpenAccept) → place_made e ≡ Some place → open_behind index last e xs ≡ filter (is_open place) xs
made_behind index last place (Decided d) xs is = let same : d.slot.place ≡ place = cc in ap (λ (n : ℕ). filter (is_open n) xs) same
made_behind index last place (Installed i) xs is = let same : i.place ≡ place = cc in ap (λ (n : ℕ). filter (is_open n) xs) same
made_behind index last place (Opened o) xs is = absurd (cc)
made_behind index last place (Wrote w) xs is = absurd (cc)
made_behind index last place (Accepted a) xs is = absurd (cc)
made_behind index last place (Promised p) xs is = absurd (cc)
made_behind index last place (Synced s) xs is = absurd (cc)
made_behind index last place (Marked m) xs is = absurd (cc)

-- ---- the entry that made the last place

pub get_kept : {A : Type 0} (xs : List A) (x : A) (n : ℕ) → n < length xs → slice_get (xs ++ x ∷ []) n ≡ slice_get xs n
get_kept [] x n less = absurd (omega arith)
get_kept (y ∷ ys) x zero less = refl
get_kept (y ∷ ys) x (suc n) less = get_kept ys x n (omega arith)

pub get_last : {A : Type 0} (xs : List A) (x : A) → slice_get (xs ++ x ∷ []) (length xs) ≡ Some x
get_last [] x = refl
get_last (y ∷ ys) x = get_last ys x

entry_kept : (m : Option ℕ) (es : List LogEntry) (e : LogEntry) → IfSome m (λ n. n < length es) → entry_at m (es ++ e ∷ []) ≡ entry_at m es
entry_kept None es e within = refl
entry_kept (Some n) es e within = get_kept es e n within

or_none : (o : Option LogEntry) → option_or o None ≡ o
or_none None = refl
or_none (Some x) = refl

find_if : (p : LogEntry → Bool) (e : LogEntry) (t : Bool) → p e ≡ t → find p (e ∷ []) ≡ cond t (Some e) None
find_if p e t is = ap (λ b. cond b (Some e) None) is

find_none : (p : LogEntry → Bool) (es : List LogEntry) → list_any p es ≡ false → find p es ≡ None
find_none p [] none = refl
find_none p (x ∷ xs) none = by (p x) none (λ rest. find_none p xs rest)
  where
    by : (t : Bool) → (t || list_any p xs) ≡ false → (list_any p xs ≡ false → find p xs ≡ None) → cond t (Some x) (find p xs) ≡ None
    by true none rest = absurd (cc)
    by false none rest = rest none

find_some : (p : LogEntry → Bool) (es : List LogEntry) (o : Option LogEntry) → list_any p es ≡ true → option_or (find p es) o ≡ find p es
find_some p [] o some = absurd (cc)
find_some p (x ∷ xs) o some = by (p x) some (λ rest. find_some p xs o rest)
  where
    by : (t : Bool) → (t || list_any p xs) ≡ true → (list_any p xs ≡ true → option_or (find p xs) o ≡ find p xs) → option_or (cond t (Some x) (find p xs)) o ≡ cond t (Some x) (find p xs)
    by true some rest = refl
    by false some rest = rest some

-- what is found where the last place is this one
found_at : (es : List LogEntry) (e : LogEntry) (n : ℕ) → last_made (es ++ e ∷ []) ≡ n
    → last_maker (es ++ e ∷ []) ≡ option_or (find (makes n) es) (find (makes n) (e ∷ []))
found_at es e n is = ap (λ (k : ℕ). find (makes k) (es ++ e ∷ [])) is ∙ find-append (makes n) es (e ∷ [])

number_of_none : (n : ℕ) (o : Option ℕ) → o ≡ None → is_number n o ≡ false
number_of_none n o is = ap (λ (q : Option ℕ). is_number n q) is

number_of_some : (n : ℕ) (o : Option ℕ) → o ≡ Some n → is_number n o ≡ true
number_of_some n o is = ap (λ (q : Option ℕ). is_number n q) is ∙ eq-eqb n n refl

at_most : (es : List LogEntry) (k : ℕ) (latest : Option ℕ) → latest_made es ≡ latest → is_above latest (last_made es) k ≡ true → last_made es ≤ k
at_most es k None none above = let e : last_made es ≡ 0 = none_zero es none in omega arith
at_most es k (Some latest) some above = let e : last_made es < k = ltb-true (last_made es) k above in omega arith

pub maker_push : (es : List LogEntry) (e : LogEntry) (m : Option ℕ) → entry_at m es ≡ last_maker es → IfSome m (λ n. n < length es)
    → entry_at (maker_behind (length es) (latest_made es) (last_made es) (place_made e) m) (es ++ e ∷ []) ≡ last_maker (es ++ e ∷ [])
maker_push es e m is within = by (place_made e) refl
  where
    last_is : (o : Option ℕ) → place_made e ≡ o → last_made (es ++ e ∷ []) ≡ max (last_made es) (number_or o 0)
    last_is o made = last_push es e ∙ ap (λ (q : Option ℕ). max (last_made es) (number_or q 0)) made

    stays : entry_at m (es ++ e ∷ []) ≡ find (makes (last_made es)) es
    stays = entry_kept m es e within ∙ is

    above : (k : ℕ) → place_made e ≡ Some k → (t : Bool) → is_above (latest_made es) (last_made es) k ≡ t → entry_at (cond t (Some (length es)) m) (es ++ e ∷ []) ≡ last_maker (es ++ e ∷ [])
    above k made true higher =
        let most : last_made es ≤ k = at_most es k (latest_made es) refl higher in
        let none : find (makes k) es ≡ None = find_none (makes k) es (false_from_ne_true (list_any (makes k) es) (λ some.
        let less : k < k = above_is es k higher k (made_is k es some) in omega arith)) in
        let here : find (makes k) (e ∷ []) ≡ Some e = find_if (makes k) e true (number_of_some k (place_made e) made) in
        get_last es e ∙ sym (found_at es e k (last_is (Some k) made ∙ omega arith)
        ∙ (ap (λ (o : Option LogEntry). option_or o (find (makes k) (e ∷ []))) none ∙ here))
    above k made false lower = under (latest_made es) refl lower
      where
        under : (latest : Option ℕ) → latest_made es ≡ latest → is_above latest (last_made es) k ≡ false → entry_at m (es ++ e ∷ []) ≡ last_maker (es ++ e ∷ [])
        under None none lower = absurd (cc)
        under (Some latest) some lower =
            let most : k ≤ last_made es = ltb-false (last_made es) k lower in
            stays ∙ sym (found_at es e (last_made es) (last_is (Some k) made ∙ omega arith)
            ∙ find_some (makes (last_made es)) es (find (makes (last_made es)) (e ∷ [])) (is_made (last_made es) es (last_has es latest some)))

    by : (o : Option ℕ) → place_made e ≡ o → entry_at (maker_behind (length es) (latest_made es) (last_made es) o m) (es ++ e ∷ []) ≡ last_maker (es ++ e ∷ [])
    by None made =
        let here : find (makes (last_made es)) (e ∷ []) ≡ None = find_if (makes (last_made es)) e false (number_of_none (last_made es) (place_made e) made) in
        stays ∙ sym (found_at es e (last_made es) (last_is None made ∙ omega arith)
        ∙ (ap (λ (o : Option LogEntry). option_or (find (makes (last_made es)) es) o) here ∙ or_none (find (makes (last_made es)) es)))
    by (Some k) made = above k made (is_above (latest_made es) (last_made es) k) refl

pub maker_within : (es : List LogEntry) (e : LogEntry) (m : Option ℕ) (latest : Option ℕ) (last : ℕ) (o : Option ℕ) → IfSome m (λ n. n < length es)
    → IfSome (maker_behind (length es) latest last o m) (λ n. n < length (es ++ e ∷ []))
maker_within es e m latest last o within = by o
  where
    more : (m : Option ℕ) → IfSome m (λ n. n < length es) → IfSome m (λ n. n < length (es ++ e ∷ []))
    more None within = tt
    more (Some n) within = omega (arith, length-append es (e ∷ []))

    pick : (t : Bool) → IfSome (cond t (Some (length es)) m) (λ n. n < length (es ++ e ∷ []))
    pick true = let len : length (es ++ e ∷ []) ≡ length es + 1 = length-append es (e ∷ []) in omega arith
    pick false = more m within

    by : (o : Option ℕ) → IfSome (maker_behind (length es) latest last o m) (λ n. n < length (es ++ e ∷ []))
    by None = more m within
    by (Some k) = pick (is_above latest last k)

-- ---- the lock

pub greater_assoc : (a b c : Option OpenAccept) → greater_open (greater_open a b) c ≡ greater_open a (greater_open b c)
greater_assoc None b c = refl
greater_assoc (Some a) None c = refl
greater_assoc (Some a) (Some b) None = by (nat_lt a.slot.regency b.slot.regency)
  where
    by : (t : Bool) → greater_open (cond t (Some b) (Some a)) None ≡ cond t (Some b) (Some a)
    by true = refl
    by false = refl
greater_assoc (Some a) (Some b) (Some c) =
    by (nat_lt a.slot.regency b.slot.regency) (nat_lt b.slot.regency c.slot.regency) (nat_lt a.slot.regency c.slot.regency) refl refl refl
  where
    by : (t u v : Bool) → nat_lt a.slot.regency b.slot.regency ≡ t → nat_lt b.slot.regency c.slot.regency ≡ u → nat_lt a.slot.regency c.slot.regency ≡ v
        → greater_open (cond t (Some b) (Some a)) (Some c) ≡ greater_open (Some a) (cond u (Some c) (Some b))
    by true true true x y z = rw (y, z) refl
    by true true false x y z = absurd (let p : a.slot.regency < b.slot.regency = ltb-true a.slot.regency b.slot.regency x in let q : b.slot.regency < c.slot.regency = ltb-true b.slot.regency c.slot.regency y in
        let r : c.slot.regency ≤ a.slot.regency = ltb-false a.slot.regency c.slot.regency z in omega arith)
    by true false v x y z = rw (y, x) refl
    by false true v x y z = refl
    by false false true x y z = absurd (let p : b.slot.regency ≤ a.slot.regency = ltb-false a.slot.regency b.slot.regency x in let q : c.slot.regency ≤ b.slot.regency = ltb-false b.slot.regency c.slot.regency y in
        let r : a.slot.regency < c.slot.regency = ltb-true a.slot.regency c.slot.regency z in omega arith)
    by false false false x y z = rw (x, z) refl

-- an accept of an index is the entry there
abbrev pub Matches : List LogEntry → Option OpenAccept → Option Accept → Type 0
Matches all None None = Unit {0}
Matches all None (Some a) = ⊥
Matches all (Some o) None = ⊥
Matches all (Some o) (Some a) = (slice_get all o.index ≡ Some (Accepted a)) × (o.slot ≡ a.slot)

match_chosen : (all : List LogEntry) (o p : OpenAccept) (a b : Accept) (t : Bool) → Matches all (Some o) (Some a) → Matches all (Some p) (Some b)
    → Matches all (cond t (Some p) (Some o)) (cond t (Some b) (Some a))
match_chosen all o p a b true first second = second
match_chosen all o p a b false first second = first

match_greater : (all : List LogEntry) (o p : Option OpenAccept) (a b : Option Accept) → Matches all o a → Matches all p b → Matches all (greater_open o p) (greater a b)
match_greater all None p None b first second = second
match_greater all None p (Some a) b first second = absurd first
match_greater all (Some o) p None b first second = absurd first
match_greater all (Some o) None (Some a) None first second = first
match_greater all (Some o) None (Some a) (Some b) first second = absurd second
match_greater all (Some o) (Some p) (Some a) None first second = absurd second
match_greater all (Some o) (Some p) (Some a) (Some b) first second =
    let left : o.slot.regency ≡ a.slot.regency = ap (λ (s : Slot). s.regency) first.1 in
    let right : p.slot.regency ≡ b.slot.regency = ap (λ (s : Slot). s.regency) second.1 in
    let same : nat_lt o.slot.regency p.slot.regency ≡ nat_lt a.slot.regency b.slot.regency =
    ap (λ (n : ℕ). nat_lt n p.slot.regency) left ∙ ap (λ (n : ℕ). nat_lt a.slot.regency n) right in
    subst (λ t. Matches all (cond (nat_lt o.slot.regency p.slot.regency) (Some p) (Some o)) (cond t (Some b) (Some a))) same
    (match_chosen all o p a b (nat_lt o.slot.regency p.slot.regency) first second)

match_entry : (all : List LogEntry) (view place index : ℕ) (e : LogEntry) → slice_get all index ≡ Some e
    → Matches all (greatest_open view place (accept_at index e)) (accept_for view place e)
match_entry all view place index (Accepted a) is = by (a.slot.view == view && a.slot.place == place)
  where
    by : (t : Bool) → Matches all (greater_open (cond t (Some (record { index = index; slot = a.slot })) None) None) (cond t (Some a) None)
    by true = (is, refl)
    by false = tt
match_entry all view place index (Opened o) is = tt
match_entry all view place index (Wrote w) is = tt
match_entry all view place index (Promised p) is = tt
match_entry all view place index (Synced s) is = tt
match_entry all view place index (Decided d) is = tt
match_entry all view place index (Installed i) is = tt
match_entry all view place index (Marked m) is = tt

greatest_append : (view place : ℕ) (xs ys : List OpenAccept) → greatest_open view place (xs ++ ys) ≡ greater_open (greatest_open view place xs) (greatest_open view place ys)
greatest_append view place [] ys = refl
greatest_append view place (x ∷ xs) ys =
    ap (λ (o : Option OpenAccept). greater_open (open_for view place x) o) (greatest_append view place xs ys)
    ∙ sym (greater_assoc (open_for view place x) (greatest_open view place xs) (greatest_open view place ys))

pub get_middle : (front : List LogEntry) (e : LogEntry) (rest : List LogEntry) → slice_get (front ++ e ∷ rest) (length front) ≡ Some e
get_middle [] e rest = refl
get_middle (x ∷ xs) e rest = get_middle xs e rest

match_all : (view place : ℕ) (all front rest : List LogEntry) (index : ℕ) → all ≡ front ++ rest → index ≡ length front
    → Matches all (greatest_open view place (accepts_from index rest)) (greatest_accept view place rest)
match_all view place all front [] index split at = tt
match_all view place all front (e ∷ es) index split at =
    let here : slice_get all index ≡ Some e =
    ap (λ (xs : List LogEntry). slice_get xs index) split ∙ (ap (λ (n : ℕ). slice_get (front ++ e ∷ es) n) at ∙ get_middle front e es) in
    let rest = match_all view place all (front ++ e ∷ []) es (index + 1) (split ∙ sym (append_assoc front (e ∷ []) es)) (omega (arith, at, length-append front (e ∷ []))) in
    subst (λ (o : Option OpenAccept). Matches all o (greater (accept_for view place e) (greatest_accept view place es)))
    (sym (greatest_append view place (accept_at index e) (accepts_from (index + 1) es)))
    (match_greater all (greatest_open view place (accept_at index e)) (greatest_open view place (accepts_from (index + 1) es)) (accept_for view place e) (greatest_accept view place es)
    (match_entry all view place index e here) rest)

closed_for : (view last : ℕ) (x : OpenAccept) → is_open last x ≡ false → open_for view (last + 1) x ≡ None
closed_for view last x closed =
    let under : x.slot.place ≤ last = ltb-false last x.slot.place closed in
    let other : (x.slot.place == last + 1) ≡ false = ne_eqb x.slot.place (last + 1) (λ (same : x.slot.place ≡ last + 1). omega arith) in
    ap (λ t. cond t (Some x) None) (and_right (x.slot.view == view) (x.slot.place == last + 1) other)

greatest_kept : (view last : ℕ) (xs : List OpenAccept) → greatest_open view (last + 1) (filter (is_open last) xs) ≡ greatest_open view (last + 1) xs
greatest_kept view last [] = refl
greatest_kept view last (x ∷ xs) = by (is_open last x) refl (greatest_kept view last xs)
  where
    by : (t : Bool) → is_open last x ≡ t → greatest_open view (last + 1) (filter (is_open last) xs) ≡ greatest_open view (last + 1) xs
        → greatest_open view (last + 1) (cond t (x ∷ filter (is_open last) xs) (filter (is_open last) xs)) ≡ greater_open (open_for view (last + 1) x) (greatest_open view (last + 1) xs)
    by true there rest = ap (λ (o : Option OpenAccept). greater_open (open_for view (last + 1) x) o) rest
    by false closed rest = rest ∙ sym (ap (λ (o : Option OpenAccept). greater_open o (greatest_open view (last + 1) xs)) (closed_for view last x closed))

pub lock_matches : (view : ℕ) (entries : List LogEntry) (pending : List OpenAccept) → pending ≡ filter (is_open (last_made entries)) (accepts_from 0 entries)
    → Matches entries (greatest_open view (last_made entries + 1) pending) (lock_of view entries)
lock_matches view entries pending is =
    subst (λ (o : Option OpenAccept). Matches entries o (lock_of view entries))
    (sym (ap (λ (xs : List OpenAccept). greatest_open view (last_made entries + 1) xs) is ∙ greatest_kept view (last_made entries) (accepts_from 0 entries)))
    (match_all view (last_made entries + 1) entries [] entries 0 refl refl)

found_is : (all : List LogEntry) (o : Option OpenAccept) (b : Option Accept) → Matches all o b → accept_found all o ≡ b
found_is all None None matches = refl
found_is all None (Some b) matches = absurd matches
found_is all (Some o) None matches = absurd matches
found_is all (Some o) (Some a) matches = ap (λ (e : Option LogEntry). as_accept e) matches.0

pub lock_found : (entries : List LogEntry) (x : BookIndex) (view last : ℕ) (o : Option OpenAccept) → IsIndexOf entries x → last ≡ x.last
    → o ≡ greatest_open view (last + 1) x.pending → accept_found entries o ≡ lock_of view entries
lock_found entries x view last o is same found =
    let at : last ≡ last_made entries = same ∙ is.last in
    let whole : o ≡ greatest_open view (last_made entries + 1) x.pending = found ∙ ap (λ (n : ℕ). greatest_open view (n + 1) x.pending) at in
    ap (λ (q : Option OpenAccept). accept_found entries q) whole
    ∙ found_is entries (greatest_open view (last_made entries + 1) x.pending) (lock_of view entries) (lock_matches view entries x.pending is.pending)
