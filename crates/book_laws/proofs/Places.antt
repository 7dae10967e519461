-- The places that lists of entries make, and the entries before and from the one that makes a place.
use Rattle.std.proofs.Common.{◌≡◌, ◌⊎◌, inl, inr, ⊎_elim, ℕ, ◌+◌, ◌-◌, ◌<◌, ◌≤◌, max, Bool, true, false, cond, ◌||◌, List, [], ◌∷◌, ◌++◌, Option, Some, None, refl, sym, ap, ◌∙◌, subst, arith, append_assoc}
use Rattle.std.specs.Prelude.{find}
use Rattle.std.specs.List.{list_any}
use Rattle.std.proofs.lemmas.Bool.{false_from_ne_true}
use Rattle.smart_base.specs.Lists.{or_else}
use Rattle.vote_book.specs.declared.entry.LogEntry.{LogEntry}
use Rattle.vote_book.specs.declared.entry.LogEntry.TheVariants.{Opened, Wrote, Accepted, Promised, Synced, Decided, Installed, Marked}
use Rattle.vote_book.specs.declared.entry.Write.{Write}
use Rattle.vote_book.specs.declared.entry.Accept.{Accept}
use Rattle.vote_book.specs.Books.{number_or, place_made, latest_made, last_made, Among, HasMade, Follows, MayWrite, MayAccept, Admits, Lawful}
use Rattle.vote_book.specs.Admission.{is_number, makes}
use Rattle.vote_book.specs.BookReports.{accept_for, greater, greatest_accept}
use Rattle.vote_book.proofs.Last.{latest_push, last_push}
use Rattle.vote_book.proofs.Tested.{number_is, last_has, none_zero, none_latest}
use Rattle.vote_book.proofs.Locks.{made_most}
use Rattle.book_laws.specs.BookCuts.{before_place, from_place}
use Rattle.book_laws.proofs.Lists.{Split, split_at, among_before}
use Rattle.book_laws.proofs.Kept.{else_assoc, else_none}

-- ---- places of two lists

pub last_append : (xs ys : List LogEntry) → last_made (xs ++ ys) ≡ max (last_made xs) (last_made ys)
last_append [] ys = omega arith
last_append (x ∷ xs) ys = let rest = last_append xs ys in omega arith

pub none_last : (xs : List LogEntry) → ((e : LogEntry) → Among e xs → place_made e ≡ None) → last_made xs ≡ 0
none_last [] none = refl
none_last (x ∷ xs) none =
    let rest : last_made xs ≡ 0 = none_last xs (λ e there. none e (inr there)) in
    let here : number_or (place_made x) 0 ≡ 0 = ap (λ (o : Option ℕ). number_or o 0) (none x (inl refl)) in
    omega arith

latest_append : (xs ys : List LogEntry) → latest_made (xs ++ ys) ≡ or_else (latest_made ys) (latest_made xs)
latest_append [] ys = sym (else_none (latest_made ys))
latest_append (x ∷ xs) ys = ap (λ (o : Option ℕ). or_else o (place_made x)) (latest_append xs ys) ∙ sym (else_assoc (latest_made ys) (latest_made xs) (place_made x))

-- the latest place is that of the second list, if one is made there
pub latest_second : (xs ys : List LogEntry) (e : LogEntry) (k : ℕ) → Among e ys → place_made e ≡ Some k → latest_made (xs ++ ys) ≡ latest_made ys
latest_second xs ys e k there made = latest_append xs ys ∙ by (latest_made ys) refl
  where
    by : (latest : Option ℕ) → latest_made ys ≡ latest → or_else latest (latest_made xs) ≡ latest
    by None is = absurd (none_latest e ys k there made is)
    by (Some n) is = refl

pub none_latest_made : (xs : List LogEntry) → ((e : LogEntry) → Among e xs → place_made e ≡ None) → latest_made xs ≡ None
none_latest_made [] none = refl
none_latest_made (x ∷ xs) none =
    ap (λ (o : Option ℕ). or_else o (place_made x)) (none_latest_made xs (λ e there. none e (inr there))) ∙ none x (inl refl)

pub find_second : (p : LogEntry → Bool) (xs ys : List LogEntry) → ((e : LogEntry) → Among e xs → p e ≡ false) → find p (xs ++ ys) ≡ find p ys
find_second p [] ys none = refl
find_second p (x ∷ xs) ys none =
    ap (λ (t : Bool). cond t (Some x) (find p (xs ++ ys))) (none x (inl refl)) ∙ find_second p xs ys (λ e there. none e (inr there))

pub accept_second : (view place : ℕ) (xs ys : List LogEntry) → ((e : LogEntry) → Among e xs → accept_for view place e ≡ None)
    → greatest_accept view place (xs ++ ys) ≡ greatest_accept view place ys
accept_second view place [] ys none = refl
accept_second view place (x ∷ xs) ys none =
    ap (λ (o : Option Accept). greater o (greatest_accept view place (xs ++ ys))) (none x (inl refl)) ∙ accept_second view place xs ys (λ e there. none e (inr there))

-- ---- tests of places

pub no_place_made : (place : ℕ) (e : LogEntry) → place_made e ≡ None → makes place e ≡ false
no_place_made place e none = ap (λ (o : Option ℕ). is_number place o) none

pub low_not_made : (place : ℕ) (e : LogEntry) (xs : List LogEntry) → last_made xs < place → Among e xs → makes place e ≡ false
low_not_made place e xs low there =
    false_from_ne_true (makes place e)
    (λ passes. let most = made_most xs place (record { entry = e; there = there; made = number_is place (place_made e) passes }) in absurd (omega (arith, most)))

-- ---- the entries before the one that makes a place, and those from it on

both_step : (t : Bool) (x : LogEntry) (front back xs : List LogEntry) → front ++ back ≡ xs → cond t [] (x ∷ front) ++ cond t (x ∷ xs) back ≡ x ∷ xs
both_step true x front back xs rest = refl
both_step false x front back xs rest = ap (λ (ys : List LogEntry). x ∷ ys) rest

pub both_parts : (place : ℕ) (xs : List LogEntry) → before_place place xs ++ from_place place xs ≡ xs
both_parts place [] = refl
both_parts place (x ∷ xs) = both_step (makes place x) x (before_place place xs) (from_place place xs) xs (both_parts place xs)

-- entries of which the first makes a place
pub record Begins (place : ℕ) (xs : List LogEntry) : Type 0 where
  pub first : LogEntry
  pub rest : List LogEntry
  pub is : xs ≡ first ∷ rest
  pub made : place_made first ≡ Some place

begins_step : (place : ℕ) (x : LogEntry) (xs back : List LogEntry) (t b : Bool) → makes place x ≡ t → (t || b) ≡ true → (b ≡ true → Begins place back) → Begins place (cond t (x ∷ xs) back)
begins_step place x xs back true b is some later = record { first = x; rest = xs; is = refl; made = number_is place (place_made x) is }
begins_step place x xs back false b is some later = later some

pub begins : (place : ℕ) (xs : List LogEntry) → list_any (makes place) xs ≡ true → Begins place (from_place place xs)
begins place [] some = absurd (cc)
begins place (x ∷ xs) some = begins_step place x xs (from_place place xs) (makes place x) (list_any (makes place) xs) refl some (λ later. begins place xs later)

before_step : (t b : Bool) (x : LogEntry) (front longer : List LogEntry) → (t || b) ≡ true → (b ≡ true → longer ≡ front) → cond t [] (x ∷ longer) ≡ cond t [] (x ∷ front)
before_step true b x front longer some later = refl
before_step false b x front longer some later = ap (λ (ys : List LogEntry). x ∷ ys) (later some)

-- more entries behind leave those before the one that makes the place
pub before_more : (place : ℕ) (xs more : List LogEntry) → list_any (makes place) xs ≡ true → before_place place (xs ++ more) ≡ before_place place xs
before_more place [] more some = absurd (cc)
before_more place (x ∷ xs) more some =
    before_step (makes place x) (list_any (makes place) xs) x (before_place place xs) (before_place place (xs ++ more)) some (λ later. before_more place xs more later)

from_step : (t b : Bool) (x : LogEntry) (xs back longer more : List LogEntry) → (t || b) ≡ true → (b ≡ true → longer ≡ back ++ more)
    → cond t (x ∷ (xs ++ more)) longer ≡ cond t (x ∷ xs) back ++ more
from_step true b x xs back longer more some later = refl
from_step false b x xs back longer more some later = later some

pub from_more : (place : ℕ) (xs more : List LogEntry) → list_any (makes place) xs ≡ true → from_place place (xs ++ more) ≡ from_place place xs ++ more
from_more place [] more some = absurd (cc)
from_more place (x ∷ xs) more some =
    from_step (makes place x) (list_any (makes place) xs) x xs (from_place place xs) (from_place place (xs ++ more)) more some (λ later. from_more place xs more later)

-- entries in front that do not make the place stand before the one that makes it
pub before_skip : (place : ℕ) (xs ys : List LogEntry) → ((e : LogEntry) → Among e xs → makes place e ≡ false) → before_place place (xs ++ ys) ≡ xs ++ before_place place ys
before_skip place [] ys none = refl
before_skip place (x ∷ xs) ys none =
    ap (λ (t : Bool). cond t [] (x ∷ before_place place (xs ++ ys))) (none x (inl refl))
    ∙ ap (λ (zs : List LogEntry). x ∷ zs) (before_skip place xs ys (λ e there. none e (inr there)))

pub from_skip : (place : ℕ) (xs ys : List LogEntry) → ((e : LogEntry) → Among e xs → makes place e ≡ false) → from_place place (xs ++ ys) ≡ from_place place ys
from_skip place [] ys none = refl
from_skip place (x ∷ xs) ys none =
    ap (λ (t : Bool). cond t (x ∷ (xs ++ ys)) (from_place place (xs ++ ys))) (none x (inl refl)) ∙ from_skip place xs ys (λ e there. none e (inr there))

-- ---- places of lawful entries

-- entries of which the latest place is the greatest
abbrev IsRising : List LogEntry → Type 0
IsRising xs = (n : ℕ) → latest_made xs ≡ Some n → last_made xs ≤ n

pub high_latest : (xs : List LogEntry) → IsRising xs → (k : ℕ) → Follows 0 (latest_made xs) k → 0 < k → last_made xs < k
high_latest xs rising k follows some = by (latest_made xs) refl follows
  where
    by : (latest : Option ℕ) → latest_made xs ≡ latest → Follows 0 latest k → last_made xs < k
    by None is first = let none = none_zero xs is in omega (arith, none)
    by (Some n) is next = let most = rising n is in let it : k ≡ n + 1 = next in omega (arith, most)

pub high_installed : (xs : List LogEntry) (k : ℕ) → ((made : ℕ) → HasMade xs made → made < k) → 0 < k → last_made xs < k
high_installed xs k above some = by (latest_made xs) refl
  where
    by : (latest : Option ℕ) → latest_made xs ≡ latest → last_made xs < k
    by None is = let none = none_zero xs is in omega (arith, none)
    by (Some n) is = above (last_made xs) (last_has xs n is)

rises_by : (xs : List LogEntry) (e : LogEntry) (k : ℕ) → place_made e ≡ Some k → last_made xs ≤ k → IsRising (xs ++ e ∷ [])
rises_by xs e k made most n is =
    let latest : Some k ≡ Some n = sym (latest_push xs e ∙ ap (λ (o : Option ℕ). or_else o (latest_made xs)) made) ∙ is in
    let same : k ≡ n = cc in
    let last : last_made (xs ++ e ∷ []) ≡ max (last_made xs) k = last_push xs e ∙ ap (λ (o : Option ℕ). max (last_made xs) (number_or o 0)) made in
    omega (arith, last)

stays : (xs : List LogEntry) (e : LogEntry) → place_made e ≡ None → IsRising xs → IsRising (xs ++ e ∷ [])
stays xs e none rising n is =
    let latest : latest_made xs ≡ Some n = sym (latest_push xs e ∙ ap (λ (o : Option ℕ). or_else o (latest_made xs)) none) ∙ is in
    let most : last_made xs ≤ n = rising n latest in
    let last : last_made (xs ++ e ∷ []) ≡ max (last_made xs) 0 = last_push xs e ∙ ap (λ (o : Option ℕ). max (last_made xs) (number_or o 0)) none in
    omega (arith, last)

follower_most : (xs : List LogEntry) → IsRising xs → (k : ℕ) → Follows 0 (latest_made xs) k → last_made xs ≤ k
follower_most xs rising k follows = by (latest_made xs) refl follows
  where
    by : (latest : Option ℕ) → latest_made xs ≡ latest → Follows 0 latest k → last_made xs ≤ k
    by None is first = let none = none_zero xs is in omega (arith, none)
    by (Some n) is next = let most = rising n is in let it : k ≡ n + 1 = next in omega (arith, most)

installed_most : (xs : List LogEntry) (k : ℕ) → ((made : ℕ) → HasMade xs made → made < k) → last_made xs ≤ k
installed_most xs k above = by (latest_made xs) refl
  where
    by : (latest : Option ℕ) → latest_made xs ≡ latest → last_made xs ≤ k
    by None is = let none = none_zero xs is in omega (arith, none)
    by (Some n) is = let less = above (last_made xs) (last_has xs n is) in omega (arith, less)

rises : (xs : List LogEntry) (e : LogEntry) → IsRising xs → Admits 0 0 xs e → IsRising (xs ++ e ∷ [])
rises xs (Decided d) rising may = rises_by xs (Decided d) d.slot.place refl (follower_most xs rising d.slot.place may)
rises xs (Installed i) rising may = rises_by xs (Installed i) i.place refl (installed_most xs i.place may.above)
rises xs (Opened o) rising may = stays xs (Opened o) refl rising
rises xs (Wrote w) rising may = stays xs (Wrote w) refl rising
rises xs (Accepted a) rising may = stays xs (Accepted a) refl rising
rises xs (Promised p) rising may = stays xs (Promised p) refl rising
rises xs (Synced s) rising may = stays xs (Synced s) refl rising
rises xs (Marked m) rising may = stays xs (Marked m) refl rising

rising_from : (before xs : List LogEntry) → IsRising before → Lawful 0 0 (before ++ xs) → IsRising (before ++ xs)
rising_from before [] rising lawful = subst (λ (ys : List LogEntry). IsRising ys) (sym (append_nothing before)) rising
  where
    append_nothing : (ys : List LogEntry) → ys ++ [] ≡ ys
    append_nothing [] = refl
    append_nothing (y ∷ ys) = ap (λ (zs : List LogEntry). y ∷ zs) (append_nothing ys)
rising_from before (x ∷ xs) rising lawful =
    let split : (before ++ x ∷ []) ++ xs ≡ before ++ x ∷ xs = append_assoc before (x ∷ []) xs in
    subst (λ (ys : List LogEntry). IsRising ys) split
    (rising_from (before ++ x ∷ []) xs (rises before x rising (lawful before x xs refl)) (subst (λ (ys : List LogEntry). Lawful 0 0 ys) (sym split) lawful))

-- the latest place of lawful entries is the greatest
pub rising : (xs : List LogEntry) → Lawful 0 0 xs → IsRising xs
rising xs lawful = rising_from [] xs (λ n is. absurd (cc)) lawful

-- an entry that makes a place makes one past those before it
pub above_front : (front : List LogEntry) (e : LogEntry) (place : ℕ) → IsRising front → 0 < place → place_made e ≡ Some place → Admits 0 0 front e → last_made front < place
above_front front (Decided d) place rising some made may = let same : d.slot.place ≡ place = cc in high_latest front rising place (subst (λ (k : ℕ). Follows 0 (latest_made front) k) same may) some
above_front front (Installed i) place rising some made may = let same : i.place ≡ place = cc in subst (λ (k : ℕ). last_made front < k) same (high_installed front i.place may.above (subst (λ (k : ℕ). 0 < k) (sym same) some))
above_front front (Opened o) place rising some made may = absurd (cc)
above_front front (Wrote w) place rising some made may = absurd (cc)
above_front front (Accepted a) place rising some made may = absurd (cc)
above_front front (Promised p) place rising some made may = absurd (cc)
above_front front (Synced s) place rising some made may = absurd (cc)
above_front front (Marked m) place rising some made may = absurd (cc)

-- ---- votes in turn

low_or_high : (place : ℕ) → (place ≤ 1) ⊎ (1 < place)
low_or_high place = grind arith

made_within : (xs : List LogEntry) (e : LogEntry) (x : Split e xs) (place : ℕ) → HasMade x.before (place - 1) → place ≤ last_made xs + 1
made_within xs e x place has =
    let most : place - 1 ≤ last_made xs = made_most xs (place - 1) (record { entry = has.entry; there = among_before e has.entry xs x has.there; made = has.made }) in
    omega (arith, most)

pub accepted_in_turn : (xs : List LogEntry) (a : Accept) → Lawful 0 0 xs → Among (Accepted a) xs → a.slot.place ≤ last_made xs + 1
accepted_in_turn xs a lawful there =
    let x = split_at xs (Accepted a) there in
    let may : MayAccept x.before a = lawful x.before (Accepted a) x.after x.is in
    ⊎_elim (λ (low : a.slot.place ≤ 1). omega (arith, low)) (λ (high : 1 < a.slot.place). made_within xs (Accepted a) x a.slot.place (may.vote.in_turn high))
    (low_or_high a.slot.place)

pub wrote_in_turn : (xs : List LogEntry) (w : Write) → Lawful 0 0 xs → Among (Wrote w) xs → w.slot.place ≤ last_made xs + 1
wrote_in_turn xs w lawful there =
    let x = split_at xs (Wrote w) there in
    let may : MayWrite x.before w = lawful x.before (Wrote w) x.after x.is in
    ⊎_elim (λ (low : w.slot.place ≤ 1). omega (arith, low)) (λ (high : 1 < w.slot.place). made_within xs (Wrote w) x w.slot.place (may.vote.in_turn high))
    (low_or_high w.slot.place)
