-- The greatest promise among entries.
use Rattle.std.proofs.Common.{◌≡◌, ◌⊎◌, inl, inr, ⊎_elim, ℕ, ◌<◌, nat_lt, Bool, true, false, cond, ◌&&◌, ◌||◌, ◌==◌, List, [], ◌∷◌, ◌++◌, Option, Some, None, refl, sym, ap, ◌∙◌, subst, arith}
use Rattle.std.specs.Prelude.{nat_le}
use Rattle.std.proofs.lemmas.Bool.Decides.{nat_tests}
use Rattle.vote_book.specs.declared.entry.LogEntry.{LogEntry}
use Rattle.vote_book.specs.declared.entry.LogEntry.TheVariants.{Opened, Wrote, Accepted, Promised, Synced, Decided, Installed, Marked}
use Rattle.vote_book.specs.declared.entry.Promise.{Promise}
use Rattle.vote_book.specs.Books.{Among}
use Rattle.vote_book.specs.BookIndex.{is_kept_with}
use Rattle.book_laws.specs.BookCuts.{promise_by, greater_promise, greatest_promise}

-- ---- regencies of views, in order

-- a regency of a view below another: of an earlier view, or of its view and an earlier regency
abbrev pub Under : ℕ → ℕ → ℕ → ℕ → Type 0
Under v r w s = (v < w) ⊎ ((v ≡ w) × (r < s))

pub not_under_itself : (v r : ℕ) → Under v r v r → ⊥
not_under_itself v r h = grind (arith, nat_tests)

-- what is below one is below another that is not below that one
pub under_through : (v r w s x t : ℕ) → Under v r w s → (Under x t w s → ⊥) → Under v r x t
under_through v r w s x t a b = grind (arith, nat_tests)

not_through : (a b w s v r : ℕ) → (Under a b w s → ⊥) → (Under w s v r → ⊥) → Under a b v r → ⊥
not_through a b w s v r h k l = grind (arith, nat_tests)

pub one_regency : (v r w s : ℕ) → (Under w s v r → ⊥) → (Under v r w s → ⊥) → (v ≡ w) × (r ≡ s)
one_regency v r w s a b = grind (arith, nat_tests)

kept_most : (w s v r : ℕ) → (nat_lt w v || ((w == v) && nat_le s r)) ≡ true → Under v r w s → ⊥
kept_most w s v r is h = grind (arith, nat_tests)

unkept_most : (w s v r : ℕ) → (nat_lt w v || ((w == v) && nat_le s r)) ≡ false → Under w s v r → ⊥
unkept_most w s v r is h = grind (arith, nat_tests)

kept_through : (v r w s x t : ℕ) → (nat_lt w v || ((w == v) && nat_le s r)) ≡ true → (nat_lt x w || ((x == w) && nat_le t s)) ≡ true
    → (nat_lt x v || ((x == v) && nat_le t r)) ≡ true
kept_through v r w s x t a b = grind (arith, nat_tests)

unkept_through : (v r w s x t : ℕ) → (nat_lt w v || ((w == v) && nat_le s r)) ≡ false → (nat_lt x w || ((x == w) && nat_le t s)) ≡ false
    → (nat_lt x v || ((x == v) && nat_le t r)) ≡ false
unkept_through v r w s x t a b = grind (arith, nat_tests)

-- ---- the greater of two

-- there is a promise, and it is not below this regency of a view
pub record IsAtLeast (found : Option Promise) (v r : ℕ) : Type 0 where
  pub promise : Promise
  pub is : found ≡ Some promise
  pub most : Under promise.view promise.regency v r → ⊥

pair_left : (a b : Promise) (t : Bool) → is_kept_with b a ≡ t → IsAtLeast (cond t (Some a) (Some b)) a.view a.regency
pair_left a b true is = record { promise = a; is = refl; most = not_under_itself a.view a.regency }
pair_left a b false is = record { promise = b; is = refl; most = unkept_most b.view b.regency a.view a.regency is }

pair_right : (a b : Promise) (t : Bool) → is_kept_with b a ≡ t → IsAtLeast (cond t (Some a) (Some b)) b.view b.regency
pair_right a b true is = record { promise = a; is = refl; most = kept_most b.view b.regency a.view a.regency is }
pair_right a b false is = record { promise = b; is = refl; most = not_under_itself b.view b.regency }

pub greater_left : (a : Promise) (right : Option Promise) → IsAtLeast (greater_promise (Some a) right) a.view a.regency
greater_left a None = record { promise = a; is = refl; most = not_under_itself a.view a.regency }
greater_left a (Some b) = pair_left a b (is_kept_with b a) refl

greater_right : (left : Option Promise) (b : Promise) → IsAtLeast (greater_promise left (Some b)) b.view b.regency
greater_right None b = record { promise = b; is = refl; most = not_under_itself b.view b.regency }
greater_right (Some a) b = pair_right a b (is_kept_with b a) refl

one_of_two : (a b m : Promise) (t : Bool) → cond t (Some a) (Some b) ≡ Some m → (Some a ≡ Some m) ⊎ (Some b ≡ Some m)
one_of_two a b m true is = inl is
one_of_two a b m false is = inr is

greater_from : (left right : Option Promise) (m : Promise) → greater_promise left right ≡ Some m → (left ≡ Some m) ⊎ (right ≡ Some m)
greater_from None right m is = inr is
greater_from (Some a) None m is = inl is
greater_from (Some a) (Some b) m is = one_of_two a b m (is_kept_with b a) is

of_three : (a b c : Promise) (s t : Bool) → is_kept_with b a ≡ s → is_kept_with c b ≡ t
    → greater_promise (cond s (Some a) (Some b)) (Some c) ≡ greater_promise (Some a) (cond t (Some b) (Some c))
of_three a b c true true e f = rw (e, kept_through a.view a.regency b.view b.regency c.view c.regency e f) refl
of_three a b c true false e f = refl
of_three a b c false true e f = rw (e, f) refl
of_three a b c false false e f = rw (f, unkept_through a.view a.regency b.view b.regency c.view c.regency e f) refl

pub greater_none : (o : Option Promise) → greater_promise o None ≡ o
greater_none None = refl
greater_none (Some a) = refl

pub greater_assoc : (a b c : Option Promise) → greater_promise (greater_promise a b) c ≡ greater_promise a (greater_promise b c)
greater_assoc None b c = refl
greater_assoc (Some a) None c = refl
greater_assoc (Some a) (Some b) None = greater_none (greater_promise (Some a) (Some b))
greater_assoc (Some a) (Some b) (Some c) = of_three a b c (is_kept_with b a) (is_kept_with c b) refl refl

-- ---- the greatest

pub greatest_append : (xs ys : List LogEntry) → greatest_promise (xs ++ ys) ≡ greater_promise (greatest_promise xs) (greatest_promise ys)
greatest_append [] ys = refl
greatest_append (x ∷ xs) ys =
    ap (λ (o : Option Promise). greater_promise (promise_by x) o) (greatest_append xs ys) ∙ sym (greater_assoc (promise_by x) (greatest_promise xs) (greatest_promise ys))

at_least_through : (found : Option Promise) (v r w s : ℕ) → IsAtLeast found w s → (Under w s v r → ⊥) → IsAtLeast found v r
at_least_through found v r w s h k = record { promise = h.promise; is = h.is; most = not_through h.promise.view h.promise.regency w s v r h.most k }

pub greatest_most : (xs : List LogEntry) (p : Promise) → Among (Promised p) xs → IsAtLeast (greatest_promise xs) p.view p.regency
greatest_most [] p there = absurd there
greatest_most (x ∷ xs) p (inl same) =
    subst (λ (y : LogEntry). IsAtLeast (greater_promise (promise_by y) (greatest_promise xs)) p.view p.regency) same (greater_left p (greatest_promise xs))
greatest_most (x ∷ xs) p (inr there) =
    let rest = greatest_most xs p there in
    at_least_through (greater_promise (promise_by x) (greatest_promise xs)) p.view p.regency rest.promise.view rest.promise.regency
    (subst (λ (o : Option Promise). IsAtLeast (greater_promise (promise_by x) o) rest.promise.view rest.promise.regency) (sym rest.is) (greater_right (promise_by x) rest.promise))
    rest.most

promised_as : (x : LogEntry) (p : Promise) → promise_by x ≡ Some p → x ≡ Promised p
promised_as (Promised q) p is = let same : q ≡ p = cc in ap (λ (y : Promise). Promised y) same
promised_as (Opened o) p is = absurd (cc)
promised_as (Wrote w) p is = absurd (cc)
promised_as (Accepted a) p is = absurd (cc)
promised_as (Synced s) p is = absurd (cc)
promised_as (Decided d) p is = absurd (cc)
promised_as (Installed i) p is = absurd (cc)
promised_as (Marked m) p is = absurd (cc)

pub greatest_from : (xs : List LogEntry) (p : Promise) → greatest_promise xs ≡ Some p → Among (Promised p) xs
greatest_from [] p is = absurd (cc)
greatest_from (x ∷ xs) p is =
    ⊎_elim (λ here. inl (sym (promised_as x p here))) (λ later. inr (greatest_from xs p later)) (greater_from (promise_by x) (greatest_promise xs) p is)
