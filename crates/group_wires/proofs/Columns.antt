-- Lists of rows, and their columns.
use Rattle.std.proofs.Common.{◌≡◌, ◌∙◌, ℕ, zero, suc, ◌<◌, List, [], ◌∷◌, ◌++◌, length, map, get_or, slice_set, refl, sym, ap, subst, append_assoc, append-nil, arith}
use Rattle.std.proofs.lemmas.List.{append_cancel_right}
use Rattle.smart_base.specs.Lists.{Each}
use Rattle.queue_ends.specs.Rule.{IsFront}
use Rattle.group_wires.specs.Wires.{at, column, only, AreFronts}

-- ---- what stands at an index

pub at-push : {A : Type 0} (xs : List A) (x : A) (index : ℕ) → at index (xs ++ x ∷ []) ≡ at index xs ++ only (length xs) x index
at-push [] x zero = refl
at-push [] x (suc index) = refl
at-push (y ∷ xs) x zero = refl
at-push (y ∷ xs) x (suc index) = at-push xs x index

pub at-end : {A : Type 0} (xs : List A) → at (length xs) xs ≡ []
at-end [] = refl
at-end (x ∷ xs) = at-end xs

pub only-here : {A : Type 0} (here : ℕ) (x : A) → only here x here ≡ x ∷ []
only-here zero x = refl
only-here (suc here) x = only-here here x

pub column-push : {A : Type 0} (rows : List (List A)) (row : List A) (index : ℕ) → column index (rows ++ row ∷ []) ≡ column index rows ++ at index row
column-push [] row index = append-nil (at index row)
column-push (r ∷ rows) row index = ap (λ xs. at index r ++ xs) (column-push rows row index) ∙ sym (append_assoc (at index r) (column index rows) (at index row))

-- ---- a list of lists, one of which gets one value more

pub set-more : {I A : Type 0} (f : I → List A) (all : List I) (here : ℕ) (old new : I) (x : A) (index : ℕ) → here < length all → old ≡ get_or all here old → f new ≡ f old ++ x ∷ []
    → get_or (map f (slice_set all here new)) index [] ≡ get_or (map f all) index [] ++ only here x index
set-more f [] here old new x index within is more = absurd (omega (arith, within))
set-more f (y ∷ all) zero old new x zero within is more = more ∙ ap (λ i. f i ++ x ∷ []) is
set-more f (y ∷ all) zero old new x (suc index) within is more = sym (append-nil (get_or (map f all) index []))
set-more f (y ∷ all) (suc here) old new x zero within is more = sym (append-nil (f y))
set-more f (y ∷ all) (suc here) old new x (suc index) within is more = set-more f all here old new x index (omega (arith, within)) is more

-- ---- or one value less

pub set-less : {I A : Type 0} (f : I → List A) (all : List I) (here : ℕ) (old new : I) (x : A) (index : ℕ) → here < length all → old ≡ get_or all here old → f old ≡ f new ++ x ∷ []
    → get_or (map f all) index [] ≡ get_or (map f (slice_set all here new)) index [] ++ only here x index
set-less f [] here old new x index within is less = absurd (omega (arith, within))
set-less f (y ∷ all) zero old new x zero within is less = ap (λ i. f i) (sym is) ∙ less
set-less f (y ∷ all) zero old new x (suc index) within is less = sym (append-nil (get_or (map f all) index []))
set-less f (y ∷ all) (suc here) old new x zero within is less = sym (append-nil (f y))
set-less f (y ∷ all) (suc here) old new x (suc index) within is less = set-less f all here old new x index (omega (arith, within)) is less

-- ---- all of several values

pub each-push : {A : Type 0} (P : A → Type 0) (xs : List A) (x : A) → Each P xs → P x → Each P (xs ++ x ∷ [])
each-push P [] x all one = (one, tt)
each-push P (y ∷ xs) x all one = (all.0, each-push P xs x all.1 one)

pub set-each : {I A : Type 0} (f : I → List A) (P : A → Type 0) (all : List I) (here : ℕ) (old new : I) (x : A) → here < length all → old ≡ get_or all here old → f new ≡ f old ++ x ∷ [] → P x
    → Each (λ (xs : List A). Each P xs) (map f all) → Each (λ (xs : List A). Each P xs) (map f (slice_set all here new))
set-each f P [] here old new x within is more one each = absurd (omega (arith, within))
set-each f P (y ∷ all) zero old new x within is more one each =
    (subst (Each P) (sym (more ∙ ap (λ i. f i ++ x ∷ []) is)) (each-push P (f y) x each.0 one), each.1)
set-each f P (y ∷ all) (suc here) old new x within is more one each = (each.0, set-each f P all here old new x (omega (arith, within)) is more one each.1)

-- ---- fronts

pub fronts-add : (xs ys ps qs : List (List (List ℕ))) → AreFronts xs ps → AreFronts ys qs → AreFronts (xs ++ ys) (ps ++ qs)
fronts-add [] ys [] qs first rest = rest
fronts-add [] ys (p ∷ ps) qs first rest = absurd first
fronts-add (x ∷ xs) ys [] qs first rest = absurd first
fronts-add (x ∷ xs) ys (p ∷ ps) qs first rest = (first.0, fronts-add xs ys ps qs first.1 rest)

pub fronts-only : (here : ℕ) (taken put : List (List ℕ)) (index : ℕ) → IsFront taken put → AreFronts (only here taken index) (only here put index)
fronts-only zero taken put zero front = (front, tt)
fronts-only zero taken put (suc index) front = tt
fronts-only (suc here) taken put zero front = tt
fronts-only (suc here) taken put (suc index) front = fronts-only here taken put index front

-- ---- the last value of two lists

pub last-of : {A : Type 0} (rest now tail : List A) (x : A) → now ++ tail ≡ rest ++ (x ∷ tail) → now ≡ rest ++ x ∷ []
last-of rest now tail x same = append_cancel_right now (rest ++ x ∷ []) tail (same ∙ sym (append_assoc rest (x ∷ []) tail))
