-- The accepts of a book for a place past the last, by the index that it keeps.
use Rattle.std.proofs.Common.{◌≡◌, ℕ, zero, suc, ◌+◌, ◌<◌, ◌≤◌, Bool, true, false, ◌&&◌, ◌==◌, cond, filter, List, [], ◌∷◌, ◌++◌, length, slice_get, Option, None, Some, refl, sym, ap, ◌∙◌, append_assoc, arith, length-append}
use Rattle.std.specs.Prelude.{filter_map}
use Rattle.std.specs.List.{cons_option}
use Rattle.std.proofs.lemmas.Bool.{ltb-false, ne_eqb, and_right}
use Rattle.vote_book.specs.declared.entry.LogEntry.{LogEntry}
use Rattle.vote_book.specs.declared.entry.LogEntry.TheVariants.{Opened, Wrote, Accepted, Promised, Synced, Decided, Installed, Marked}
use Rattle.vote_book.specs.declared.entry.Accept.{Accept}
use Rattle.vote_book.specs.declared.book.accepts.OpenAccept.{OpenAccept}
use Rattle.vote_book.specs.declared.book.index.BookIndex.{BookIndex}
use Rattle.vote_book.specs.Books.{last_made}
use Rattle.vote_book.specs.BookReports.{accept_for}
use Rattle.vote_book.specs.BookIndex.{is_open, is_open_for, accepts_from, as_accept, accept_found, IsIndexOf}
use Rattle.vote_book.proofs.Reports.{get_middle}

closed_other : (view place last : ℕ) (x : OpenAccept) → last < place → is_open last x ≡ false → is_open_for view place x ≡ false
closed_other view place last x past closed =
    let under : x.slot.place ≤ last = ltb-false last x.slot.place closed in
    and_right (x.slot.view == view) (x.slot.place == place) (ne_eqb x.slot.place place (λ (same : x.slot.place ≡ place). omega arith))

-- those for a place past the last are open
kept_for : (view place last : ℕ) → last < place → (xs : List OpenAccept) → filter (is_open_for view place) (filter (is_open last) xs) ≡ filter (is_open_for view place) xs
kept_for view place last past [] = refl
kept_for view place last past (x ∷ xs) = by (is_open last x) refl (kept_for view place last past xs)
  where
    by : (t : Bool) → is_open last x ≡ t → filter (is_open_for view place) (filter (is_open last) xs) ≡ filter (is_open_for view place) xs
        → filter (is_open_for view place) (cond t (x ∷ filter (is_open last) xs) (filter (is_open last) xs)) ≡ filter (is_open_for view place) (x ∷ xs)
    by true there rest = ap (λ (ys : List OpenAccept). cond (is_open_for view place x) (x ∷ ys) ys) rest
    by false closed rest = rest ∙ sym (ap (λ t. cond t (x ∷ filter (is_open_for view place) xs) (filter (is_open_for view place) xs)) (closed_other view place last x past closed))

found_one : (all : List LogEntry) (x : OpenAccept) (a : Accept) (xs : List OpenAccept) (more : List Accept) → slice_get all x.index ≡ Some (Accepted a)
    → ((n : ℕ) → accept_found all (slice_get xs n) ≡ slice_get more n)
    → (t : Bool) (n : ℕ) → accept_found all (slice_get (cond t (x ∷ xs) xs) n) ≡ slice_get (cons_option (cond t (Some a) None) more) n
found_one all x a xs more is rest true zero = ap (λ (e : Option LogEntry). as_accept e) is
found_one all x a xs more is rest true (suc n) = rest n
found_one all x a xs more is rest false n = rest n

found_each : (view place : ℕ) (all front rest : List LogEntry) (index : ℕ) → all ≡ front ++ rest → index ≡ length front
    → (n : ℕ) → accept_found all (slice_get (filter (is_open_for view place) (accepts_from index rest)) n) ≡ slice_get (filter_map (accept_for view place) rest) n
found_each view place all front [] index split at = λ n. refl
found_each view place all front (e ∷ es) index split at =
    by e here (found_each view place all (front ++ e ∷ []) es (index + 1) (split ∙ sym (append_assoc front (e ∷ []) es)) (omega (arith, at, length-append front (e ∷ []))))
  where
    here : slice_get all index ≡ Some e
    here = ap (λ (xs : List LogEntry). slice_get xs index) split ∙ (ap (λ (n : ℕ). slice_get (front ++ e ∷ es) n) at ∙ get_middle front e es)

    by : (e : LogEntry) → slice_get all index ≡ Some e
        → ((n : ℕ) → accept_found all (slice_get (filter (is_open_for view place) (accepts_from (index + 1) es)) n) ≡ slice_get (filter_map (accept_for view place) es) n)
        → (n : ℕ) → accept_found all (slice_get (filter (is_open_for view place) (accepts_from index (e ∷ es))) n) ≡ slice_get (filter_map (accept_for view place) (e ∷ es)) n
    by (Accepted a) is rest =
        found_one all (record { index = index; slot = a.slot }) a (filter (is_open_for view place) (accepts_from (index + 1) es)) (filter_map (accept_for view place) es) is rest
        (a.slot.view == view && a.slot.place == place)
    by (Opened o) is rest = rest
    by (Wrote w) is rest = rest
    by (Promised p) is rest = rest
    by (Synced s) is rest = rest
    by (Decided d) is rest = rest
    by (Installed i) is rest = rest
    by (Marked m) is rest = rest

pub pending_found : (entries : List LogEntry) (x : BookIndex) (view place at n : ℕ) (o : Option OpenAccept) → IsIndexOf entries x → at ≡ place → last_made entries < place
    → o ≡ slice_get (filter (is_open_for view at) x.pending) n → accept_found entries o ≡ slice_get (filter_map (accept_for view place) entries) n
pending_found entries x view place at n o is same past found =
    ap (λ (q : Option OpenAccept). accept_found entries q)
    (found ∙ ap (λ (p : ℕ). slice_get (filter (is_open_for view p) x.pending) n) same
    ∙ ap (λ (ys : List OpenAccept). slice_get ys n)
    (ap (λ (ys : List OpenAccept). filter (is_open_for view place) ys) is.pending ∙ kept_for view place (last_made entries) past (accepts_from 0 entries)))
    ∙ found_each view place entries [] entries 0 refl refl n
