-- Which entries stand in a cut.
use Rattle.std.proofs.Common.{◌≡◌, ⊎_elim, ℕ, ◌+◌, ◌<◌, ◌≤◌, Bool, true, false, cond, List, [], ◌∷◌, ◌++◌, length, take, Option, Some, None, refl, sym, subst, arith, length-append}
use Rattle.vote_book.specs.declared.entry.LogEntry.{LogEntry}
use Rattle.vote_book.specs.declared.entry.LogEntry.TheVariants.{Opened}
use Rattle.vote_book.specs.declared.entry.Opening.{Opening}
use Rattle.vote_book.specs.declared.entry.Promise.{Promise}
use Rattle.vote_book.specs.declared.entry.Start.{Start}
use Rattle.vote_book.specs.Books.{Among, HasMade}
use Rattle.vote_book.specs.Standing.{first_start}
use Rattle.book_laws.specs.BookCuts.{first_opening, greatest_promise, as_opened, as_synced, as_promised, kept_of, before_place, from_place, has_cut, cut_at}
use Rattle.book_laws.proofs.Lists.{among_left, among_right, among_either}
use Rattle.book_laws.proofs.Kept.{kept}
use Rattle.book_laws.proofs.Places.{both_parts}
use Rattle.book_laws.proofs.Cut.{can_cut}
use Rattle.book_laws.proofs.CutAgain.{cut_is}

in_whole : (front back : List LogEntry) (entry : LogEntry) → Among entry (kept_of front ++ back) → Among entry (front ++ back)
in_whole front back entry there =
    ⊎_elim (λ k. among_left entry front back (kept front entry k).there) (λ b. among_right entry front back b) (among_either entry (kept_of front) back there)

pub cut_among : (place : ℕ) (diary : List LogEntry) (entry : LogEntry) → Among entry (cut_at place diary) → Among entry diary
cut_among place diary entry there = by (has_cut place diary) there
  where
    by : (t : Bool) → Among entry (cond t (kept_of (before_place place diary) ++ from_place place diary) diary) → Among entry diary
    by true there = subst (λ (es : List LogEntry). Among entry es) (both_parts place diary) (in_whole (before_place place diary) (from_place place diary) entry there)
    by false there = there

-- what is kept is an opening, a promise and a beginning at most
kept_few : (front : List LogEntry) → length (kept_of front) ≤ 3
kept_few front = by (first_opening front) (greatest_promise front)
  where
    one : (s : Option Start) → length (as_synced s) ≤ 1
    one None = omega arith
    one (Some s) = omega arith

    two : (p : Option Promise) → length (as_promised p front) ≤ 2
    two None = omega arith
    two (Some p) = let fits = one (first_start p.view p.regency front) in omega (arith, fits)

    by : (o : Option Opening) (p : Option Promise) → length (as_opened o ++ as_promised p front) ≤ 3
    by None p = let fits = two p in omega (arith, fits)
    by (Some o) p = let fits = two p in omega (arith, fits)

pub cut_short : (place : ℕ) (diary : List LogEntry) → 0 < place → HasMade diary place → length (cut_at place diary) ≤ length (from_place place diary) + 3
cut_short place diary some has =
    subst (λ (es : List LogEntry). length es ≤ length (from_place place diary) + 3) (sym (cut_is place diary (can_cut place diary some has)))
    (let all = length-append (kept_of (before_place place diary)) (from_place place diary) in let few = kept_few (before_place place diary) in omega (arith, all, few))

pub cut_begun : (place : ℕ) (opening : Opening) (rest : List LogEntry) → take 1 (cut_at place (Opened opening ∷ rest)) ≡ Opened opening ∷ []
cut_begun place opening rest = by (has_cut place (Opened opening ∷ rest))
  where
    by : (t : Bool) → take 1 (cond t (kept_of (before_place place (Opened opening ∷ rest)) ++ from_place place (Opened opening ∷ rest)) (Opened opening ∷ rest)) ≡ Opened opening ∷ []
    by true = refl
    by false = refl
