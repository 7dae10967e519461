-- A cut has no more entries than its book.
use Rattle.std.proofs.Common.{◌≡◌, ℕ, ◌+◌, ◌≤◌, Bool, true, false, cond, List, [], ◌∷◌, ◌++◌, length, Option, Some, None, refl, ap, arith, length-append}
use Rattle.vote_book.specs.declared.entry.LogEntry.{LogEntry}
use Rattle.vote_book.specs.declared.entry.LogEntry.TheVariants.{Opened, Wrote, Accepted, Promised, Synced, Decided, Installed, Marked}
use Rattle.vote_book.specs.declared.entry.Promise.{Promise}
use Rattle.vote_book.specs.declared.entry.Start.{Start}
use Rattle.vote_book.specs.Standing.{first_start}
use Rattle.book_laws.specs.BookCuts.{first_opening, greatest_promise, as_opened, as_synced, as_promised, kept_of, before_place, from_place, has_cut, cut_at}
use Rattle.book_laws.proofs.Places.{both_parts}

-- one promise, or none
abbrev promises : Option Promise → ℕ
promises None = 0
promises (Some p) = 1

one_promise : (o : Option Promise) → promises o ≤ 1
one_promise None = omega arith
one_promise (Some p) = omega arith

one_start : (o : Option Start) → length (as_synced o) ≤ 1
one_start None = omega arith
one_start (Some s) = omega arith

-- the opening, the promise and the beginning that are found among entries are some of them
found_few : (view regency : ℕ) (es : List LogEntry)
    → length (as_opened (first_opening es)) + (promises (greatest_promise es) + length (as_synced (first_start view regency es))) ≤ length es
found_few view regency [] = omega arith
found_few view regency (Opened o ∷ es) = let rest = found_few view regency es in omega (arith, rest)
found_few view regency (Wrote w ∷ es) = let rest = found_few view regency es in omega (arith, rest)
found_few view regency (Accepted a ∷ es) = let rest = found_few view regency es in omega (arith, rest)
found_few view regency (Promised p ∷ es) =
    let rest = found_few view regency es in
    let one = one_promise (greatest_promise (Promised p ∷ es)) in
    omega (arith, rest, one)
found_few view regency (Synced s ∷ es) =
    let rest = found_few view regency es in
    let one = one_start (first_start view regency (Synced s ∷ es)) in
    omega (arith, rest, one)
found_few view regency (Decided d ∷ es) = let rest = found_few view regency es in omega (arith, rest)
found_few view regency (Installed i ∷ es) = let rest = found_few view regency es in omega (arith, rest)
found_few view regency (Marked m ∷ es) = let rest = found_few view regency es in omega (arith, rest)

kept_fits : (front : List LogEntry) → length (kept_of front) ≤ length front
kept_fits front = by (greatest_promise front) refl
  where
    by : (o : Option Promise) → greatest_promise front ≡ o → length (as_opened (first_opening front) ++ as_promised o front) ≤ length front
    by None is =
        let few = found_few 0 0 front in
        let both = length-append (as_opened (first_opening front)) (as_promised None front) in
        omega (arith, few, both)
    by (Some p) is =
        let few = found_few p.view p.regency front in
        let one : promises (greatest_promise front) ≡ 1 = ap promises is in
        let both = length-append (as_opened (first_opening front)) (as_promised (Some p) front) in
        omega (arith, few, one, both)

pub cut_fits : (place : ℕ) (book : List LogEntry) → length (cut_at place book) ≤ length book
cut_fits place book = by (has_cut place book)
  where
    by : (t : Bool) → length (cond t (kept_of (before_place place book) ++ from_place place book) book) ≤ length book
    by true =
        let kept = kept_fits (before_place place book) in
        let cut = length-append (kept_of (before_place place book)) (from_place place book) in
        let all = length-append (before_place place book) (from_place place book) in
        let same : length (before_place place book ++ from_place place book) ≡ length book = ap (λ (es : List LogEntry). length es) (both_parts place book) in
        omega (arith, kept, cut, all, same)
    by false = omega arith
