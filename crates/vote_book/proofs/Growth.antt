-- How lawful lists and books grow.
use Rattle.std.proofs.Common.{◌≡◌, ◌⊎◌, inl, inr, ⊎_elim, ℕ, ◌<◌, true, List, [], ◌∷◌, ◌++◌, length, Option, None, Some, refl, sym, ap, subst, ◌∙◌, append_assoc, arith, length-append}
use Rattle.std.specs.Prelude.{◌↔◌}
use Rattle.vote_book.specs.declared.entry.LogEntry.{LogEntry}
use Rattle.vote_book.specs.declared.entry.LogEntry.TheVariants.{Opened, Wrote, Accepted, Promised, Synced, Decided, Installed, Marked}
use Rattle.vote_book.specs.Books.{Book, pushed, ended, restored_of, Admits, Lawful, IsLawful}
use Rattle.vote_book.specs.Admission.{admits, admits_next}
use Rattle.vote_book.proofs.Tested.{admitted, admitting}

-- an entry of a list that one was added to is that one, or stands in the list
pub record Earlier (entries before : List LogEntry) (entry : LogEntry) : Type 0 where
  pub after : List LogEntry
  pub split : entries ≡ before ++ entry ∷ after

pub last_or_earlier : (entries : List LogEntry) (e : LogEntry) (before : List LogEntry) (entry : LogEntry) (after : List LogEntry)
    → entries ++ e ∷ [] ≡ before ++ entry ∷ after → ((entries ≡ before) × (e ≡ entry)) ⊎ Earlier entries before entry
last_or_earlier [] e [] entry after split = inl (refl, cc)
last_or_earlier [] e (b ∷ bs) entry after split = absurd (none bs (rest split))
  where
    rest : e ∷ [] ≡ b ∷ (bs ++ entry ∷ after) → [] ≡ bs ++ entry ∷ after
    rest same = cc

    none : (xs : List LogEntry) → [] ≡ xs ++ entry ∷ after → ⊥
    none [] same = cc
    none (x ∷ xs) same = cc
last_or_earlier (x ∷ xs) e [] entry after split = inr (record { after = xs; split = let head : x ≡ entry = cc in ap (λ (y : LogEntry). y ∷ xs) head })
last_or_earlier (x ∷ xs) e (b ∷ bs) entry after split =
    let head : x ≡ b = cc in
    let tail : xs ++ e ∷ [] ≡ bs ++ entry ∷ after = cc in
    ⊎_elim
    (λ last. inl (let rest : xs ≡ bs = last.0 in cc, last.1))
    (λ earlier. inr (record { after = earlier.after; split = let rest : xs ≡ bs ++ entry ∷ earlier.after = earlier.split in cc }))
    (last_or_earlier xs e bs entry after tail)

pub shrinks : (opening restored : ℕ) (entries : List LogEntry) (e : LogEntry) → Lawful opening restored (entries ++ e ∷ []) → Lawful opening restored entries
shrinks opening restored entries e lawful before entry after split =
    lawful before entry (after ++ e ∷ []) (ap (λ (es : List LogEntry). es ++ e ∷ []) split ∙ append_assoc before (entry ∷ after) (e ∷ []))

pub last_admitted : (opening restored : ℕ) (entries : List LogEntry) (e : LogEntry) → Lawful opening restored (entries ++ e ∷ []) → Admits opening restored entries e
last_admitted opening restored entries e lawful = lawful entries e [] refl

pub grows : (opening restored : ℕ) (entries : List LogEntry) (e : LogEntry) → Lawful opening restored entries → Admits opening restored entries e → Lawful opening restored (entries ++ e ∷ [])
grows opening restored entries e lawful admits before entry after split =
    ⊎_elim
    (λ last. subst (λ (b : List LogEntry). Admits opening restored b entry) last.0 (subst (λ (x : LogEntry). Admits opening restored entries x) last.1 admits))
    (λ earlier. lawful before entry earlier.after earlier.split)
    (last_or_earlier entries e before entry after split)

-- the number of restored entries is asked of installations alone, and as far as it tells whether they are
recounted : (opening restored other : ℕ) (before : List LogEntry) (e : LogEntry) → (length before < other → length before < restored)
    → Admits opening restored before e → Admits opening other before e
recounted opening restored other before (Opened o) count may = may
recounted opening restored other before (Wrote w) count may = may
recounted opening restored other before (Accepted a) count may = may
recounted opening restored other before (Promised p) count may = may
recounted opening restored other before (Synced s) count may = may
recounted opening restored other before (Decided d) count may = may
recounted opening restored other before (Installed i) count may = record { above = may.above; within = λ restoring. may.within (count restoring) }
recounted opening restored other before (Marked m) count may = may

shorter : (entries before : List LogEntry) (e : LogEntry) (after : List LogEntry) → entries ≡ before ++ e ∷ after → length before < length entries
shorter entries before e after split = omega (arith, ap (λ (es : List LogEntry). length es) split, length-append before (e ∷ after))

pub recounts : (opening restored other : ℕ) (entries : List LogEntry) → ((n : ℕ) → n < length entries → n < other → n < restored)
    → Lawful opening restored entries → Lawful opening other entries
recounts opening restored other entries count lawful before entry after split =
    recounted opening restored other before entry (count (length before) (shorter entries before entry after split)) (lawful before entry after split)

pub none_lawful : (opening restored : ℕ) → Lawful opening restored []
none_lawful opening restored before entry after split = absurd (none before split)
  where
    none : (xs : List LogEntry) → [] ≡ xs ++ entry ∷ after → ⊥
    none [] same = cc
    none (x ∷ xs) same = cc

-- a book whose restored entries have ended, or not yet
pub pushed_back : (opening : ℕ) (restored : Option ℕ) (entries : List LogEntry) (e : LogEntry)
    → IsLawful (pushed (record { opening = opening; restored = restored; entries = entries }) e)
    → IsLawful (record { opening = opening; restored = restored; entries = entries })
pushed_back opening None entries e lawful =
    recounts opening (length (entries ++ e ∷ [])) (length entries) entries (λ n within less. omega (arith, less, length-append entries (e ∷ [])))
    (shrinks opening (length (entries ++ e ∷ [])) entries e lawful)
pushed_back opening (Some restored) entries e lawful = shrinks opening restored entries e lawful

pub pushed_on : (opening : ℕ) (restored : Option ℕ) (entries : List LogEntry) (e : LogEntry)
    → IsLawful (record { opening = opening; restored = restored; entries = entries })
    → admits_next (record { opening = opening; restored = restored; entries = entries }) e ≡ true
    → IsLawful (pushed (record { opening = opening; restored = restored; entries = entries }) e)
pushed_on opening None entries e lawful is =
    grows opening (length (entries ++ e ∷ [])) entries e
    (recounts opening (length entries) (length (entries ++ e ∷ [])) entries (λ n within less. within) lawful)
    (admitted opening (length (entries ++ e ∷ [])) entries e is)
pushed_on opening (Some restored) entries e lawful is = grows opening restored entries e lawful (admitted opening restored entries e is)

pub pushing : (b : Book) (e : LogEntry) → IsLawful (pushed b e) ↔ (IsLawful b × (admits_next b e ≡ true))
pushing b e = (
  λ lawful. (pushed_back b.opening b.restored b.entries e lawful, admitting b.opening (restored_of (pushed b e)) b.entries e (last_admitted b.opening (restored_of (pushed b e)) b.entries e lawful)),
  λ both. pushed_on b.opening b.restored b.entries e both.0 both.1,
)

ending_at : (opening : ℕ) (restored : Option ℕ) (entries : List LogEntry)
    → restored_of (ended (record { opening = opening; restored = restored; entries = entries })) ≡ restored_of (record { opening = opening; restored = restored; entries = entries })
ending_at opening None entries = refl
ending_at opening (Some restored) entries = refl

pub ending : (b : Book) → IsLawful (ended b) ↔ IsLawful b
ending b =
    let same = ending_at b.opening b.restored b.entries in (
      λ lawful. subst (λ (n : ℕ). Lawful b.opening n b.entries) same lawful,
      λ lawful. subst (λ (n : ℕ). Lawful b.opening n b.entries) (sym same) lawful,
    )
