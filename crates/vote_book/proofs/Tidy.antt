-- How tidy lists grow, and what stays so of fronts.
use Rattle.std.proofs.Common.{◌≡◌, ⊎_elim, ℕ, List, [], ◌∷◌, ◌++◌, refl, ap, subst, ◌∙◌, append_assoc}
use Rattle.vote_book.specs.declared.entry.LogEntry.{LogEntry}
use Rattle.vote_book.specs.Books.{Lawful}
use Rattle.vote_book.specs.Tidy.{IsTidyAfter, IsTidy}
use Rattle.vote_book.proofs.Growth.{last_or_earlier}

pub none_tidy : IsTidy []
none_tidy before entry after split = absurd (none before split)
  where
    none : (xs : List LogEntry) → [] ≡ xs ++ entry ∷ after → ⊥
    none [] same = cc
    none (x ∷ xs) same = cc

-- where an entry stands in a front, it stands in the whole
in_whole : (front rest before : List LogEntry) (entry : LogEntry) (after : List LogEntry) → front ≡ before ++ entry ∷ after → front ++ rest ≡ before ++ entry ∷ (after ++ rest)
in_whole front rest before entry after split = ap (λ (es : List LogEntry). es ++ rest) split ∙ append_assoc before (entry ∷ after) rest

pub front_lawful : (opening restored : ℕ) (front rest : List LogEntry) → Lawful opening restored (front ++ rest) → Lawful opening restored front
front_lawful opening restored front rest lawful before entry after split = lawful before entry (after ++ rest) (in_whole front rest before entry after split)

pub front_tidy : (front rest : List LogEntry) → IsTidy (front ++ rest) → IsTidy front
front_tidy front rest tidy before entry after split = tidy before entry (after ++ rest) (in_whole front rest before entry after split)

pub last_tidy : (entries : List LogEntry) (e : LogEntry) → IsTidy (entries ++ e ∷ []) → IsTidyAfter entries e
last_tidy entries e tidy = tidy entries e [] refl

pub grows_tidy : (entries : List LogEntry) (e : LogEntry) → IsTidy entries → IsTidyAfter entries e → IsTidy (entries ++ e ∷ [])
grows_tidy entries e tidy neat before entry after split =
    ⊎_elim
    (λ last. subst (λ (b : List LogEntry). IsTidyAfter b entry) last.0 (subst (λ (x : LogEntry). IsTidyAfter entries x) last.1 neat))
    (λ earlier. tidy before entry earlier.after earlier.split)
    (last_or_earlier entries e before entry after split)
