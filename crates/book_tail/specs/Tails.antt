-- How the entries that are kept beside a checkpoint are found.
use Rattle.std.specs.Prelude.{ℕ, ◌<◌, ◌^◌, Bool, is_some, List, [], ◌∷◌, length, Option, None, Some}
use Rattle.smart_base.specs.Lists.{Each}
use Rattle.vote_book.specs.declared.entry.LogEntry.{LogEntry}
use Rattle.vote_book.specs.Standing.{start_by}
use Rattle.book_laws.specs.BookCuts.{opening_by}

-- an entry that is an opening
abbrev pub is_opening : LogEntry → Bool
is_opening entry = is_some (opening_by entry)

-- an entry that is the beginning of this regency of a view
abbrev pub is_start : ℕ → ℕ → LogEntry → Bool
is_start view regency entry = is_some (start_by view regency entry)

-- an entry that was found, if one was
abbrev pub found : Option LogEntry → List LogEntry
found None = []
found (Some entry) = entry ∷ []

-- the bytes of entries that a log has room for
abbrev pub AreTexts : List (List ℕ) → Type 0
AreTexts texts = Each (λ text. length text < 2 ^ 32) texts
