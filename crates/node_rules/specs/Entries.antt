-- The growth of a book.
use Rattle.std.specs.Prelude.{◌≡◌, ◌≤◌, ℕ, List, ◌++◌, length}
use Rattle.vote_book.specs.declared.entry.LogEntry.{LogEntry}

-- a book after at most `most` entries were added at its end
pub record AddsAtMost (most : ℕ) (before after : List LogEntry) : Type 0 where
  pub more : List LogEntry
  pub is : after ≡ before ++ more
  pub few : length more ≤ most
