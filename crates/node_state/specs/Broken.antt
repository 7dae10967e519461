-- What is left of a step that was stopped half-way.
use Rattle.std.specs.Prelude.{◌≡◌, List, ◌++◌}
use Rattle.vote_book.specs.declared.entry.LogEntry.{LogEntry}

-- a book with more entries at its end
pub record IsGrown (before after : List LogEntry) : Type 0 where
  pub more : List LogEntry
  pub is : after ≡ before ++ more

-- A book that was to grow from one to another. It has all that was there before, and a prefix of what was to come.
pub record IsPartly (before now after : List LogEntry) : Type 0 where
  pub begun : IsGrown before now
  pub ended : IsGrown now after
