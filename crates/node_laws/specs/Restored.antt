-- What a book shows without its node. Each prefix of the book shows it too, and a member may restart from one.
use Rattle.std.specs.Prelude.{◌≡◌, ℕ, ◌⊎◌, List, []}
use Rattle.smart_base.specs.Lists.{Each}
use Rattle.smart_base.specs.Views.{View}
use Rattle.vote_book.specs.Books.{Lawful}
use Rattle.vote_book.specs.Tidy.{IsTidy}
use Rattle.vote_book.specs.declared.entry.LogEntry.{LogEntry}
use Rattle.agreement_laws.specs.Statements.{Statement}
use Rattle.node_laws.specs.Sound.{AreRanged, HasBatch, IsBackedIn, IsBegun}

-- Entries from which a member may restart, by what has been stated, if these views come to be of them. This is what a sound node's book shows by itself.
pub record IsSoundBook (secret : List ℕ) (stated : List Statement) (views : List View) (entries : List LogEntry) : Type 0 where
  -- if there are entries, the first one is the opening
  pub begun : (entries ≡ []) ⊎ IsBegun entries
  pub lawful : Lawful 0 0 entries
  pub tidy : IsTidy entries
  pub ranged : AreRanged views entries
  -- they rest on what has been stated
  pub backed : Each (IsBackedIn secret views stated) entries
  pub batches : Each (HasBatch secret stated) entries
