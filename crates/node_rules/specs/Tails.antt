-- What a node's store keeps of its book beside a checkpoint.
use Rattle.std.specs.Prelude.{ℕ, ◌-◌, length, map}
use Rattle.vote_book.specs.Entries.{entry_text}
use Rattle.book_laws.specs.BookCuts.{cut_at, until_installed}
use Rattle.node_rules.specs.Nodes.{Node}
use Rattle.node_rules.specs.declared.node.BookTail.{BookTail}

-- The tail beside a checkpoint of a place: the cut there of the book, up to the first entry that installs a later place, and how many of
-- these entries were made in this life. Later entries wait for the switch to that place.
unfoldable pub tail_of : {S : Type 0} → Node S → ℕ → BookTail
tail_of n place = record {
  made = length (until_installed place n.entries) - n.restored;
  entries = map entry_text (cut_at place (until_installed place n.entries));
}
