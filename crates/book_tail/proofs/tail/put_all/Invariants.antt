use Rattle.std.proofs.Common.{◌≡◌, ◌++◌, drop, map}
use Rattle.vote_book.specs.Entries.{entry_text}
use Rattle.book_tail.specs.Tails.{AreTexts}
use Rattle.book_tail.proofs.tail.put_all.Given as goal

-- the texts so far and those of the entries left are all
abbrev pub invariant-loop-entry : goal.invariant-loop-entry
invariant-loop-entry l = record {
  fit : AreTexts l.texts;
  are : l.texts ++ map entry_text (drop l.entry-index l.entries) ≡ l.fn.texts ++ map entry_text l.entries;
}
