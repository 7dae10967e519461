use Rattle.std.proofs.Common.{◌≡◌, ◌++◌, drop, map}
use Rattle.vote_book.specs.Entries.{entry_text}
use Rattle.store_plan.specs.Fit.{AreEntries}
use Rattle.member_store.proofs.store.texts.Given as goal

-- the texts so far and those of the entries left are all
abbrev pub invariant-loop-entry : goal.invariant-loop-entry
invariant-loop-entry l = record {
  fit : AreEntries l.texts;
  are : l.texts ++ map entry_text (drop l.entry-index l.entries) ≡ map entry_text l.entries;
}
