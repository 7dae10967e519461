use Rattle.std.proofs.Common.{◌≡◌, map, take}
use Rattle.vote_book.specs.Entries.{entry_text}
use Rattle.node_course.proofs.texts.texts_of.Given as goal

abbrev pub invariant-loop-entry : goal.invariant-loop-entry
invariant-loop-entry l = record { texts : l.texts.items ≡ map entry_text (take l.entry-index l.entries) }
