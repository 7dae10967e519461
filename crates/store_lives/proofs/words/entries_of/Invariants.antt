use Rattle.smart_base.specs.Lists.{Each}
use Rattle.store_form.specs.Spelling.{IsEntry}
use Rattle.store_lives.proofs.words.entries_of.Given as goal

abbrev pub invariant-loop-word : goal.invariant-loop-word
invariant-loop-word l = Each IsEntry l.entries.items
