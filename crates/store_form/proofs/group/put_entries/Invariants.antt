use Rattle.std.proofs.Common.{◌≡◌, ◌++◌, drop}
use Rattle.std.specs.Int.{w32}
use Rattle.std.specs.List.{flat_map}
use Rattle.smart_base.specs.Spelling.{behind}
use Rattle.store_form.proofs.group.put_entries.Given as goal

-- what is written and what is left are all of the text
abbrev pub invariant-loop-entry : goal.invariant-loop-entry
invariant-loop-entry l = l.out.items ++ flat_map (λ entry. behind w32 entry) (drop l.entry-index l.entries) ≡ l.fn.out.items ++ flat_map (λ entry. behind w32 entry) l.fn.entries
