use Rattle.std.proofs.Common.{◌≡◌, ◌++◌, drop}
use Rattle.std.specs.List.{flat_map}
use Rattle.app_kv.specs.Snapshots.{entry_text}
use Rattle.app_kv.proofs.snapshot.put_entries.Given as goal

-- what is written and what is left are all of the text
abbrev pub invariant-loop-entry : goal.invariant-loop-entry
invariant-loop-entry l = l.out.items ++ flat_map entry_text (drop l.entry-index l.entries) ≡ l.fn.out.items ++ flat_map entry_text l.fn.entries
