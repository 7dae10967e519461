use Rattle.std.proofs.Common.{◌≡◌, ◌++◌, drop}
use Rattle.std.specs.List.{flat_map}
use Rattle.snapshot_form.specs.Snapshots.{line_text}
use Rattle.snapshot_form.proofs.writing.put_each_line.Given as goal

-- what is written and what is left are all of the text
abbrev pub invariant-loop-line : goal.invariant-loop-line
invariant-loop-line l = l.out.items ++ flat_map line_text (drop l.line-index l.lines) ≡ l.fn.out.items ++ flat_map line_text l.fn.lines
