use Rattle.std.proofs.Common.{◌≡◌, ◌++◌, drop}
use Rattle.std.specs.Prelude.{string_bytes, map}
use Rattle.smart_chart.specs.Pictures.{rows_text}
use Rattle.smart_chart.proofs.picture.push_rows.Given as goal

abbrev pub invariant-loop-at : goal.invariant-loop-at
invariant-loop-at l = string_bytes l.out ++ rows_text l.first l.at (map string_bytes (drop l.at l.lines)) ≡ string_bytes l.fn.out ++ rows_text l.first 0 (map string_bytes l.lines)
