use Rattle.std.proofs.Common.{◌≡◌, ◌++◌, drop}
use Rattle.std.specs.Prelude.{string_bytes, map}
use Rattle.smart_chart.specs.Transcripts.{lines_from, lines_of}
use Rattle.smart_chart.proofs.lines.lines_of.Given as goal

abbrev pub invariant-loop-byte : goal.invariant-loop-byte
invariant-loop-byte l = map string_bytes l.lines.done.items ++ lines_from (string_bytes l.lines.line) (drop l.byte-index l.bytes) ≡ lines_of l.bytes
