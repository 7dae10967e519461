use Rattle.std.proofs.Common.{◌≡◌, ◌++◌, drop}
use Rattle.std.specs.Prelude.{string_bytes}
use Rattle.std.specs.List.{flat_map}
use Rattle.smart_chart.specs.Pictures.{shown}
use Rattle.smart_chart.proofs.picture.push_text.Given as goal

abbrev pub invariant-loop-byte : goal.invariant-loop-byte
invariant-loop-byte l = string_bytes l.out ++ flat_map shown (drop l.byte-index l.text) ≡ string_bytes l.fn.out ++ flat_map shown l.text
