use Rattle.std.proofs.Common.{◌≡◌, ◌++◌, drop}
use Rattle.std.specs.Prelude.{string_bytes}
use Rattle.world_rules.specs.Texts.{text_of}
use Rattle.world_text.proofs.text.out_text.Given as goal

abbrev pub invariant-loop-line : goal.invariant-loop-line
invariant-loop-line l = string_bytes l.out ++ text_of (drop l.line-index l.lines) ≡ text_of l.lines
