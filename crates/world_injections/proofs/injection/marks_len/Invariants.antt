use Rattle.std.proofs.Common.{◌≡◌, ◌+◌, ◌*◌, ◌^◌, ◌≤◌, drop, length, option_map}
use Rattle.std.specs.List.{flat_map}
use Rattle.smart_statements.specs.Reports.{marks}
use Rattle.smart_statements.specs.Spelling.{signed}
use Rattle.world_rules.specs.Injections.{marks_at}
use Rattle.world_injections.proofs.injection.marks_len.Given as goal

-- the bytes so far and those of the marks left are all
abbrev pub invariant-loop-number : goal.invariant-loop-number
invariant-loop-number l = record {
  all : option_map (λ ms. l.bytes + length (flat_map (signed marks) ms)) (marks_at l.sent (drop l.number-index l.numbers))
      ≡ option_map (λ ms. length (flat_map (signed marks) ms)) (marks_at l.sent l.numbers);
  small : l.bytes ≤ l.number-index * 2 ^ 33;
}
