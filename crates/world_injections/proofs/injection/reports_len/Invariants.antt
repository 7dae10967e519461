use Rattle.std.proofs.Common.{◌≡◌, ◌+◌, ◌*◌, ◌^◌, ◌≤◌, drop, length, option_map}
use Rattle.std.specs.List.{flat_map}
use Rattle.smart_statements.specs.Reports.{reports}
use Rattle.smart_statements.specs.Spelling.{signed}
use Rattle.world_rules.specs.Injections.{reports_at}
use Rattle.world_injections.proofs.injection.reports_len.Given as goal

-- the bytes so far and those of the reports left are all
abbrev pub invariant-loop-number : goal.invariant-loop-number
invariant-loop-number l = record {
  all : option_map (λ rs. l.bytes + length (flat_map (signed reports) rs)) (reports_at l.sent (drop l.number-index l.numbers))
      ≡ option_map (λ rs. length (flat_map (signed reports) rs)) (reports_at l.sent l.numbers);
  small : l.bytes ≤ l.number-index * 2 ^ 33;
}
