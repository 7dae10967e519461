use Rattle.std.proofs.Common.{◌≡◌, ◌++◌, drop, length, option_map}
use Rattle.world_rules.specs.Injections.{marks_at}
use Rattle.world_injections.proofs.injection.marks_at.Given as goal

-- those so far and those left are all
abbrev pub invariant-loop-number : goal.invariant-loop-number
invariant-loop-number l = record {
  all : option_map (λ ms. l.list ++ ms) (marks_at l.sent (drop l.number-index l.numbers)) ≡ marks_at l.sent l.numbers;
  count : length l.list ≡ l.number-index;
}
