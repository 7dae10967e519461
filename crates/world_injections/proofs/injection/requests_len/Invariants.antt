use Rattle.std.proofs.Common.{◌≡◌, ◌+◌, ◌*◌, ◌^◌, ◌≤◌, drop, length, option_map}
use Rattle.std.specs.List.{flat_map}
use Rattle.smart_statements.specs.Kinds.{requests}
use Rattle.smart_statements.specs.Spelling.{signed}
use Rattle.world_rules.specs.Injections.{requests_at}
use Rattle.world_injections.proofs.injection.requests_len.Given as goal

-- the bytes so far and those of the requests left are all
abbrev pub invariant-loop-number : goal.invariant-loop-number
invariant-loop-number l = record {
  all : option_map (λ qs. l.bytes + length (flat_map (signed requests) qs)) (requests_at l.sent (drop l.number-index l.asks))
      ≡ option_map (λ qs. length (flat_map (signed requests) qs)) (requests_at l.sent l.asks);
  small : l.bytes ≤ l.number-index * 2 ^ 33;
}
