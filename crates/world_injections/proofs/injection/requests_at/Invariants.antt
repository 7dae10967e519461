use Rattle.std.proofs.Common.{◌≡◌, ◌++◌, drop, option_map}
use Rattle.world_rules.specs.Injections.{requests_at}
use Rattle.world_injections.proofs.injection.requests_at.Given as goal

-- those so far and those left are all
abbrev pub invariant-loop-number : goal.invariant-loop-number
invariant-loop-number l = option_map (λ qs. l.list ++ qs) (requests_at l.sent (drop l.number-index l.asks)) ≡ requests_at l.sent l.asks
