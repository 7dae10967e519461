use Rattle.std.proofs.Common.{◌≡◌, ◌+◌, drop, length}
use Rattle.node_rules.specs.Steps.{leaving}
use Rattle.outbox.proofs.outbox.count_leaving.Given as goal

-- those so far and those that leave of the rest are all that leave
abbrev pub invariant-loop-index : goal.invariant-loop-index
invariant-loop-index l = l.index + length (leaving l.firm (drop l.index l.held.items)) ≡ length (leaving l.firm l.held.items)
