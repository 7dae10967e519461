use Rattle.std.proofs.Common.{◌≡◌}
use Rattle.world_rules.specs.Worlds.{meets}
use Rattle.world_state.proofs.state.WorldState.meet_all.Given as goal

-- meeting what is left meets all
abbrev pub invariant-loop-snapshot : goal.invariant-loop-snapshot
invariant-loop-snapshot g l = meets l.self l.snapshot-iterator.rest.items ≡ meets l.fn.self l.fn.snapshots.items
