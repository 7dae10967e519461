use Rattle.std.proofs.Common.{◌≡◌, ◌-◌}
use Rattle.world_rules.specs.Repeats.{repeated, turns, until_rest}
use Rattle.world_rules.specs.Worlds.{core_course, settle_once}
use Rattle.world_nodes.proofs.events.settle.Given as goal

-- the turns so far and those left are all
abbrev pub invariant-loop-turn : goal.invariant-loop-turn
invariant-loop-turn g l =
    repeated (settle_once (core_course g.S.Service.meaning) l.i) (turns - l.turn) l.world ≡ until_rest (settle_once (core_course g.S.Service.meaning) l.i) l.fn.world
