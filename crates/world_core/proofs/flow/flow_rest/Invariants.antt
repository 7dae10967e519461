use Rattle.std.proofs.Common.{◌≡◌, ◌-◌}
use Rattle.world_rules.specs.Repeats.{repeated, turns, until_rest}
use Rattle.world_rules.specs.Worlds.{core_course, flow_once}
use Rattle.world_core.proofs.flow.flow_rest.Given as goal

-- the turns so far and those left are all
abbrev pub invariant-loop-turn : goal.invariant-loop-turn
invariant-loop-turn g l =
    repeated (flow_once (core_course g.S.Service.meaning) l.members) (turns - l.turn) l.world ≡ until_rest (flow_once (core_course g.S.Service.meaning) l.members) l.fn.world
