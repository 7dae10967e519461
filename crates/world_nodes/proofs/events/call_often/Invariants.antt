use Rattle.std.proofs.Common.{◌≡◌, ◌-◌}
use Rattle.world_rules.specs.Worlds.{core_course, calls_disk}
use Rattle.world_rules.specs.Repeats.{repeated}
use Rattle.world_nodes.proofs.events.call_often.Given as goal

-- the calls that are left lead to the end
abbrev pub invariant-loop-turn : goal.invariant-loop-turn
invariant-loop-turn g l =
    repeated (calls_disk (core_course g.S.Service.meaning) l.i) (l.count - l.turn) l.world ≡ repeated (calls_disk (core_course g.S.Service.meaning) l.i) l.count l.fn.world
