use Rattle.std.proofs.Common.{◌≡◌, ◌-◌, []}
use Rattle.world_rules.specs.Repeats.{each_from}
use Rattle.world_rules.specs.Worlds.{core_course, crashes, crash_all}
use Rattle.world_nodes.proofs.crashes.crash_all.Given as goal

-- the nodes so far and those left are all
abbrev pub invariant-loop-i : goal.invariant-loop-i
invariant-loop-i g l =
    each_from (crashes (core_course g.S.Service.meaning) l.image []) (l.count - l.i) l.i l.world ≡ crash_all (core_course g.S.Service.meaning) l.image l.fn.world
