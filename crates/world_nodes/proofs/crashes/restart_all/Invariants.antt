use Rattle.std.proofs.Common.{◌≡◌, ◌-◌}
use Rattle.world_rules.specs.Repeats.{each_from}
use Rattle.world_rules.specs.Worlds.{core_course, resumes, restart_all}
use Rattle.world_nodes.proofs.crashes.restart_all.Given as goal

-- the nodes so far and those left are all
abbrev pub invariant-loop-i : goal.invariant-loop-i
invariant-loop-i g l =
    each_from (resumes (core_course g.S.Service.meaning)) (l.count - l.i) l.i l.world ≡ restart_all (core_course g.S.Service.meaning) l.fn.world
