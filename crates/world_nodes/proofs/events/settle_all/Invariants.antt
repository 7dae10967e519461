use Rattle.std.proofs.Common.{◌≡◌, ◌-◌, slice_get}
use Rattle.world_rules.specs.Repeats.{each_from}
use Rattle.world_rules.specs.Worlds.{core_course, settle_present, at_listed, settle_all}
use Rattle.world_nodes.proofs.events.settle_all.Given as goal

-- the nodes so far and those left are all
abbrev pub invariant-loop-i : goal.invariant-loop-i
invariant-loop-i g l =
    each_from (at_listed l.members (λ i w. settle_present (core_course g.S.Service.meaning) l.members i w (slice_get w.hosts i))) (l.count - l.i) l.i l.world ≡ settle_all (core_course g.S.Service.meaning) l.members l.fn.world
