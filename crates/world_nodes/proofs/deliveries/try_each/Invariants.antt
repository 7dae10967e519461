use Rattle.std.proofs.Common.{◌≡◌, drop}
use Rattle.world_rules.specs.Worlds.{core_course, tries_each}
use Rattle.world_nodes.proofs.deliveries.try_each.Given as goal

-- the members left make all
abbrev pub invariant-loop-member : goal.invariant-loop-member
invariant-loop-member g l =
    tries_each (core_course g.S.Service.meaning) l.event (drop l.member-index l.members) l.world ≡ tries_each (core_course g.S.Service.meaning) l.event l.members l.fn.world
