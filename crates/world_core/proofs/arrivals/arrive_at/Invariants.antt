use Rattle.std.proofs.Common.{◌≡◌, drop}
use Rattle.world_rules.specs.Worlds.{core_course, arrives_at}
use Rattle.world_core.proofs.arrivals.arrive_at.Given as goal

-- arriving at those left is arriving at all
abbrev pub invariant-loop-party : goal.invariant-loop-party
invariant-loop-party g l =
    arrives_at (core_course g.S.Service.meaning) l.bytes (drop l.party-index l.to) l.world ≡ arrives_at (core_course g.S.Service.meaning) l.bytes l.to l.fn.world
