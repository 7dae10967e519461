use Rattle.std.proofs.Common.{◌≡◌, drop}
use Rattle.world_rules.specs.Worlds.{core_course, goes}
use Rattle.world_core.proofs.flow.reach_all.Given as goal

-- going to those left is going to all
abbrev pub invariant-loop-party : goal.invariant-loop-party
invariant-loop-party g l =
    goes (core_course g.S.Service.meaning) l.members l.world l.bytes (drop l.party-index l.to) ≡ goes (core_course g.S.Service.meaning) l.members l.fn.world l.bytes l.to
