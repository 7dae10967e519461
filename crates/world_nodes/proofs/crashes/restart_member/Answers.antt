use Rattle.std.specs.Prelude.{slice_get}
use Rattle.world_rules.specs.Worlds.{core_course, restart_at}
use Rattle.world_nodes.proofs.Giving.{found_none, found_some}
use Rattle.world_nodes.proofs.crashes.restart_member.Goals as goal

pub returns-in-None : goal.returns-in-None
returns-in-None g c =
    found_none (λ i v. restart_at (core_course g.S.Service.meaning) i v (slice_get v.hosts i)) c.args.world.now c.args.member c.hosts.result.now c.hosts.ensures c.in-None.ensures

pub returns-in-Some : goal.returns-in-Some
returns-in-Some g c =
    found_some c.restart_at.result (λ i v. restart_at (core_course g.S.Service.meaning) i v (slice_get v.hosts i)) c.args.world.now c.restart_at.new.world c.args.member c.in-Some.i c.hosts.result.now c.hosts.ensures
    c.in-Some.ensures c.restart_at.ensures
