use Rattle.world_rules.specs.Worlds.{core_course, at_listed, settle, node_takes}
use Rattle.world_nodes.proofs.Giving.{found_none, found_some}
use Rattle.world_nodes.proofs.events.give_member.Goals as goal

pub returns-in-None : goal.returns-in-None
returns-in-None g c =
    found_none (at_listed c.args.members.now (λ i w. settle (core_course g.S.Service.meaning) i (node_takes (core_course g.S.Service.meaning) i c.args.event.now w))) c.args.world.now c.args.member c.hosts.result.now
    c.hosts.ensures c.in-None.ensures

pub returns-in-Some : goal.returns-in-Some
returns-in-Some g c =
    found_some c.give_listed.result (at_listed c.args.members.now (λ i w. settle (core_course g.S.Service.meaning) i (node_takes (core_course g.S.Service.meaning) i c.args.event.now w))) c.args.world.now
    c.give_listed.new.world c.args.member c.in-Some.i c.hosts.result.now c.hosts.ensures c.in-Some.ensures c.give_listed.ensures
