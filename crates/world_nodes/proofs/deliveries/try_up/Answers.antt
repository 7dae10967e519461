use Rattle.world_rules.specs.Worlds.{core_course}
use Rattle.world_nodes.proofs.Hosts.{read_there}
use Rattle.world_nodes.proofs.Idling.{tried_at}
use Rattle.world_nodes.proofs.deliveries.try_up.Goals as goal

pub returns : goal.returns
returns g c =
    tried_at (core_course g.S.Service.meaning) c.args.i c.args.event.now c.args.world.now c.step_at.new.world c.tell_idle.new.world c.index-hosts-i.result c.id-id.result c.in_ok-idle.idle
    (read_there c.args.world.now.hosts c.hosts.result.now c.args.i c.index-hosts-i.result c.index-hosts-i.result c.hosts.ensures c.requires.within c.index-hosts-i.is)
    c.id-id.ensures
    c.in_ok-idle.ensures.idle
    c.in_ok-idle.ensures.world
    c.in_ok-tell_idle.ensures
