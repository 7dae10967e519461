use Rattle.world_rules.specs.Worlds.{core_course}
use Rattle.world_nodes.proofs.Acting.{due_call, due_delivery, due_none}
use Rattle.world_nodes.proofs.Hosts.{read_there}
use Rattle.world_nodes.proofs.events.settle_up.Goals as goal

pub returns-then-due-clause-world : goal.returns-then-due-clause-world
returns-then-due-clause-world g c =
    let w = c.args.world.now in
    let h = c.index-hosts-i.result in
    let there = read_there w.hosts c.hosts.result.now c.args.i h h c.hosts.ensures c.requires.within c.index-hosts-i.is in
    due_call (core_course g.S.Service.meaning) c.args.i w c.calls_disk.new.world h c.has_call-due.result there c.has_call-due.ensures c.if-due.true c.in_ok-calls_disk.ensures

pub returns-then-waits-clause-world : goal.returns-then-waits-clause-world
returns-then-waits-clause-world g c =
    let w = c.args.world.now in
    let h = c.index-hosts-i.result in
    let there = read_there w.hosts c.hosts.result.now c.args.i h h c.hosts.ensures c.requires.within c.index-hosts-i.is in
    due_delivery (core_course g.S.Service.meaning) c.args.i w c.node_takes.new.world h c.has_call-due.result c.waits-waits.result there c.requires.up c.has_call-due.ensures c.if-due.false c.waits-waits.ensures c.if-waits.true
    c.in_ok-node_takes.ensures

pub returns-clause-world : goal.returns-clause-world
returns-clause-world g c =
    let w = c.args.world.now in
    let h = c.index-hosts-i.result in
    let there = read_there w.hosts c.hosts.result.now c.args.i h h c.hosts.ensures c.requires.within c.index-hosts-i.is in
    due_none (core_course g.S.Service.meaning) c.args.i w h c.has_call-due.result c.waits-waits.result there c.requires.up c.has_call-due.ensures c.if-due.false c.waits-waits.ensures c.if-waits.false
