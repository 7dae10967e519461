use Rattle.std.proofs.Common.{◌≡◌, subst}
use Rattle.std.specs.Prelude.{IfOk}
use Rattle.world_rules.specs.Worlds.{Host, core_course, disk_called}
use Rattle.world_hosts.specs.Hearing.{firmness}
use Rattle.world_nodes.proofs.Hosts.{read_is, put_at}
use Rattle.world_nodes.proofs.events.call_host.Goals as goal

pub returns-clause-world : goal.returns-clause-world
returns-clause-world g c = λ h there.
    let is = read_is _ c.args.world.now c.args.i h c.index_mut.result.now _ c.world.view_is c.requires.within c.index_mut.ensures.value there in
    put_at c.call_disk.result _ c.args.world.now c.args.i h c.index_mut.result.now c.call_disk.new.host (λ k. disk_called (core_course g.S.Service.meaning) k) c.world.view_is is c.call_disk.ensures.host

pub returns-clause-event : goal.returns-clause-event
returns-clause-event g c = λ h there.
    let is = read_is _ c.args.world.now c.args.i h c.index_mut.result.now _ c.world.view_is c.requires.within c.index_mut.ensures.value there in
    subst (λ (k : Host g.row.S.Denot). IfOk c.call_disk.result (λ event. event ≡ firmness (disk_called (core_course g.S.Service.meaning) k))) is c.call_disk.ensures.event
