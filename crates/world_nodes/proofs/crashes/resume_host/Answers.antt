use Rattle.std.proofs.Common.{◌≡◌, length, subst}
use Rattle.std.specs.Prelude.{IfOk, OnOk}
use Rattle.world_rules.specs.Worlds.{parts_held}
use Rattle.world_hosts.specs.Lives.{node_in, host_with, told_with}
use Rattle.world_nodes.proofs.Hosts.{read_is, put_in, told_in}
use Rattle.world_nodes.proofs.crashes.resume_host.Goals as goal

pub returns-clause-world : goal.returns-clause-world
returns-clause-world g c = λ h there.
    let is = read_is _ c.args.world.now c.args.i h c.index_mut.result.now _ c.world.view_is c.requires.within c.index_mut.ensures.value there in
    let k = c.index_mut.result.now in
    let done = subst (λ v. OnOk c.resume.result (c.resume.new.host ≡ host_with k (node_in g.S.Service.meaning v c.world.inside.period k))) c.first.ensures c.resume.ensures.host in
    put_in c.resume.result _ c.args.world.now c.args.i h k c.resume.new.host (λ v k. host_with k (node_in g.S.Service.meaning v.view v.period k)) c.world.view_is is done

pub returns-clause-line : goal.returns-clause-line
returns-clause-line g c = λ h there.
    let is = read_is _ c.args.world.now c.args.i h c.index_mut.result.now _ c.world.view_is c.requires.within c.index_mut.ensures.value there in
    let k = c.index_mut.result.now in
    let done = subst (λ v. IfOk c.resume.result (λ line. line ≡ told_with k.node.id (length (parts_held k).entries) (node_in g.S.Service.meaning v c.world.inside.period k))) c.first.ensures c.resume.ensures.line in
    told_in c.resume.result _ c.args.world.now h k (λ v k. told_with k.node.id (length (parts_held k).entries) (node_in g.S.Service.meaning v.view v.period k)) c.world.view_is is done
