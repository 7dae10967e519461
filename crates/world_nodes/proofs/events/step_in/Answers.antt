use Rattle.std.proofs.Common.{◌≡◌, ℕ, ◌++◌, ◌∙◌, ap, subst, List}
use Rattle.std.specs.List.{flat_map}
use Rattle.node_rules.specs.Kept.{core_step}
use Rattle.node_rules.specs.Steps.{leaving}
use Rattle.world_rules.specs.Worlds.{Host, snapshot_in}
use Rattle.world_hosts.specs.Hearing.{is_idle}
use Rattle.world_nodes.proofs.Hosts.{read_is, put_step}
use Rattle.world_nodes.proofs.events.step_in.Goals as goal

pub returns-clause-world : goal.returns-clause-world
returns-clause-world g c = λ h there.
    let is = read_is _ c.args.world.now c.args.i h c.index_mut.result.now _ c.world.view_is c.requires.within c.index_mut.ensures.value there in
    put_step g.S.Service.meaning c.args.event.now _ c.args.world.now c.args.i h c.index_mut.result.now c.step_host.new.host c.step_host.new.chosen c.step_host.new.told.items c.world.view_is is
    c.in_ok-left.ensures.host c.in_ok-left.ensures.chosen c.in_ok-left.ensures.told

pub returns-clause-left : goal.returns-clause-left
returns-clause-left g c = λ h there.
    let is = read_is _ c.args.world.now c.args.i h c.index_mut.result.now _ c.world.view_is c.requires.within c.index_mut.ensures.value there in
    subst (λ (k : Host g.row.S.Denot). c.in_ok-left.left.messages ≡ leaving (core_step g.S.Service.meaning k.node c.args.event.now).node.firm (core_step g.S.Service.meaning k.node c.args.event.now).node.held) is c.in_ok-left.ensures.left

pub returns-clause-idle : goal.returns-clause-idle
returns-clause-idle g c = λ h there.
    let is = read_is _ c.args.world.now c.args.i h c.index_mut.result.now _ c.world.view_is c.requires.within c.index_mut.ensures.value there in
    subst (λ (k : Host g.row.S.Denot). c.in_ok-left.left.idle ≡ is_idle (core_step g.S.Service.meaning k.node c.args.event.now).fired) is c.in_ok-left.ensures.idle

pub returns-clause-marked : goal.returns-clause-marked
returns-clause-marked g c = λ h there.
    let is = read_is _ c.args.world.now c.args.i h c.index_mut.result.now _ c.world.view_is c.requires.within c.index_mut.ensures.value there in
    subst (λ (k : Host g.row.S.Denot). c.step_host.new.marked.items ≡ flat_map snapshot_in (core_step g.S.Service.meaning k.node c.args.event.now).fired) is
    (c.in_ok-left.ensures.marked
    ∙ ap (λ (xs : List (List ℕ)). xs ++ flat_map snapshot_in (core_step g.S.Service.meaning c.index_mut.result.now.node c.args.event.now).fired) c.new-marked.ensures.items)
