use Rattle.std.proofs.Common.{◌≡◌, subst}
use Rattle.std.specs.Prelude.{IfOk}
use Rattle.node_rules.specs.Transfers.{completed_by}
use Rattle.world_rules.specs.Worlds.{Host}
use Rattle.world_nodes.proofs.Hosts.{read_is, put_back}
use Rattle.world_nodes.proofs.events.completed_at.Goals as goal

pub returns-clause-texts : goal.returns-clause-texts
returns-clause-texts g c = λ h there.
    let is = read_is _ c.args.world.now c.args.i h c.index_mut.result.now _ c.world.view_is c.requires c.index_mut.ensures.value there in
    subst (λ (k : Host g.row.S.Denot). IfOk c.completed.result (λ texts. texts.items ≡ completed_by k.node c.args.event.now)) is c.completed.ensures.texts

pub returns-clause-same : goal.returns-clause-same
returns-clause-same g c =
    put_back _ c.args.world.now c.args.i c.index_mut.result.now c.completed.new.self _ c.world.view_is c.requires c.index_mut.ensures.value c.completed.ensures.same
