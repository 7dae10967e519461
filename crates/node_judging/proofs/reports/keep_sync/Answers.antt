use Rattle.std.proofs.Common.{◌++◌, ◌∷◌, [], refl}
use Rattle.regency_sync.specs.Synchronizers.{keeps_sync}
use Rattle.node_state.proofs.Following.{heard_after}
use Rattle.node_judging.proofs.Keeping.{sync_where}
use Rattle.node_judging.proofs.reports.keep_sync.Goals as goal

pub invariant_of-node : goal.invariant_of-node
invariant_of-node g c =
    heard_after _ _ _ _ _ c.node.inside.instance c.node.inside.synchronizer c.on_sync.new.self (keeps_sync c.node.inside.synchronizer c.args.sync)
    c.node.inside.synchronizer.stops c.node.inside.synchronizer.reports (c.node.inside.synchronizer.syncs ++ c.args.sync ∷ []) c.on_sync.result
    c.on_sync.ensures.ok c.on_sync.ensures.err c.node.invariant

pub returns-clause-node : goal.returns-clause-node
returns-clause-node g c =
    sync_where c.args.node.now _ c.node.inside.instance c.node.inside.synchronizer c.on_sync.new.self c.args.sync c.node.view_is c.node.invariant refl refl refl refl refl c.requires
    c.in_ok-on_sync.ensures.ok
