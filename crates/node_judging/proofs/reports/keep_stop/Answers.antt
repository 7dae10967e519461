use Rattle.std.proofs.Common.{◌++◌, ◌∷◌, [], refl}
use Rattle.regency_sync.specs.Synchronizers.{keeps_stop}
use Rattle.node_state.proofs.Following.{heard_after}
use Rattle.node_judging.proofs.Keeping.{stop_where}
use Rattle.node_judging.proofs.reports.keep_stop.Goals as goal

pub invariant_of-node : goal.invariant_of-node
invariant_of-node g c =
    heard_after _ _ _ _ _ c.node.inside.instance c.node.inside.synchronizer c.on_stop.new.self (keeps_stop c.node.inside.synchronizer c.args.stop)
    (c.node.inside.synchronizer.stops ++ c.args.stop ∷ []) c.node.inside.synchronizer.reports c.node.inside.synchronizer.syncs c.on_stop.result
    c.on_stop.ensures.ok c.on_stop.ensures.err c.node.invariant

pub returns-clause-node : goal.returns-clause-node
returns-clause-node g c =
    stop_where c.args.node.now _ c.node.inside.instance c.node.inside.synchronizer c.on_stop.new.self c.args.stop c.node.view_is c.node.invariant refl refl refl refl refl c.requires
    c.in_ok-on_stop.ensures.ok
