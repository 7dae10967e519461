use Rattle.std.proofs.Common.{◌++◌, ◌∷◌, [], refl}
use Rattle.regency_sync.specs.Synchronizers.{keeps_report}
use Rattle.node_state.proofs.Following.{heard_after}
use Rattle.node_judging.proofs.Keeping.{report_where}
use Rattle.node_judging.proofs.reports.keep_report.Goals as goal

pub invariant_of-node : goal.invariant_of-node
invariant_of-node g c =
    heard_after _ _ _ _ _ c.node.inside.instance c.node.inside.synchronizer c.on_stopdata.new.self (keeps_report c.node.inside.synchronizer c.args.reported)
    c.node.inside.synchronizer.stops (c.node.inside.synchronizer.reports ++ c.args.reported ∷ []) c.node.inside.synchronizer.syncs c.on_stopdata.result
    c.on_stopdata.ensures.ok c.on_stopdata.ensures.err c.node.invariant

pub returns-clause-node : goal.returns-clause-node
returns-clause-node g c =
    report_where c.args.node.now _ c.node.inside.instance c.node.inside.synchronizer c.on_stopdata.new.self c.args.reported c.node.view_is c.node.invariant refl refl refl refl refl c.requires
    c.in_ok-on_stopdata.ensures.ok
