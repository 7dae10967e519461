use Rattle.std.proofs.Common.{refl, ap, ◌∙◌}
use Rattle.smart_messages.specs.declared.regency.Sync.{Sync}
use Rattle.node_rules.specs.Changes.{start_by_sync}
use Rattle.node_turns.proofs.Changes.{adopts_where}
use Rattle.node_state.proofs.Broken.{on_err}
use Rattle.node_turns.proofs.Broken.{adopt_stops, start_stops}
use Rattle.node_turns.proofs.turns.adopts.Goals as goal

pub returns-in_ok-adopt_start-in-Some-clause-node : goal.returns-in_ok-adopt_start-in-Some-clause-node
returns-in_ok-adopt_start-in-Some-clause-node g c =
    c.in_ok-adopt_start-in-Some.ensures.node ∙ adopts_where c.args.node.now c.in-Some.sync.now c.start_by_sync-start.result c.in-Some.ensures.sync
    (c.start_by_sync-start.ensures ∙ ap (λ (s : Sync). start_by_sync s) c.statement.ensures)

pub returns-in_err-duplicate-in-Some-clause-err : goal.returns-in_err-duplicate-in-Some-clause-err
returns-in_err-duplicate-in-Some-clause-err g c =
    on_err _ (adopt_stops c.args.node.now c.args.node.now refl)

pub returns-in_err-push-in-Some-clause-err : goal.returns-in_err-push-in-Some-clause-err
returns-in_err-push-in-Some-clause-err g c =
    on_err _ (adopt_stops c.args.node.now c.args.node.now refl)

pub returns-in_err-adopt_start-in-Some-clause-err : goal.returns-in_err-adopt_start-in-Some-clause-err
returns-in_err-adopt_start-in-Some-clause-err g c =
    on_err _ (start_stops c.args.node.now c.adopt_start.new.node c.in-Some.sync.now c.start_by_sync-start.result c.in-Some.ensures.sync (c.start_by_sync-start.ensures ∙ ap (λ (s : Sync). start_by_sync s) c.statement.ensures)
    c.in_err-adopt_start-in-Some.ensures.err)
