use Rattle.std.proofs.Common.{◌∙◌}
use Rattle.node_turns.proofs.Changes.{adoption_at, adoption_view, adoption_later}
use Rattle.node_turns.proofs.turns.adoption.Goals as goal

pub returns-clause-sync : goal.returns-clause-sync
returns-clause-sync g c =
    c.first_adoptable.ensures ∙ adoption_at c.args.node.now c.synchronizer.result.now c.syncs.result.now c.syncs.ensures c.synchronizer.ensures

pub returns-clause-view : goal.returns-clause-view
returns-clause-view g c =
    adoption_view c.args.node.now c.first_adoptable.result
    (c.first_adoptable.ensures ∙ adoption_at c.args.node.now c.synchronizer.result.now c.syncs.result.now c.syncs.ensures c.synchronizer.ensures)

pub returns-clause-later : goal.returns-clause-later
returns-clause-later g c =
    adoption_later c.args.node.now c.first_adoptable.result
    (c.first_adoptable.ensures ∙ adoption_at c.args.node.now c.synchronizer.result.now c.syncs.result.now c.syncs.ensures c.synchronizer.ensures)
