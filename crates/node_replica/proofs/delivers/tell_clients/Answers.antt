use Rattle.std.proofs.Common.{◌≡◌, ap, ◌∙◌}
use Rattle.node_rules.specs.Nodes.{Node}
use Rattle.node_state.proofs.Broken.{on_err}
use Rattle.node_replica.proofs.Delivering.{replying_entries}
use Rattle.node_replica.proofs.delivers.tell_clients.Goals as goal
use Rattle.node_replica.proofs.delivers.tell_clients.Goals.{then-answers+in_ok-replying, else-answers}

pub returns-in_err-hold_view_told-clause-err : goal.returns-in_err-hold_view_told-clause-err
returns-in_err-hold_view_told-clause-err g c =
    let replied : c.if-answers.node.entries ≡ c.args.node.now.entries = elim c.if-answers.branch [
      | then-answers+in_ok-replying w ↦ ap (λ (n : Node g.row.S.Denot). n.entries) (w.node-is ∙ w.in_ok-replying.ensures.node) ∙ replying_entries c.args.lines c.args.node.now
      | else-answers w ↦ ap (λ (n : Node g.row.S.Denot). n.entries) w.node-is
    ] in
    on_err _ (c.in_err-hold_view_told.ensures.err ∙ replied)
