use Rattle.std.proofs.Common.{refl, ap, ◌∙◌}
use Rattle.node_rules.specs.Nodes.{Node}
use Rattle.node_state.proofs.Broken.{on_err}
use Rattle.node_turns.proofs.Broken.{next_none, next_made}
use Rattle.node_turns.proofs.turns.promise_next.Goals as goal

pub returns-in_err-reported-clause-err : goal.returns-in_err-reported-clause-err
returns-in_err-reported-clause-err g c = on_err _ (next_none c.args.node.now c.args.node.now refl)

pub returns-in_err-promise_to-clause-err : goal.returns-in_err-promise_to-clause-err
returns-in_err-promise_to-clause-err g c = on_err _ (next_none c.args.node.now c.promise_to.new.node c.in_err-promise_to.ensures.err)

pub returns-in_err-hold-clause-err : goal.returns-in_err-hold-clause-err
returns-in_err-hold-clause-err g c =
    on_err _ (next_made c.args.node.now c.promise_to.new.node c.hold.new.self c.next_promise-promise.result c.next_promise-promise.ensures c.in_ok-promise_to.ensures.node
    (c.in_err-hold.ensures.err ∙ ap (λ (n : Node g.row.S.Denot). n.entries) c.node.view_is))
