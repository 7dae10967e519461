use Rattle.std.proofs.Common.{refl, sym, ◌∙◌}
use Rattle.node_state.proofs.Broken.{on_err}
use Rattle.node_turns.proofs.Broken.{promise_stops, promised_stops}
use Rattle.node_turns.proofs.turns.promises.Goals as goal

pub returns-in_err-push-clause-err : goal.returns-in_err-push-clause-err
returns-in_err-push-clause-err g c =
    on_err _ (promise_stops c.args.node.now c.args.node.now refl)

pub returns-in_err-promise_next-clause-err : goal.returns-in_err-promise_next-clause-err
returns-in_err-promise_next-clause-err g c =
    on_err _ (promised_stops c.args.node.now c.promise_next.new.node (sym c.promising.ensures.value ∙ c.if-promising.true) c.in_err-promise_next.ensures.err)
