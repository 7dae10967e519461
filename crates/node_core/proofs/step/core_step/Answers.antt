use Rattle.node_state.proofs.Broken.{on_err}
use Rattle.node_core.proofs.Broken.{core_stops}
use Rattle.node_core.proofs.step.core_step.Goals as goal

pub returns-in_err-outcome-clause-err : goal.returns-in_err-outcome-clause-err
returns-in_err-outcome-clause-err g c = on_err _ (core_stops g.S.Service.meaning c.args.node.now c.step_of.new.node c.args.event.now c.in_err-outcome.ensures.err)
