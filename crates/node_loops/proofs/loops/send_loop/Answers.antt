use Rattle.node_endings.proofs.Ends.{writes-by}
use Rattle.node_loops.proofs.loops.send_loop.Goals as goal

pub returns-in-Err-clause-wrote : goal.returns-in-Err-clause-wrote
returns-in-Err-clause-wrote g c = writes-by _ _ _ _ _ c.end_of_output.ensures.gave_up c.in-Err.ensures.wrote
