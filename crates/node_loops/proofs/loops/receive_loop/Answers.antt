use Rattle.node_endings.proofs.Ends.{reads-by}
use Rattle.node_loops.proofs.loops.receive_loop.Goals as goal

pub returns-clause-reads : goal.returns-clause-reads
returns-clause-reads g c = reads-by _ _ _ _ _ _ c.end_of_input.ensures.early c.take_all-end.ensures.reads

pub returns-clause-form : goal.returns-clause-form
returns-clause-form g c = record { cut = λ frame is. c.take_all-end.ensures.form frame (c.end_of_input.ensures.form frame is) }
