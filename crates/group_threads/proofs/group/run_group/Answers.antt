use Rattle.std.proofs.Common.{rules}
use Rattle.group_threads.proofs.group.run_group.Goals as goal

pub run_beside-requires-clause-accepts : goal.run_beside-requires-clause-accepts
run_beside-requires-clause-accepts g c κs within = λ i p low is. (rw is (c.requires.ready i p.now low), search rules)
