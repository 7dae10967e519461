use Rattle.std.proofs.Common.{refl}
use Rattle.durable_store.proofs.Waits.{times_unasks, times_fit, waits_holds, waits_leaves}
use Rattle.durable_store.proofs.laws.a_switch_that_waits_changes_nothing.Goals as goal

pub returns-clause-asked : goal.returns-clause-asked
returns-clause-asked c = λ s snapshot. refl

pub returns-clause-same : goal.returns-clause-same
returns-clause-same c = times_unasks

pub returns-clause-fits : goal.returns-clause-fits
returns-clause-fits c = times_fit

pub returns-clause-keeps : goal.returns-clause-keeps
returns-clause-keeps c = waits_holds

pub returns-clause-leaves : goal.returns-clause-leaves
returns-clause-leaves c = waits_leaves
