use Rattle.store_laws.proofs.WholeSwitches.{whole_goes, whole_runs, whole_due, whole_begins, whole_leaves, whole_ends, whole_after, whole_waits, whole_unasked}
use Rattle.store_laws.proofs.laws.a_whole_switch_keeps_or_gives.Goals as goal

pub returns-clause-goes : goal.returns-clause-goes
returns-clause-goes c = whole_goes

pub returns-clause-runs : goal.returns-clause-runs
returns-clause-runs c = whole_runs

pub returns-clause-due : goal.returns-clause-due
returns-clause-due c = whole_due

pub returns-clause-begins : goal.returns-clause-begins
returns-clause-begins c = whole_begins

pub returns-clause-leaves : goal.returns-clause-leaves
returns-clause-leaves c = whole_leaves

pub returns-clause-ends : goal.returns-clause-ends
returns-clause-ends c = whole_ends

pub returns-clause-after : goal.returns-clause-after
returns-clause-after c = whole_after

pub returns-clause-waits : goal.returns-clause-waits
returns-clause-waits c = whole_waits

pub returns-clause-unasked : goal.returns-clause-unasked
returns-clause-unasked c = whole_unasked
