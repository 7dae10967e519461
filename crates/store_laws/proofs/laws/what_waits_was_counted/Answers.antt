use Rattle.store_laws.proofs.LogCounts.{opened_counts, call_counts, waits_counted, given_counts}
use Rattle.store_laws.proofs.laws.what_waits_was_counted.Goals as goal

pub returns-clause-opened : goal.returns-clause-opened
returns-clause-opened c = opened_counts

pub returns-clause-called : goal.returns-clause-called
returns-clause-called c = call_counts

pub returns-clause-waits : goal.returns-clause-waits
returns-clause-waits c = waits_counted

pub returns-clause-given : goal.returns-clause-given
returns-clause-given c = given_counts
