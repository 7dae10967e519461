use Rattle.regency_sync.proofs.Needs.{join_same, promise_same, collecting_same, due_same, batch_same}
use Rattle.regency_sync.proofs.laws.what_is_needed_makes_due.Goals as goal

pub returns-clause-join : goal.returns-clause-join
returns-clause-join c = λ view s. join_same view s

pub returns-clause-promise : goal.returns-clause-promise
returns-clause-promise c = λ view s. promise_same view s

pub returns-clause-collect : goal.returns-clause-collect
returns-clause-collect c = λ view s. collecting_same view s

pub returns-clause-first : goal.returns-clause-first
returns-clause-first c = λ view s. due_same view s

pub returns-clause-batch : goal.returns-clause-batch
returns-clause-batch c = λ view s digest. batch_same view s digest
