use Rattle.replica_rules.specs.Replicas.{is_next}
use Rattle.request_pool.proofs.Clients.{distinct_offered, distinct_filtered, distinct_sub}
use Rattle.request_pool.proofs.Gathered.{gathered_in_order}
use Rattle.request_pool.proofs.laws.a_client_has_one_request.Goals as goal

pub returns-clause-offered : goal.returns-clause-offered
returns-clause-offered c = distinct_offered

pub returns-clause-settled : goal.returns-clause-settled
returns-clause-settled c = λ table pool one. distinct_filtered (λ q. is_next table q.statement) pool one

pub returns-clause-gathered : goal.returns-clause-gathered
returns-clause-gathered c = λ pool place batch one is. distinct_sub pool batch (gathered_in_order pool place batch is) one
