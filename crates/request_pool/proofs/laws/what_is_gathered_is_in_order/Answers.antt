use Rattle.request_pool.proofs.Gathered.{gathered_in_order}
use Rattle.request_pool.proofs.laws.what_is_gathered_is_in_order.Goals as goal

pub returns : goal.returns
returns c = gathered_in_order
