use Rattle.request_pool.proofs.Sound.{small_alone}
use Rattle.request_pool.proofs.laws.a_spelled_request_is_small.Goals as goal

pub returns : goal.returns
returns c = small_alone
