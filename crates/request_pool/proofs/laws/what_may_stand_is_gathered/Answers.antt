use Rattle.request_pool.proofs.Gathered.{nothing_gathered}
use Rattle.request_pool.proofs.laws.what_may_stand_is_gathered.Goals as goal

pub returns : goal.returns
returns c = nothing_gathered
