use Rattle.std.proofs.Common.{◌≡◌, drop}
use Rattle.replica_rules.specs.Pools.{gathered}
use Rattle.request_pool.proofs.gather.gathered.Given as goal

-- the batch of the requests left is that of all
abbrev pub invariant-loop-i : goal.invariant-loop-i
invariant-loop-i l = gathered (drop l.i l.pool) l.place ≡ gathered l.pool l.place
