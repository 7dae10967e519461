use Rattle.std.proofs.Common.{◌≡◌, drop}
use Rattle.replica_rules.specs.Pools.{filled}
use Rattle.request_pool.proofs.Filters.{besides}
use Rattle.request_pool.proofs.gather.Gathering.fill.Given as goal

-- the requests left fill the batch so far as all fill the first
abbrev pub invariant-loop-request : goal.invariant-loop-request
invariant-loop-request l = filled l.self (besides l.place (drop l.request-index l.pool)) ≡ filled l.fn.self (besides l.place l.pool)
