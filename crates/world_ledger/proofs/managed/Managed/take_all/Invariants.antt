use Rattle.std.proofs.Common.{◌≡◌, drop}
use Rattle.replica_rules.specs.Replicas.{manages_all}
use Rattle.world_ledger.proofs.managed.Managed.take_all.Given as goal

-- what those left make of it is what all make
abbrev pub invariant-loop-request : goal.invariant-loop-request
invariant-loop-request l = manages_all l.place l.self (drop l.request-index l.request-items) ≡ manages_all l.place l.fn.self l.batch
