use Rattle.std.proofs.Common.{◌≡◌, length, filter, take}
use Rattle.std.specs.Prelude.{nat_lt}
use Rattle.world_rules.specs.Worlds.{Host}
use Rattle.world_hosts.proofs.host.hosts_below.Given as goal

-- the count so far is that of the hosts gone through
abbrev pub invariant-loop-host : goal.invariant-loop-host
invariant-loop-host g l = l.count ≡ length (filter (λ (h : Host g.row.S.Denot). nat_lt h.node.id l.member) (take l.host-index l.hosts))
