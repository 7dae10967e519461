use Rattle.std.proofs.Common.{◌≡◌, drop}
use Rattle.world_rules.specs.Worlds.{host_of}
use Rattle.world_core.proofs.world.find_host.Given as goal

-- the host is among those left, if it is there
abbrev pub invariant-loop-host : goal.invariant-loop-host
invariant-loop-host g l = host_of (drop l.host-index l.hosts) l.id ≡ host_of l.hosts l.id
