use Rattle.std.proofs.Common.{◌≡◌, ◌++◌, drop}
use Rattle.std.specs.List.{flat_map}
use Rattle.world_rules.specs.Worlds.{shown_host}
use Rattle.world_hosts.proofs.host.show_hosts.Given as goal

-- telling of the hosts left tells of all
abbrev pub invariant-loop-host : goal.invariant-loop-host
invariant-loop-host g l = l.told.items ++ flat_map (shown_host l.faulty) (drop l.host-index l.hosts) ≡ l.fn.told.items ++ flat_map (shown_host l.faulty) l.hosts
