use Rattle.std.proofs.Common.{◌≡◌, ◌++◌, drop}
use Rattle.world_rules.specs.Worlds.{hosts_from}
use Rattle.world_state.proofs.state.first_hosts.Given as goal

-- the hosts so far and those of the members left are all
abbrev pub invariant-loop-id : goal.invariant-loop-id
invariant-loop-id g l = l.hosts.items ++ hosts_from g.S.Service.meaning l.view l.period (drop l.id-index l.id-items) ≡ hosts_from g.S.Service.meaning l.view l.period l.view.members
