use Rattle.std.proofs.Common.{◌≡◌, ◌++◌, ◌-◌}
use Rattle.world_rules.specs.Worlds.{clients_from}
use Rattle.world_state.proofs.state.first_clients.Given as goal

-- the clients so far and those left are all
abbrev pub invariant-loop-i : goal.invariant-loop-i
invariant-loop-i l = l.clients.items ++ clients_from l.view (l.count - l.i) l.i ≡ clients_from l.view l.count 0
