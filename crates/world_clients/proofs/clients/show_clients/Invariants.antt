use Rattle.std.proofs.Common.{◌≡◌, ◌++◌, drop}
use Rattle.std.specs.List.{flat_map}
use Rattle.world_rules.specs.Worlds.{shown_client}
use Rattle.world_clients.proofs.clients.show_clients.Given as goal

-- telling of the clients left tells of all
abbrev pub invariant-loop-client : goal.invariant-loop-client
invariant-loop-client l = l.told.items ++ flat_map shown_client (drop l.client-index l.clients) ≡ l.fn.told.items ++ flat_map shown_client l.clients
