use Rattle.std.proofs.Common.{◌≡◌, ◌++◌, drop}
use Rattle.world_rules.specs.Worlds.{asked_in}
use Rattle.world_state.proofs.state.asked_in.Given as goal

-- the clients so far, and those among the ones that are left
abbrev pub invariant-loop-client : goal.invariant-loop-client
invariant-loop-client l = l.asked ++ asked_in (drop l.client-index l.clients) ≡ asked_in l.clients
