use Rattle.std.proofs.Common.{◌≡◌}
use Rattle.world_rules.specs.Worlds.{sends_all}
use Rattle.world_state.proofs.state.WorldState.send_all.Given as goal

-- sending what is left sends all
abbrev pub invariant-loop-message : goal.invariant-loop-message
invariant-loop-message g l = sends_all l.id l.view l.self l.message-iterator.rest.items ≡ sends_all l.id l.view l.fn.self l.fn.held
