use Rattle.std.proofs.Common.{◌≡◌, take}
use Rattle.group_ends.specs.Ports.{ends, losts}
use Rattle.group_ends.proofs.sending.losts_of.Given as goal

abbrev pub invariant-loop-index : goal.invariant-loop-index
invariant-loop-index l = record { events : l.events.items ≡ losts l.sent (ends (take l.index l.ports)) (take l.index l.dropped) }
