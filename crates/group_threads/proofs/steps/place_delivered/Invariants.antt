use Rattle.std.proofs.Common.{◌≡◌, drop}
use Rattle.node_endings.specs.Delivered.{place_fired}
use Rattle.group_threads.proofs.steps.place_delivered.Given as goal

abbrev pub invariant-loop-rule : goal.invariant-loop-rule
invariant-loop-rule l = place_fired (drop l.rule-index l.fired) ≡ place_fired l.fired
