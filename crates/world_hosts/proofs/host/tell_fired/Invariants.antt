use Rattle.std.proofs.Common.{◌≡◌, ◌++◌, drop}
use Rattle.std.specs.List.{flat_map}
use Rattle.world_rules.specs.Worlds.{told_fired}
use Rattle.world_hosts.proofs.host.tell_fired.Given as goal

-- telling what is left tells all
abbrev pub invariant-loop-rule : goal.invariant-loop-rule
invariant-loop-rule l = l.told.items ++ flat_map (told_fired l.id) (drop l.rule-index l.fired) ≡ l.fn.told.items ++ flat_map (told_fired l.id) l.fired
