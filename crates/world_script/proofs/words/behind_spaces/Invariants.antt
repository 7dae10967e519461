use Rattle.std.proofs.Common.{◌≡◌, ◌-◌}
use Rattle.world_rules.specs.Scripts.{behind_spaces}
use Rattle.world_script.proofs.words.behind_spaces.Given as goal

-- what stands behind the spaces left
abbrev pub invariant-loop : goal.invariant-loop
invariant-loop l = behind_spaces (l.count - l.counter) l.rest ≡ behind_spaces l.count l.bytes
