use Rattle.std.proofs.Common.{◌≡◌, ◌++◌, ◌+◌, ◌-◌}
use Rattle.world_rules.specs.Scripts.{members_from}
use Rattle.smart_top.proofs.node.first_members.Given as goal

-- the members so far and those left are all
abbrev pub invariant-loop-i : goal.invariant-loop-i
invariant-loop-i l = l.members ++ members_from (l.i + 1) (l.count - l.i) ≡ members_from 1 l.count
