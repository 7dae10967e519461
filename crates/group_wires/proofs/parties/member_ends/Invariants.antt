use Rattle.std.proofs.Common.{◌≡◌}
use Rattle.group_wires.specs.Wires.{member_ends}
use Rattle.group_wires.proofs.parties.member_ends.Given as goal

abbrev pub invariant-loop-before : goal.invariant-loop-before
invariant-loop-before l = record { ends : l.ends.items ≡ member_ends l.before }
