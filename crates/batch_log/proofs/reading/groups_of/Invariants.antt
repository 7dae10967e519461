use Rattle.std.proofs.Common.{◌≡◌, ◌++◌, length}
use Rattle.batch_log.specs.Log.{log_bytes, AreGroups}
use Rattle.batch_log.proofs.reading.groups_of.Given as goal

abbrev pub invariant-loop-groups : goal.invariant-loop-groups
invariant-loop-groups l = record { parts : l.bytes ≡ log_bytes l.groups ++ l.rest; fit : AreGroups l.groups }

abbrev pub decreases-loop-groups : goal.decreases-loop-groups
decreases-loop-groups l = length l.rest
