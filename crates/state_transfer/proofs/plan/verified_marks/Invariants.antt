use Rattle.std.proofs.Common.{◌≡◌, ◌++◌, drop}
use Rattle.std.specs.Prelude.{filter}
use Rattle.smart_statements.specs.Reports.{marks}
use Rattle.replica_rules.specs.Seals.{is_verified}
use Rattle.state_transfer.proofs.plan.verified_marks.Given as goal

-- those found so far and those of the marks left are all that verify
abbrev pub invariant-loop-mark : goal.invariant-loop-mark
invariant-loop-mark l = l.found ++ filter (is_verified marks l.ring) (drop l.mark-index l.stated) ≡ filter (is_verified marks l.ring) l.stated
