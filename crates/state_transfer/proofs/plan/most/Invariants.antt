use Rattle.std.proofs.Common.{◌≡◌, drop}
use Rattle.state_transfer.specs.Plans.{most_of}
use Rattle.state_transfer.proofs.plan.most.Given as goal

-- the greatest so far and those of the marks left make the greatest of all
abbrev pub invariant-loop-mark : goal.invariant-loop-mark
invariant-loop-mark l = most_of l.view l.table l.found (drop l.mark-index l.table) ≡ most_of l.view l.table 0 l.table
