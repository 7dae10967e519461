use Rattle.std.proofs.Common.{◌≡◌, ◌++◌, drop}
use Rattle.std.specs.Prelude.{filter}
use Rattle.state_transfer.specs.Plans.{counts}
use Rattle.state_transfer.proofs.plan.add_usable.Given as goal

-- those found so far and those of the marks left are all that are added
abbrev pub invariant-loop-mark : goal.invariant-loop-mark
invariant-loop-mark l = l.found ++ filter (counts l.offers l.place) (drop l.mark-index l.stated) ≡ l.fn.found ++ filter (counts l.offers l.place) l.stated
