use Rattle.std.proofs.Common.{◌≡◌, drop}
use Rattle.std.specs.Prelude.{None}
use Rattle.state_marks.specs.Tables.{best_of}
use Rattle.state_marks.proofs.counting.certified.Given as goal

-- the best so far and that of the marks left make the best of all
abbrev pub invariant-loop-mark : goal.invariant-loop-mark
invariant-loop-mark l = best_of l.view l.marks l.found (drop l.mark-index l.marks) ≡ best_of l.view l.marks None l.marks
