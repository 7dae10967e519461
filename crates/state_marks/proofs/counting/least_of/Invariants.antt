use Rattle.std.proofs.Common.{◌≡◌, drop}
use Rattle.state_marks.specs.Tables.{least_of}
use Rattle.state_marks.proofs.counting.least_of.Given as goal

-- the least so far and that of the marks left make the least of all
abbrev pub invariant-loop-mark : goal.invariant-loop-mark
invariant-loop-mark l = least_of l.member l.least (drop l.mark-index l.marks) ≡ least_of l.member l.fn.place l.marks
