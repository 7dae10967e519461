use Rattle.std.proofs.Common.{◌≡◌, ◌≤◌, ◌++◌, drop, length, filter_map}
use Rattle.state_transfer.specs.Plans.{first_mark}
use Rattle.state_transfer.proofs.plan.first_marks.Given as goal

-- the marks so far and those of the members left are all
abbrev pub invariant-loop-member : goal.invariant-loop-member
invariant-loop-member l = record {
  all : l.items ++ filter_map (first_mark l.table l.wanted) (drop l.member-index l.members) ≡ filter_map (first_mark l.table l.wanted) l.members;
  few : length l.items ≤ l.size;
}
