use Rattle.std.proofs.Common.{◌≡◌, ◌≤◌, ◌++◌, drop, length, filter_map}
use Rattle.regency_sync.specs.Synchronizers.{first_report}
use Rattle.regency_sync.proofs.find.collect.Given as goal

-- the reports so far and those of the members left are all
abbrev pub invariant-loop-member : goal.invariant-loop-member
invariant-loop-member l = record {
  all : l.items ++ filter_map (first_report l.view l.regency l.reports) (drop l.member-index l.members)
      ≡ filter_map (first_report l.view l.regency l.reports) l.members;
  few : length l.items ≤ l.size;
}
