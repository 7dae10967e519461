use Rattle.std.proofs.Common.{◌≡◌, max, drop}
use Rattle.regency_sync.specs.Choices.{greatest_last}
use Rattle.regency_sync.proofs.choosing.greatest_last.Given as goal

-- the greatest so far and those of the reports left make the greatest of all
abbrev pub invariant-loop-report : goal.invariant-loop-report
invariant-loop-report l = max l.last (greatest_last (drop l.report-index l.reports)) ≡ greatest_last l.reports
