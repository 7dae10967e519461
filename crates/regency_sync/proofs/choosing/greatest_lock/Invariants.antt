use Rattle.std.proofs.Common.{◌≡◌, drop}
use Rattle.std.specs.Option.{option_copied}
use Rattle.regency_sync.specs.Choices.{greater, greatest_lock}
use Rattle.regency_sync.proofs.choosing.greatest_lock.Given as goal

-- the greatest so far and that of the reports left make the greatest of all
abbrev pub invariant-loop-report : goal.invariant-loop-report
invariant-loop-report l = greater (option_copied l.found) (greatest_lock l.last (drop l.report-index l.reports)) ≡ greatest_lock l.last l.reports
