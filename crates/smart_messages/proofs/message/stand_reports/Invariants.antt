use Rattle.std.proofs.Common.{◌≡◌, ◌++◌, map, drop}
use Rattle.std.specs.List.{flat_map}
use Rattle.smart_messages.specs.Messages.{sealed_of, in_report}
use Rattle.smart_messages.proofs.message.stand_reports.Given as goal

-- those so far and those of the reports left are all
abbrev pub invariant-loop-report : goal.invariant-loop-report
invariant-loop-report l =
    l.found ++ map sealed_of (flat_map in_report (drop l.report-index l.reports))
    ≡ l.fn.found ++ map sealed_of (flat_map in_report l.fn.reports)
