use Rattle.std.proofs.Common.{◌∷◌, ◌∙◌, ◌+◌, drop, sym, ap, List, map}
use Rattle.std.proofs.lemmas.List.{drop_more}
use Rattle.smart_statements.specs.Forms.{SignedBy}
use Rattle.smart_statements.specs.declared.report.Report.{Report}
use Rattle.smart_messages.specs.Messages.{sealed_of, in_report}
use Rattle.smart_messages.proofs.Walks.{part_more}
use Rattle.smart_messages.proofs.message.stand_reports.Goals as goal

pub loop-report-preserved : goal.loop-report-preserved
loop-report-preserved c =
    let rest : List (SignedBy Report) = drop (c.loop-report.report-index + 1) c.args.reports.now in
    let is = drop_more c.args.reports.now c.loop-report.report-index _ c.loop-report-test.true ∙ ap (λ (x : SignedBy Report). x ∷ rest) (sym c.report-item.is) in
    part_more sealed_of in_report c.report-item.result rest (drop c.loop-report.report-index c.args.reports.now) c.loop-report.found
    c.stand_report.new.found _ c.in_ok-stand_report.ensures is c.loop-report.invariant
