use Rattle.smart_messages.proofs.Walks.{report_stands}
use Rattle.smart_messages.proofs.message.stand_report.Goals as goal

pub returns : goal.returns
returns c =
    report_stands c.args.found.now c.stand.new.found c.stand_evidence.new.found c.stand_lock.new.found c.args.report.now c.statement-statement.result.now c.statement-statement.ensures
    c.in_ok-stand.ensures c.in_ok-stand_evidence.ensures c.in_ok-stand_lock.ensures
