use Rattle.std.proofs.Common.{ap, ◌∙◌}
use Rattle.smart_statements.specs.Forms.{SignedBy}
use Rattle.smart_messages.specs.declared.regency.Sync.{Sync}
use Rattle.smart_messages.proofs.Walks.{proposal_stands, reported_stands, sync_stands, decision_stands, offer_stands}
use Rattle.smart_messages.proofs.message.stand_all.Goals as goal

pub returns-in_ok-stand_each-in-Propose : goal.returns-in_ok-stand_each-in-Propose
returns-in_ok-stand_each-in-Propose c =
    let p = c.in-Propose.proposed in
    rw c.in-Propose.is
    (proposal_stands c.args.found.now c.stand-in-Propose.new.found c.stand_each.new.found p.head p.batch c.as_slice.result.now c.as_slice.ensures.value
    c.in_ok-stand-in-Propose.ensures c.in_ok-stand_each-in-Propose.ensures)

pub returns-in_ok-stand_batch-in-StopData : goal.returns-in_ok-stand_batch-in-StopData
returns-in_ok-stand_batch-in-StopData c =
    let r = c.in-StopData.reported in
    rw c.in-StopData.is
    (reported_stands c.args.found.now c.stand_report.new.found c.stand_batch.new.found r.head r.batch c.in_ok-stand_report-in-StopData.ensures c.in_ok-stand_batch-in-StopData.ensures)

pub returns-in_ok-stand_reports-in-Sync : goal.returns-in_ok-stand_reports-in-Sync
returns-in_ok-stand_reports-in-Sync c =
    rw c.in-Sync.is
    (sync_stands c.args.found.now c.stand-in-Sync.new.found c.stand_reports.new.found c.in-Sync.sync c.as_slice-reports.result.now (c.as_slice-reports.ensures.value ∙ ap (λ s. s.collect) c.statement.ensures)
    c.in_ok-stand-in-Sync.ensures c.in_ok-stand_reports-in-Sync.ensures)

pub returns-in_ok-stand_each-in-Decision-2 : goal.returns-in_ok-stand_each-in-Decision-2
returns-in_ok-stand_each-in-Decision-2 c =
    let d = c.in-Decision.proven in
    rw c.in-Decision.is
    (decision_stands c.args.found.now c.stand_each-in-Decision.new.found c.stand_each-in-Decision-2.new.found d.accepts c.as_slice-in-Decision.result.now d.batch c.as_slice-in-Decision-2.result.now
    c.as_slice-in-Decision.ensures.value c.as_slice-in-Decision-2.ensures.value c.in_ok-stand_each-in-Decision.ensures c.in_ok-stand_each-in-Decision-2.ensures)

pub returns-in_ok-stand_each-in-StateOffer : goal.returns-in_ok-stand_each-in-StateOffer
returns-in_ok-stand_each-in-StateOffer c =
    rw c.in-StateOffer.is
    (offer_stands c.args.found.now c.stand_each-in-StateOffer.new.found c.in-StateOffer.offer.marks c.as_slice-in-StateOffer.result.now c.as_slice-in-StateOffer.ensures.value
    c.in_ok-stand_each-in-StateOffer.ensures)

pub returns-in-Mark : goal.returns-in-Mark
returns-in-Mark c = rw c.in-Mark.is c.stand-in-Mark.ensures
