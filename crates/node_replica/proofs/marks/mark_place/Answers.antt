use Rattle.std.proofs.Common.{◌∙◌}
use Rattle.smart_messages.specs.declared.message.Message.TheVariants as changes
use Rattle.smart_statements.specs.Reports.{marks}
use Rattle.vote_book.specs.declared.entry.LogEntry.TheVariants.{Marked}
use Rattle.replica_rules.specs.Seals.{signed}
use Rattle.node_rules.specs.declared.node.Target.TheVariants as targets
use Rattle.node_state.proofs.Broken.{on_err}
use Rattle.node_replica.proofs.Marking.{mark_is, text_stays, marks_where, mark_part, mark_stated}
use Rattle.node_replica.proofs.marks.mark_place.Goals as goal

pub take_snapshot-requires : goal.take_snapshot-requires
take_snapshot-requires g c =
    text_stays g.S.Service.meaning c.args.node.now c.state_mark.new.node (Marked (record { place = c.place.result; digest = c.digest.result })) targets.View
    (changes.Mark (signed marks c.args.node.now.secret c.args.node.now.id (record { place = c.place.result; digest = c.digest.result }))) c.args.snapshot.now c.in_ok-state_mark.ensures.node c.requires

pub returns-clause-node : goal.returns-clause-node
returns-clause-node g c =
    marks_where g.S.Service.meaning c.args.node.now c.state_mark.new.node c.take_snapshot.new.node (record { place = c.place.result; digest = c.digest.result })
    (mark_is g.S.Service.meaning c.args.node.now c.place.result c.digest.result c.as_slice.result.now c.place.ensures c.digest.ensures (c.as_slice.ensures ∙ c.requires))
    c.in_ok-state_mark.ensures.node c.in_ok-take_snapshot.ensures.node

pub returns-in_err-state_mark-clause-err : goal.returns-in_err-state_mark-clause-err
returns-in_err-state_mark-clause-err g c =
    on_err _ (mark_part g.S.Service.meaning c.args.node.now c.state_mark.new.node.entries (record { place = c.place.result; digest = c.digest.result })
    (mark_is g.S.Service.meaning c.args.node.now c.place.result c.digest.result c.as_slice.result.now c.place.ensures c.digest.ensures (c.as_slice.ensures ∙ c.requires))
    c.in_err-state_mark.ensures.err)

pub returns-in_err-take_snapshot-clause-err : goal.returns-in_err-take_snapshot-clause-err
returns-in_err-take_snapshot-clause-err g c =
    on_err _ (mark_stated g.S.Service.meaning c.args.node.now c.state_mark.new.node c.take_snapshot.new.node.entries (record { place = c.place.result; digest = c.digest.result })
    (mark_is g.S.Service.meaning c.args.node.now c.place.result c.digest.result c.as_slice.result.now c.place.ensures c.digest.ensures (c.as_slice.ensures ∙ c.requires))
    c.in_ok-state_mark.ensures.node c.in_err-take_snapshot.ensures.err)
