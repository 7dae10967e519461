use Rattle.std.proofs.Common.{sym, ◌∙◌}
use Rattle.smart_messages.specs.declared.message.Message.TheVariants as messages
use Rattle.node_judging.proofs.Keeping.{stays}
use Rattle.node_judging.proofs.reports.take_report.Goals as goal

pub keep_report-requires : goal.keep_report-requires
keep_report-requires g c =
    stays c.args.node.now c.note_view.new.node (messages.StopData c.args.reported) c.in_ok-dropped.dropped _ c.in_ok-dropped.ensures (sym c.is_some.ensures ∙ c.if-is_some.false) c.note_view.ensures
