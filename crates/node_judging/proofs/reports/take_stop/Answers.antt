use Rattle.std.proofs.Common.{sym, ◌∙◌}
use Rattle.smart_messages.specs.declared.message.Message.TheVariants as messages
use Rattle.node_judging.proofs.Keeping.{stays}
use Rattle.node_judging.proofs.reports.take_stop.Goals as goal

pub keep_stop-requires : goal.keep_stop-requires
keep_stop-requires g c =
    stays c.args.node.now c.note_view.new.node (messages.Stop c.args.stop) c.why_stop-dropped.result _ c.why_stop-dropped.ensures (sym c.is_some.ensures ∙ c.if-is_some.false) c.note_view.ensures
