use Rattle.std.proofs.Common.{sym, ◌∙◌}
use Rattle.smart_messages.specs.declared.message.Message.TheVariants as messages
use Rattle.node_judging.proofs.Keeping.{stays}
use Rattle.node_judging.proofs.reports.take_sync.Goals as goal

pub keep_sync-requires : goal.keep_sync-requires
keep_sync-requires g c =
    stays c.args.node.now c.note_view.new.node (messages.Sync c.args.sync) c.why_sync-dropped.result _ c.why_sync-dropped.ensures (sym c.is_some.ensures ∙ c.if-is_some.false) c.note_view.ensures
