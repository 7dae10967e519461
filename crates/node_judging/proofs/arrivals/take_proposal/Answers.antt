use Rattle.std.proofs.Common.{sym, ◌∙◌}
use Rattle.smart_messages.specs.declared.message.Message.TheVariants as messages
use Rattle.node_judging.proofs.Keeping.{stays}
use Rattle.node_judging.proofs.arrivals.take_proposal.Goals as goal

pub keep_proposal-requires : goal.keep_proposal-requires
keep_proposal-requires g c =
    stays c.args.node.now c.note.new.node (messages.Propose c.args.proposed) c.in_ok-dropped.dropped _ c.in_ok-dropped.ensures (sym c.is_some.ensures ∙ c.if-is_some.false) c.note.ensures
