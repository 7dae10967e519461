use Rattle.std.proofs.Common.{sym, ◌∙◌}
use Rattle.smart_messages.specs.declared.message.Message.TheVariants as messages
use Rattle.node_judging.proofs.Keeping.{stays}
use Rattle.node_judging.proofs.arrivals.take_vote.Goals as goal

pub keep_vote-requires : goal.keep_vote-requires
keep_vote-requires g c =
    stays c.args.node.now c.note.new.node (messages.Vote c.args.ballot) c.why_vote-dropped.result _ c.why_vote-dropped.ensures (sym c.is_some.ensures ∙ c.if-is_some.false) c.note.ensures
