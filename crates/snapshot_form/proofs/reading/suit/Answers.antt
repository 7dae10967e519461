use Rattle.std.proofs.Common.{◌∙◌, sym}
use Rattle.snapshot_form.proofs.Spelled.{tied_order, tied_some}
use Rattle.snapshot_form.proofs.reading.suit.Goals as goal

pub returns-clause-order : goal.returns-clause-order
returns-clause-order c = λ e. tied_order c.args.parts.now (sym c.is_tied.ensures ∙ e)

pub returns-clause-some : goal.returns-clause-some
returns-clause-some c = λ e. tied_some c.args.parts.now (sym c.is_tied.ensures ∙ e)
