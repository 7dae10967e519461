use Rattle.std.proofs.Common.{◌∙◌}
use Rattle.std.specs.Ordering.{is_lt}
use Rattle.state_marks.proofs.Orders.{tested}
use Rattle.state_marks.proofs.counting.is_before.Goals as goal

pub returns : goal.returns
returns c = c.lt.ensures ∙ tested is_lt c.args.text.now c.args.other.now
