use Rattle.std.proofs.Common.{◌++◌}
use Rattle.smart_keys.specs.Keys.{digest}
use Rattle.smart_keys.proofs.keyed.ended.Goals as goal

pub returns : goal.returns
unfolding digest
returns c = λ front is. c.finalize.ensures (front ++ c.args.text.now) (c.update.ensures front (rw c.again-taken.ensures is))
