use Rattle.std.proofs.Common.{ap}
use Rattle.queue_ends.proofs.Moves.{empty}
use Rattle.queue_ends.proofs.take_end.TakeEnd.compare.Goals as goal

pub learn_as-requires-clause-rule : goal.learn_as-requires-clause-rule
learn_as-requires-clause-rule g c = empty _ _ (ap (λ v. v.takes) c.args.self.now.role)
