use Rattle.std.proofs.Common.{ap}
use Rattle.queue_ends.proofs.Moves.{hears_put}
use Rattle.queue_ends.proofs.take_end.TakeEnd.hear.Goals as goal

pub absorb-requires-clause-rule : goal.absorb-requires-clause-rule
absorb-requires-clause-rule g c = hears_put _ _ _ _ (ap (λ v. v.takes) c.args.self.now.role)
