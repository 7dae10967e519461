use Rattle.std.proofs.Common.{rules, ap}
use Rattle.queue_ends.proofs.Moves.{hears_taken, was_put}
use Rattle.queue_ends.proofs.put_end.PutEnd.hear.Goals as goal

pub absorb-requires-clause-rule : goal.absorb-requires-clause-rule
absorb-requires-clause-rule g c = hears_taken _ _ _ _ (ap (λ v. v.puts) c.args.self.now.role)

pub learn_as-requires-clause-rule : goal.learn_as-requires-clause-rule
learn_as-requires-clause-rule g c = was_put _ _ (search rules)
