use Rattle.std.proofs.Common.{rules}
use Rattle.queue_ends.proofs.Moves.{begins, forks}
use Rattle.queue_ends.proofs.ends.pair.Goals as goal

pub ruled-requires-clause-rule : goal.ruled-requires-clause-rule
ruled-requires-clause-rule g c = begins

pub another-takes-requires-clause-rule : goal.another-takes-requires-clause-rule
another-takes-requires-clause-rule g c = forks _ _ (search rules) (search rules)
