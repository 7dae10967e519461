use Rattle.std.proofs.Common.{rules, ap}
use Rattle.queue_ends.proofs.Moves.{merges, totals}
use Rattle.queue_ends.proofs.ends.rejoin.Goals as goal

pub absorb-requires-clause-rule : goal.absorb-requires-clause-rule
absorb-requires-clause-rule g c = merges _ _ _ _ (ap (λ v. v.puts) c.args.put.role) (ap (λ v. v.takes) c.args.take.role)

pub learn_as-requires-clause-rule : goal.learn_as-requires-clause-rule
learn_as-requires-clause-rule g c = totals _ _ (search rules) (search rules)
