use Rattle.std.proofs.Common.{ap}
use Rattle.queue_ends.proofs.Moves.{puts, full}
use Rattle.queue_ends.proofs.put_end.PutEnd.put.Goals as goal

pub push_as-requires-clause-rule : goal.push_as-requires-clause-rule
push_as-requires-clause-rule g c = let may = ap (λ v. v.puts) c.args.self.now.role in (puts _ _ _ _ may c.requires, full _ _ may)
