use Rattle.std.proofs.Common.{ap}
use Rattle.queue_ends.proofs.Moves.{takes, empty}
use Rattle.queue_ends.proofs.take_end.TakeEnd.take.Goals as goal

pub pop_as-requires-clause-rule : goal.pop_as-requires-clause-rule
pop_as-requires-clause-rule g c = let may = ap (λ v. v.takes) c.args.self.now.role in (takes _ _ may, empty _ _ may)
