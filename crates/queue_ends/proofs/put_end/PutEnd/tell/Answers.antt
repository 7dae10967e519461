use Rattle.queue_ends.proofs.Moves.{tells}
use Rattle.queue_ends.proofs.put_end.PutEnd.tell.Goals as goal

pub another-pass-requires-clause-rule : goal.another-pass-requires-clause-rule
another-pass-requires-clause-rule g c = tells _ _
