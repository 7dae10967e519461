use Rattle.std.proofs.Common.{◌++◌}
use Rattle.audit_play.proofs.Consumed.{consumes-then}
use Rattle.audit_play.proofs.input.read_piece.Goals as goal

pub returns-then-is_err-clause-err : goal.returns-then-is_err-clause-err
returns-then-is_err-clause-err g c = λ left consumed. (
  c.args.bytes.now.items ++ c.split_at.result.0.now,
  consumes-then left _ _ c.args.bytes.now.items c.split_at.result.0.now consumed (rw (← c.split_at.ensures.front) at c.in-Ok.ensures.bytes.0),
)
