use Rattle.std.proofs.Common.{arith}
use Rattle.smart_io.proofs.Pieces.{appends_more}
use Rattle.smart_io.proofs.stream.write_all.Goals as goal

pub loop-done-preserved : goal.loop-done-preserved
loop-done-preserved g c = record {
  within = omega (arith, c.in_ok-count.ensures.bound);
  appended = appends_more _ _ _ _ _ _ c.loop-done.invariant.appended (rw c.split_at.ensures.back at c.in_ok-count.ensures.bytes);
  later = omega (arith, c.loop-done.invariant.later, c.in_ok-count.ensures.cause.later, c.write.ensures.cause.later);
  wanted = omega (arith, c.loop-done.invariant.wanted, c.in_ok-count.ensures.want.later, c.write.ensures.want.later);
}
