use Rattle.std.proofs.Common.{length-set, arith, ◌∙◌}
use Rattle.smart_keys.proofs.Blocks.{copied-more, zeros_left}
use Rattle.smart_keys.proofs.hash.zero_filled.Goals as goal

pub loop-i-preserved : goal.loop-i-preserved
loop-i-preserved c = record {
  long = length-set _ _ _ ∙ c.loop-i.invariant.long;
  front = copied-more c.loop-i.block c.args.bytes.now c.loop-i.i (omega arith) c.loop-i-test.true c.loop-i.invariant.front;
  rest = zeros_left c.loop-i.block c.loop-i.i 64 _ c.loop-i.invariant.rest;
}
