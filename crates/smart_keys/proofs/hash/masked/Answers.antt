use Rattle.std.proofs.Common.{length-set, arith, ◌∙◌}
use Rattle.std.specs.Prelude.{bit_xor}
use Rattle.smart_keys.proofs.Blocks.{mapped-more, mapped-all}
use Rattle.smart_keys.proofs.hash.masked.Goals as goal

pub loop-i-preserved : goal.loop-i-preserved
loop-i-preserved c = record {
  long = length-set _ _ _ ∙ c.loop-i.invariant.long;
  front = mapped-more (λ byte. bit_xor byte c.args.pad) c.loop-i.out c.args.block.now c.loop-i.i (omega arith) (omega arith) c.loop-i.invariant.front;
}

pub returns : goal.returns
returns c =
    mapped-all (λ byte. bit_xor byte c.args.pad) c.loop-i.out c.args.block.now c.loop-i.i (omega arith) (omega arith) c.loop-i.invariant.front
