use Rattle.smart_keys.proofs.Begun.{is_begun}
use Rattle.smart_keys.proofs.keyed.KeyedHash.new.Goals as goal

pub invariant_of-result : goal.invariant_of-result
invariant_of-result c =
    is_begun c.args.key c.as_slice.result.now c.block_of-block.result c.masked.result c.masked-2.result c.begun.result c.begun-2.result
    c.as_slice.ensures.value c.block_of-block.ensures c.masked.ensures c.masked-2.ensures c.begun.ensures c.begun-2.ensures
