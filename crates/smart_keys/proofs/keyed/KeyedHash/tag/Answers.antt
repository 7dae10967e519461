use Rattle.smart_keys.specs.Keys.{block_of, masked}
use Rattle.smart_keys.proofs.Begun.{tag_is}
use Rattle.smart_keys.proofs.keyed.KeyedHash.tag.Goals as goal

pub returns : goal.returns
returns c =
    let block = block_of c.self.inside.key in
    tag_is c.self.inside.key c.args.self.now c.args.text.now c.ended-inner.result c.ended.result c.new.result c.self.view_is
    (c.ended-inner.ensures (masked 0x36 block) c.self.invariant.inside) (c.ended.ensures (masked 0x5c block) c.self.invariant.outside) c.new.ensures
