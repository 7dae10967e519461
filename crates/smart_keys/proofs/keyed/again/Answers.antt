use Rattle.smart_keys.proofs.Begun.{surely, copied}
use Rattle.smart_keys.proofs.keyed.again.Goals as goal

pub unwrap-requires : goal.unwrap-requires
unwrap-requires c = surely c.clone.result _ c.clone.ensures.cases

pub returns : goal.returns
returns c = copied c.clone.result c.unwrap.result c.args.state.now _ c.clone.ensures.cases c.unwrap.ensures
