use Rattle.std.proofs.Common.{length, ap, arith}
use Rattle.std.proofs.lemmas.List.{length-take}
use Rattle.smart_base.specs.Cuts.{Cut}
use Rattle.smart_statements.proofs.batch.Batch.read.Goals as goal

pub skip-requires : goal.skip-requires
skip-requires c =
    omega (arith, c.saturating_sub.ensures, ap length c.rest-room.ensures.value, ap (λ (k : Cut). length k.left) c.front-inner.ensures, length-take 262144 c.args.cut.now.left)
