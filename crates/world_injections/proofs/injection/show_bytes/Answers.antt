use Rattle.std.proofs.Common.{arith}
use Rattle.world_injections.proofs.InjectionLaws.{all_bytes}
use Rattle.world_injections.proofs.injection.show_bytes.Goals as goal

pub returns : goal.returns
returns c = all_bytes c.args.bytes.now (λ i. omega (arith, c.type_inv.bytes i))
