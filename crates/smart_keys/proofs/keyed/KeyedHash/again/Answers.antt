use Rattle.smart_keys.proofs.Begun.{begun_again}
use Rattle.smart_keys.proofs.keyed.KeyedHash.again.Goals as goal

pub invariant_of-result : goal.invariant_of-result
invariant_of-result c =
    begun_again c.self.inside.key c.self.inside.inner c.self.inside.outer c.again.result c.again-2.result c.again.ensures c.again-2.ensures c.self.invariant
