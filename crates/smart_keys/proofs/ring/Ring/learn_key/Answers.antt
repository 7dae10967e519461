use Rattle.std.proofs.Common.{ap, ◌∙◌}
use Rattle.smart_keys.specs.Keys.{hmac}
use Rattle.smart_keys.proofs.Learnt.{one_more}
use Rattle.smart_keys.proofs.ring.Ring.learn_key.Goals as goal

pub invariant_of-self-2 : goal.invariant_of-self-2
invariant_of-self-2 c = (
  rw c.in_ok-put.ensures.ok
      (one_more c.self.inside.secret c.self.inside.known c.args.name c.new-hash.result c.self.invariant.0 (c.new-hash.ensures ∙ (c.hmac.ensures ∙ ap (λ s. hmac s c.args.name) c.as_slice.ensures))),
  c.self.invariant.1,
)
