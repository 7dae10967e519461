use Rattle.std.proofs.Common.{ap, ◌∙◌}
use Rattle.smart_keys.specs.Keys.{hmac}
use Rattle.smart_keys.proofs.ring.Ring.known.Goals as goal

pub returns-in-Some : goal.returns-in-Some
returns-in-Some c = c.in-Some.ensures c.self.inside.secret c.self.invariant.0 ∙ ap (λ s. hmac s c.args.name.now) c.self.view_is
