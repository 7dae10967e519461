use Rattle.std.proofs.Common.{sym, ap, ◌∙◌}
use Rattle.std.proofs.lemmas.Option.{IfSome_then}
use Rattle.smart_keys.specs.Keys.{hmac}
use Rattle.smart_keys.proofs.Learnt.{tag_there}
use Rattle.smart_keys.proofs.ring.Ring.kept_tag.Goals as goal

pub returns-in-Some : goal.returns-in-Some
returns-in-Some c =
    IfSome_then c.tag_of.result c.tag_of.ensures (λ tag is.
    tag_there c.self.inside.secret c.args.name.now c.args.text.now tag c.in-Some.checked.now
    (c.self.invariant.1 c.args.name.now c.in-Some.checked.now (sym c.in-Some.ensures.value)) is.0 is.1 is.2
    ∙ ap (λ s. hmac (hmac s c.args.name.now) c.args.text.now) c.self.view_is)
