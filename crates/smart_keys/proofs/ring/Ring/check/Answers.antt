use Rattle.std.proofs.Common.{sym, ap, ◌∙◌}
use Rattle.std.specs.Prelude.{nat_eq}
use Rattle.std.specs.Cmp.Lexicographic.{pointwise}
use Rattle.std.specs.HashMap.{get}
use Rattle.smart_keys.specs.Keys.{hmac}
use Rattle.smart_keys.proofs.Learnt.{one_more_tag}
use Rattle.smart_keys.proofs.ring.Ring.check.Goals as goal

pub invariant_of-self-2 : goal.invariant_of-self-2
invariant_of-self-2 c = (
  c.self.invariant.0,
  one_more_tag c.self.inside.secret (get (pointwise nat_eq) c.self.inside.checked) (get (pointwise nat_eq) c.insert.new.self) (pointwise nat_eq c.party_bytes-name.result)
      c.new-checked.result c.in_ok-insert.ensures.updates.0 c.self.invariant.1
      (rw (c.new-checked.ensures, c.in_ok-from_slice.ensures) (c.made_tag-right.ensures ∙ ap (λ s. hmac (hmac s c.party_bytes-name.result) c.args.text.now) (sym c.self.view_is))),
)
