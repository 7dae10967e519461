use Rattle.std.proofs.Common.{◌≡◌, ◌∙◌, ap, sym}
use Rattle.smart_keys.specs.Keys.{digest}
use Rattle.world_ledger.proofs.ledger.put_text.Goals as goal

pub returns-clause-ok : goal.returns-clause-ok
returns-clause-ok c = λ d.
    let named : digest c.args.text.now ≡ c.get.result = sym (c.get.ensures ∙ (c.digest-digest.ensures ∙ ap (λ x. digest x) c.as_slice-2.ensures)) in
    let more = c.in_ok-insert.ensures.updates.0 d in
    rw (named, ← (c.in_ok-copy.ensures ∙ c.as_slice.ensures)) more
