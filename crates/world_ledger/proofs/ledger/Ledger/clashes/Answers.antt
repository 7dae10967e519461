use Rattle.std.proofs.Common.{◌≡◌, List, ◌∙◌, sym, ap, ℕ}
use Rattle.std.specs.Prelude.{nat_eq}
use Rattle.std.specs.Cmp.Lexicographic.{pointwise}
use Rattle.std.specs.HashMap.{get}
use Rattle.smart_keys.specs.Keys.{digest}
use Rattle.world_rules.specs.Premises.{texts_met}
use Rattle.world_ledger.proofs.LedgerLaws.{missing, found}
use Rattle.world_ledger.proofs.ledger.Ledger.clashes.Goals as goal

pub returns-in-None : goal.returns-in-None
returns-in-None c =
    let texts = λ (d : List ℕ). get (pointwise nat_eq) c.self.inside.texts d in
    let named : digest c.args.text.now ≡ c.get-digest.result = sym (c.get-digest.ensures ∙ c.digest.ensures) in
    rw (← c.self.view_is) (missing texts c.args.text.now (texts_met c.self.inside.sent.items c.self.inside.marked.items) c.self.invariant.texts (ap texts named ∙ sym c.in-None.ensures.value))

pub returns-in-Some : goal.returns-in-Some
returns-in-Some c =
    let texts = λ (d : List ℕ). get (pointwise nat_eq) c.self.inside.texts d in
    let named : digest c.args.text.now ≡ c.get-digest.result = sym (c.get-digest.ensures ∙ c.digest.ensures) in
    let is = found texts c.args.text.now (texts_met c.self.inside.sent.items c.self.inside.marked.items) c.in-Some.known.now c.self.invariant.texts (ap texts named ∙ sym c.in-Some.ensures.value) in
    rw (c.same_bytes.ensures, c.as_slice.ensures, ← c.self.view_is) is
