use Rattle.std.proofs.Common.{◌≡◌, ◌∙◌, ap, false}
use Rattle.std.specs.HashSet.{contains}
use Rattle.world_rules.specs.Premises.{texts_in, collides, texts_met}
use Rattle.world_ledger.specs.Ledgers.{LedgerState}
use Rattle.world_ledger.specs.Statements.{same_stated}
use Rattle.world_ledger.proofs.ledger.Ledger.push.Goals as goal

pub invariant_of-self-2 : goal.invariant_of-self-2
invariant_of-self-2 c =
    let free : collides (texts_met c.self.inside.sent.items c.self.inside.marked.items) (texts_in c.args.sent.content) ≡ false =
    ap (λ (l : LedgerState). collides (texts_met l.sent l.marked) (texts_in c.args.sent.content)) c.self.view_is ∙ c.requires in
    rw (c.in_ok-push.ensures.items, c.in_ok-reserve.ensures.items)
    (c.in_ok-put_message.ensures.ok (contains same_stated c.self.inside.stated) c.self.inside.read c.self.inside.sent.items c.self.inside.marked.items free c.self.invariant)
