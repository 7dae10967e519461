use Rattle.std.proofs.Common.{◌≡◌, ◌∙◌, ap, true}
use Rattle.std.specs.HashSet.{contains}
use Rattle.world_rules.specs.Premises.{newly_met, texts_met}
use Rattle.world_ledger.specs.Ledgers.{LedgerState}
use Rattle.world_ledger.specs.Statements.{same_stated}
use Rattle.world_ledger.proofs.ledger.Ledger.add.Goals as goal

pub invariant_of-self-2 : goal.invariant_of-self-2
invariant_of-self-2 c =
    let new : newly_met (texts_met c.self.inside.sent.items c.self.inside.marked.items) c.args.snapshot ≡ true =
    ap (λ (l : LedgerState). newly_met (texts_met l.sent l.marked) c.args.snapshot) c.self.view_is ∙ c.requires in
    rw (c.in_ok-push.ensures.items, c.in_ok-reserve.ensures.items)
    (c.in_ok-put_snapshot.ensures.ok (contains same_stated c.self.inside.stated) c.self.inside.read c.self.inside.sent.items c.self.inside.marked.items new c.self.invariant)
