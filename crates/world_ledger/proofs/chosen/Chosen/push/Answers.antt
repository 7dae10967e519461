use Rattle.std.proofs.Common.{◌+◌, ◌∙◌, ap, sym, length}
use Rattle.world_ledger.proofs.Choosing.{managed-more}
use Rattle.world_ledger.proofs.chosen.Chosen.push.Goals as goal

-- the batch is at the next place
pub invariant_of-self-2 : goal.invariant_of-self-2
invariant_of-self-2 c =
    managed-more c.self.inside.first c.self.inside.list.items c.push.new.self.items c.args.batch c.args.place c.self.inside.made c.in_ok-made.made c.self.invariant
    (c.requires ∙ ap (λ x. length x.list + 1) (sym c.self.view_is)) c.in_ok-made.ensures c.in_ok-push.ensures.items
