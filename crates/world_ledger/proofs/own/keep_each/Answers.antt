use Rattle.std.proofs.Common.{◌∷◌, ◌∙◌, ◌+◌, drop, sym, ap, List, map}
use Rattle.std.proofs.lemmas.List.{drop_more}
use Rattle.smart_messages.specs.declared.message.Sealed.{Sealed}
use Rattle.world_ledger.specs.Statements.{claim_of}
use Rattle.world_ledger.proofs.ClaimLaws.{own-more}
use Rattle.world_ledger.proofs.own.keep_each.Goals as goal

pub loop-item-preserved : goal.loop-item-preserved
loop-item-preserved c =
    let rest : List Sealed = drop (c.loop-item.item-index + 1) c.args.items.now in
    let is = drop_more c.args.items.now c.loop-item.item-index _ c.loop-item-test.true ∙ ap (λ (x : Sealed). x ∷ rest) (sym c.item-item.is) in
    own-more c.args.origin.now c.item-item.result rest (drop c.loop-item.item-index c.args.items.now) (map claim_of c.loop-item.found.items)
    (map claim_of c.keep_item.new.found.items) _ c.in_ok-keep_item.ensures is c.loop-item.invariant
