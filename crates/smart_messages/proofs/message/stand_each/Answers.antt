use Rattle.std.proofs.Common.{◌∷◌, ◌∙◌, ◌+◌, drop, sym, ap, List}
use Rattle.std.proofs.lemmas.List.{drop_more}
use Rattle.smart_statements.specs.Forms.{SignedBy}
use Rattle.smart_messages.specs.Messages.{sealed}
use Rattle.smart_messages.proofs.Walks.{one_more}
use Rattle.smart_messages.proofs.message.stand_each.Goals as goal

pub loop-item-preserved : goal.loop-item-preserved
loop-item-preserved g c =
    let rest : List (SignedBy g.row.S.Denot) = drop (c.loop-item.item-index + 1) c.args.items.now in
    let is = drop_more c.args.items.now c.loop-item.item-index _ c.loop-item-test.true ∙ ap (λ (x : SignedBy g.row.S.Denot). x ∷ rest) (sym c.item-item.is) in
    one_more (sealed g.S.Statement.form) c.item-item.result rest (drop c.loop-item.item-index c.args.items.now) c.loop-item.found
    c.stand.new.found _ c.in_ok-stand.ensures is c.loop-item.invariant
