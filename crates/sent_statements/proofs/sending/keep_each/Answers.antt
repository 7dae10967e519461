use Rattle.std.proofs.Common.{◌∷◌, ◌∙◌, ◌+◌, drop, sym, ap, List, map}
use Rattle.std.proofs.lemmas.List.{drop_more}
use Rattle.smart_statements.specs.Forms.{SignedBy}
use Rattle.smart_messages.specs.Messages.{sealed}
use Rattle.sent_statements.specs.Indexes.{made_sealed}
use Rattle.sent_statements.proofs.Makings.{kept-more}
use Rattle.sent_statements.proofs.sending.keep_each.Goals as goal

pub loop-item-preserved : goal.loop-item-preserved
loop-item-preserved g c =
    let rest : List (SignedBy g.row.S.Denot) = drop (c.loop-item.item-index + 1) c.args.items.now in
    let is = drop_more c.args.items.now c.loop-item.item-index _ c.loop-item-test.true ∙ ap (λ (x : SignedBy g.row.S.Denot). x ∷ rest) (sym c.item-item.is) in
    kept-more c.args.member (sealed g.S.Statement.form c.item-item.result) (map (sealed g.S.Statement.form) rest)
    (map (sealed g.S.Statement.form) (drop c.loop-item.item-index c.args.items.now)) (map made_sealed c.loop-item.found.items) (map made_sealed c.keep.new.found.items) _
    c.in_ok-keep.ensures (ap (λ (xs : List (SignedBy g.row.S.Denot)). map (sealed g.S.Statement.form) xs) is) c.loop-item.invariant
