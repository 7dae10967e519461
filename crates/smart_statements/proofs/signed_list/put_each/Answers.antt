use Rattle.std.proofs.Common.{◌∷◌, ◌∙◌, ◌++◌, ◌+◌, drop, sym, ap, List}
use Rattle.std.specs.List.{flat_map}
use Rattle.std.proofs.lemmas.List.{drop_more}
use Rattle.std.proofs.lemmas.Result.{err_from_is_err_and}
use Rattle.smart_base.proofs.Written.{wrote-item, extends-on}
use Rattle.smart_statements.specs.Forms.{SignedBy}
use Rattle.smart_statements.specs.Spelling.{signed}
use Rattle.smart_statements.proofs.signed_list.put_each.Goals as goal

pub loop-item-preserved : goal.loop-item-preserved
loop-item-preserved g c =
    let rest : List (SignedBy g.row.S.Denot) = drop (c.loop-item.item-index + 1) c.args.items.now in (
      wrote-item (signed g.S.Statement.form) (drop c.loop-item.item-index c.args.items.now) rest c.item-item.result c.loop-item.out.items
          c.put.new.out.items (c.args.out.now.items ++ flat_map (signed g.S.Statement.form) c.args.items.now)
          (drop_more c.args.items.now c.loop-item.item-index _ c.loop-item-test.true ∙ ap (λ (x : SignedBy g.row.S.Denot). x ∷ rest) (sym c.item-item.is))
          c.in_ok-put.ensures.text c.loop-item.invariant.0,
      extends-on c.args.out.now.items c.loop-item.out.items c.put.new.out.items c.loop-item.invariant.1
          (record { rest = signed g.S.Statement.form c.item-item.result; is = c.in_ok-put.ensures.text }),
    )

pub returns-in_err-put-clause-err : goal.returns-in_err-put-clause-err
returns-in_err-put-clause-err g c =
    let p = err_from_is_err_and c.from_residual.result c.from_residual.ensures.1 in
    rw p.1 (extends-on c.args.out.now.items c.loop-item.out.items c.put.new.out.items c.loop-item.invariant.1 c.in_err-put.ensures.err)
