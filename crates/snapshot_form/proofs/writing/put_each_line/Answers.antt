use Rattle.std.proofs.Common.{◌∷◌, ◌∙◌, ◌++◌, ◌+◌, drop, sym, ap, List}
use Rattle.std.specs.List.{flat_map}
use Rattle.std.proofs.lemmas.List.{drop_more}
use Rattle.smart_base.proofs.Written.{wrote-item}
use Rattle.smart_service.specs.declared.table.TableLine.{TableLine}
use Rattle.snapshot_form.specs.Snapshots.{line_text}
use Rattle.snapshot_form.proofs.writing.put_each_line.Goals as goal

pub loop-line-preserved : goal.loop-line-preserved
loop-line-preserved c =
    let rest : List TableLine = drop (c.loop-line.line-index + 1) c.args.lines.now in
    wrote-item line_text (drop c.loop-line.line-index c.args.lines.now) rest c.line-item.result c.loop-line.out.items c.put_line.new.out.items
    (c.args.out.now.items ++ flat_map line_text c.args.lines.now)
    (drop_more c.args.lines.now c.loop-line.line-index _ c.loop-line-test.true ∙ ap (λ (x : TableLine). x ∷ rest) (sym c.line-item.is))
    c.in_ok-put_line.ensures c.loop-line.invariant
