use Rattle.std.proofs.Common.{◌∙◌, ap, sym, Some}
use Rattle.smart_service.specs.declared.table.TableLine.{TableLine}
use Rattle.smart_service.proofs.TableLines.{line_found}
use Rattle.smart_service.proofs.table.line_of.Goals as goal

pub returns-in-Ok : goal.returns-in-Ok
returns-in-Ok c =
    ap (λ (line : TableLine). Some line) c.index-lines-at.is
    ∙ sym (line_found c.args.lines.now c.args.client c.in-Ok.at c.index-lines-at.result c.in-Ok.ensures.found)
