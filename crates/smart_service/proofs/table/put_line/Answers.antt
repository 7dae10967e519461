use Rattle.std.proofs.Common.{◌∙◌, List, sym, subst, arith}
use Rattle.smart_service.specs.Tables.{Ascends, Found, Missing}
use Rattle.smart_service.specs.declared.table.TableLine.{TableLine}
use Rattle.smart_service.proofs.TableLines.{put_found, put_missing, ascends_with}
use Rattle.smart_service.proofs.table.put_line.Goals as goal

pub insert-requires : goal.insert-requires
insert-requires c = omega (arith, c.in-Err.ensures.missing.within, c.as_slice.ensures.len)

pub returns-in-Ok-clause-noted : goal.returns-in-Ok-clause-noted
returns-in-Ok-clause-noted c =
    let line : TableLine = record { last = c.args.execution } in
    put_found c.args.lines.now.items line c.in-Ok.at
    (subst (λ (lines : List TableLine). Found lines line.last.client c.in-Ok.at) c.as_slice.ensures.value c.in-Ok.ensures.found)

pub returns-in-Ok-clause-order : goal.returns-in-Ok-clause-order
returns-in-Ok-clause-order c =
    subst Ascends (sym (returns-in-Ok-clause-noted c)) (ascends_with c.args.lines.now.items (record { last = c.args.execution }) c.requires)

pub returns-in_ok-insert-in-Err-clause-noted : goal.returns-in_ok-insert-in-Err-clause-noted
returns-in_ok-insert-in-Err-clause-noted c =
    let line : TableLine = record { last = c.args.execution } in
    c.in_ok-insert-in-Err.ensures.items
    ∙ put_missing c.args.lines.now.items line c.in-Err.at
    (subst (λ (lines : List TableLine). Missing lines line.last.client c.in-Err.at) c.as_slice.ensures.value c.in-Err.ensures.missing)

pub returns-in_ok-insert-in-Err-clause-order : goal.returns-in_ok-insert-in-Err-clause-order
returns-in_ok-insert-in-Err-clause-order c =
    subst Ascends (sym (returns-in_ok-insert-in-Err-clause-noted c)) (ascends_with c.args.lines.now.items (record { last = c.args.execution }) c.requires)
