use Rattle.std.proofs.Common.{arith, ◌∙◌, sym}
use Rattle.std.proofs.lemmas.Bool.Decides.{nat_tests}
use Rattle.smart_service.proofs.TableLines.{found, missing_past, missing_other}
use Rattle.smart_service.proofs.table.place_of.Goals as goal

pub returns-then-at-lines-clause-missing : goal.returns-then-at-lines-clause-missing
returns-then-at-lines-clause-missing c =
    missing_past c.args.lines.now c.args.client c.lines_before-at.result c.lines_before-at.ensures.place c.if-at-lines.true

pub returns-then-eq-clause-found : goal.returns-then-eq-clause-found
returns-then-eq-clause-found c =
    found c.args.lines.now c.args.client c.lines_before-at.result c.lines_before-at.ensures.place c.index-lines-at.result
    (grind (arith, nat_tests, c.lines_before-at.ensures.within, c.if-at-lines.false)) (sym c.eq.ensures ∙ c.if-eq.true)

pub returns-else-eq-clause-missing : goal.returns-else-eq-clause-missing
returns-else-eq-clause-missing c =
    missing_other c.args.lines.now c.args.client c.lines_before-at.result c.lines_before-at.ensures.place c.index-lines-at.result c.requires
    (grind (arith, nat_tests, c.lines_before-at.ensures.within, c.if-at-lines.false)) (sym c.eq.ensures ∙ c.if-eq.false)
