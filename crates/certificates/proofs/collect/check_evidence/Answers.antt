use Rattle.std.proofs.Common.{◌≡◌, ◌==◌, false, sym, ◌∙◌, ap, arith}
use Rattle.std.proofs.lemmas.Grind.{common_steps}
use Rattle.certificates.specs.Collects.{is_shown}
use Rattle.certificates.proofs.Reported.{shown-alone}
use Rattle.certificates.proofs.collect.check_evidence.Goals as goal

pub returns-in-Decided-clause-exact : goal.returns-in-Decided-clause-exact
returns-in-Decided-clause-exact c =
    let away : (c.args.last == 0) ≡ false = grind (arith, common_steps, c.zero.ensures, c.eq.ensures) in
    shown-alone c.args.ring.now c.args.views.now c.args.last c.args.evidence.now c.is_decided.result away
    (c.is_decided.ensures ∙ ap (is_shown c.args.ring.now c.args.views.now c.args.last) (sym c.in-Decided.is))

pub returns-in-Marked-clause-exact : goal.returns-in-Marked-clause-exact
returns-in-Marked-clause-exact c =
    let away : (c.args.last == 0) ≡ false = grind (arith, common_steps, c.zero.ensures, c.eq.ensures) in
    shown-alone c.args.ring.now c.args.views.now c.args.last c.args.evidence.now c.is_marked.result away
    (c.is_marked.ensures ∙ ap (is_shown c.args.ring.now c.args.views.now c.args.last) (sym c.in-Marked.is))
