use Rattle.std.proofs.Common.{ap, ◌∙◌, sym}
use Rattle.check_worker.specs.Hands.{place_of, newest}
use Rattle.check_worker.proofs.worker.CheckWorker.hand_over.Goals as goal

pub returns-in-Some-clause-place : goal.returns-in-Some-clause-place
returns-in-Some-clause-place g c = ap place_of (sym c.in-Some.is ∙ c.above.ensures.is)

pub returns-in-Some-clause-handed : goal.returns-in-Some-clause-handed
returns-in-Some-clause-handed g c = λ alone.
    c.hand.ensures.handed alone ∙ ap (λ w. newest w (g.C.CoreCell.hands c.args.cell.now)) (sym c.in-Some.is ∙ c.above.ensures.is)

pub returns-in-None-clause-place : goal.returns-in-None-clause-place
returns-in-None-clause-place g c = ap place_of (sym c.in-None.is ∙ c.above.ensures.is)

pub returns-in-None-clause-handed : goal.returns-in-None-clause-handed
returns-in-None-clause-handed g c = λ alone. ap (λ w. newest w (g.C.CoreCell.hands c.args.cell.now)) (sym c.in-None.is ∙ c.above.ensures.is)
