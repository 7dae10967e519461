use Rattle.std.proofs.Common.{ap, ◌∙◌}
use Rattle.check_worker.specs.Hands.{above, place_of, newest}
use Rattle.check_worker.proofs.worker.CheckWorker.round.Goals as goal

pub returns-in-Ok-clause-place : goal.returns-in-Ok-clause-place
returns-in-Ok-clause-place g c = λ alone.
    c.hand_over.ensures.place ∙ ap (λ w. place_of (above c.args.self.now.last w)) (c.in-Ok.ensures.wanted alone)

pub returns-in-Ok-clause-handed : goal.returns-in-Ok-clause-handed
returns-in-Ok-clause-handed g c = λ alone.
    c.hand_over.ensures.handed alone
    ∙ (ap (λ w. newest (above c.args.self.now.last w) (g.C.CoreCell.hands c.wanted.new.self)) (c.in-Ok.ensures.wanted alone)
    ∙ ap (λ h. newest (above c.args.self.now.last (g.C.CoreCell.wants c.args.cell.now)) h) ((c.wanted.ensures.same alone).1.0))
