use Rattle.std.proofs.Common.{◌∙◌, refl, arith}
use Rattle.node_ends.proofs.Taken.{reads-none, reads-trans, reads-end}
use Rattle.node_ends.proofs.intake.Intake.take_all.Goals as goal

pub loop-init : goal.loop-init
loop-init g c = record { link = refl; reads = reads-none _ _ _ _ (λ bytes t. t); later = omega arith }

pub loop-preserved-in-Done : goal.loop-preserved-in-Done
loop-preserved-in-Done g c =
    let i = c.loop.invariant in
    let e = c.in-Done.ensures in record { link = e.link ∙ i.link; reads = reads-trans _ _ _ _ _ _ _ i.reads e.reads; later = omega (arith, i.later, e.later) }

pub loop-preserved : goal.loop-preserved
loop-preserved g c =
    let i = c.loop.invariant in
    let e = c.in-Full.ensures in record { link = e.link ∙ i.link; reads = reads-trans _ _ _ _ _ _ _ i.reads e.reads; later = omega (arith, i.later, e.later) }

pub returns-in-Ended-clause-reads : goal.returns-in-Ended-clause-reads
returns-in-Ended-clause-reads g c = reads-end _ _ c.in-Ended.end _ _ (reads-trans _ _ _ _ _ _ _ c.loop.invariant.reads c.in-Ended.ensures.reads)
