use Rattle.std.proofs.Common.{◌∙◌, refl, arith}
use Rattle.node_ends.proofs.Written.{writes-none, writes-trans}
use Rattle.node_ends.proofs.outlet.Outlet.drain.Goals as goal

pub loop-init : goal.loop-init
loop-init g c = record { link = refl; heard = refl; wrote = writes-none _ _ _ _ refl; later = omega arith }

pub loop-preserved : goal.loop-preserved
loop-preserved g c =
    let i = c.loop.invariant in
    let e = c.in-Done.ensures in record {
      link = e.link ∙ i.link;
      heard = e.heard ∙ i.heard;
      wrote = writes-trans _ _ _ _ _ _ _ i.wrote e.wrote;
      later = omega (arith, i.later, e.later);
    }

pub returns-in-Ended-clause-wrote : goal.returns-in-Ended-clause-wrote
returns-in-Ended-clause-wrote g c = writes-trans _ _ _ _ _ _ _ c.loop.invariant.wrote c.in-Ended.ensures.wrote
