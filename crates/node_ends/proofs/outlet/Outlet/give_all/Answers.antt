use Rattle.std.proofs.Common.{◌∙◌, refl, arith}
use Rattle.node_ends.proofs.Written.{writes-none, writes-trans}
use Rattle.node_ends.proofs.outlet.Outlet.give_all.Goals as goal

pub loop-init : goal.loop-init
loop-init g c = record { link = refl; heard = refl; wrote = writes-none _ _ _ _ refl; later = omega arith }

pub returns-in-Err-clause-wrote : goal.returns-in-Err-clause-wrote
returns-in-Err-clause-wrote g c = writes-trans _ _ _ _ _ _ _ c.loop.invariant.wrote c.in-Err.ensures.wrote

pub loop-preserved-in-More : goal.loop-preserved-in-More
loop-preserved-in-More g c =
    let i = c.loop.invariant in
    let e = c.in_default.ensures in record {
      link = e.link ∙ i.link;
      heard = e.heard ∙ i.heard;
      wrote = writes-trans _ _ _ _ _ _ _ i.wrote e.wrote;
      later = omega (arith, i.later, e.later);
    }

pub loop-preserved : goal.loop-preserved
loop-preserved g c =
    let i = c.loop.invariant in
    let e = c.in_default.ensures in record {
      link = e.link ∙ i.link;
      heard = e.heard ∙ i.heard;
      wrote = writes-trans _ _ _ _ _ _ _ i.wrote e.wrote;
      later = omega (arith, i.later, e.later);
    }

pub returns-in-Last-clause-wrote : goal.returns-in-Last-clause-wrote
returns-in-Last-clause-wrote g c = writes-trans _ _ _ _ _ _ _ c.loop.invariant.wrote c.in_default.ensures.wrote
