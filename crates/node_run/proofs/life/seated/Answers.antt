use Rattle.std.proofs.Common.{subst, arith}
use Rattle.member_opening.specs.Restorings.{KeepsCounts}
use Rattle.node_run.proofs.life.seated.Goals as goal

pub open-requires-clause-opening : goal.open-requires-clause-opening
open-requires-clause-opening g c =
    let counts : KeepsCounts g.P.Home.restored g.P.Life.opening = subst (KeepsCounts g.P.Home.restored) c.requires.core.0 c.requires.counts in
    (counts.restored, omega (arith, counts.firm))

pub open-requires-clause-few : goal.open-requires-clause-few
open-requires-clause-few g c =
    let counts : KeepsCounts g.P.Home.restored g.P.Life.opening = subst (KeepsCounts g.P.Home.restored) c.requires.core.0 c.requires.counts in
    (counts.some, counts.one)
