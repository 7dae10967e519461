use Rattle.std.proofs.Common.{arith}
use Rattle.group_parties.proofs.Desking.{core-at, counts-at}
use Rattle.group_parties.proofs.seating.course_of.Goals as goal

pub open-requires-clause-core : goal.open-requires-clause-core
open-requires-clause-core g c = core-at g.P.GroupLife.opening c.args.core.node c.args.core.broken c.args.number c.in-Ok.journal.number c.in-Ok.ensures.ok.0 c.requires.core

pub open-requires-clause-opening : goal.open-requires-clause-opening
open-requires-clause-opening g c =
    let k = counts-at g.P.GroupLife.restored g.P.GroupLife.opening c.args.core.node c.args.number c.in-Ok.journal.number c.in-Ok.ensures.ok.0 c.requires.core.0 c.requires.counts in
    (k.restored, omega (arith, k.firm))

pub open-requires-clause-few : goal.open-requires-clause-few
open-requires-clause-few g c =
    let k = counts-at g.P.GroupLife.restored g.P.GroupLife.opening c.args.core.node c.args.number c.in-Ok.journal.number c.in-Ok.ensures.ok.0 c.requires.core.0 c.requires.counts in
    (k.some, k.one)
