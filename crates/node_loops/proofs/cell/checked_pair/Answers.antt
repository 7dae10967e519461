use Rattle.std.proofs.Common.{ℕ, IfSome, Option, sym, subst}
use Rattle.node_rules.specs.declared.node.OwnSnapshot.{OwnSnapshot}
use Rattle.node_played.specs.Lives.{IsWantedOf}
use Rattle.node_loops.proofs.cell.checked_pair.Goals as goal

pub checked-requires : goal.checked-requires
checked-requires g c =
    let m = g.S.Service.meaning in
    let opening = g.P.Life.opening in
    let own = c.in-Some.own in
    let wanted = subst (λ (o : Option OwnSnapshot). IfSome o (λ own. IsWantedOf m opening own.place own.snapshot)) c.in-Some.is c.requires in
    subst (λ (place : ℕ). IsWantedOf m opening place own.snapshot) (sym c.get.ensures.value) wanted
