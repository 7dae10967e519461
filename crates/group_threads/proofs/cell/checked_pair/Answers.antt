use Rattle.std.proofs.Common.{ℕ, IfSome, Option, sym, subst}
use Rattle.node_rules.specs.declared.node.OwnSnapshot.{OwnSnapshot}
use Rattle.node_played.specs.Lives.{IsWantedOf}
use Rattle.group_threads.proofs.cell.checked_pair.Goals as goal

pub checked-requires : goal.checked-requires
checked-requires g c =
    let m = g.S.Service.meaning in
    let opening = g.P.GroupLife.opening in
    let own = c.in-Some.own in
    let wanted = subst (λ (o : Option OwnSnapshot). IfSome o (λ own. IsWantedOf m (opening g.M.Numbered.number) own.place own.snapshot)) c.in-Some.is c.requires in
    let placed = subst (λ (place : ℕ). IsWantedOf m (opening g.M.Numbered.number) place own.snapshot) (sym c.get.ensures.value) wanted in
    subst (λ (n : ℕ). IsWantedOf m (opening n) c.get.result own.snapshot) (sym c.number.ensures) placed
