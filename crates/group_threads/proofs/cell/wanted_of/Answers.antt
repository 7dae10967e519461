use Rattle.std.proofs.Common.{◌≡◌, ℕ, IfOk, IfSome, subst, arith}
use Rattle.node_played.specs.Lives.{IsWantedOf}
use Rattle.group_threads.proofs.cell.wanted_of.Goals as goal

pub returns : goal.returns
returns g c =
    let same : c.args.seat.now.inner.journal.number ≡ g.M.Numbered.number = omega arith in
    subst (λ (n : ℕ). IfOk c.wanted.result (λ found. IfSome found (λ own. IsWantedOf g.S.Service.meaning (g.P.GroupLife.opening n) own.place own.snapshot))) same c.wanted.ensures.of_life
