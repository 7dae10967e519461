use Rattle.std.proofs.Common.{◌≡◌, ℕ, IfOk, subst, arith}
use Rattle.node_played.specs.Lives.{IsTailOf}
use Rattle.group_threads.proofs.cell.tail_of.Goals as goal

pub returns-clause-of_place : goal.returns-clause-of_place
returns-clause-of_place g c =
    let same : c.args.seat.now.inner.journal.number ≡ g.M.Numbered.number = omega arith in
    subst (λ (n : ℕ). IfOk c.tail.result (λ tail. IsTailOf g.S.Service.meaning (g.P.GroupLife.opening n) c.args.place tail)) same c.tail.ensures.of_place
