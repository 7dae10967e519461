use Rattle.std.proofs.Common.{◌≡◌, ℕ, subst, arith}
use Rattle.node_played.specs.Lives.{IsWantedOf}
use Rattle.group_threads.proofs.cell.pair_of.Goals as goal

pub returns-clause-replica : goal.returns-clause-replica
returns-clause-replica g c =
    let same : c.args.snapshot.number ≡ g.M.Numbered.number = omega arith in
    (c.into_pair.ensures.whole, subst (λ (n : ℕ). IsWantedOf g.S.Service.meaning (g.P.GroupLife.opening n) c.into_pair.result.0 c.into_pair.result.1) same c.into_pair.ensures.wanted)
