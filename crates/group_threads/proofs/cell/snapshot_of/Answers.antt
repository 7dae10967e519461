use Rattle.std.proofs.Common.{ℕ, sym, subst}
use Rattle.node_played.specs.Lives.{IsWantedOf}
use Rattle.group_threads.proofs.cell.snapshot_of.Goals as goal

pub of-requires-clause-wanted : goal.of-requires-clause-wanted
of-requires-clause-wanted g c = subst (λ (n : ℕ). IsWantedOf g.S.Service.meaning (g.P.GroupLife.opening n) c.args.place c.args.bytes) (sym c.number.ensures) c.requires.replica.1
