use Rattle.std.proofs.Common.{◌≡◌, Vec, Global, sym, subst, rules}
use Rattle.std.specs.Fork.{ChangesEach}
use Rattle.group_threads.proofs.group.run_beside.Goals as goal

pub returns-clause-each : goal.returns-clause-each
returns-clause-each g c =
    let is : c.runners-1.given.0 ≡ c.join_mut-end.new.f.2.now = search rules in
    subst (λ (v : Vec g.row.T.Denot Global). ChangesEach g.F.Fn c.args.run.now c.args.runners.now.items v.items) (sym is) c.join_mut-end.ensures.0.met.1.0
