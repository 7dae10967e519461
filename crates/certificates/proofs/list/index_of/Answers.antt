use Rattle.std.proofs.Common.{◌≤◌, ◌<◌, ℕ, length, arith, ap}
use Rattle.std.specs.Prelude.{Option, Some, None, IfSome}
use Rattle.smart_base.proofs.ViewFacts.{view_parts}
use Rattle.certificates.proofs.list.index_of.Goals as goal

few : (n : ℕ) (o : Option ℕ) → n ≤ 31 → IfSome o (λ i. i < n) → IfSome o (λ i. i < 31)
few n None all within = tt
few n (Some i) all within = omega (arith, all, within)

pub returns-clause-few : goal.returns-clause-few
returns-clause-few c =
    let members = (view_parts c.args.view.now c.members.ensures.view).few in
    let all : length c.iter.result.rest.now ≤ 31 = omega (arith, members, ap length c.iter.ensures.rest, ap length c.members.ensures.value) in
    few (length c.iter.result.rest.now) c.position.result all c.position.ensures.bound
