use Rattle.std.proofs.Common.{◌≡◌, length, arith, ap}
use Rattle.smart_base.proofs.ViewFacts.{view_parts}
use Rattle.smart_view.proofs.size.collect_size.Goals as goal

pub overflow_sub-result : goal.overflow_sub-result
overflow_sub-result c =
    let parts = view_parts c.args.view.now c.members.ensures.view in
    let same : length c.members.result.now ≡ length c.args.view.now.members = ap length c.members.ensures.value in
    let f : c.f.result ≡ c.args.view.now.f = c.f.ensures in
    omega (arith, parts.enough, same, f)
