use Rattle.std.proofs.Common.{ap, arith, drop, length, length-append}
use Rattle.std.specs.Prelude.{filter}
use Rattle.smart_statements.specs.Reports.{marks}
use Rattle.replica_rules.specs.Seals.{is_verified}
use Rattle.state_transfer.proofs.Lists.{filter_few}
use Rattle.state_transfer.proofs.plan.verified_marks.Goals as goal

pub from_list-requires : goal.from_list-requires
from_list-requires c =
    let p = is_verified marks c.args.ring.now in
    let all = length-append c.loop-mark.found (filter p (drop c.loop-mark.mark-index c.args.stated.now)) in
    let same = ap length c.loop-mark.invariant in
    let few = filter_few p c.args.stated.now in
    let bound = c.requires in
    omega (arith, all, same, few, bound)
