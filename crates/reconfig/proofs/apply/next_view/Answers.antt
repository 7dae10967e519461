use Rattle.std.proofs.Common.{arith}
use Rattle.smart_base.proofs.ViewFacts.{view_parts}
use Rattle.reconfig.proofs.apply.next_view.Goals as goal

pub overflow_add-number : goal.overflow_add-number
overflow_add-number c =
    let small = (view_parts c.args.view.now c.members-members.ensures.view).number in
    omega (arith, small, c.number.ensures, c.get-number.ensures)
