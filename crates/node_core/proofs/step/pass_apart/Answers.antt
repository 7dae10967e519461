use Rattle.std.proofs.Common.{ap}
use Rattle.node_rules.specs.Nodes.{Node}
use Rattle.node_state.proofs.Broken.{on_err}
use Rattle.node_core.proofs.Snapshots.{pass_joined, taken_joined, part_same, part_all}
use Rattle.node_core.proofs.step.pass_apart.Goals as goal

pub returns-in_ok-put_in_front-in-Ok-clause-pass : goal.returns-in_ok-put_in_front-in-Ok-clause-pass
returns-in_ok-put_in_front-in-Ok-clause-pass g c =
    pass_joined g.S.Service.meaning c.args.node.now c.set_aside-before.new.node c.pass.new.node c.put_in_front.new.node c.args.cause.now c.args.fired.now c.pass.new.fired c.set_aside-before.result
    c.set_aside-before.ensures.node c.in-Ok.ensures.pass c.set_aside-before.ensures.snapshots c.in_ok-put_in_front-in-Ok.ensures.node

pub returns-in_ok-put_in_front-in-Ok-clause-kept : goal.returns-in_ok-put_in_front-in-Ok-clause-kept
returns-in_ok-put_in_front-in-Ok-clause-kept g c =
    taken_joined c.args.node.now c.pass.new.node c.put_in_front.new.node c.set_aside-before.result c.set_aside-before.ensures.snapshots c.in_ok-put_in_front-in-Ok.ensures.node

pub returns-in_err-put_in_front-in-Ok-clause-err : goal.returns-in_err-put_in_front-in-Ok-clause-err
returns-in_err-put_in_front-in-Ok-clause-err g c =
    on_err _ (part_all g.S.Service.meaning c.args.node.now c.set_aside-before.new.node c.pass.new.node c.put_in_front.new.node c.args.cause.now c.args.fired.now c.pass.new.fired c.set_aside-before.result
    c.set_aside-before.ensures.node c.in-Ok.ensures.pass c.in_err-put_in_front-in-Ok.ensures.err)

pub returns-in-Err-clause-err : goal.returns-in-Err-clause-err
returns-in-Err-clause-err g c =
    part_same g.S.Service.meaning c.args.node.now c.set_aside-before.new.node c.pass.new.node c.args.cause.now c.args.fired.now c.node.inside.book.entries c.set_aside-before.ensures.node
    (ap (λ (n : Node g.row.S.Denot). n.entries) c.node.view_is) c.in-Err.ensures.err
