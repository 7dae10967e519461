use Rattle.node_state.proofs.Broken.{on_err}
use Rattle.node_core.proofs.Broken.{rules_pass, front_stops, answers_stops}
use Rattle.node_core.proofs.Snapshots.{taken_same, taken_to}
use Rattle.node_core.proofs.step.pass_all.Goals as goal

pub returns-clause-pass : goal.returns-clause-pass
returns-clause-pass g c =
    rules_pass g.S.Service.meaning c.args.node.now c.pass_apart.new.node c.answer_due.new.node c.args.cause.now c.args.fired.now c.pass_apart.new.fired c.answer_due.new.fired
    c.in_ok-pass_apart.ensures.pass c.in_ok-answer_due.ensures.row

pub returns-in_err-pass_apart-clause-err : goal.returns-in_err-pass_apart-clause-err
returns-in_err-pass_apart-clause-err g c =
    on_err _ (front_stops g.S.Service.meaning c.args.node.now c.pass_apart.new.node c.args.cause.now c.args.fired.now c.in_err-pass_apart.ensures.err)

pub returns-in_err-answer_due-clause-err : goal.returns-in_err-answer_due-clause-err
returns-in_err-answer_due-clause-err g c =
    on_err _ (answers_stops g.S.Service.meaning c.args.node.now c.pass_apart.new.node c.answer_due.new.node c.args.cause.now c.args.fired.now c.pass_apart.new.fired c.in_ok-pass_apart.ensures.pass
    c.in_err-answer_due.ensures.err)

pub returns-in_err-pass_apart-clause-snapshots : goal.returns-in_err-pass_apart-clause-snapshots
returns-in_err-pass_apart-clause-snapshots g c = on_err _ (taken_same c.args.node.now c.pass_apart.new.node c.in_err-pass_apart.ensures.snapshots)

pub returns-in_err-answer_due-clause-snapshots : goal.returns-in_err-answer_due-clause-snapshots
returns-in_err-answer_due-clause-snapshots g c =
    on_err _ (taken_to c.args.node.now c.pass_apart.new.node c.answer_due.new.node c.in_ok-pass_apart.ensures.kept c.in_err-answer_due.ensures.snapshots)
